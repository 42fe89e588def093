-- Laws of the pieces of a text. Assumes nothing.
use Prim.Native.Nat.{ℕ, zero, suc, ◌+◌, ◌-◌, ◌≤◌, ◌<◌, suc-le-suc}
use native.Mathlib.Omega.{arith}
use mathlib.Core.List.{List, [], ◌∷◌}
use mathlib.Core.Path.{◌≡◌, refl, sym, ap, ◌∙◌}
use mathlib.Core.Bool.{Bool, true, false, and-false, false≢true}
use lib.Dec.{eqb}
use lib.ListN.{length, take, drop}
use lib.Seq.{take-length, length-take-le}
use Rattle.std.specs.Option.{MatchOption, unwrap_or}
use Rattle.std.specs.Prelude.{Option, Some, None}
use Rattle.wire.specs.Text.{same}
use Rattle.wire.proofs.Walks.{part_rest}
use Rattle.head.specs.Header.{separator, cut, longer, first}

-- a separator stands in front
abbrev pub at_separator : List ℕ → Bool
at_separator t = same separator (take 3 t)

-- the cases of `cut`: a separator in front, another byte in front, nothing left
cut_at : (t : List ℕ) → at_separator t ≡ true → (3 ≤ length t) × (cut t ≡ [] ∷ cut (drop 3 t))
unfolding cut
cut_at [] e = absurd (false≢true e)
cut_at (a ∷ []) e = absurd (false≢true (sym (and-false (eqb 13 a)) ∙ e))
cut_at (a ∷ b ∷ []) e = absurd (false≢true (simp (and-false) at e))
cut_at (a ∷ b ∷ c ∷ t) e = (omega arith, simp e)

cut_past : (a : ℕ) (t : List ℕ) → at_separator (a ∷ t) ≡ false → cut (a ∷ t) ≡ longer a (cut t)
unfolding cut
cut_past a [] e = refl
cut_past a (b ∷ []) e = refl
cut_past a (b ∷ c ∷ t) e = simp e

-- a text is its last piece, or a piece, a separator and the pieces of what follows
pub data Pieces (t : List ℕ) : Type 0 where
  last : cut t ≡ t ∷ [] → Pieces t
  more : (n : ℕ) → n + 3 ≤ length t → cut t ≡ take n t ∷ cut (drop (n + 3) t) → Pieces t

cut_nothing : cut [] ≡ [] ∷ []
unfolding cut
cut_nothing = refl

pub pieces : (t : List ℕ) → Pieces t
pieces [] = last cut_nothing
pieces (a ∷ t) = go (at_separator (a ∷ t)) refl (pieces t)
  where
    go : (x : Bool) → at_separator (a ∷ t) ≡ x → Pieces t → Pieces (a ∷ t)
    go true e r = let s = cut_at (a ∷ t) e in more 0 s.0 s.1
    go false e (last h) = last (cut_past a t e ∙ ap (longer a) h)
    go false e (more n k h) =
        let q : suc (n + 3) ≡ suc n + 3 = omega arith in
        more (suc n) (omega arith) (cut_past a t e ∙ ap (longer a) h ∙ ap (λ m. (a ∷ take n t) ∷ cut (drop m (a ∷ t))) q)

-- the length of the first piece: how many places stand before the first separator
first_longer : (a : ℕ) (ps : List (List ℕ)) → length (first (longer a ps)) ≡ suc (length (first ps))
first_longer a [] = refl
first_longer a (p ∷ ps) = refl

first_length : (s : List ℕ) (n : ℕ) → n ≤ length s → ((k : ℕ) → k < n → at_separator (drop k s) ≡ false)
    → (n < length s → at_separator (drop n s) ≡ true) → n ≡ length (first (cut s))
first_length [] zero h before here = sym (ap (λ ps. length (first ps)) cut_nothing)
first_length (a ∷ s) zero h before here = sym (ap (λ ps. length (first ps)) (cut_at (a ∷ s) (here (omega arith))).1)
first_length [] (suc n) h before here = absurd (omega arith)
first_length (a ∷ s) (suc n) h before here =
    ap suc (first_length s n (omega arith) (λ k l. before (suc k) (suc-le-suc l)) (λ l. here (suc-le-suc l)))
    ∙ sym (ap (λ ps. length (first ps)) (cut_past a s (before 0 (omega arith))) ∙ first_longer a (cut s))

-- the first place at which a separator stands, or the end
abbrev pub separated : List ℕ → ℕ → Bool
separated s k = at_separator (take (length s - k) (drop k s))

pub first_separator : (s : List ℕ) (r : Option ℕ)
    → MatchOption r ((k : ℕ) → 0 ≤ k → k < length s → separated s k ≡ false)
    (λ i. (0 ≤ i) × (i < length s) × (separated s i ≡ true) × ((k : ℕ) → 0 ≤ k → k < i → separated s k ≡ false))
    → unwrap_or r (length s) ≡ length (first (cut s))
first_separator s None h = first_length s (length s) (omega arith) (λ k l. simp part_rest at (h k (omega arith) l)) (λ l. absurd (omega arith))
first_separator s (Some i) h =
    first_length s i (omega (arith, h.1)) (λ k l. simp part_rest at (h.3 k (omega arith) l)) (λ _. simp part_rest at h.2)

-- n is the length of the first piece: what the pieces are
pub record Piece (t : List ℕ) (n : ℕ) : Type 0 where
  pub within : n ≤ length t
  pub begins : (ps : List (List ℕ)) × (cut t ≡ take n t ∷ ps)
  pub final : n ≡ length t → cut t ≡ take n t ∷ []
  pub room : (n ≡ length t → ⊥) → n + 3 ≤ length t
  pub further : (n ≡ length t → ⊥) → cut t ≡ take n t ∷ cut (drop (n + 3) t)

pub piece : (t : List ℕ) (n : ℕ) → n ≡ length (first (cut t)) → Piece t n
piece t n e = go (pieces t)
  where
    go : Pieces t → Piece t n
    go (last h) =
        let q : n ≡ length t = e ∙ ap (λ ps. length (first ps)) h in
        let f : cut t ≡ take n t ∷ [] = h ∙ ap (λ l. l ∷ []) (sym (ap (λ k. take k t) q ∙ take-length t)) in
        record {
          within = omega arith;
          begins = ([], f);
          final = λ _. f;
          room = λ k. absurd (k q);
          further = λ k. absurd (k q);
        }
    go (more m k h) =
        let q : n ≡ m = e ∙ ap (λ ps. length (first ps)) h ∙ length-take-le m t (omega arith) in
        let f : cut t ≡ take n t ∷ cut (drop (n + 3) t) = h ∙ ap (λ k. take k t ∷ cut (drop (k + 3) t)) (sym q) in
        record {
          within = omega arith;
          begins = (_, f);
          final = λ z. absurd (omega arith);
          room = λ _. omega arith;
          further = λ _. f;
        }
