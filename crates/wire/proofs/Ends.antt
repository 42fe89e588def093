-- The ends of a list: what leads, and what is left once the last is trimmed. Assumes nothing.
use Prim.Native.Nat.{ℕ, suc, ◌-◌, ◌≤◌, ◌<◌}
use native.Mathlib.Omega.{arith}
use mathlib.Core.List.{List, [], ◌∷◌, ◌++◌}
use mathlib.Core.Path.{◌≡◌, refl, sym, ap, ◌∙◌}
use mathlib.Core.Bool.{Bool, true, false, cond}
use lib.ListN.{length, get_or, take, drop, length-take}
use lib.Seq.{take-suc, take-length}
use Rattle.wire.specs.Text.{trim_end, trim_front, leading, unless}

-- the front is trimmed by passing what leads
module _ (p : ℕ → Bool) where
  pub leading_within : (s : List ℕ) → leading p s ≤ length s
  unfolding leading
  leading_within [] = omega arith
  leading_within (x ∷ s) = go (p x) (leading_within s)
    where
      go : (b : Bool) → leading p s ≤ length s → cond b (suc (leading p s)) 0 ≤ suc (length s)
      go true h = omega arith
      go false h = omega arith

  pub drop_leading : (s : List ℕ) → drop (leading p s) s ≡ trim_front p s
  unfolding leading trim_front
  drop_leading [] = refl
  drop_leading (x ∷ s) = go (p x) (drop_leading s)
    where
      go : (b : Bool) → drop (leading p s) s ≡ trim_front p s → drop (cond b (suc (leading p s)) 0) (x ∷ s) ≡ cond b (trim_front p s) (x ∷ s)
      go true h = h
      go false h = refl

  -- an element more at the end
  trim_more : (s : List ℕ) (x : ℕ) → p x ≡ true → trim_end p (s ++ (x ∷ [])) ≡ trim_end p s
  unfolding trim_end
  trim_more [] x e = ap (λ b. cond b [] (x ∷ [])) e
  trim_more (y ∷ s) x e = ap (unless p y) (trim_more s x e)

  trim_stop : (s : List ℕ) (x : ℕ) → p x ≡ false → trim_end p (s ++ (x ∷ [])) ≡ s ++ (x ∷ [])
  unfolding trim_end
  trim_stop [] x e = ap (λ b. cond b [] (x ∷ [])) e
  trim_stop (y ∷ s) x e = ap (unless p y) (trim_stop s x e) ∙ full s
    where
      full : (s : List ℕ) → unless p y (s ++ (x ∷ [])) ≡ y ∷ s ++ (x ∷ [])
      full [] = refl
      full (z ∷ s) = refl

  -- what is left is the front of the whole
  pub trim_front_lem : (s : List ℕ) → take (length (trim_end p s)) s ≡ trim_end p s
  unfolding trim_end
  trim_front_lem [] = refl
  trim_front_lem (x ∷ s) = go (trim_end p s) (trim_front_lem s)
    where
      last : (b : Bool) → take (length (cond b [] (x ∷ []))) (x ∷ s) ≡ cond b [] (x ∷ [])
      last true = refl
      last false = refl

      go : (t : List ℕ) → take (length t) s ≡ t → take (length (unless p x t)) (x ∷ s) ≡ unless p x t
      go [] h = last (p x)
      go (y ∷ t) h = ap (λ l. x ∷ l) h

  pub trim_within : (s : List ℕ) → length (trim_end p s) ≤ length s
  trim_within s = omega (arith, ap length (trim_front_lem s), length-take (length (trim_end p s)) s)

at_last : (s : List ℕ) (n : ℕ) → 0 < n → n ≤ length s → take n s ≡ take (n - 1) s ++ (get_or s (n - 1) 0 ∷ [])
at_last s n z h =
    let e : n ≡ suc (n - 1) = omega arith in
    ap (λ k. take k s) e ∙ take-suc s (n - 1) 0 (omega arith)

whole : (s : List ℕ) → 0 < length s → take (length s - 1) s ++ (get_or s (length s - 1) 0 ∷ []) ≡ s
whole s z = sym (at_last s (length s) z (omega arith)) ∙ take-length s

module _ (p : ℕ → Bool) (s : List ℕ) (filled : 0 < length s) where
  -- a last element that passes the test is trimmed
  pub trim_last : p (get_or s (length s - 1) 0) ≡ true → trim_end p (take (length s - 1) s) ≡ trim_end p s
  trim_last e = sym (trim_more p (take (length s - 1) s) _ e) ∙ ap (trim_end p) (whole s filled)

  -- and one that does not ends what is left
  pub trim_done : p (get_or s (length s - 1) 0) ≡ false → trim_end p s ≡ s
  trim_done e = ap (trim_end p) (sym (whole s filled)) ∙ trim_stop p (take (length s - 1) s) _ e ∙ whole s filled
