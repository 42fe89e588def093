-- Laws of the token: of a piece, and of the pieces one after the other. Assumes nothing.
use Prim.Native.Nat.{ℕ, zero, suc, ◌+◌, ◌-◌, ◌≤◌, ◌<◌, suc-le-suc}
use native.Mathlib.Numerals.{unary_clauses}
use native.Mathlib.Omega.{arith}
use mathlib.Core.List.{List, [], ◌∷◌}
use mathlib.Core.Path.{◌≡◌, refl, sym, ap, ◌∙◌}
use mathlib.Core.Bool.{Bool, true, false, cond}
use lib.ListN.{length, get_or, take, drop, length-take, length-drop}
use lib.Seq.{take-nil, length-take-le, drop-drop}
use Rattle.std.specs.Prelude.{Option, Some, None}
use Rattle.std.specs.Str.{IsTrimAsciiStart, IsTrimAsciiEnd}
use Rattle.std.specs.List.{prefix_len}
use Rattle.std.proofs.lemmas.Str.Ascii.{trim_ascii_start_is}
use Rattle.wire.specs.Refusal.{kind}
use Rattle.wire.specs.Text.{leading, trim_front, trim_end, unless}
use Rattle.wire.specs.Result.{Result, accepted, refused}
use Rattle.wire.proofs.Walks.{Walk, part_rest}
use Rattle.wire.proofs.Ends.{leading_within, drop_leading}
use Rattle.head.specs.Header.{cut, first, first_token, is_token, token_in, trimmed, blank}
use Rattle.head.proofs.Cut.{Piece, piece}

-- std's trimming of ASCII white space, in the words of `trimmed`
leading_is : (s : List ℕ) → leading blank s ≡ prefix_len blank s
unfolding leading
leading_is [] = refl
leading_is (x ∷ s) = let e : suc (leading blank s) ≡ 1 + prefix_len blank s = omega (arith, leading_is s) in ap (λ n. cond (blank x) n 0) e

-- what is left where all from n on is trimmed, and what stands before n is not
trim_end_at : (p : ℕ → Bool) (s : List ℕ) (n : ℕ) → n ≤ length s → ((k : ℕ) → n ≤ k → k < length s → p (get_or s k 0) ≡ true)
    → (0 < n → p (get_or s (n - 1) 0) ≡ false) → take n s ≡ trim_end p s
unfolding trim_end
trim_end_at p [] n h after here = take-nil n
trim_end_at p (x ∷ s) zero h after here =
    sym (rw (sym (trim_end_at p s zero (omega arith) (λ k g l. after (suc k) (omega arith) (suc-le-suc l)) (λ l. absurd (omega arith)))) (rw (after 0 (omega arith) (omega arith)) refl))
trim_end_at p (x ∷ s) (suc n) h after here = go n s (omega arith) (simp unary_clauses at here) (trim_end_at p s n (omega arith) (λ k g l. after (suc k) (omega arith) (suc-le-suc l)))
  where
    go : (n : ℕ) (s : List ℕ) → n ≤ length s → (0 < suc n → p (get_or (x ∷ s) n 0) ≡ false) → ((0 < n → p (get_or s (n - 1) 0) ≡ false) → take n s ≡ trim_end p s)
        → x ∷ take n s ≡ unless p x (trim_end p s)
    go zero s h e r = rw (sym (r (λ l. absurd (omega arith)))) (rw (e (omega arith)) refl)
    go (suc n) [] h e r = absurd (omega arith)
    go (suc n) (y ∷ s) h e r = rw (sym (r (λ l. simp unary_clauses (e (omega arith))))) refl

-- the code's parts of a piece p: without the blanks in front, and without those at the end too
module _ (p inner word : List ℕ) (front : IsTrimAsciiStart p inner) (back : IsTrimAsciiEnd inner word) where
  inner_is : inner ≡ trim_front blank p
  inner_is = trim_ascii_start_is p inner front ∙ ap (λ n. drop n p) (sym (leading_is p)) ∙ drop_leading blank p

  word_is : word ≡ trimmed p
  word_is = back.1 ∙ trim_end_at blank inner back.0 back.3 back.4 back.5 ∙ ap (trim_end blank) inner_is

  place_is : length p - length inner ≡ leading blank p
  place_is = omega (arith, ap length inner_is, ap length (drop_leading blank p), length-drop (leading blank p) p, leading_within blank p)

  pub token_found_in : is_token word ≡ true → Some (length p - length inner) ≡ token_in p
  unfolding token_in
  token_found_in e = ap Some place_is ∙ simp (ap is_token (sym word_is) ∙ e)

  pub none_found_in : is_token word ≡ false → None ≡ token_in p
  unfolding token_in
  none_found_in e = simp (ap is_token (sym word_is) ∙ e)

-- what a piece's answer says
is_at : (p : List ℕ) (k : ℕ) → Some k ≡ token_in p → (is_token (trimmed p) ≡ true) × (k ≡ leading blank p)
unfolding token_in
is_at p k e = go (is_token (trimmed p)) refl e
  where
    go : (b : Bool) → is_token (trimmed p) ≡ b → Some k ≡ cond b (Some (leading blank p)) None → (is_token (trimmed p) ≡ true) × (k ≡ leading blank p)
    go true h q = (h, cc)
    go false h q = let z : ◌≡◌ {A = ℕ} 0 1 = cc in absurd (omega arith)

is_nothing : (p : List ℕ) → None ≡ token_in p → is_token (trimmed p) ≡ false
unfolding token_in
is_nothing p e = go (is_token (trimmed p)) refl e
  where
    go : (b : Bool) → is_token (trimmed p) ≡ b → None ≡ cond b (Some (leading blank p)) None → is_token (trimmed p) ≡ false
    go true h q = let z : ◌≡◌ {A = ℕ} 0 1 = cc in absurd (omega arith)
    go false h q = h

pub token_here : (at : ℕ) (p : List ℕ) (ps : List (List ℕ)) → is_token (trimmed p) ≡ true → first_token at (p ∷ ps) ≡ accepted (at + leading blank p)
unfolding first_token
token_here at p ps e = simp e

pub token_past : (at : ℕ) (p : List ℕ) (ps : List (List ℕ)) → is_token (trimmed p) ≡ false → first_token at (p ∷ ps) ≡ first_token (at + length p + 3) ps
unfolding first_token
token_past at p ps e = simp e

-- the walk from piece to piece
abbrev pub tokens : ℕ → List ℕ → Result ℕ
tokens at t = first_token at (cut t)

module _ {text : List ℕ} {at : ℕ} (w : Walk tokens text at) (n : ℕ) (long : n ≡ length (first (cut (take (length text - at) (drop at text))))) where
  here : Piece (drop at text) n
  here = piece (drop at text) n (long ∙ ap (λ t. length (first (cut t))) (part_rest text at))

  left : length (take (length text - at) (drop at text)) ≡ length text - at
  left = ap length (part_rest text at) ∙ length-drop at text

  pub piece_long : n ≡ length (take n (take (length text - at) (drop at text)))
  piece_long = sym (length-take-le n _ (omega (arith, left, here.within, length-drop at text)))

  same_piece : {x : Option ℕ} → x ≡ token_in (take n (take (length text - at) (drop at text))) → x ≡ token_in (take n (drop at text))
  same_piece e = e ∙ ap (λ t. token_in (take n t)) (part_rest text at)

  pub token_room : (n ≡ length (take (length text - at) (drop at text)) → ⊥) → at + (n + 3) ≤ length text
  token_room h = omega (arith, w.within, length-drop at text, here.room (λ e. h (e ∙ sym (ap length (part_rest text at)))))

  pub token_fits : (k : ℕ) → Some k ≡ token_in (take n (take (length text - at) (drop at text))) → at + k ≤ length text
  token_fits k e =
      omega (
        arith,
        w.within,
        length-drop at text,
        here.within,
        (is_at _ k (same_piece e)).1,
        leading_within blank (take n (drop at text)),
        length-take n (drop at text),
      )

  pub token_last : n ≡ length (take (length text - at) (drop at text)) → None ≡ token_in (take n (take (length text - at) (drop at text)))
      → refused (kind 1 []) ≡ first_token 0 (cut text)
  unfolding first_token
  token_last h e =
      sym (ap (first_token at) (here.final (h ∙ ap length (part_rest text at))) ∙ token_past at _ [] (is_nothing _ (same_piece e))) ∙ w.left

  pub token_next : (n ≡ length (take (length text - at) (drop at text)) → ⊥) → None ≡ token_in (take n (take (length text - at) (drop at text)))
      → Walk tokens text (at + (n + 3))
  token_next h e =
      let q : at + length (take n (drop at text)) + 3 ≡ at + (n + 3) = omega (arith, length-take-le n (drop at text) here.within) in
      record {
        within = token_room h;
        left =
            sym
            (ap (first_token at) (here.further (λ z. h (z ∙ sym (ap length (part_rest text at))))) ∙ token_past at _ _ (is_nothing _ (same_piece e))
            ∙ ap (λ k. first_token k (cut (drop (n + 3) (drop at text)))) q ∙ ap (λ t. first_token (at + (n + 3)) (cut t)) (drop-drop (n + 3) at text))
            ∙ w.left;
      }

  pub token_found : (k : ℕ) → Some k ≡ token_in (take n (take (length text - at) (drop at text))) → accepted (at + k) ≡ first_token 0 (cut text)
  token_found k e =
      let f = is_at _ k (same_piece e) in
      sym (ap (first_token at) here.begins.1 ∙ token_here at _ here.begins.0 f.0 ∙ ap (λ i. accepted (at + i)) (sym f.1)) ∙ w.left
