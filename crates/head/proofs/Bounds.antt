-- What callers may rely on: where an accepted token and an accepted message header stand. Assumes nothing.
use Prim.Native.Nat.{ℕ, zero, suc, ◌+◌, ◌-◌, ◌≤◌, ◌<◌, min}
use native.Mathlib.Omega.{arith}
use mathlib.Core.List.{List, [], ◌∷◌}
use mathlib.Core.Path.{◌≡◌, refl, sym, ap, ◌∙◌}
use mathlib.Core.Bool.{Bool, true, false, cond}
use lib.Dec.{eqb}
use lib.ListN.{length, take, drop, length-take, length-drop}
use lib.Seq.{take-take, drop-drop, take-length}
use borrow.Author.Tests.{eqb-true}
use Rattle.wire.specs.Result.{accepted}
use Rattle.wire.specs.Text.{all, leading, trim_front}
use Rattle.wire.proofs.Codes.{both}
use Rattle.wire.proofs.Readings.{drop_take}
use Rattle.wire.proofs.Ends.{drop_leading, leading_within, trim_front_lem, trim_within}
use Rattle.head.specs.Header.{blank, alphanumeric, cut, first_token, is_token, trimmed, token, first_of, header_at, message_header}
use Rattle.head.proofs.Cut.{Pieces, last, more, pieces}
use Rattle.head.proofs.Token.{token_here, token_past}

-- a part of a front is a part of the whole
part_in : (j m n : ℕ) (t : List ℕ) → j + m ≤ n → take m (drop j (take n t)) ≡ take m (drop j t)
part_in j m n t h =
    let e : j + (n - j) ≡ n = omega arith in
    ap (λ i. take m (drop j (take i t))) (sym e) ∙ ap (take m) (drop_take j (n - j) t) ∙ take-take m (n - j) (drop j t) (omega arith)

-- the token of a piece
module _ (p : List ℕ) (e : is_token (trimmed p) ≡ true) where
  six : length (trimmed p) ≡ 6
  six = eqb-true (length (trimmed p)) 6 (both _ (all alphanumeric (trimmed p)) e).0

  six_inside : leading blank p + 6 ≤ length p
  six_inside =
      omega
      (arith, six, trim_within blank (trim_front blank p), ap length (drop_leading blank p), length-drop (leading blank p) p, leading_within blank p)

  six_are : all alphanumeric (take 6 (drop (leading blank p) p)) ≡ true
  six_are =
      ap (all alphanumeric)
      (ap (take 6) (drop_leading blank p) ∙ sym (ap (λ n. take n (trim_front blank p)) six) ∙ trim_front_lem blank (trim_front blank p))
      ∙ (both (eqb (length (trimmed p)) 6) _ e).1

-- k is the place of six alphanumerics in a text that stands at `at`
record Token (k at : ℕ) (t : List ℕ) : Type 0 where
  from : at ≤ k
  to : k + 6 ≤ at + length t
  word : all alphanumeric (take 6 (drop (k - at) t)) ≡ true

module _ (k : ℕ) where
  found : (at n : ℕ) (t : List ℕ) → n ≤ length t → is_token (trimmed (take n t)) ≡ true → at + leading blank (take n t) ≡ k → Token k at t
  found at n t h e q =
      let l = length-take n t in
      let s = six_inside (take n t) e in
      let j : k - at ≡ leading blank (take n t) = omega arith in
      record {
        from = omega arith;
        to = omega arith;
        word =
            ap (λ i. all alphanumeric (take 6 (drop i t))) j
            ∙ ap (all alphanumeric) (sym (part_in (leading blank (take n t)) 6 n t (omega arith)))
            ∙ six_are (take n t) e;
      }

  first_piece : (at n : ℕ) (t : List ℕ) (ps : List (List ℕ)) → n ≤ length t → (first_token (at + length (take n t) + 3) ps ≡ accepted k → Token k at t)
      → first_token at (take n t ∷ ps) ≡ accepted k → Token k at t
  first_piece at n t ps h f e = go (is_token (trimmed (take n t))) refl
    where
      go : (b : Bool) → is_token (trimmed (take n t)) ≡ b → Token k at t
      go true i =
          let r : accepted (at + leading blank (take n t)) ≡ accepted k = sym (token_here at (take n t) ps i) ∙ e in
          found at n t h i (cc)
      go false i = f (sym (token_past at (take n t) ps i) ∙ e)

  no_more : {X : Type 0} (at : ℕ) → first_token at [] ≡ accepted k → X
  unfolding first_token
  no_more at e = let z : ◌≡◌ {A = ℕ} 0 1 = cc in absurd (omega arith)

  later : (at a n : ℕ) (t : List ℕ) → a ≡ at + n → n ≤ length t → Token k a (drop n t) → Token k at t
  later at a n t q h r =
      let d = length-drop n t in
      let j : n + (k - a) ≡ k - at = omega (arith, r.from) in
      record {
        from = omega (arith, r.from);
        to = omega (arith, r.to);
        word = ap (λ l. all alphanumeric (take 6 l)) (ap (λ i. drop i t) (sym j) ∙ sym (drop-drop (k - a) n t)) ∙ r.word;
      }

  turn : (m : ℕ) (t : List ℕ) (at : ℕ) → length t < suc m
      → ((s : List ℕ) (a : ℕ) → length s < m → first_token a (cut s) ≡ accepted k → Token k a s)
      → Pieces t → first_token at (cut t) ≡ accepted k → Token k at t
  turn m t at h f (last c) e =
      first_piece at (length t) t [] (omega arith) (no_more _) (ap (λ p. first_token at (p ∷ [])) (take-length t) ∙ sym (ap (first_token at) c) ∙ e)
  turn m t at h f (more n r c) e =
      let d = length-drop (n + 3) t in
      let l = length-take n t in
      first_piece at n t (cut (drop (n + 3) t)) (omega arith)
      (λ q. later at _ (n + 3) t (omega arith) r (f (drop (n + 3) t) (at + length (take n t) + 3) (omega arith) q)) (sym (ap (first_token at) c) ∙ e)

  inside : (m : ℕ) (t : List ℕ) (at : ℕ) → length t < m → first_token at (cut t) ≡ accepted k → Token k at t
  inside zero t at h e = absurd (omega arith)
  inside (suc m) t at h e = turn m t at h (inside m) (pieces t) e

-- the token is six alphanumerics among the first 128 bytes
pub token_inside : (file : List ℕ) (k : ℕ) → token file ≡ accepted k → (k + 6 ≤ 128) × (k + 6 ≤ length file) × (all alphanumeric (take 6 (drop k file)) ≡ true)
unfolding token
token_inside file k e =
    let r = inside k (suc (length (take 128 file))) (take 128 file) 0 (omega arith) e in
    let l = length-take 128 file in
    let z : k - 0 ≡ k = omega arith in (
      omega (arith, r.to),
      omega (arith, r.to),
      ap (all alphanumeric) (sym (part_in k 6 128 file (omega (arith, r.to))) ∙ ap (λ i. take 6 (drop i (take 128 file))) (sym z)) ∙ r.word,
    )

-- what a search finds is in reach and passes the test
first_of_lem : (p : ℕ → Bool) (i n k : ℕ) → first_of p i n ≡ accepted k → (k < i + n) × (p k ≡ true)
unfolding first_of
first_of_lem p i zero k e = let z : ◌≡◌ {A = ℕ} 0 1 = cc in absurd (omega arith)
first_of_lem p i (suc n) k e = go (p i) refl e (first_of_lem p (i + 1) n k)
  where
    go : (b : Bool) → p i ≡ b → cond b (accepted i) (first_of p (i + 1) n) ≡ accepted k
        → (first_of p (i + 1) n ≡ accepted k → (k < i + 1 + n) × (p k ≡ true)) → (k < i + suc n) × (p k ≡ true)
    go true t q f = let r : i ≡ k = cc in (omega arith, ap p (sym r) ∙ t)
    go false t q f = let r = f q in (omega (arith, r.0), r.1)

-- the header begins below 108, more than twenty bytes before the file's end
pub header_inside : (file : List ℕ) (k : ℕ) → message_header file ≡ accepted k → (k < 108) × (k + 20 < length file) × (header_at file k ≡ true)
unfolding message_header
header_inside file k e =
    let r = first_of_lem (header_at file) 0 (min (length file) 128 - 20) k e in
    (omega (arith, r.0), omega (arith, r.0), r.1)
