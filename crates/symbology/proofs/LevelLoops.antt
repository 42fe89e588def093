-- The loops over the integers of packet 28: the test of all, the search for the first that is not a level, the writing. Assumes nothing.
use Rattle.std.proofs.Common.{◌≡◌, ℕ, ◌+◌, ◌*◌, ◌/◌, ◌≤◌, Bool, true, false, not, nat_lt, ltb, cond, List, [], ◌∷◌, map, length, get_or, take, drop, ℤ, Option, Some, None, sym, ap, ◌∙◌, zero-add, arith, length-drop, length-take-le, get_or-drop, get_or-take, le-leb, ltb-false, ltb-true, refl}
use lib.ListN.{length-map, get_or-map, get_or-eq_default}
use borrow.Author.Tests.{lt-leb, not-true}
use Rattle.std.specs.Int.{w32, from_be_bytes}
use Rattle.std.specs.List.{position, position_or_len}
use Rattle.std.specs.Simd.{first_chunks}
use Rattle.std.proofs.lemmas.List.Quantifiers.{position-Some}
use Rattle.std.proofs.lemmas.List.Sums.{prefix_len_passes}
use Rattle.wire.specs.Bytes.{signed}
use Rattle.wire.specs.Refusal.{kind, nat, whole}
use Rattle.wire.specs.Result.{Result, accepted, refused, then}
use Rattle.wire.specs.Text.{all}
use Rattle.wire.proofs.Every.{all_of, first_not}
use Rattle.symbology.specs.Rows.{words, is_level, levels}
use Rattle.symbology.proofs.RowWords.{words_length, words_are}
use Rattle.symbology.proofs.FirstBad.{each_level, levels_are}
use Rattle.symbology.proofs.LowFirst.{swap, all_back}

-- ---- the answer of `check_levels`

abbrev over : List ℕ → Bool
over int = nat_lt 65535 (from_be_bytes w32 int)

abbrev pub answer : ℕ → List ℕ → Result (Unit {0})
answer radial s = then (levels radial 0 (words s)) (λ _. accepted tt)

pub levels_pass : (radial : ℕ) (s : List ℕ) → all is_level (words s) ≡ true → accepted tt ≡ answer radial s
levels_pass radial s h = simp (levels_are, h)

module _ (s : List ℕ) {ints : List (List ℕ)} (front : ints ≡ first_chunks 4 (length s / 4) s) where
  ints_are : map (from_be_bytes w32) ints ≡ words s
  ints_are = ap (map (from_be_bytes w32)) front ∙ words_are s

  many : length (words s) ≡ length ints
  many = ap length (sym ints_are) ∙ length-map ints (from_be_bytes w32)

  here : (k : ℕ) → get_or (words s) k 0 ≡ from_be_bytes w32 (get_or ints k [])
  here k = ap (λ (l : List ℕ). get_or l k 0) (sym ints_are) ∙ get_or-map (from_be_bytes w32) ints k []

  -- where all are levels, integer k is the code that is stored
  pub code : (k : ℕ) {v : ℕ} → all is_level (words s) ≡ true → v ≡ from_be_bytes w32 (get_or ints k []) → (v ≡ get_or (words s) k 0) × (v ≤ 65535)
  code k h is = let e = is ∙ sym (here k) in (e, omega (arith, e, each_level (words s) k h))

  level : (k : ℕ) → over (get_or ints k []) ≡ false → is_level (get_or (words s) k 0) ≡ true
  level k h = ap is_level (here k) ∙ le-leb _ 65535 (ltb-false 65535 _ h)

  module _ {r : Option ℕ} (found : r ≡ position over ints) where
    pub levels_none : (radial : ℕ) → r ≡ None → accepted tt ≡ answer radial s
    levels_none radial e = go (nat_lt (position_or_len over ints) (length ints)) refl (sym found ∙ e)
      where
        go : (t : Bool) → nat_lt (position_or_len over ints) (length ints) ≡ t → cond t (Some (position_or_len over ints)) None ≡ None → accepted tt ≡ answer radial s
        go true h k = absurd cc
        go false h k = levels_pass radial s (all_of is_level (words s) (λ k l. level k (not-true _ (prefix_len_passes (λ (x : List ℕ). not (over x)) ints k [] (omega (arith, ltb-false _ _ h, many))))))

    module _ {gate : ℕ} (some : r ≡ Some gate) where
      pub levels_stop : (radial : ℕ) {v : ℕ} {z : ℤ} → v ≡ from_be_bytes w32 (get_or ints gate []) → z ≡ signed 2147483648 v
          → refused (kind 34 (nat radial ∷ nat gate ∷ whole z ∷ [])) ≡ answer radial s
      levels_stop radial isV isZ =
          let at = position-Some over ints gate [] (sym found ∙ some) in
          let f = first_not is_level (words s) gate (omega (arith, at.0, many)) (λ j l. level j (at.2 j l)) (ap is_level (here gate) ∙ lt-leb _ 65535 (ltb-true 65535 _ at.1)) in
          simp (levels_are, f.1, zero-add, f.0, here gate, isZ, isV)

-- ---- the codes that are stored: n levels from one on, each with its bytes swapped twice, are as they were

module _ (s : List ℕ) (from n : ℕ) (h : (from + n) * 4 ≤ length s) where
  pub levels_long : length (take n (drop from (words s))) ≡ n
  levels_long = length-take-le n (drop from (words s)) (omega (arith, length-drop from (words s), words_length s))

  module _ (every : all is_level (words s) ≡ true) where
    pub levels_back : map swap (map swap (take n (drop from (words s)))) ≡ take n (drop from (words s))
    levels_back = all_back (take n (drop from (words s))) small
      where
        small : (i : ℕ) → get_or (take n (drop from (words s))) i 0 ≤ 65535
        small i = go (ltb i n) refl
          where
            go : (b : Bool) → ltb i n ≡ b → get_or (take n (drop from (words s))) i 0 ≤ 65535
            go true t = rw (get_or-take n (drop from (words s)) i 0 (ltb-true i n t), get_or-drop from (words s) i 0) (each_level (words s) (from + i) every)
            go false t = rw (get_or-eq_default (take n (drop from (words s))) 0 {n = i} (omega (arith, levels_long, ltb-false i n t))) (omega arith)
