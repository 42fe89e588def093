-- Lists of numbers: the pieces that std's `split` gives are those that the definitions take off one after another. Assumes nothing.
use Rattle.std.proofs.Common.{◌≡◌, ℕ, zero, suc, ◌+◌, ◌<◌, Bool, true, false, cond, not, ◌&&◌, ◌||◌, List, [], ◌∷◌, length, get_or, take, drop, sym, refl, ap, arith, le-leb}
use borrow.Author.Tests.{lt-leb}
use lib.Dec.{eqb, leb}
use Rattle.std.specs.Bool.{MatchBool}
use Rattle.std.specs.List.{list_all, prefix_len, onto_first, AllWithin, HoldsAt}
use Rattle.std.proofs.Math.Dec.{eqb-suc-suc, eqb-zero-suc, leb-suc-suc}
use Rattle.std.proofs.lemmas.List.Splits.{length-slice_split}
use Rattle.replay.specs.Lists.{no_comma, piece_of, is_last, rest_of, is_entry, are_entries, pieces}

-- ---- the first piece, and those behind it

pub split_first : (word : List ℕ) → pieces word ≡ piece_of word ∷ cond (is_last word) [] (pieces (rest_of word))
split_first [] = refl
split_first (x ∷ xs) = go (eqb x 44) (split_first xs)
  where
    go : (b : Bool) → pieces xs ≡ piece_of xs ∷ cond (is_last xs) [] (pieces (rest_of xs))
        → cond b ([] ∷ pieces xs) (onto_first x (pieces xs))
        ≡ take (cond (not b) (1 + prefix_len no_comma xs) 0) (x ∷ xs)
        ∷ cond (eqb (cond (not b) (1 + prefix_len no_comma xs) 0) (suc (length xs))) [] (pieces (drop (cond (not b) (1 + prefix_len no_comma xs) 0 + 1) (x ∷ xs)))
    go true h = rw (eqb-zero-suc (length xs))
    go false h =
        let e : 1 + prefix_len no_comma xs ≡ suc (prefix_len no_comma xs) = omega arith in
        let f : suc (prefix_len no_comma xs) + 1 ≡ suc (prefix_len no_comma xs + 1) = omega arith in
        rw (e, f, h, eqb-suc-suc (prefix_len no_comma xs) (length xs))

-- ---- each passes, or one does not

both : (b : Bool) → b && false ≡ false
both true = refl
both false = refl

module _ {X : Type 0} (p : X → Bool) where
  every : (xs : List X) → ((k : ℕ) (d : X) → k < length xs → p (get_or xs k d) ≡ true) → list_all p xs ≡ true
  every [] h = refl
  every (x ∷ xs) h = rw (h 0 x (omega arith)) (every xs (λ k d l. h (suc k) d (omega arith)))

  one : (xs : List X) (k : ℕ) → k < length xs → ((d : X) → p (get_or xs k d) ≡ false) → list_all p xs ≡ false
  one [] k l h = absurd (omega arith)
  one (x ∷ xs) zero l h = rw (h x)
  one (x ∷ xs) (suc k) l h = rw (one xs k (omega arith) h) (both (p x))

  pub all_is : (xs : List X) (r : Bool) → MatchBool r (AllWithin (λ x. p x ≡ true) xs 0 (length xs)) ((k : ℕ) × (k < length xs) × HoldsAt (λ x. p x ≡ false) xs k)
      → r ≡ list_all p xs
  all_is xs true h = sym (every xs (λ k d l. h k d (omega arith) l))
  all_is xs false h = sym (one xs h.0 h.1 h.2)

-- ---- all of them, up to a number

pub are_entries_is : (most n : ℕ) (word : List ℕ) → are_entries most n word ≡ (leb (length (pieces word)) n && list_all (is_entry most) (pieces word))
unfolding are_entries
are_entries_is most zero word = sym (ap (λ b. b && list_all (is_entry most) (pieces word)) (lt-leb (length (pieces word)) 0 (omega (arith, length-slice_split (λ b. eqb b 44) word))))
are_entries_is most (suc n) word =
    rw (are_entries_is most n (rest_of word), split_first word, leb-suc-suc (length (cond (is_last word) [] (pieces (rest_of word)))) n) (go (is_last word) (is_entry most (piece_of word)))
  where
    go : (l e : Bool) → (e && (l || (leb (length (pieces (rest_of word))) n && list_all (is_entry most) (pieces (rest_of word)))))
        ≡ (leb (length (cond l [] (pieces (rest_of word)))) n && (e && list_all (is_entry most) (cond l [] (pieces (rest_of word)))))
    go true e = rw (le-leb 0 n (omega arith))
    go false true = refl
    go false false = sym (both (leb (length (pieces (rest_of word))) n))
