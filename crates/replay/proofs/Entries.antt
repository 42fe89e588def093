-- The numbers of a list: the loop that reads them into a buffer, and a buffer for all of them. Assumes nothing.
use Rattle.std.proofs.Common.{◌≡◌, ℕ, zero, suc, ◌+◌, ◌-◌, ◌<◌, ◌≤◌, Bool, true, false, cond, List, [], ◌∷◌, ◌++◌, map, length, get_or, take, drop, set, sym, refl, ap, ◌∙◌, add-one, arith, length-drop, drop-cons, eq-eqb, ne_eqb}
use native.Mathlib.Nat.{sub-zero}
use Rattle.std.specs.List.{prefix_len}
use Rattle.std.proofs.lemmas.List.{append-nil, drop_all, length-map}
use Rattle.replay.specs.Counts.{IsPrefixLen}
use Rattle.replay.specs.Words.{number_of}
use Rattle.replay.specs.Lists.{no_comma, piece_of, is_last, rest_of, is_none, pieces, list_of, entries, list_in}
use Rattle.replay.proofs.Copied.{Copied, copied_first, copied_turn, copied_end, counts}
use Rattle.replay.proofs.Pieces.{split_first}

-- ---- the first piece of what is left

module _ (rest : List ℕ) {n : ℕ} (is : n ≡ prefix_len no_comma rest) where
  pub last : n ≡ length rest → is_last rest ≡ true
  last h = eq-eqb (prefix_len no_comma rest) (length rest) (sym is ∙ h)

  pub not_last : (n ≡ length rest → ⊥) → is_last rest ≡ false
  not_last h = ne_eqb (prefix_len no_comma rest) (length rest) (λ e. h (is ∙ e))

-- ---- the reading

-- what is left of a list, taken apart
first_left : (s : List ℕ) (i : ℕ) {x : ℕ} {r : List ℕ} → drop i s ≡ x ∷ r → (i < length s) × ((get_or s i 0 ≡ x) × (drop (i + 1) s ≡ r))
first_left s i {x} {r} e =
    let h : i < length s = omega (arith, length-drop i s, ap length e) in
    let d : get_or s i 0 ∷ drop (suc i) s ≡ x ∷ r = sym (drop-cons s i 0 h) ∙ e in
    (h, (ap (λ l. get_or l 0 0) d, rw add-one (ap (drop 1) d)))

-- i numbers are read, and the others stand in what is left of the word
pub record Entered (word d xs rest : List ℕ) (i : ℕ) : Type 0 where
  pub place : i ≤ length d
  pub within : length rest ≤ length word
  pub left : drop i (entries (length d) word) ≡ entries (length d - i) rest
  pub copied : Copied (entries (length d) word) d xs i

entries_fit : (n : ℕ) (word : List ℕ) → length (entries n word) ≤ n
unfolding entries
entries_fit zero word = omega arith
entries_fit (suc n) word = go (is_last word) (entries_fit n (rest_of word))
  where
    go : (b : Bool) → length (entries n (rest_of word)) ≤ n → length (number_of (piece_of word) ∷ cond b [] (entries n (rest_of word))) ≤ suc n
    go true h = omega arith
    go false h = omega arith

pub entered_first : (word d : List ℕ) → Entered word d d word 0
entered_first word d =
    record {
      place = omega arith;
      within = omega arith;
      left = ap (λ n. entries n word) (sym (sub-zero (length d)));
      copied = copied_first (entries (length d) word) d (entries_fit (length d) word);
    }

-- all are read
done : (word d xs : List ℕ) (i : ℕ) → is_none word ≡ false → Copied (entries (length d) word) d xs i → length (entries (length d) word) ≤ i
    → (i ≡ length (list_in (length d) word)) × ((xs ≡ list_in (length d) word ++ drop i d) × IsPrefixLen i xs)
unfolding list_in
done word d xs i none c h =
    let e : i ≡ length (entries (length d) word) = omega (arith, c.place) in
    rw none (e, (copied_end c h ∙ ap (λ m. entries (length d) word ++ drop m d) (sym e), counts i xs (omega (arith, c.place, c.room))))

module _ {word d xs rest : List ℕ} {i : ℕ} (inv : Entered word d xs rest i) where
  pub entered_end : is_none word ≡ false → length d ≤ i → {n : ℕ} → n ≡ length d
      → (n ≡ length (list_in (length d) word)) × ((xs ≡ list_in (length d) word ++ drop n d) × IsPrefixLen n xs)
  entered_end none h {n} e =
      let is : n ≡ i = omega (arith, h, inv.place, e) in
      rw is (done word d xs i none inv.copied (omega (arith, entries_fit (length d) word)))

  module _ (h : i < length d) {n : ℕ} (is : n ≡ prefix_len no_comma rest) {v : ℕ} (e : v ≡ number_of (take n rest)) where
    taken : drop i (entries (length d) word) ≡ v ∷ cond (is_last rest) [] (entries (length d - (i + 1)) (rest_of rest))
    unfolding entries
    taken =
        let s : length d - i ≡ suc (length d - (i + 1)) = omega arith in
        inv.left ∙ rw (s, e, is)

    stored : Copied (entries (length d) word) d (set xs i v) (i + 1)
    stored =
        let f = first_left (entries (length d) word) i taken in
        rw f.1.0 at (copied_turn inv.copied 0 f.0)

    pub entered_last : is_none word ≡ false → n ≡ length rest
        → (i + 1 ≡ length (list_in (length d) word)) × ((set xs i v ≡ list_in (length d) word ++ drop (i + 1) d) × IsPrefixLen (i + 1) (set xs i v))
    entered_last none l =
        let f = first_left (entries (length d) word) i taken in
        let k : drop (i + 1) (entries (length d) word) ≡ [] = f.1.1 ∙ rw (last rest is l) in
        done word d (set xs i v) (i + 1) none stored (omega (arith, length-drop (i + 1) (entries (length d) word), ap length k))

    pub entered_next : (n ≡ length rest → ⊥) → {next : List ℕ} → next ≡ drop (n + 1) rest → Entered word d (set xs i v) next (i + 1)
    entered_next l w =
        let f = first_left (entries (length d) word) i taken in
        record {
          place = omega arith;
          within = omega (arith, inv.within, ap length w, length-drop (n + 1) rest);
          left = f.1.1 ∙ rw (not_last rest is l, w, is);
          copied = stored;
        }

-- no numbers
pub none_read : (word d : List ℕ) → is_none word ≡ true → (0 ≡ length (list_in (length d) word)) × ((d ≡ list_in (length d) word ++ drop 0 d) × IsPrefixLen 0 d)
unfolding list_in
none_read word d h = rw h (refl, (refl, counts 0 d (omega arith)))

-- ---- a buffer for all of them

all_entries : (n : ℕ) (word : List ℕ) → n ≡ length (pieces word) → entries n word ≡ map number_of (pieces word)
unfolding entries
all_entries zero word e = absurd (omega (arith, e, ap length (split_first word)))
all_entries (suc n) word e = rw (split_first word) (go (is_last word) (e ∙ ap length (split_first word)) (all_entries n (rest_of word)))
  where
    go : (b : Bool) → suc n ≡ length (piece_of word ∷ cond b [] (pieces (rest_of word)))
        → (n ≡ length (pieces (rest_of word)) → entries n (rest_of word) ≡ map number_of (pieces (rest_of word)))
        → number_of (piece_of word) ∷ cond b [] (entries n (rest_of word)) ≡ map number_of (piece_of word ∷ cond b [] (pieces (rest_of word)))
    go true h next = refl
    go false h next = ap (λ t. number_of (piece_of word) ∷ t) (next (omega arith))

pub list_whole : (word d xs : List ℕ) (i : ℕ) → is_none word ≡ false → length d ≡ length (pieces word) → i ≡ length (list_in (length d) word)
    → xs ≡ list_in (length d) word ++ drop i d → xs ≡ list_of word
unfolding list_in
list_whole word d xs i none n e f =
    let w : entries (length d) word ≡ map number_of (pieces word) = all_entries (length d) word n in
    let a : list_in (length d) word ≡ entries (length d) word = rw none refl in
    let b : list_of word ≡ map number_of (pieces word) = rw none refl in
    let k : length d ≤ i = omega (arith, e, n, ap length (a ∙ w), length-map (pieces word) number_of) in
    f ∙ ap (λ t. list_in (length d) word ++ t) (drop_all i d k) ∙ append-nil _ ∙ a ∙ w ∙ sym b
