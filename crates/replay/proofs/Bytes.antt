-- The bytes of digits: how many there are, each of them, and the loop that reads them into a buffer. Assumes nothing.
use Rattle.std.proofs.Common.{◌≡◌, ℕ, zero, suc, ◌+◌, ◌*◌, ◌/◌, ◌<◌, ◌≤◌, min, List, [], ◌∷◌, ◌++◌, length, get_or, take, drop, set, sym, refl, ap, ◌∙◌, arith, length-take-le, get_or-take, take_all}
use Rattle.std.proofs.lemmas.List.{append-nil, drop_all}
use Rattle.replay.specs.Counts.{IsPrefixLen}
use Rattle.replay.specs.Hex.{byte_of, bytes_of, bytes_in}
use Rattle.replay.proofs.Copied.{Copied, copied_turn, copied_end, counts}

bytes_long : (s : List ℕ) → length (bytes_of s) ≡ length s / 2
bytes_long [] = refl
bytes_long (b ∷ []) = refl
bytes_long (h ∷ l ∷ s) = omega (arith, bytes_long s)

bytes_at : (s : List ℕ) (i : ℕ) → i < length s / 2 → get_or (bytes_of s) i 0 ≡ byte_of (get_or s (i * 2) 0) (get_or s (i * 2 + 1) 0)
bytes_at [] i h = absurd (omega arith)
bytes_at (b ∷ []) i h = absurd (omega arith)
bytes_at (b ∷ l ∷ s) zero h = refl
bytes_at (b ∷ l ∷ s) (suc i) h =
    let e : suc (suc (i * 2)) ≡ suc i * 2 = omega arith in
    let f : suc (suc (i * 2 + 1)) ≡ suc i * 2 + 1 = omega arith in
    bytes_at s i (omega arith)
    ∙ ap (λ j. byte_of (get_or (b ∷ l ∷ s) j 0) (get_or s (i * 2 + 1) 0)) e
    ∙ ap (λ j. byte_of (get_or (b ∷ l ∷ s) (suc i * 2) 0) (get_or (b ∷ l ∷ s) j 0)) f

module _ (n : ℕ) (word : List ℕ) where
  pub bytes_in_long : length (bytes_in n word) ≡ min (length word / 2) n
  unfolding bytes_in
  bytes_in_long = length-take-le _ _ (omega (arith, bytes_long word))

  pub bytes_in_at : (i : ℕ) → i < length word / 2 → i < n → get_or (bytes_in n word) i 0 ≡ byte_of (get_or word (i * 2) 0) (get_or word (i * 2 + 1) 0)
  unfolding bytes_in
  bytes_in_at i h k = get_or-take (min (length word / 2) n) (bytes_of word) i 0 (omega arith) ∙ bytes_at word i h

-- the loop that reads a word's bytes into a buffer d
module _ (word d xs : List ℕ) {i : ℕ} (inv : Copied (bytes_in (length d) word) d xs i) where
  pub read_turn : {v : ℕ} → i < length word / 2 → i < length d → v ≡ byte_of (get_or word (i * 2) 0) (get_or word (i * 2 + 1) 0)
      → Copied (bytes_in (length d) word) d (set xs i v) (i + 1)
  read_turn h k e =
      let there : get_or (bytes_in (length d) word) i 0 ≡ _ = bytes_in_at (length d) word i h k ∙ sym e in
      rw there at (copied_turn inv 0 (omega (arith, bytes_in_long (length d) word)))

  pub read_end : {n : ℕ} → n ≡ min (length d) (length word / 2) → n ≤ i
      → (n ≡ length (bytes_in (length d) word)) × ((xs ≡ bytes_in (length d) word ++ drop n d) × IsPrefixLen n xs)
  read_end {n} m h =
      let e : n ≡ length (bytes_in (length d) word) = omega (arith, m, bytes_in_long (length d) word) in (
        e,
        (
          copied_end inv (omega (arith, e)) ∙ ap (λ k. bytes_in (length d) word ++ drop k d) (sym e),
          counts n xs (omega (arith, e, inv.room)),
        ),
      )

-- a buffer for all of them
pub read_whole : (word d xs : List ℕ) (i : ℕ) → length d ≡ length word / 2 → i ≡ length (bytes_in (length d) word) → xs ≡ bytes_in (length d) word ++ drop i d
    → xs ≡ bytes_of word
unfolding bytes_in
read_whole word d xs i n e f =
    let m : min (length word / 2) (length d) ≡ length (bytes_of word) = omega (arith, bytes_long word) in
    let w : bytes_in (length d) word ≡ bytes_of word = ap (λ k. take k (bytes_of word)) m ∙ take_all _ (bytes_of word) (omega arith) in
    f ∙ rw (w, drop_all i d (omega (arith, e, bytes_in_long (length d) word))) (append-nil (bytes_of word))
