-- Two rows compared by their data. Assumes nothing.
use Rattle.std.proofs.Common.{◌≡◌, ℕ, zero, suc, ◌+◌, ◌*◌, ◌<◌, List, [], ◌∷◌, length, get_or, ap, refl, arith}
use Rattle.std.proofs.lemmas.Bool.Decides.{same_from_decides}
use Rattle.std.proofs.lemmas.Slice.Eq.{bytes_eq-Decides}
use Rattle.wire.specs.Text.{same}
use Rattle.symbology.specs.Rows.{words, FullRow}
use Rattle.symbology.specs.declared.figures.Packet.{Packet}
use Rattle.symbology.specs.declared.figures.Packet.TheVariants.{Packet28}

abbrev Bytes : List ℕ → Type 0
Bytes s = (i : ℕ) → get_or s i 0 < 256

-- n integers are of just one list of bytes
bytes_back : (n : ℕ) (a b : List ℕ) → length a ≡ n * 4 → length b ≡ n * 4 → Bytes a → Bytes b → words a ≡ words b → a ≡ b
unfolding words
bytes_back zero [] [] h k p q e = refl
bytes_back zero [] (y ∷ b) h k p q e = absurd (omega arith)
bytes_back zero (x ∷ a) b h k p q e = absurd (omega arith)
bytes_back (suc n) [] b h k p q e = absurd (omega arith)
bytes_back (suc n) (x ∷ []) b h k p q e = absurd (omega arith)
bytes_back (suc n) (x ∷ x' ∷ []) b h k p q e = absurd (omega arith)
bytes_back (suc n) (x ∷ x' ∷ x'' ∷ []) b h k p q e = absurd (omega arith)
bytes_back (suc n) (x ∷ x' ∷ x'' ∷ x''' ∷ a) [] h k p q e = absurd (omega arith)
bytes_back (suc n) (x ∷ x' ∷ x'' ∷ x''' ∷ a) (y ∷ []) h k p q e = absurd (omega arith)
bytes_back (suc n) (x ∷ x' ∷ x'' ∷ x''' ∷ a) (y ∷ y' ∷ []) h k p q e = absurd (omega arith)
bytes_back (suc n) (x ∷ x' ∷ x'' ∷ x''' ∷ a) (y ∷ y' ∷ y'' ∷ []) h k p q e = absurd (omega arith)
bytes_back (suc n) (x ∷ x' ∷ x'' ∷ x''' ∷ a) (y ∷ y' ∷ y'' ∷ y''' ∷ b) h k p q e =
    let number : (x * 256 + x') * 65536 + (x'' * 256 + x''') ≡ (y * 256 + y') * 65536 + (y'' * 256 + y''') = cc in
    let others : words a ≡ words b = cc in
    let tail : a ≡ b = bytes_back n a b (omega arith) (omega arith) (λ i. p (suc (suc (suc (suc i))))) (λ i. q (suc (suc (suc (suc i))))) others in
    let one : x ≡ y = omega (arith, number, p 0, p 1, p 2, p 3, q 0, q 1, q 2, q 3) in
    let two : x' ≡ y' = omega (arith, number, p 0, p 1, p 2, p 3, q 0, q 1, q 2, q 3) in
    let three : x'' ≡ y'' = omega (arith, number, p 0, p 1, p 2, p 3, q 0, q 1, q 2, q 3) in
    let four : x''' ≡ y''' = omega (arith, number, p 0, p 1, p 2, p 3, q 0, q 1, q 2, q 3) in
    cc

pub full_28 : (packet : Packet) (n : ℕ) (s : List ℕ) → packet ≡ Packet28 → FullRow packet n s → length s ≡ n * 4
unfolding FullRow
full_28 packet n s e h = (rw e at h).0

-- so the bytes tell whether the integers are the same
pub same_ints : (packet : Packet) (n : ℕ) (a b : List ℕ) → packet ≡ Packet28 → FullRow packet n a → FullRow packet n b → Bytes a → Bytes b → same a b ≡ same (words a) (words b)
same_ints packet n a b e f g p q =
    let l = full_28 packet n a e f in
    let m = full_28 packet n b e g in
    let d = bytes_eq-Decides (words a) (words b) in
    same_from_decides _ _ (bytes_eq-Decides a b) ((λ t. bytes_back n a b l m p q (d.0 t)), (λ t. d.1 (ap words t)))
