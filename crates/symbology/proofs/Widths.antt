-- Codes of any number of bits: what keeps them below 2 ^ bits. Those of a row fit its packet's width: eight bits in packet 16, four in AF1F,
-- sixteen in packet 28. Assumes nothing.
use Rattle.std.proofs.Common.{◌≡◌, ℕ, zero, suc, ◌+◌, ◌^◌, ◌<◌, ◌≤◌, List, [], ◌∷◌, ◌++◌, length, get_or, take, replicate, suc-le-suc, arith, get_or-drop, pow_pos, pow_mono}
use lib.Seq.{slice}
use Rattle.wire.specs.Result.{accepted}
use Rattle.wire.specs.Reading.{Given, run}
use Rattle.symbology.specs.Rows.{run_of, colour_of, cells, words, row_of, codes_of, code_bits}
use Rattle.symbology.specs.Answers.{joined}
use Rattle.symbology.specs.Damage.{data_in, radial_at}
use Rattle.symbology.specs.Symbology.{Sweep, symbology}
use Rattle.symbology.specs.declared.figures.Packet.{Packet}
use Rattle.symbology.specs.declared.figures.Packet.TheVariants.{Packet16, PacketAf1f, Packet28}
use Rattle.symbology.proofs.FirstBad.{each_level}
use Rattle.symbology.proofs.FullRow.{Passed, row_made}
use Rattle.symbology.proofs.RowPlaces.{rows_of_accepted}

-- every element has at most so many bits, one past the end counting 0
abbrev pub OfBits : ℕ → List ℕ → Type 0
OfBits bits s = (k : ℕ) → get_or s k 0 < 2 ^ bits

module _ (bits : ℕ) where
  bits_take : (n : ℕ) (s : List ℕ) → OfBits bits s → OfBits bits (take n s)
  bits_take zero s h k = pow_pos bits
  bits_take (suc n) [] h k = pow_pos bits
  bits_take (suc n) (x ∷ s) h zero = h 0
  bits_take (suc n) (x ∷ s) h (suc k) = bits_take n s (λ j. h (suc j)) k

  -- a part
  pub bits_slice : (p e : ℕ) (s : List ℕ) → OfBits bits s → OfBits bits (slice p e s)
  bits_slice p e s h k = rw (get_or-drop p (take e s) k 0) (bits_take e s h (p + k))

  bits_append : (s t : List ℕ) → OfBits bits s → OfBits bits t → OfBits bits (s ++ t)
  bits_append [] t h l k = l k
  bits_append (x ∷ s) t h l zero = h 0
  bits_append (x ∷ s) t h l (suc k) = bits_append s t (λ j. h (suc j)) l k

  bits_run : (n v : ℕ) → v < 2 ^ bits → OfBits bits (replicate n v)
  bits_run zero v h k = pow_pos bits
  bits_run (suc n) v h zero = h
  bits_run (suc n) v h (suc k) = bits_run n v h k

  -- rows one after the other
  bits_joined : (rows : List (List ℕ)) → ((r : ℕ) → r < length rows → OfBits bits (get_or rows r [])) → OfBits bits (joined rows)
  unfolding joined
  bits_joined [] h k = pow_pos bits
  bits_joined (row ∷ rows) h k = bits_append row (joined rows) (h 0 (omega arith)) (bits_joined rows (λ r lt. h (suc r) (suc-le-suc lt))) k

  -- a wider place holds them unaltered
  pub bits_widened : {more : ℕ} → bits ≤ more → (s : List ℕ) → OfBits bits s → OfBits more s
  bits_widened le s h k = omega (arith, h k, pow_mono le)

bits_cells : (runs : List ℕ) → OfBits 4 (cells runs)
unfolding cells
bits_cells [] k = omega arith
bits_cells (b ∷ runs) k = bits_append 4 (replicate (run_of b) (colour_of b)) (cells runs) (bits_run 4 (run_of b) (colour_of b) (omega arith)) (bits_cells runs) k

fit : (packet : Packet) (n : ℕ) (bytes : List ℕ) → OfBits 8 bytes → Passed packet n bytes → OfBits (code_bits packet) (codes_of packet n bytes)
unfolding codes_of
fit Packet16 n bytes h p = bits_take 8 n bytes h
fit PacketAf1f n bytes h p = bits_take 4 n (cells bytes) (bits_cells bytes)
fit Packet28 n bytes h p = λ k. omega (arith, each_level (words bytes) k p)

-- the codes of a row
codes_fit : (packet : Packet) (n radial : ℕ) (bytes codes : List ℕ) → OfBits 8 bytes → row_of packet n radial bytes ≡ accepted codes → OfBits (code_bits packet) codes
codes_fit packet n radial bytes codes h e =
    let m = row_made packet n radial bytes codes e in
    rw m.1 (fit packet n bytes h m.0)

-- all codes of an accepted body of bytes
pub all_codes_fit : (b : List ℕ) (g : Given Sweep) → run symbology b 0 ≡ accepted g → OfBits 8 b → OfBits (code_bits g.value.figures.packet) (joined g.rows)
unfolding data_in
all_codes_fit b g acc small =
    let a = rows_of_accepted b g acc in
    bits_joined _ g.rows λ r lt.
    let f = radial_at symbology b r in
    codes_fit _ _ r (data_in symbology b r b) _ (bits_slice 8 f.start (f.start + f.count) b small) (a.1 r (rw a.0 at lt)).0

-- no packet's codes are wider than a place of the buffer
pub at_most_16 : (packet : Packet) → code_bits packet ≤ 16
at_most_16 Packet16 = omega arith
at_most_16 PacketAf1f = omega arith
at_most_16 Packet28 = omega arith
