-- The row of a radial's data, or the radial's refusal: a function of the data bytes alone, for each packet.
use Rattle.std.specs.Prelude.{◌≡◌, ℕ, suc, ◌+◌, ◌-◌, ◌*◌, ◌/◌, ◌%◌, ◌≤◌, Bool, true, cond, not, List, [], ◌∷◌, ◌++◌, length, take, replicate, ◌==◌, nat_le, nat_lt}
use Rattle.wire.specs.Bytes.{signed}
use Rattle.wire.specs.Refusal.{kind, nat, whole}
use Rattle.wire.specs.Result.{Result, accepted, refused, refuse}
use Rattle.wire.specs.Text.{all}
use Rattle.symbology.specs.declared.figures.Packet.{Packet}
use Rattle.symbology.specs.declared.figures.Packet.TheVariants.{Packet16, PacketAf1f, Packet28}

-- packet 16: the first n_bins bytes
unfoldable pub row16 : ℕ → ℕ → List ℕ → Result (List ℕ)
row16 bins radial bytes = accepted (take bins bytes)

-- ---- AF1F: runs, high four bits length, low four colour

abbrev pub run_of : ℕ → ℕ
run_of b = b / 16

abbrev pub colour_of : ℕ → ℕ
colour_of b = b % 16

-- the greatest sum of a prefix of the run lengths that is not over n (specs/Runs.antt has it in these words)
unfoldable pub reach : ℕ → List ℕ → ℕ
reach n [] = 0
reach n (b ∷ bytes) = cond (nat_le (run_of b) n) (run_of b + reach (n - run_of b) bytes) 0

-- the cells that the runs cover, in order, each with its run's colour
unfoldable pub cells : List ℕ → List ℕ
cells [] = []
cells (b ∷ bytes) = replicate (run_of b) (colour_of b) ++ cells bytes

-- a row exactly if some prefix of the run lengths sums to n_bins; later bytes are skipped. Else 22 with the prefix sum
unfoldable pub row_af1f : ℕ → ℕ → List ℕ → Result (List ℕ)
row_af1f bins radial bytes =
    refuse (not (reach bins bytes == bins)) (kind 22 (nat radial ∷ nat (reach bins bytes) ∷ nat bins ∷ []))
    (accepted (take bins (cells bytes)))

-- ---- packet 28: integers of four bytes, each from 0 to 65,535; else 34 with the first that is not; a rest of fewer than
-- four bytes makes none

unfoldable pub words : List ℕ → List ℕ
words [] = []
words (a ∷ []) = []
words (a ∷ b ∷ []) = []
words (a ∷ b ∷ c ∷ []) = []
words (a ∷ b ∷ c ∷ d ∷ bytes) = ((a * 256 + b) * 65536 + (c * 256 + d)) ∷ words bytes

unfoldable pub push : ℕ → Result (List ℕ) → Result (List ℕ)
push v (accepted codes) = accepted (v ∷ codes)
push v (refused x) = refused x

abbrev pub is_level : ℕ → Bool
is_level v = nat_le v 65535

-- the levels from gate `gate` on
unfoldable pub levels : ℕ → ℕ → List ℕ → Result (List ℕ)
levels radial gate [] = accepted []
levels radial gate (v ∷ vs) =
    refuse (nat_lt 65535 v) (kind 34 (nat radial ∷ nat gate ∷ whole (signed 2147483648 v) ∷ [])) (push v (levels radial (suc gate) vs))

unfoldable pub row28 : ℕ → ℕ → List ℕ → Result (List ℕ)
row28 bins radial bytes = levels radial 0 (words bytes)

-- ---- all packets

unfoldable pub row_of : Packet → ℕ → ℕ → List ℕ → Result (List ℕ)
row_of Packet16 = row16
row_of PacketAf1f = row_af1f
row_of Packet28 = row28

-- the codes of data that make a row
unfoldable pub codes_of : Packet → ℕ → List ℕ → List ℕ
codes_of Packet16 bins bytes = take bins bytes
codes_of PacketAf1f bins bytes = take bins (cells bytes)
codes_of Packet28 bins bytes = words bytes

-- how many bits a code has
abbrev pub code_bits : Packet → ℕ
code_bits Packet16 = 8
code_bits PacketAf1f = 4
code_bits Packet28 = 16

-- the data make a row of n codes
unfoldable pub FullRow : Packet → ℕ → List ℕ → Type 0
FullRow Packet16 n bytes = n ≤ length bytes
FullRow PacketAf1f n bytes = reach n bytes ≡ n
FullRow Packet28 n bytes = (length bytes ≡ n * 4) × (all is_level (words bytes) ≡ true)
