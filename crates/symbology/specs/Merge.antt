-- Two receptions, one picture (M-111): what the readings with gaps of two bodies say of each other, and the picture that both make.
use Rattle.std.specs.Prelude.{ℕ, zero, suc, Bool, true, false, not, ◌&&◌, List, [], ◌∷◌, ◌==◌, Float}
use Rattle.wire.specs.Refusal.{kind, nat}
use Rattle.wire.specs.Result.{Result, accepted, refuse, then}
use Rattle.wire.specs.Reading.{Given, run, gaps}
use Rattle.wire.specs.Text.{same}
use Rattle.wire.specs.SameFloat.{same_float}
use Rattle.symbology.specs.Symbology.{Sweep, symbology}
use Rattle.symbology.specs.Answers.{asked, step_of, passing, GapPicture, picture_with, gaps_on_terms}
use Rattle.symbology.specs.declared.figures.Packet.{Packet}
use Rattle.symbology.specs.declared.figures.Packet.TheVariants.{Packet16, PacketAf1f, Packet28}
use Rattle.symbology.specs.declared.figures.Geometry.{Geometry}
use Rattle.symbology.specs.declared.figures.Geometry.TheVariants.{RangeScale, Gates}
use Rattle.symbology.specs.declared.figures.Figures.{Figures}
use Rattle.symbology.specs.declared.figures.Terms.{Terms}

-- ---- 43: packet, counts, azimuths, range scale or gate figures differ

abbrev pub same_packet : Packet → Packet → Bool
same_packet Packet16 Packet16 = true
same_packet Packet16 PacketAf1f = false
same_packet Packet16 Packet28 = false
same_packet PacketAf1f Packet16 = false
same_packet PacketAf1f PacketAf1f = true
same_packet PacketAf1f Packet28 = false
same_packet Packet28 Packet16 = false
same_packet Packet28 PacketAf1f = false
same_packet Packet28 Packet28 = true

abbrev pub same_geometry : Geometry → Geometry → Bool
same_geometry (RangeScale m) (RangeScale n) = m == n
same_geometry (RangeScale m) (Gates w f) = false
same_geometry (Gates w f) (RangeScale n) = false
same_geometry (Gates w f) (Gates w' f') = same_float w w' && same_float f f'

unfoldable pub same_figures : Figures → Figures → Bool
same_figures f g =
    same_packet f.packet g.packet
    && (f.n_radials == g.n_radials && (f.n_bins == g.n_bins && same_geometry f.geometry g.geometry))

unfoldable pub same_floats : List Float → List Float → Bool
same_floats [] [] = true
same_floats [] (y ∷ t) = false
same_floats (x ∷ s) [] = false
same_floats (x ∷ s) (y ∷ t) = same_float x y && same_floats s t

-- ---- 44; rows are as the reading with gaps gives them: the mark 0 and the codes, or the mark 1 alone

-- whole in both, with unequal codes
unfoldable pub disagree : List ℕ → List ℕ → Bool
disagree [] y = false
disagree (zero ∷ c) [] = false
disagree (zero ∷ c) (zero ∷ d) = not (same c d)
disagree (zero ∷ c) (suc m ∷ d) = false
disagree (suc m ∷ c) y = false

-- from radial r on: the lowest such radial
unfoldable pub agreed : ℕ → List (List ℕ) → List (List ℕ) → Result (Unit {0})
agreed r [] ys = accepted tt
agreed r (x ∷ xs) [] = accepted tt
agreed r (x ∷ xs) (y ∷ ys) = refuse (disagree x y) (kind 44 (nat r ∷ [])) (agreed (suc r) xs ys)

-- ---- the merged rows: the first's if whole there, else the second's, which is a row or a gap

unfoldable pub either : List ℕ → List ℕ → List ℕ
either [] y = y
either (zero ∷ c) y = zero ∷ c
either (suc m ∷ c) y = y

unfoldable pub merge_rows : List (List ℕ) → List (List ℕ) → List (List ℕ)
merge_rows [] ys = []
merge_rows (x ∷ xs) [] = []
merge_rows (x ∷ xs) (y ∷ ys) = either x y ∷ merge_rows xs ys

-- of two readings with gaps: 43, 44
unfoldable pub merged_of : Given Sweep → Given Sweep → Result GapPicture
merged_of a b =
    refuse (not (same_figures a.value.figures b.value.figures && same_floats a.value.azimuths b.value.azimuths)) (kind 43 [])
    (then (agreed 0 a.rows b.rows) λ _.
    accepted (picture_with a.value (merge_rows a.rows b.rows)))

-- ---- of two bodies, on terms

-- 10, 9
unfoldable pub usable : Terms → Figures → Result (Unit {0})
usable t f = refuse (not (asked t.packets f.packet)) (kind 10 []) (step_of t.packets)

-- what a body's reading with gaps gives before 36
abbrev pub usable_of : Terms → List ℕ → Result (Given Sweep)
usable_of t body = passing (usable t) (run (gaps symbology) body 0)

-- the first body's, then the second's; then 43, 44
unfoldable pub merge_picture_of : Terms → List ℕ → List ℕ → Result GapPicture
merge_picture_of t first second =
    then (usable_of t first) λ a.
    then (usable_of t second) λ b.
    merged_of a b

-- then 36 (10 and 9 have passed by then)
unfoldable pub merge_for : Terms → List ℕ → List ℕ → ℕ → ℕ → ℕ → Result GapPicture
merge_for t first second na nc nm = gaps_on_terms t (merge_picture_of t first second) na nc nm
