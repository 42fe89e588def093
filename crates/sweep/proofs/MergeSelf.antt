-- A sweep is no other than itself, and its rows are its own. Assumes nothing.
use Prim.Native.Nat.{ℕ, zero, suc}
use mathlib.Core.List.{List, [], ◌∷◌}
use mathlib.Core.Bool.{true, false, not}
use mathlib.Core.Path.{◌≡◌, refl, ap, ap₂}
use lib.Ieee.{Float}
use borrow.Author.Tests.{eq-eqb}
use Rattle.wire.specs.Result.{accepted}
use Rattle.wire.specs.Reading.{Given}
use Rattle.wire.proofs.Equal.{float_same}
use Rattle.symbology.specs.Answers.{picture_with}
use Rattle.symbology.specs.Merge.{same_packet, same_geometry, same_figures, same_floats, disagree, agreed, either, merge_rows, merged_of}
use Rattle.symbology.specs.Symbology as Symbology
use Rattle.symbology.specs.declared.figures.Figures.{Figures}
use Rattle.symbology.specs.declared.figures.Packet.{Packet}
use Rattle.symbology.specs.declared.figures.Packet.TheVariants.{Packet16, PacketAf1f, Packet28}
use Rattle.symbology.specs.declared.figures.Geometry.{Geometry}
use Rattle.symbology.specs.declared.figures.Geometry.TheVariants.{RangeScale, Gates}
use Rattle.std.proofs.lemmas.Slice.Eq.{bytes_eq-Decides}

packet_self : (p : Packet) → same_packet p p ≡ true
packet_self Packet16 = refl
packet_self PacketAf1f = refl
packet_self Packet28 = refl

geometry_self : (g : Geometry) → same_geometry g g ≡ true
geometry_self (RangeScale n) = eq-eqb n n refl
geometry_self (Gates w f) = rw (float_same w, float_same f) refl

pub floats_self : (l : List Float) → same_floats l l ≡ true
unfolding same_floats
floats_self [] = refl
floats_self (x ∷ l) = rw (float_same x) (floats_self l)

pub figures_self : (f : Figures) → same_figures f f ≡ true
unfolding same_figures
figures_self f = rw (packet_self f.packet, eq-eqb f.n_radials _ refl, eq-eqb f.n_bins _ refl) (geometry_self f.geometry)

-- ---- rows

no_disagreement : (x : List ℕ) → disagree x x ≡ false
unfolding disagree
no_disagreement [] = refl
no_disagreement (zero ∷ c) = ap not ((bytes_eq-Decides c c).1 refl)
no_disagreement (suc m ∷ c) = refl

self_agreed : (r : ℕ) (xs : List (List ℕ)) → agreed r xs xs ≡ accepted tt
unfolding agreed
self_agreed r [] = refl
self_agreed r (x ∷ xs) = rw (no_disagreement x) (self_agreed (suc r) xs)

self_either : (x : List ℕ) → either x x ≡ x
unfolding either
self_either [] = refl
self_either (zero ∷ c) = refl
self_either (suc m ∷ c) = refl

self_merged : (xs : List (List ℕ)) → merge_rows xs xs ≡ xs
unfolding merge_rows
self_merged [] = refl
self_merged (x ∷ xs) = ap₂ (λ (a : List ℕ) (l : List (List ℕ)). a ∷ l) (self_either x) (self_merged xs)

-- two readings of the same value and rows
pub merged_self : (a b : Given Symbology.Sweep) → a.value ≡ b.value → a.rows ≡ b.rows → merged_of a b ≡ accepted (picture_with a.value a.rows)
unfolding merged_of
merged_self a b v r = rw (← v, ← r, figures_self a.value.figures, floats_self a.value.azimuths, self_agreed 0 a.rows, self_merged a.rows) refl
