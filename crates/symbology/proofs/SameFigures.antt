-- What the test of equal figures shows. Assumes nothing.
use Rattle.std.proofs.Common.{◌≡◌, ℕ, true, eqb, refl, ap, arith, eqb-true}
use Rattle.wire.specs.SameFloat.{same_float}
use Rattle.wire.proofs.Codes.{both}
use Rattle.wire.proofs.Equal.{float_is}
use Rattle.symbology.specs.Merge.{same_packet, same_geometry, same_figures}
use Rattle.symbology.specs.declared.figures.Figures.{Figures}
use Rattle.symbology.specs.declared.figures.Packet.{Packet}
use Rattle.symbology.specs.declared.figures.Packet.TheVariants.{Packet16, PacketAf1f, Packet28}
use Rattle.symbology.specs.declared.figures.Geometry.{Geometry}
use Rattle.symbology.specs.declared.figures.Geometry.TheVariants.{RangeScale, Gates}

packet_is : (a b : Packet) → same_packet a b ≡ true → a ≡ b
packet_is Packet16 Packet16 h = refl
packet_is Packet16 PacketAf1f h = let z : ◌≡◌ {A = ℕ} 0 1 = cc in absurd (omega arith)
packet_is Packet16 Packet28 h = let z : ◌≡◌ {A = ℕ} 0 1 = cc in absurd (omega arith)
packet_is PacketAf1f Packet16 h = let z : ◌≡◌ {A = ℕ} 0 1 = cc in absurd (omega arith)
packet_is PacketAf1f PacketAf1f h = refl
packet_is PacketAf1f Packet28 h = let z : ◌≡◌ {A = ℕ} 0 1 = cc in absurd (omega arith)
packet_is Packet28 Packet16 h = let z : ◌≡◌ {A = ℕ} 0 1 = cc in absurd (omega arith)
packet_is Packet28 PacketAf1f h = let z : ◌≡◌ {A = ℕ} 0 1 = cc in absurd (omega arith)
packet_is Packet28 Packet28 h = refl

geometry_is : (a b : Geometry) → same_geometry a b ≡ true → a ≡ b
geometry_is (RangeScale m) (RangeScale n) h = ap RangeScale (eqb-true m n h)
geometry_is (RangeScale m) (Gates w f) h = let z : ◌≡◌ {A = ℕ} 0 1 = cc in absurd (omega arith)
geometry_is (Gates w f) (RangeScale n) h = let z : ◌≡◌ {A = ℕ} 0 1 = cc in absurd (omega arith)
geometry_is (Gates w f) (Gates w' f') h =
    let k = both (same_float w w') (same_float f f') h in
    let a : w ≡ w' = float_is w w' k.0 in
    let b : f ≡ f' = float_is f f' k.1 in
    rw (a, b) refl

alike : {p p' : Packet} {n n' b b' : ℕ} {g g' : Geometry} → p ≡ p' → n ≡ n' → b ≡ b' → g ≡ g'
    → ◌≡◌ {A = Figures} (record { packet = p; n_radials = n; n_bins = b; geometry = g }) (record { packet = p'; n_radials = n'; n_bins = b'; geometry = g' })
alike h i j k = rw (h, i, j, k) refl

pub figures_are : (f g : Figures) → same_figures f g ≡ true → f ≡ g
unfolding same_figures
figures_are f g h =
    let a = both (same_packet f.packet g.packet) _ h in
    let b = both (eqb f.n_radials g.n_radials) _ a.1 in
    let c = both (eqb f.n_bins g.n_bins) _ b.1 in
    alike (packet_is f.packet g.packet a.0) (eqb-true _ _ b.0) (eqb-true _ _ c.0) (geometry_is f.geometry g.geometry c.1)
