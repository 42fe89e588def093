-- The codes of an accepted sweep, of whatever width: what the widths of the packets say of them. Assumes nothing.
use Prim.Native.Nat.{ℕ, ◌<◌}
use mathlib.Core.List.{List}
use mathlib.Core.Bool.{true, false≢true}
use mathlib.Core.Path.{◌≡◌, refl}
use lib.ListN.{get_or}
use lib.Ieee.{Float}
use borrow.Author.Tests.{lt-ltb}
use Rattle.wire.specs.Result.{accepted}
use Rattle.scale.specs.Physical.{has_level}
use Rattle.scale.specs.declared.physical.Scheme.{Scheme}
use Rattle.symbology.specs.declared.figures.Packet.{Packet}
use Rattle.symbology.specs.declared.figures.Packet.TheVariants.{Packet16, PacketAf1f, Packet28}
use Rattle.symbology.specs.Rows.{code_bits}
use Rattle.symbology.specs.Words.{Bytes}
use Rattle.sweep.specs.Sweep.{allowed, Accepted, sweep_of}
use Rattle.symbology.proofs.Widths.{OfBits, bits_widened, all_codes_fit, at_most_16}
use Rattle.sweep.proofs.Parts.{parts}

-- legacy works on AF1F alone
legacy_packet : (post : Float) (packet : Packet) → allowed (Scheme.Legacy post) packet ≡ true → packet ≡ PacketAf1f
unfolding allowed
legacy_packet post Packet16 e = absurd (false≢true e)
legacy_packet post PacketAf1f e = refl
legacy_packet post Packet28 e = absurd (false≢true e)

module _ (scheme : Scheme) (file : List ℕ) (clock : ℕ) (b : List ℕ) (na nc np : ℕ) (p : Accepted) (acc : sweep_of scheme file clock b na nc np ≡ accepted p) (small : Bytes b) where
  -- every code is below 2 to the number of bits that its packet gives it
  pub sweep_codes_fit : OfBits (code_bits p.sweep.figures.packet) p.codes
  sweep_codes_fit =
      let q = parts scheme file clock na nc np b p acc in
      rw (q.codes, q.figures) at (all_codes_fit b q.body q.body_is small)

  -- so a u16 place holds it unaltered
  pub codes_widened : (k : ℕ) → get_or p.codes k 0 < 65536
  codes_widened = bits_widened _ (at_most_16 p.sweep.figures.packet) p.codes sweep_codes_fit

  -- and one of AF1F has a level: every legacy code
  pub levels_known : (post : Float) → scheme ≡ Scheme.Legacy post → (k : ℕ) → has_level (get_or p.codes k 0) ≡ true
  levels_known post is k =
      let works : allowed (Scheme.Legacy post) p.sweep.figures.packet ≡ true = rw is at (parts scheme file clock na nc np b p acc).works in
      lt-ltb _ _ (rw (legacy_packet post _ works) at (sweep_codes_fit k))
