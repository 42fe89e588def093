-- Frames of radials have no data of their own. Assumes nothing.
use Rattle.std.proofs.Common.{ℕ}
use Rattle.wire.proofs.Runs.{Plain, plain_then, plain_by, plain_give, plain_check, plain_remaining, plain_u16}
use Rattle.xdr.proofs.Plains.{plain_pass, plain_int, plain_float, plain_string, plain_array_count}
use Rattle.symbology.specs.Symbology.{frame, xdr_frame}
use Rattle.symbology.specs.Walk.{beam_span, xdr_radial_span, any_frame}
use Rattle.symbology.specs.declared.figures.Packet.{Packet}
use Rattle.symbology.specs.declared.figures.Packet.TheVariants.{Packet16, PacketAf1f, Packet28}

pub plain_beam : (packet : Packet) (radials bins r : ℕ) → Plain (frame packet radials bins r)
unfolding frame
plain_beam packet radials bins r =
    plain_then _ (λ avail. plain_by _ _ (plain_check _ _)
    (plain_then _ (λ count. plain_then _ (λ start. plain_then _ (λ width. plain_by _ _ (plain_check _ _)
    (plain_then _ (λ room. plain_by _ _ (plain_check _ _) (plain_give _)) _ plain_remaining)) _ plain_u16) _ plain_u16) _ plain_u16)) _ plain_remaining

plain_span : (packet : Packet) (radials bins r : ℕ) → Plain (beam_span packet radials bins r)
unfolding beam_span
plain_span packet radials bins r = plain_then _ (λ beam. plain_give _) _ (plain_beam packet radials bins r)

pub plain_xdr_frame : (radials r : ℕ) (expected : ℕ → ℕ) → Plain (xdr_frame radials r expected)
unfolding xdr_frame
plain_xdr_frame radials r expected =
    plain_then _ (λ azimuth. plain_by _ _ (plain_pass _ _)
    (plain_then _ (λ width. plain_then _ (λ bins. plain_by _ _ plain_string
    (plain_then _ (λ n.
    plain_by _ _ (plain_check _ _) (plain_by _ _ (plain_check _ _) (plain_by _ _ (plain_check _ _) (plain_by _ _ (plain_check _ _) (plain_give _)))))
    _ plain_array_count)) _ plain_int) _ plain_float)) _ plain_float

pub plain_frame : (packet : Packet) (radials bins r : ℕ) → Plain (any_frame packet radials bins r)
unfolding any_frame xdr_radial_span
plain_frame Packet16 radials bins r = plain_span Packet16 radials bins r
plain_frame PacketAf1f radials bins r = plain_span PacketAf1f radials bins r
plain_frame Packet28 radials bins r = plain_then _ (λ xdr. plain_give _) _ (plain_xdr_frame radials r _)
