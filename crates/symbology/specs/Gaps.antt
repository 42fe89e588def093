-- What turns into a gap: 22 and 34 alone.
use Rattle.std.specs.Prelude.{◌≡◌, ℕ, ◌⊎◌, List}
use Rattle.wire.specs.Refusal.{Refusal, Value, kind}
use Rattle.symbology.specs.declared.figures.Packet.{Packet}
use Rattle.symbology.specs.declared.figures.Packet.TheVariants.{Packet16, PacketAf1f, Packet28}

-- the refusal x has this number
abbrev pub Numbered : ℕ → Refusal → Type 0
Numbered n x = (values : List Value) × (x ≡ kind n values)

-- the refusals that data can have for a row: none in packet 16, 22 in AF1F, 34 in packet 28
unfoldable pub RowRefusal : Packet → Refusal → Type 0
RowRefusal Packet16 x = ⊥
RowRefusal PacketAf1f x = Numbered 22 x
RowRefusal Packet28 x = Numbered 34 x

abbrev pub TurnsIntoGap : Refusal → Type 0
TurnsIntoGap x = Numbered 22 x ⊎ Numbered 34 x
