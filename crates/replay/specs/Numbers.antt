-- The library's numbers for the kinds of a field, the schemes and the XDR items; the next number for none of them. Assumes nothing.
use Rattle.std.specs.Prelude.{ℕ, Option, Some, None}
use Rattle.replay.specs.declared.kinds.FieldKind.{FieldKind}
use Rattle.replay.specs.declared.kinds.FieldKind.TheVariants.{I16, U16, I32, Pair}
use Rattle.replay.specs.declared.kinds.Scheme.{Scheme}
use Rattle.replay.specs.declared.kinds.Scheme.TheVariants.{Halfword, Precipitation, Legacy, Class, Float as FloatScheme}
use Rattle.replay.specs.declared.kinds.Item.{Item}
use Rattle.replay.specs.declared.kinds.Item.TheVariants.{Int, Uint, String, Array, List, Float as FloatItem}

abbrev pub number_of_kind : Option FieldKind → ℕ
number_of_kind (Some I16) = 0
number_of_kind (Some U16) = 1
number_of_kind (Some I32) = 2
number_of_kind (Some Pair) = 3
number_of_kind None = 4

abbrev pub number_of_scheme : Option Scheme → ℕ
number_of_scheme (Some Halfword) = 0
number_of_scheme (Some FloatScheme) = 1
number_of_scheme (Some Precipitation) = 2
number_of_scheme (Some Legacy) = 3
number_of_scheme (Some Class) = 4
number_of_scheme None = 5

abbrev pub number_of_item : Option Item → ℕ
number_of_item (Some Int) = 0
number_of_item (Some Uint) = 1
number_of_item (Some FloatItem) = 2
number_of_item (Some String) = 3
number_of_item (Some Array) = 4
number_of_item (Some List) = 5
number_of_item None = 6
