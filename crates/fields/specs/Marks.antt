-- How 38 is decided: a mark for each number that a field may have.
use Rattle.std.specs.Prelude.{Bool, true, false, List, ◌<◌, get_or, set}
use Rattle.fields.specs.declared.plan.Record.{Record}
use Rattle.fields.specs.declared.plan.Record.TheVariants.{Field, Strip, Malformed}

-- a record names a number that is marked
abbrev pub again : List Bool → Record → Bool
again marks (Field n) = get_or marks n false
again marks (Strip r g c w) = false
again marks Malformed = false

-- the marks once a record is read
abbrev pub marked : List Bool → Record → List Bool
marked marks (Field n) = set marks n true
marked marks (Strip r g c w) = marks
marked marks Malformed = marks

-- a field's number is a halfword
abbrev pub Halfword : Record → Type 0
Halfword (Field n) = n < 65536
Halfword (Strip r g c w) = Unit
Halfword Malformed = Unit
