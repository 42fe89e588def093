-- A field plan (document 02, M-104): its records, and the refusals 37, 38 and 39.
use Rattle.std.specs.Prelude.{Bool, true, false, not, cond, ◌&&◌, List, [], ◌∷◌, ◌++◌, ℕ, zero, suc, ◌+◌, ◌-◌, eqb, leb, ltb, length, get_or, Option, Some, None}
use Rattle.wire.specs.Result.{Result, accepted, refused}
use Rattle.wire.specs.Bytes.{u16_at}
use Rattle.wire.specs.Text.{member}
use Rattle.wire.specs.Refusal.{kind, nat}
use Rattle.fields.specs.declared.plan.Entry.{Entry}
use Rattle.fields.specs.declared.plan.Record.{Record}
use Rattle.fields.specs.declared.plan.Record.TheVariants.{Field, Strip, Malformed}

-- The record at an offset: a tag byte, a length halfword, the content. It is malformed where it is cut short, its tag is unknown or its length is wrong.
unfoldable pub record_at : List ℕ → ℕ → Record
record_at plan at =
    cond (leb (at + 5) (length plan) && (eqb (get_or plan at 0) 1 && eqb (u16_at plan (at + 1)) 2)) (Field (u16_at plan (at + 3)))
    (cond (leb (at + 11) (length plan) && (eqb (get_or plan at 0) 2 && eqb (u16_at plan (at + 1)) 8))
    (Strip (u16_at plan (at + 3)) (u16_at plan (at + 5)) (u16_at plan (at + 7)) (u16_at plan (at + 9)))
    Malformed)

abbrev pub size_of : Record → ℕ
size_of (Field n) = 5
size_of (Strip r g c w) = 11
size_of Malformed = 0

abbrev pub fields_in : Record → ℕ
fields_in (Field n) = 1
fields_in (Strip r g c w) = 0
fields_in Malformed = 0

abbrev pub strips_in : Record → ℕ
strips_in (Field n) = 0
strips_in (Strip r g c w) = 1
strips_in Malformed = 0

-- nothing is read after a malformed record
abbrev pub after : Record → List Entry → List Entry
after (Field n) es = es
after (Strip r g c w) es = es
after Malformed es = []

-- the records from an offset on, in at most so many steps
unfoldable pub entries_in : ℕ → List ℕ → ℕ → List Entry
entries_in zero plan at = []
entries_in (suc steps) plan at =
    cond (leb (length plan) at) []
    (record { at = at; item = record_at plan at } ∷ after (record_at plan at) (entries_in steps plan (at + size_of (record_at plan at))))

-- all of them: each has at least one byte, so there are no more than bytes left
unfoldable pub entries_from : List ℕ → ℕ → List Entry
entries_from plan at = entries_in (length plan - at) plan at

abbrev pub entries_of : List ℕ → List Entry
entries_of plan = entries_from plan 0

-- 37: a record is malformed, or it is a strip before any field, with gate count 0, or after 4,096 strips
abbrev pub bad : ℕ → ℕ → Record → Bool
bad fields strips (Field n) = false
bad fields strips (Strip r g c w) = not (leb 1 fields && (leb 1 c && ltb strips 4096))
bad fields strips Malformed = true

-- the offsets of such records, after so many fields and strips
unfoldable pub bad_at : ℕ → ℕ → List Entry → List ℕ
bad_at fields strips [] = []
bad_at fields strips (e ∷ es) =
    cond (bad fields strips e.item) (e.at ∷ bad_at (fields + fields_in e.item) (strips + strips_in e.item) es)
    (bad_at (fields + fields_in e.item) (strips + strips_in e.item) es)

-- the number that a record names
abbrev pub numbers_in : Record → List ℕ
numbers_in (Field n) = n ∷ []
numbers_in (Strip r g c w) = []
numbers_in Malformed = []

-- 38: a record names a number named before
abbrev pub repeats : List ℕ → Record → Bool
repeats named (Field n) = member n named
repeats named (Strip r g c w) = false
repeats named Malformed = false

-- the offsets of such records, after the numbers in `named`
unfoldable pub repeated_at : List ℕ → List Entry → List ℕ
repeated_at named [] = []
repeated_at named (e ∷ es) =
    cond (repeats named e.item) (e.at ∷ repeated_at (numbers_in e.item ++ named) es) (repeated_at (numbers_in e.item ++ named) es)

-- 39: a strip leaves the grid
abbrev pub leaves : ℕ → ℕ → Record → Bool
leaves radials bins (Field n) = false
leaves radials bins (Strip r g c w) = not (ltb r radials && leb (g + c) bins)
leaves radials bins Malformed = false

-- the offsets of such strips
unfoldable pub outside_at : ℕ → ℕ → List Entry → List ℕ
outside_at radials bins [] = []
outside_at radials bins (e ∷ es) = cond (leaves radials bins e.item) (e.at ∷ outside_at radials bins es) (outside_at radials bins es)

-- a refusal that names the first of some offsets
abbrev pub refuse_first : {A : Type 0} → ℕ → List ℕ → Result A → Result A
refuse_first n [] rest = rest
refuse_first n (o ∷ os) rest = refused (kind n (nat o ∷ []))

unfoldable pub field_count : List Entry → ℕ
field_count [] = 0
field_count (e ∷ es) = fields_in e.item + field_count es

unfoldable pub strip_count : List Entry → ℕ
strip_count [] = 0
strip_count (e ∷ es) = strips_in e.item + strip_count es

-- A plan on a grid: 37 over the whole plan, then 38 over the whole plan, then 39. An accepted one has so many fields.
unfoldable pub plan_of : List ℕ → ℕ → ℕ → Result ℕ
plan_of plan radials bins =
    refuse_first 37 (bad_at 0 0 (entries_of plan))
    (refuse_first 38 (repeated_at [] (entries_of plan))
    (refuse_first 39 (outside_at radials bins (entries_of plan))
    (accepted (field_count (entries_of plan)))))

-- the first of some offsets, as the walks answer it
abbrev pub first_of : List ℕ → Option ℕ
first_of [] = None
first_of (o ∷ os) = Some o
