-- What an entry of the library returns, and what it leaves in the buffers of its report.
use Rattle.std.specs.Prelude.{◌≡◌, ℕ, zero, suc, ◌-◌, Bool, cond, ◌||◌, List, [], ◌∷◌, ◌++◌, length, drop, replicate, ℤ, pos, negsuc, nat_lt, slice_set, Float}
use Rattle.wire.specs.Float.{f64}
use Rattle.wire.specs.Refusal.{Refusal, kind, Value, whole, float, item, buffer}
use Rattle.wire.specs.Result.{Result, accepted, refused, lent}
use Rattle.wire.specs.Reading.{Ended, passed, halted}
use Rattle.wire.specs.declared.error.XdrItem.{XdrItem}
use Rattle.wire.specs.declared.error.XdrItem.TheVariants as Item
use Rattle.wire.specs.declared.error.Buffer.{Buffer}
use Rattle.capi.specs.declared.report.Report.{Report}

-- ---- a report

-- its places for whole numbers, and for floats
abbrev pub whole_places : ℕ
whole_places = 24

abbrev pub float_places : ℕ
float_places = 8

-- a whole number as a 64-bit word, two's complement
abbrev pub word : ℤ → ℕ
word (pos n) = n
word (negsuc n) = 18446744073709551615 - n

-- xs, then d up to n places
abbrev pub padded : {A : Type 0} → ℕ → A → List A → List A
padded n d xs = xs ++ replicate (n - length xs) d

-- a number, whole numbers and floats; the other places are 0
abbrev pub report : ℕ → List ℕ → List Float → Report
report n ints floats = record { number = n; ints = padded whole_places 0 ints; floats = padded float_places (f64 0 1) floats }

abbrev pub item_number : XdrItem → ℕ
item_number Item.Int = 0
item_number Item.Uint = 1
item_number Item.Float = 2
item_number Item.StringBody = 3
item_number Item.Padding = 4
item_number Item.ArrayBody = 5
item_number Item.PacketBody = 6

abbrev pub buffer_number : Buffer → ℕ
buffer_number Buffer.Azimuths = 0
buffer_number Buffer.Codes = 1
buffer_number Buffer.Physical = 2
buffer_number Buffer.Marks = 3
buffer_number Buffer.Totals = 4
buffer_number Buffer.Output = 5

-- a refusal's whole numbers in order, items and buffers by their numbers
abbrev pub wholes_in : List Value → List ℕ
wholes_in [] = []
wholes_in (whole z ∷ vs) = word z ∷ wholes_in vs
wholes_in (float x ∷ vs) = wholes_in vs
wholes_in (item i ∷ vs) = item_number i ∷ wholes_in vs
wholes_in (buffer b ∷ vs) = buffer_number b ∷ wholes_in vs

-- its floats in order
abbrev pub floats_in : List Value → List Float
floats_in [] = []
floats_in (whole z ∷ vs) = floats_in vs
floats_in (float x ∷ vs) = x ∷ floats_in vs
floats_in (item i ∷ vs) = floats_in vs
floats_in (buffer b ∷ vs) = floats_in vs

abbrev pub refusal_report : Refusal → Report
refusal_report (kind n values) = report n (wholes_in values) (floats_in values)

-- the report of an accepted value, or of the refusal
abbrev pub report_of : {A : Type 0} → Result A → (A → Report) → Report
report_of (accepted a) f = f a
report_of (refused x) f = refusal_report x

-- a report with n in one of the places for whole numbers
abbrev pub with_place : Report → ℕ → ℕ → Report
with_place r place n = record { number = r.number; ints = slice_set r.ints place n; floats = r.floats }

-- with a position in its place
abbrev pub with_position : Report → ℕ → Report
with_position r at = with_place r 15 at

-- the report of a read that ended: its value or its refusal, and the position where it ended
abbrev pub ended_report : {A : Type 0} → Ended A → (A → Report) → Report
ended_report (passed a at) f = with_position (f a) at
ended_report (halted x at) f = with_position (refusal_report x) at

-- ---- what an entry leaves

-- What an entry has to say, or the number with which it fails: 100 where a buffer of the report is too short, 101 for an argument that
-- the entry does not take. An entry that fails writes nothing.
pub data Said (A : Type 0) : Type 0 where
  said : A → Said A
  failed : ℕ → Said A

-- another thing to say in its place
abbrev pub saying : {A B : Type 0} → (A → B) → Said A → Said B
saying f (said a) = said (f a)
saying f (failed n) = failed n

-- the thing with the number n, from 0; 101 where there is none
unfoldable pub choice : {A : Type 0} → ℕ → List A → Said A
choice n [] = failed 101
choice zero (a ∷ rest) = said a
choice (suc n) (a ∷ rest) = choice n rest

-- whether the report has too few places for whole numbers or for floats
abbrev pub short : ℕ → ℕ → Bool
short ints floats = nat_lt ints whole_places || nat_lt floats float_places

-- 100 comes first
abbrev pub room_first : {A : Type 0} → List ℕ → List Float → Said A → Said A
room_first ints floats s = cond (short (length ints) (length floats)) (failed 100) s

-- xs at the front of a buffer, whose later places keep their contents
abbrev pub over : {A : Type 0} → List A → List A → List A
over xs old = xs ++ drop (length xs) old

abbrev pub number_of : Said Report → ℕ
number_of (said r) = r.number
number_of (failed n) = n

abbrev pub ints_after : Said Report → List ℕ → List ℕ
ints_after (said r) old = over r.ints old
ints_after (failed n) old = old

abbrev pub floats_after : Said Report → List Float → List Float
floats_after (said r) old = over r.floats old
floats_after (failed n) old = old

-- An entry that has s to say returns `number`, and leaves `ints` and `floats`, the buffers of its report, as `ints'` and `floats'`.
pub record Leaves (s : Said Report) (number : ℕ) (ints ints' : List ℕ) (floats floats' : List Float) : Type 0 where
  pub returned : number ≡ number_of (room_first ints floats s)
  pub ints_left : ints' ≡ ints_after (room_first ints floats s) ints
  pub floats_left : floats' ≡ floats_after (room_first ints floats s) floats

-- a lent buffer afterwards: untouched where the entry fails or refuses
abbrev pub lent_by : {A B : Type 0} → Said (Result A) → (A → List B) → List B → List B
lent_by (said r) new old = lent r new old
lent_by (failed n) new old = old

-- ---- an entry without a report

-- 0, or the number with which it fails
abbrev pub plain_number : {A : Type 0} → Said A → ℕ
plain_number (said a) = 0
plain_number (failed n) = n

-- what it has to say is laid over a lent buffer
abbrev pub plain_after : {A : Type 0} → Said (List A) → List A → List A
plain_after (said xs) old = over xs old
plain_after (failed n) old = old
