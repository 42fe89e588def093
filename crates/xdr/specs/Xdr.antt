-- XDR items (RFC 4506; xdr.rs) as readings. A read past the payload's end is 23, with the item, the bytes left and the bytes needed.
use Rattle.std.specs.Prelude.{ℕ, zero, suc, ◌*◌, ◌-◌, ◌%◌, List, [], ◌∷◌, cond, ltb, ℤ, pos, negsuc, Float}
use Rattle.std.specs.Int.Signed.{lt_z}
use Rattle.std.specs.Float.{binary32}
use Rattle.std.specs.Float.Ieee.{of_bits}
use Rattle.wire.specs.Bytes.{signed}
use Rattle.wire.specs.Refusal.{kind, nat, whole, item}
use Rattle.wire.specs.Reading.{Flat, give, ◌>>=◌, ◌>>◌, remaining, u32, unread, refuse_if, Ended, passed, halted}
use Rattle.wire.specs.declared.error.XdrItem.{XdrItem}
use Rattle.wire.specs.declared.error.XdrItem.TheVariants as Item

-- 23 where fewer than `need` bytes are left
unfoldable pub short : XdrItem → ℕ → Flat (Unit {0})
short i need = do
  have ← remaining
  refuse_if (ltb have need) (kind 23 (item i ∷ nat have ∷ nat need ∷ []))

-- n bytes that are passed over
unfoldable pub pass : XdrItem → ℕ → Flat (Unit {0})
pass i n = do
  short i n
  unread n

-- four bytes as an unsigned number
unfoldable pub word : XdrItem → Flat ℕ
word i = do
  short i 4
  u32

unfoldable pub uint : Flat ℕ
uint = word Item.Uint

unfoldable pub int : Flat ℤ
int = do
  n ← word Item.Int
  give (signed 2147483648 n)

unfoldable pub float : Flat Float
float = do
  n ← word Item.Float
  give (of_bits binary32 n)

-- the bytes that fill n up to a multiple of four
abbrev pub padding : ℕ → ℕ
padding n = (4 - n % 4) % 4

unfoldable pub string_body : ℕ → Flat (Unit {0})
string_body n = do
  pass Item.StringBody n
  pass Item.Padding (padding n)

-- a string: a length of at most 4,096, which it gives, the body, and the padding to four
unfoldable pub string : Flat ℕ
string = do
  n ← uint
  refuse_if (ltb 4096 n) (kind 24 (nat n ∷ nat 4096 ∷ []))
  string_body n
  give n

-- the count of an integer array, at most 100,000, whose body is there
unfoldable pub array_count : Flat ℕ
array_count = do
  n ← uint
  refuse_if (ltb 100000 n) (kind 25 (nat n ∷ nat 100000 ∷ []))
  short Item.ArrayBody (n * 4)
  give n

unfoldable pub int_array : Flat ℕ
int_array = do
  n ← array_count
  unread (n * 4)
  give n

-- the pointer of a list: four bytes that are passed over
unfoldable pub pointer : Flat (Unit {0})
pointer = pass Item.Int 4

-- max(0, n): a list's count at or below 0 is empty
abbrev pub at_least0 : ℤ → ℕ
at_least0 (pos n) = n
at_least0 (negsuc n) = 0

-- a list's head: the count and one pointer, then 26 above 10,000. It gives the number of elements
unfoldable pub list_head : Flat ℕ
list_head = do
  n ← int
  pointer  -- the first
  refuse_if (lt_z (pos 10000) n) (kind 26 (whole n ∷ whole (pos 10000) ∷ []))
  give (at_least0 n)

-- n further elements, each after a pointer
unfoldable pub further : {A : Type 0} → Flat A → ℕ → Flat (List A)
further e zero = give []
further e (suc n) = do
  pointer
  a ← e
  rest ← further e n
  give (a ∷ rest)

-- n elements, a pointer between any two
unfoldable pub elements : {A : Type 0} → Flat A → ℕ → Flat (List A)
elements e zero = give []
elements e (suc n) = do
  a ← e
  rest ← further e n
  give (a ∷ rest)

-- a counted list
unfoldable pub counted : {A : Type 0} → Flat A → Flat (List A)
counted e = do
  n ← list_head
  elements e n

-- a parameter: a name and its value
unfoldable pub parameter : Flat (Unit {0})
parameter = do
  string
  string
  give tt

-- what follows a list's pointer, as the code has it
abbrev pub list_count : ℤ → ℕ → Ended ℕ
list_count n at = cond (lt_z (pos 10000) n) (halted (kind 26 (whole n ∷ whole (pos 10000) ∷ [])) at) (passed (at_least0 n) at)
