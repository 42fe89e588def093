-- A small language for readings of bytes. A reading says piece by piece what is read, what is passed over unread and what is a radial's
-- data, so one text gives the answer (`run`), the position where it ends (`walk`), the places of the radials' data (`frames`), the unread
-- bytes (`Unread`) and the pieces with their sizes (`pieces`), and the same reading with gaps (`gaps`). What follows a radial's data does not receive the row that they make.
use Rattle.std.specs.Prelude.{ℕ, ◌+◌, ◌-◌, ◌≤◌, ◌<◌, min, List, [], ◌∷◌, ◌⊎◌, Bool, true, false, length, take}
use Rattle.std.proofs.Math.Seq.{slice}
use Rattle.wire.specs.Bytes.{u16_at, u32_at}
use Rattle.wire.specs.Refusal.{Refusal}
use Rattle.wire.specs.Result.{Result, accepted, refused}

pub data Width : Type 0 where
  half word : Width

abbrev pub size : Width → ℕ
size half = 2
size word = 4

-- the big-endian number at a position
abbrev pub value_at : Width → List ℕ → ℕ → ℕ
value_at half = u16_at
value_at word = u32_at

-- W is empty where a reading has no inner part; only such a reading may be followed by another.
pub data Read (W A : Type 0) : Type 0 where
  -- the end, with a value
  give : A → Read W A
  -- refused
  stop : Refusal → Read W A
  -- how many bytes are left
  left : (ℕ → Read W A) → Read W A
  -- so many bytes, unread
  skip : ℕ → Read W A → Read W A
  -- a number of two or four bytes. A byte past the end counts 0, so a reading asks first how many are left
  number : Width → (ℕ → Read W A) → Read W A
  -- so many bytes that are a radial's data, and the row that they make or the radial's refusal
  data_row : ℕ → (List ℕ → Result (List ℕ)) → Read W A → Read W A
  -- a reading of so many bytes from here on as if they were all; what stands after them is unread
  within : W → ℕ → Read W A → Read W A

abbrev pub Flat : Type 0 → Type 0
Flat A = Read ⊥ A

module _ {W A B : Type 0} where
  infixl 40 ◌>>=◌
  infixl 40 ◌>>◌
  unfoldable pub ◌>>=◌ : Flat A → (A → Read W B) → Read W B
  give a >>= f = f a
  stop x >>= f = stop x
  left g >>= f = left (λ n. g n >>= f)
  skip k t >>= f = skip k (t >>= f)
  number w g >>= f = number w (λ v. g v >>= f)
  data_row k row t >>= f = data_row k row (t >>= f)
  within w k t >>= f = absurd w

  unfoldable pub ◌>>◌ : Flat A → Read W B → Read W B
  unfolding ◌>>=◌
  t >> u = t >>= λ _. u

-- the pieces by name
unfoldable pub remaining : Flat ℕ
remaining = left give

unfoldable pub u16 : Flat ℕ
u16 = number half give

unfoldable pub u32 : Flat ℕ
u32 = number word give

unfoldable pub unread : ℕ → Flat (Unit {0})
unread k = skip k (give tt)

unfoldable pub radial_data : ℕ → (List ℕ → Result (List ℕ)) → Flat (Unit {0})
radial_data k row = data_row k row (give tt)

-- refused with x if the test holds
unfoldable pub refuse_if : Bool → Refusal → Flat (Unit {0})
refuse_if true x = stop x
refuse_if false x = give tt

-- ---- the answer

-- What a reading gives: its value, the position after it, and the rows in order.
pub record Given (A : Type 0) : Type 0 where
  pub value : A
  pub next : ℕ
  pub rows : List (List ℕ)

module _ {A : Type 0} where
  unfoldable pub more : List ℕ → Result (Given A) → Result (Given A)
  more codes (accepted g) = accepted (record { value = g.value; next = g.next; rows = codes ∷ g.rows })
  more codes (refused x) = refused x

  unfoldable pub after_row : Result (List ℕ) → Result (Given A) → Result (Given A)
  after_row (accepted codes) r = more codes r
  after_row (refused x) r = refused x

module _ {W A : Type 0} where
  -- the answer of a reading of s from position p
  unfoldable pub run : Read W A → List ℕ → ℕ → Result (Given A)
  run (give a) s p = accepted (record { value = a; next = p; rows = [] })
  run (stop x) s p = refused x
  run (left f) s p = run (f (length s - p)) s p
  run (skip k t) s p = run t s (p + k)
  run (number w f) s p = run (f (value_at w s p)) s (p + size w)
  run (data_row k row t) s p = after_row (row (slice p (p + k) s)) (run t s (p + k))
  run (within w k t) s p = run t (take (p + k) s) p

-- ---- where it ends

-- A value and the position after it, or a refusal and the position at which the reading stopped: after the last whole take.
pub data Ended (A : Type 0) : Type 0 where
  passed : A → ℕ → Ended A
  halted : Refusal → ℕ → Ended A

-- go on from there; a refusal stays as it is
abbrev pub onward : {A B : Type 0} → Ended A → (A → ℕ → Ended B) → Ended B
onward (passed a p) f = f a p
onward (halted x p) f = halted x p

-- its answer
abbrev pub outcome : {A : Type 0} → Ended A → Result A
outcome (passed a p) = accepted a
outcome (halted x p) = refused x

-- its answer, and the position after the value
abbrev pub reached : {A : Type 0} → Ended A → Result (A × ℕ)
reached (passed a p) = accepted (a, p)
reached (halted x p) = refused x

abbrev pub past_row : {A : Type 0} → Result (List ℕ) → ℕ → Ended A → Ended A
past_row (accepted codes) p e = e
past_row (refused x) p e = halted x p

module _ {W A : Type 0} where
  -- the same reading without its rows
  unfoldable pub walk : Read W A → List ℕ → ℕ → Ended A
  walk (give a) s p = passed a p
  walk (stop x) s p = halted x p
  walk (left f) s p = walk (f (length s - p)) s p
  walk (skip k t) s p = walk t s (p + k)
  walk (number w f) s p = walk (f (value_at w s p)) s (p + size w)
  walk (data_row k row t) s p = past_row (row (slice p (p + k) s)) (p + k) (walk t s (p + k))
  walk (within w k t) s p = walk t (take (p + k) s) p

-- ---- what the bytes are

-- Where a radial's data stand, and what row they make.
pub record Frame : Type 0 where
  pub start : ℕ
  pub count : ℕ
  pub row : List ℕ → Result (List ℕ)

-- The pieces that a reading goes through, with their sizes.
pub data Piece : Type 0 where
  as_number as_unread as_data : ℕ → Piece

module _ {W A : Type 0} where
  -- the radials' data, in order
  unfoldable pub frames : Read W A → List ℕ → ℕ → List Frame
  frames (give a) s p = []
  frames (stop x) s p = []
  frames (left f) s p = frames (f (length s - p)) s p
  frames (skip k t) s p = frames t s (p + k)
  frames (number w f) s p = frames (f (value_at w s p)) s (p + size w)
  frames (data_row k row t) s p = record { start = p; count = min k (length s - p); row = row } ∷ frames t s (p + k)
  frames (within w k t) s p = frames t (take (p + k) s) p

  -- position i is passed over unread, or stands after all that is read
  unfoldable pub Unread : Read W A → List ℕ → ℕ → ℕ → Type 0
  Unread (give a) s p i = p ≤ i
  Unread (stop x) s p i = p ≤ i
  Unread (left f) s p i = Unread (f (length s - p)) s p i
  Unread (skip k t) s p i = ((p ≤ i) × (i < p + k)) ⊎ Unread t s (p + k) i
  Unread (number w f) s p i = Unread (f (value_at w s p)) s (p + size w) i
  Unread (data_row k row t) s p i = Unread t s (p + k) i
  Unread (within w k t) s p i = (p + k ≤ i) ⊎ Unread t (take (p + k) s) p i

  unfoldable pub pieces : Read W A → List ℕ → ℕ → List Piece
  pieces (give a) s p = []
  pieces (stop x) s p = []
  pieces (left f) s p = pieces (f (length s - p)) s p
  pieces (skip k t) s p = as_unread k ∷ pieces t s (p + k)
  pieces (number w f) s p = as_number (size w) ∷ pieces (f (value_at w s p)) s (p + size w)
  pieces (data_row k row t) s p = as_data k ∷ pieces t s (p + k)
  pieces (within w k t) s p = pieces t (take (p + k) s) p

-- ---- with gaps

-- What a radial's data give in a reading with gaps: the mark 0 and the codes of their row; where they make none, the mark 1 alone.
abbrev pub marked : Result (List ℕ) → List ℕ
marked (accepted codes) = 0 ∷ codes
marked (refused x) = 1 ∷ []

module _ {W A : Type 0} where
  -- the same reading, which no radial's data stop: all its other refusals stand where they stood
  unfoldable pub gaps : Read W A → Read W A
  gaps (give a) = give a
  gaps (stop x) = stop x
  gaps (left f) = left (λ n. gaps (f n))
  gaps (skip k t) = skip k (gaps t)
  gaps (number w f) = number w (λ n. gaps (f n))
  gaps (data_row k row t) = data_row k (λ bytes. accepted (marked (row bytes))) (gaps t)
  gaps (within w k t) = within w k (gaps t)
