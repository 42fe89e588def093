-- XdrCursor: a payload and a position in it. A read answers by the item's reading from the position on, and leaves the same payload at
-- the position where the reading ended, after a refusal too.
use Rattle.std.specs.Prelude.{◌≡◌, ℕ, ◌+◌, List, length}
use Rattle.std.specs.Prelude as Std
use Rattle.std.specs.Borrow.{Bor}
use Rattle.std.proofs.Math.Seq.{slice}
use Rattle.wire.specs.Refusal.{refusal_of}
use Rattle.wire.specs.Reading.{Flat, Ended, passed, halted, walk}
use Rattle.wire.specs.Text.{is_zero, trim_end}
use Rattle.wire.specs.declared.error.Level3DecodeError.{Level3DecodeError}
use Rattle.xdr.specs.declared.xdr.Part.{Part}
use Rattle.xdr.specs.declared.xdr.XdrCursor.{XdrCursor}

-- a payload from a position on, and from its first byte on
abbrev pub from_place : Bor (List ℕ) → ℕ → XdrCursor
from_place payload at = record { buf = payload; pos = at }

abbrev pub start : Bor (List ℕ) → XdrCursor
start payload = from_place payload 0

-- a reading from the cursor's position on
abbrev pub read_at : {A : Type 0} → Flat A → XdrCursor → Ended A
read_at t c = walk t c.buf.now c.pos

-- the position where a reading ended
abbrev pub end_of : {A : Type 0} → Ended A → ℕ
end_of (passed a n) = n
end_of (halted x n) = n

-- a function's result and the position where it ended
abbrev pub ended : {A : Type 0} → Std.Result A Level3DecodeError → ℕ → Ended A
ended (Std.Ok a) p = passed a p
ended (Std.Err e) p = halted (refusal_of e) p

-- What a read leaves of the cursor c: its result and the position after it are as e has them, and the payload stays.
pub record Leaves {A : Type 0} (e : Ended A) (r : Std.Result A Level3DecodeError) (c c' : XdrCursor) : Type 0 where
  pub answered : ended r c'.pos ≡ e
  pub kept : c'.buf ≡ c.buf

-- a test at the cursor's position, which stays
abbrev pub Tests : {A : Type 0} → Flat A → Std.Result A Level3DecodeError → XdrCursor → Type 0
Tests t r c = ended r c.pos ≡ read_at t c

-- another value in its place
abbrev pub mapped : {A B : Type 0} → (A → B) → Ended A → Ended B
mapped f (passed a n) = passed (f a) n
mapped f (halted x n) = halted x n

-- no value
abbrev pub done : {A : Type 0} → Ended A → Ended (Unit {0})
done = mapped (λ _. tt)

-- the part that n bytes of s from a place on occupy, zero bytes at their end trimmed
abbrev pub trimmed_part : List ℕ → ℕ → ℕ → Part
trimmed_part s at n = record { start = at; len = length (trim_end is_zero (slice at (at + n) s)) }

-- the part of a string, and of an integer array, whose count stands at the position
abbrev pub string_part : List ℕ → ℕ → Ended ℕ → Ended Part
string_part s at = mapped (trimmed_part s (at + 4))

abbrev pub array_part : ℕ → Ended ℕ → Ended Part
array_part at = mapped (λ n. record { start = at + 4; len = n })
