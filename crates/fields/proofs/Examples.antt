-- Small plans, computed. Assumes nothing.
use Rattle.std.specs.Prelude.{None}
use Rattle.wire.specs.Bytes.{u16_at}
use mathlib.Core.Path.{◌≡◌, refl}
use mathlib.Core.List.{List, [], ◌∷◌}
use Prim.Native.Nat.{ℕ}
use Rattle.wire.specs.Result.{accepted, refused}
use Rattle.wire.specs.Refusal.{kind, nat}
use Rattle.fields.specs.Plan.{record_at, entries_in, entries_from, entries_of, bad_at, repeated_at, outside_at, field_count, plan_of}
use Rattle.fields.specs.Totals.{counts, sum, strip_total, own_total, totals, items, grid}

-- an empty plan
pub empty : plan_of [] 2 3 ≡ accepted 0
unfolding plan_of entries_from entries_in bad_at repeated_at outside_at field_count
empty = refl

-- a strip before any field
pub strip_first : plan_of (2 ∷ 0 ∷ 8 ∷ 0 ∷ 0 ∷ 0 ∷ 0 ∷ 0 ∷ 1 ∷ 0 ∷ 1 ∷ []) 2 3 ≡ refused (kind 37 (nat 0 ∷ []))
unfolding plan_of entries_from entries_in record_at u16_at bad_at repeated_at outside_at field_count
strip_first = refl

-- field 7, field 7: 38 with the second's offset
pub twice : plan_of (1 ∷ 0 ∷ 2 ∷ 0 ∷ 7 ∷ 1 ∷ 0 ∷ 2 ∷ 0 ∷ 7 ∷ []) 2 3 ≡ refused (kind 38 (nat 5 ∷ []))
unfolding plan_of entries_from entries_in record_at u16_at bad_at repeated_at outside_at field_count
twice = refl

-- and a byte after them: 37 comes first, with its offset
pub twice_and_cut : plan_of (1 ∷ 0 ∷ 2 ∷ 0 ∷ 7 ∷ 1 ∷ 0 ∷ 2 ∷ 0 ∷ 7 ∷ 1 ∷ []) 2 3 ≡ refused (kind 37 (nat 10 ∷ []))
unfolding plan_of entries_from entries_in record_at u16_at bad_at repeated_at outside_at field_count
twice_and_cut = refl

-- field 7 with a strip of radial 1, gates 1 and 2, weight 3, then field 9 with none
abbrev small : List ℕ
small = 1 ∷ 0 ∷ 2 ∷ 0 ∷ 7 ∷ 2 ∷ 0 ∷ 8 ∷ 0 ∷ 1 ∷ 0 ∷ 1 ∷ 0 ∷ 2 ∷ 0 ∷ 3 ∷ 1 ∷ 0 ∷ 2 ∷ 0 ∷ 9 ∷ []

pub small_accepted : plan_of small 2 3 ≡ accepted 2
unfolding plan_of entries_from entries_in record_at u16_at bad_at repeated_at outside_at field_count
small_accepted = refl

-- it leaves a grid of one radial, and one of two gates
pub small_radial : plan_of small 1 3 ≡ refused (kind 39 (nat 5 ∷ []))
unfolding plan_of entries_from entries_in record_at u16_at bad_at repeated_at outside_at field_count
small_radial = refl

pub small_gate : plan_of small 2 2 ≡ refused (kind 39 (nat 5 ∷ []))
unfolding plan_of entries_from entries_in record_at u16_at bad_at repeated_at outside_at field_count
small_gate = refl

-- floor 1: codes 5 and 9 count 4 and 8
pub small_totals : totals (grid (0 ∷ 0 ∷ 0 ∷ 0 ∷ 5 ∷ 9 ∷ []) 3 1 None) (items (entries_of small)) ≡ 36 ∷ 0 ∷ []
unfolding entries_from entries_in record_at u16_at counts sum strip_total own_total totals
small_totals = refl
