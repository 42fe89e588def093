-- Demand 3: a radial's damage stays in its row. The terms of document 01 for any reading t of an accepted body s, and a second body s'.
use Rattle.std.specs.Prelude.{◌≡◌, ℕ, ◌+◌, ◌<◌, ◌≤◌, ◌≢◌, ◌⊎◌, ◌↔◌, List, [], length, get_or, slice_index, slice_index_or}
use Rattle.std.proofs.Math.Seq.{slice}
use Rattle.wire.specs.Refusal.{Refusal}
use Rattle.wire.specs.Result.{Result, accepted, refused}
use Rattle.wire.specs.Reading.{Read, Given, run, Frame, frames, Unread}

unfoldable pub no_frame : Frame
no_frame = record { start = 0; count = 0; row = λ bytes. accepted [] }

-- the row that the bytes of s at a frame's place make
unfoldable pub row_in : Frame → List ℕ → Result (List ℕ)
row_in f s = f.row (slice f.start (f.start + f.count) s)

-- position i holds a data byte of the frame
abbrev pub DataByte : Frame → ℕ → Type 0
DataByte f i = (f.start ≤ i) × (i < f.start + f.count)

module _ {W A : Type 0} (t : Read W A) (s : List ℕ) where
  -- how many radials, and radial r: the first body says where they stand
  unfoldable pub radial_count : ℕ
  radial_count = length (frames t s 0)

  unfoldable pub radial_at : ℕ → Frame
  radial_at r = slice_index_or (frames t s 0) r no_frame

  -- the bytes of s' at radial r's place in s
  unfoldable pub data_in : ℕ → List ℕ → List ℕ
  data_in r s' = slice (radial_at r).start ((radial_at r).start + (radial_at r).count) s'

  -- s' differs from s just in data bytes of radials and in unread bytes
  pub record Damage (s' : List ℕ) : Type 0 where
    pub same_length : length s' ≡ length s
    pub only : (i : ℕ) → i < length s → slice_index s i ≢ slice_index s' i
        → Unread t s 0 i ⊎ ((r : ℕ) × (r < radial_count) × DataByte (radial_at r) i)

  -- radial r is changed: one of its data bytes differs
  pub record Changed (s' : List ℕ) (r : ℕ) : Type 0 where
    pub at : ℕ
    pub data_byte : DataByte (radial_at r) at
    pub differs : get_or s at 0 ≢ slice_index s' at

  -- the bytes of s' at radial r's place make a row
  abbrev pub MakesRow : List ℕ → ℕ → Type 0
  MakesRow s' r = (codes : List ℕ) × (row_in (radial_at r) s' ≡ accepted codes)

  -- What the reading of s' gives, where that of s gave g.
  pub record Contained (s' : List ℕ) (g : Given A) : Type 0 where
    -- refused exactly when some changed radial's data no longer make a row
    pub exactly : ((x : Refusal) × (run t s' 0 ≡ refused x)) ↔ ((r : ℕ) × (r < radial_count) × Changed s' r × ¬ (MakesRow s' r))
    -- the refusal is the one that the lowest such radial's data have
    pub lowest : (r : ℕ) (x : Refusal) → r < radial_count → Changed s' r → row_in (radial_at r) s' ≡ refused x
        → ((q : ℕ) → q < r → Changed s' q → MakesRow s' q) → run t s' 0 ≡ refused x
    -- otherwise all but the changed rows is as it was, and each changed row is the one its own data make
    pub otherwise : ((r : ℕ) → r < radial_count → Changed s' r → MakesRow s' r)
        → (g' : Given A) × (run t s' 0 ≡ accepted g') × (g'.value ≡ g.value) × (g'.next ≡ g.next) × (length g'.rows ≡ length g.rows)
        × ((r : ℕ) → r < radial_count → ¬ (Changed s' r) → slice_index_or g'.rows r [] ≡ slice_index_or g.rows r [])
        × ((r : ℕ) → r < radial_count → Changed s' r → row_in (radial_at r) s' ≡ accepted (slice_index_or g'.rows r []))
