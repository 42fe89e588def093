-- What M-101 asks of the reading with gaps, beside its definition: what damage does to it, when it is the ordinary reading, and which
-- refusals it keeps. As in demand 3, all of damage is said in document 01's words.
use Rattle.std.specs.Prelude.{ℕ, ◌+◌, ◌*◌, ◌<◌, List, [], ◌∷◌, map, ◌⊎◌, ◌↔◌, ◌≡◌, length, get_or, take, replicate, Float}
use Rattle.std.specs.Prelude as Std
use Rattle.std.specs.Float.{nan}
use Rattle.wire.specs.Refusal.{Refusal, kind, buffer}
use Rattle.wire.specs.Result.{accepted, refused}
use Rattle.wire.specs.declared.error.Buffer.TheVariants as Buffer
use Rattle.head.specs.Header.{message_header}
use Rattle.scale.specs.Physical.{physical_of}
use Rattle.scale.specs.declared.physical.Scheme.{Scheme}
use Rattle.symbology.specs.declared.figures.Figures.{Figures}
use Rattle.symbology.specs.Gaps.{TurnsIntoGap}
use Rattle.symbology.specs.Rows.{row_of}
use Rattle.symbology.specs.Words.{data_of, ChangedIn}
use Rattle.sweep.specs.declared.sweep.Sweep.{Sweep}
use Rattle.sweep.specs.Sweep.{Accepted, sweep_of, Buffers, SweepAnswer}
use Rattle.sweep.specs.GapSweep.{GapSweep, gap_sweep_of, GapBuffers}
use Rattle.sweep.specs.Demand3.{row_at}
use Rattle.sweep.specs.InWords.{RowInWords}

-- ---- damage

-- What the rows of b', read with gaps, have to do with those of b, an accepted body with the figures f: `codes'`, `physical'` and `marks`
-- hold what b' gave, `codes` and `physical` the rows of b.
pub record GapRows (scheme : Scheme) (file : List ℕ) (f : Figures) (b b' : List ℕ) (codes codes' : List ℕ) (physical physical' : List Float) (marks : List ℕ) : Type 0 where
  -- a mark is 1 at precisely the radials whose changed data make no row, and else 0
  pub gap : (r : ℕ) → r < f.n_radials
      → (get_or marks r 0 ≡ 1) ↔ (ChangedIn f.packet b b' r × ¬ (RowInWords f.packet f.n_bins (data_of f.packet b r b')))
  pub whole : (r : ℕ) → r < f.n_radials → ¬ (get_or marks r 0 ≡ 1) → get_or marks r 0 ≡ 0
  -- a gap has code 0 and NaN
  pub gap_row : (r : ℕ) → r < f.n_radials → get_or marks r 0 ≡ 1
      → (row_at f.n_bins r codes' ≡ replicate f.n_bins 0) × (row_at f.n_bins r physical' ≡ replicate f.n_bins nan)
  -- an unchanged row equals the first's
  pub unchanged : (r : ℕ) → r < f.n_radials → ¬ (ChangedIn f.packet b b' r)
      → (row_at f.n_bins r codes' ≡ row_at f.n_bins r codes) × (row_at f.n_bins r physical' ≡ row_at f.n_bins r physical)
  -- a row that data make, changed or not, is the one they make
  pub made : (r : ℕ) → r < f.n_radials → RowInWords f.packet f.n_bins (data_of f.packet b r b')
      → row_of f.packet f.n_bins r (data_of f.packet b r b') ≡ accepted (row_at f.n_bins r codes')
  -- its physical values are those its codes have under the scheme and the file bytes; the block starts at message header + 18
  pub header : ℕ
  pub header_is : message_header file ≡ accepted header
  pub values : (r : ℕ) → r < f.n_radials → RowInWords f.packet f.n_bins (data_of f.packet b r b')
      → row_at f.n_bins r physical' ≡ map (physical_of scheme file (header + 18)) (row_at f.n_bins r codes')

-- The ordinary reading of b gives p; b' is read with gaps, and with a mark buffer of `nm` places: it is accepted.
pub record GapKept (scheme : Scheme) (file : List ℕ) (clock : ℕ) (b b' : List ℕ) (na nc np nm : ℕ) (p : Accepted) : Type 0 where
  pub second : GapSweep
  pub gives : gap_sweep_of scheme file clock b' na nc np nm ≡ accepted second
  pub sweep : second.sweep ≡ p.sweep
  pub azimuths : second.azimuths ≡ p.azimuths
  pub rows : GapRows scheme file p.sweep.figures b b' p.codes second.codes p.physical second.physical second.marks

-- ---- the ordinary reading

-- no radial is marked
abbrev pub NoneMarked : Figures → List ℕ → Type 0
NoneMarked f marks = (r : ℕ) → r < f.n_radials → get_or marks r 0 ≡ 0

-- both give the same picture
pub record SamePicture (g : GapSweep) (p : Accepted) : Type 0 where
  pub sweep : g.sweep ≡ p.sweep
  pub azimuths : g.azimuths ≡ p.azimuths
  pub codes : g.codes ≡ p.codes
  pub physical : g.physical ≡ p.physical

pub record AsOrdinary (scheme : Scheme) (file : List ℕ) (clock : ℕ) (b : List ℕ) (na nc np nm : ℕ) : Type 0 where
  -- the reading with gaps accepts and marks none exactly if the ordinary reading accepts
  pub exactly : ((g : GapSweep) × (gap_sweep_of scheme file clock b na nc np nm ≡ accepted g) × NoneMarked g.sweep.figures g.marks)
      ↔ ((p : Accepted) × (sweep_of scheme file clock b na nc np ≡ accepted p))
  -- and then both give equal pictures
  pub equal : (g : GapSweep) → gap_sweep_of scheme file clock b na nc np nm ≡ accepted g → NoneMarked g.sweep.figures g.marks
      → (p : Accepted) → sweep_of scheme file clock b na nc np ≡ accepted p → SamePicture g p

-- ---- the other refusals

pub record OthersKept (scheme : Scheme) (file : List ℕ) (clock : ℕ) (b : List ℕ) (na nc np nm : ℕ) : Type 0 where
  -- what the ordinary reading refuses, the reading with gaps refuses alike, unless it is with 22 or 34
  pub kept : (x : Refusal) → sweep_of scheme file clock b na nc np ≡ refused x → TurnsIntoGap x ⊎ (gap_sweep_of scheme file clock b na nc np nm ≡ refused x)
  -- and what the reading with gaps refuses, but for 36 of the mark buffer, the ordinary reading refuses alike, or with 22 or 34 before it
  pub none_else : (x : Refusal) → gap_sweep_of scheme file clock b na nc np nm ≡ refused x
      → (x ≡ kind 36 (buffer Buffer.Marks ∷ []))
      ⊎ ((sweep_of scheme file clock b na nc np ≡ refused x) ⊎ ((y : Refusal) × (sweep_of scheme file clock b na nc np ≡ refused y) × TurnsIntoGap y))

-- ---- for two runs of the code, the first without gaps and the second with them

-- equal lengths of the three picture buffers, whatever they hold
pub record SameRoom (one : Buffers) (other : GapBuffers) : Type 0 where
  pub azimuths : length other.azimuths ≡ length one.azimuths
  pub codes : length other.codes ≡ length one.codes
  pub physical : length other.physical ≡ length one.physical

-- The first run read b, accepted it with s and left `new`; the second read b' with gaps, answered `said'` and left `new'`.
pub record GapRuns (scheme : Scheme) (file b b' : List ℕ) (s : Sweep) (new : Buffers) (new' : GapBuffers) (said' : SweepAnswer) : Type 0 where
  pub answer : said' ≡ Std.Ok s
  pub azimuths : take s.figures.n_radials new'.azimuths ≡ take s.figures.n_radials new.azimuths
  pub rows : GapRows scheme file s.figures b b' new.codes new'.codes new.physical new'.physical new'.marks

-- the pictures in the buffers are the same
pub record SameFront (f : Figures) (new : Buffers) (new' : GapBuffers) : Type 0 where
  pub azimuths : take f.n_radials new'.azimuths ≡ take f.n_radials new.azimuths
  pub codes : take (f.n_radials * f.n_bins) new'.codes ≡ take (f.n_radials * f.n_bins) new.codes
  pub physical : take (f.n_radials * f.n_bins) new'.physical ≡ take (f.n_radials * f.n_bins) new.physical

-- The two runs read the same body: the first answered `said` and left `new`, the second, with gaps, `said'` and `new'`.
pub record OrdinaryRuns (said said' : SweepAnswer) (new : Buffers) (new' : GapBuffers) : Type 0 where
  pub exactly : ((s : Sweep) × (said' ≡ Std.Ok s) × NoneMarked s.figures new'.marks) ↔ ((s : Sweep) × (said ≡ Std.Ok s))
  pub equal : (s s' : Sweep) → said ≡ Std.Ok s → said' ≡ Std.Ok s' → NoneMarked s'.figures new'.marks
      → (s' ≡ s) × SameFront s.figures new new'
