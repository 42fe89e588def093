-- Demand 3, whole: "A radial's damage stays in its row." Two bodies are read with the same file bytes, clock, scheme and buffer lengths;
-- the first's sweep is accepted, and the second differs from it just in data bytes of radials and in unread bytes. All is said in document
-- 01's words: "differs just in" is symbology's `DamageInWords`, "changed" its `ChangedIn`, a radial's data `data_of`, "make a row" `RowInWords`.
use Rattle.std.specs.Prelude.{ℕ, ◌+◌, ◌*◌, ◌<◌, List, [], ◌∷◌, map, ◌↔◌, ◌≡◌, length, get_or, take, drop, Float}
use Rattle.std.specs.Prelude as Std
use Rattle.wire.specs.Bytes.{signed}
use Rattle.wire.specs.Refusal.{Refusal, kind, nat, whole}
use Rattle.wire.specs.Result.{Result, accepted, answer, refused}
use Rattle.wire.specs.Text.{leading}
use Rattle.head.specs.Header.{message_header}
use Rattle.scale.specs.Physical.{physical_of}
use Rattle.scale.specs.declared.physical.Scheme.{Scheme}
use Rattle.symbology.specs.declared.figures.Packet.{Packet}
use Rattle.symbology.specs.declared.figures.Packet.TheVariants.{Packet16, PacketAf1f, Packet28}
use Rattle.symbology.specs.declared.figures.Figures.{Figures}
use Rattle.symbology.specs.Rows.{row_of, reach, words, is_level}
use Rattle.symbology.specs.Words.{data_of, ChangedIn}
use Rattle.sweep.specs.declared.sweep.Sweep.{Sweep}
use Rattle.sweep.specs.Sweep.{Accepted, sweep_of, Buffers, SweepAnswer}
use Rattle.sweep.specs.InWords.{RowInWords}

-- row r of a buffer by rows
abbrev pub row_at : {A : Type 0} → ℕ → ℕ → List A → List A
row_at bins r xs = take bins (drop (r * bins) xs)

-- Of the radials of b, an accepted body with the figures f, r is the lowest that is changed in b' and whose data there make no row.
pub record LowestBad (f : Figures) (b b' : List ℕ) (r : ℕ) : Type 0 where
  pub inside : r < f.n_radials
  pub changed : ChangedIn f.packet b b' r
  pub no_row : ¬ (RowInWords f.packet f.n_bins (data_of f.packet b r b'))
  pub lower : (q : ℕ) → q < r → ChangedIn f.packet b b' q → RowInWords f.packet f.n_bins (data_of f.packet b q b')

-- the first gate whose integer is not from 0 to 65,535
abbrev pub first_bad_gate : List ℕ → ℕ
first_bad_gate bytes = leading is_level (words bytes)

-- x names radial r, whose data make no row, with the figure worked out from those data: 22 with the greatest sum of a prefix of the run
-- lengths that is not over bins; 34 with the first gate outside 0 to 65,535, and its integer. In packet 16 data always make a row
unfoldable pub Names : Packet → ℕ → ℕ → List ℕ → Refusal → Type 0
Names Packet16 bins r bytes x = ⊥
Names PacketAf1f bins r bytes x = x ≡ kind 22 (nat r ∷ nat (reach bins bytes) ∷ nat bins ∷ [])
Names Packet28 bins r bytes x =
    x ≡ kind 34 (nat r ∷ nat (first_bad_gate bytes) ∷ whole (signed 2147483648 (get_or (words bytes) (first_bad_gate bytes) 0)) ∷ [])

-- When a second body b' is refused, and how. The first, b, has the figures f; `result` is what the second gives.
pub record Refuses {A : Type 0} (f : Figures) (b b' : List ℕ) (result : Result A) : Type 0 where
  -- refused exactly when some changed radial's data no longer make a row
  pub exactly : ((x : Refusal) × (result ≡ refused x))
      ↔ ((r : ℕ) × (r < f.n_radials) × ChangedIn f.packet b b' r × ¬ (RowInWords f.packet f.n_bins (data_of f.packet b r b')))
  -- there is then a lowest such radial
  pub one_is_lowest : (x : Refusal) → result ≡ refused x → (r : ℕ) × LowestBad f b b' r
  -- and the refusal is the one that document 01 defines for it, naming it
  pub lowest : (r : ℕ) → LowestBad f b b' r
      → (x : Refusal) × (result ≡ refused x)
      × (row_of f.packet f.n_bins r (data_of f.packet b r b') ≡ refused x)
      × Names f.packet f.n_bins r (data_of f.packet b r b') x

-- every changed radial's data make a row
abbrev pub AllMake : Figures → List ℕ → List ℕ → Type 0
AllMake f b b' = (r : ℕ) → r < f.n_radials → ChangedIn f.packet b b' r → RowInWords f.packet f.n_bins (data_of f.packet b r b')

-- What the rows of b' have to do with those of b, where every changed radial's data make a row: `codes'` and `physical'` hold the rows of
-- b', `codes` and `physical` those of b.
pub record RowsKept (scheme : Scheme) (file : List ℕ) (f : Figures) (b b' : List ℕ) (codes codes' : List ℕ) (physical physical' : List Float) : Type 0 where
  -- an unchanged row equals the first's
  pub unchanged : (r : ℕ) → r < f.n_radials → ¬ (ChangedIn f.packet b b' r)
      → (row_at f.n_bins r codes' ≡ row_at f.n_bins r codes) × (row_at f.n_bins r physical' ≡ row_at f.n_bins r physical)
  -- a changed row is the one its own data make
  pub changed : (r : ℕ) → r < f.n_radials → ChangedIn f.packet b b' r
      → row_of f.packet f.n_bins r (data_of f.packet b r b') ≡ accepted (row_at f.n_bins r codes')
  -- its physical values are those its codes have under the scheme and the file bytes; the block starts at message header + 18
  pub header : ℕ
  pub header_is : message_header file ≡ accepted header
  pub values : (r : ℕ) → r < f.n_radials → ChangedIn f.packet b b' r
      → row_at f.n_bins r physical' ≡ map (physical_of scheme file (header + 18)) (row_at f.n_bins r codes')

-- ---- for the definition of the sweep reading

-- The first body gives p, with buffers of `na`, `nc` and `np` places.
module _ (scheme : Scheme) (file : List ℕ) (clock : ℕ) (b b' : List ℕ) (na nc np : ℕ) (p : Accepted) where
  -- What the second gives where it is accepted.
  pub record Kept : Type 0 where
    pub second : Accepted
    pub gives : sweep_of scheme file clock b' na nc np ≡ accepted second
    -- token, fields, time, declared scale, packet, counts, range scale or gate figures
    pub sweep : second.sweep ≡ p.sweep
    pub azimuths : second.azimuths ≡ p.azimuths
    pub rows : RowsKept scheme file p.sweep.figures b b' p.codes second.codes p.physical second.physical

  pub record Demand3 : Type 0 where
    pub refusal : Refuses p.sweep.figures b b' (sweep_of scheme file clock b' na nc np)
    pub otherwise : AllMake p.sweep.figures b b' → Kept

-- ---- for two runs of the code

-- equal buffer lengths, whatever the buffers hold
pub record SameLengths (one other : Buffers) : Type 0 where
  pub azimuths : length other.azimuths ≡ length one.azimuths
  pub codes : length other.codes ≡ length one.codes
  pub physical : length other.physical ≡ length one.physical

-- The first run read b, accepted it with s and left `new`; the second read b', answered `said'` and left `new'`.
pub record TwoRuns (scheme : Scheme) (file b b' : List ℕ) (s : Sweep) (new new' : Buffers) (said' : SweepAnswer) : Type 0 where
  pub refusal : Refuses s.figures b b' (answer said')
  pub otherwise : AllMake s.figures b b'
      → (said' ≡ Std.Ok s)
      × (take s.figures.n_radials new'.azimuths ≡ take s.figures.n_radials new.azimuths)
      × RowsKept scheme file s.figures b b' new.codes new'.codes new.physical new'.physical
