-- The sweep reading with gaps (M-101): a radial whose data make no row gives a row of code 0, physical values NaN, and the mark 1. All other
-- refusals keep condition and order; 36 covers the mark buffer, after the physical one.
use Rattle.std.specs.Prelude.{ℕ, zero, suc, ◌*◌, List, [], ◌∷◌, ◌++◌, ◌≡◌, ltb, length, take, drop, replicate, Float}
use Rattle.std.specs.Float.{nan}
use Rattle.wire.specs.Refusal.{kind, buffer}
use Rattle.wire.specs.Result.{Result, accepted, answer, refused, refuse, then, lent}
use Rattle.wire.specs.declared.error.Buffer.TheVariants as Buffer
use Rattle.scale.specs.Physical.{fill_of}
use Rattle.scale.specs.declared.physical.Scheme.{Scheme}
use Rattle.symbology.specs.Answers.{GapPicture, gap_picture_of}
use Rattle.symbology.specs.declared.figures.Figures.{Figures}
use Rattle.sweep.specs.declared.plan.Head.{Head}
use Rattle.sweep.specs.declared.sweep.Sweep.{Sweep}
use Rattle.sweep.specs.Sweep.{head_of, finish, SweepAnswer}

-- What acceptance gives: the picture with its gaps, and the marks.
pub record GapSweep : Type 0 where
  pub sweep : Sweep
  pub azimuths : List Float
  pub codes : List ℕ
  pub physical : List Float
  pub marks : List ℕ

-- values by row, with NaN laid over the rows that are marked
unfoldable pub blanked : ℕ → List ℕ → List Float → List Float
blanked bins [] values = values
blanked bins (zero ∷ marks) values = take bins values ++ blanked bins marks (drop bins values)
blanked bins (suc mark ∷ marks) values = replicate bins nan ++ blanked bins marks (drop bins values)

-- one row, as the code takes it
unfoldable pub blanked_row : ℕ → List Float → List Float
blanked_row zero row = row
blanked_row (suc mark) row = replicate (length row) nan

-- a lent buffer of values, with NaN laid over the rows that are marked
abbrev pub blanked_lent : Result (List Float) → ℕ → List ℕ → List Float → List Float
blanked_lent (accepted values) bins marks old = blanked bins marks (values ++ drop (length values) old)
blanked_lent (refused x) bins marks old = old

-- after the head and the body: 10, 9, 36 as in the ordinary reading, then 36 of the mark buffer
unfoldable pub gap_finish : Scheme → List ℕ → ℕ → ℕ → ℕ → ℕ → Head → GapPicture → Result GapSweep
gap_finish scheme file na nc np nm h p =
    then (finish scheme file na nc np h p.picture) λ a.
    refuse (ltb nm p.picture.figures.n_radials) (kind 36 (buffer Buffer.Marks ∷ []))
    (accepted (record {
      sweep = a.sweep;
      azimuths = a.azimuths;
      codes = a.codes;
      physical = blanked p.picture.figures.n_bins p.marks a.physical;
      marks = p.marks;
    }))

-- the sweep reading with gaps; the mark buffer has `nm` places
unfoldable pub gap_sweep_of : Scheme → List ℕ → ℕ → List ℕ → ℕ → ℕ → ℕ → ℕ → Result GapSweep
gap_sweep_of scheme file clock body na nc np nm =
    then (head_of scheme file clock) λ h.
    then (gap_picture_of body) λ p.
    gap_finish scheme file na nc np nm h p

abbrev pub gap_sweep_in : Result GapSweep → Result Sweep
gap_sweep_in r = then r λ p. accepted p.sweep

-- ---- the values alone, once the codes and the marks are written

-- 36, of the first buffer that is too short: codes of `nc` places, physical values of `np`, marks of `nm`
unfoldable pub gap_room : ℕ → ℕ → ℕ → Figures → Result (Unit {0})
gap_room nc np nm f =
    refuse (ltb nc (f.n_radials * f.n_bins)) (kind 36 (buffer Buffer.Codes ∷ []))
    (refuse (ltb np (f.n_radials * f.n_bins)) (kind 36 (buffer Buffer.Physical ∷ []))
    (refuse (ltb nm f.n_radials) (kind 36 (buffer Buffer.Marks ∷ []))
    (accepted tt)))

-- the values of a picture's cells, before NaN is laid over them
unfoldable pub gap_values_of : Scheme → List ℕ → ℕ → Figures → List ℕ → ℕ → ℕ → Result (List Float)
gap_values_of scheme file block f codes np nm =
    then (gap_room (length codes) np nm f) λ _.
    fill_of scheme file block (take (f.n_radials * f.n_bins) codes) np

-- ---- a run of the code

-- What four lent buffers hold: f64 azimuths, u16 codes by row, f32 physical values, u8 marks.
pub record GapBuffers : Type 0 where
  pub azimuths : List Float
  pub codes : List ℕ
  pub physical : List Float
  pub marks : List ℕ

abbrev pub gap_buffers : List Float → List ℕ → List Float → List ℕ → GapBuffers
gap_buffers az cs ph ms = record { azimuths = az; codes = cs; physical = ph; marks = ms }

-- the reading with gaps, with buffers of these lengths
abbrev pub gaps_into : Scheme → List ℕ → ℕ → List ℕ → GapBuffers → Result GapSweep
gaps_into scheme file clock body old =
    gap_sweep_of scheme file clock body (length old.azimuths) (length old.codes) (length old.physical) (length old.marks)

-- A run that gives a picture with marks: the answer, and what the buffers hold before and after. `reading` is what is given.
pub record MarkedRan (reading : Result GapSweep) (old new : GapBuffers) (said : SweepAnswer) : Type 0 where
  pub answered : answer said ≡ gap_sweep_in reading
  pub azimuths : new.azimuths ≡ lent reading (λ p. p.azimuths) old.azimuths
  pub codes : new.codes ≡ lent reading (λ p. p.codes) old.codes
  pub physical : new.physical ≡ lent reading (λ p. p.physical) old.physical
  pub marks : new.marks ≡ lent reading (λ p. p.marks) old.marks

-- one run with gaps
abbrev pub GapRan : Scheme → List ℕ → ℕ → List ℕ → GapBuffers → GapBuffers → SweepAnswer → Type 0
GapRan scheme file clock body old new said = MarkedRan (gaps_into scheme file clock body old) old new said
