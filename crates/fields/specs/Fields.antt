-- The sweep reading with the totals of a field plan (document 02, M-104). Order: all refusals of the sweep, where any scheme but
-- precipitation is 10 in its usual place; 37, 38, 39, each over the whole plan; 36 for the totals buffer.
use Rattle.std.specs.Prelude.{ℕ, List, [], ◌∷◌, ◌≡◌, ltb, length, Float}
use Rattle.std.specs.Prelude as Std
use Rattle.wire.specs.Refusal.{kind, buffer}
use Rattle.wire.specs.Result.{Result, accepted, answer, refused, refuse, then, lent}
use Rattle.wire.specs.declared.error.Buffer.TheVariants as Buffer
use Rattle.wire.specs.declared.error.Level3DecodeError.{Level3DecodeError}
use Rattle.scale.specs.declared.scaling.PrecipScale.{PrecipScale}
use Rattle.scale.specs.declared.physical.Scheme.{Scheme}
use Rattle.scale.specs.declared.physical.Scaling.{Scaling}
use Rattle.symbology.specs.Answers.{picture_of}
use Rattle.sweep.specs.declared.sweep.Sweep.{Sweep}
use Rattle.sweep.specs.Sweep.{head_of, Accepted, sweep_of}
use Rattle.fields.specs.declared.fields.SweepTotals.{SweepTotals}
use Rattle.fields.specs.declared.fields.Checked.{Checked}
use Rattle.fields.specs.Plan.{entries_of, plan_of}
use Rattle.fields.specs.Totals.{Grid, grid, totals, items}

-- 10: the scale of the precipitation family, or none
abbrev pub rain_scale : Scaling → Result PrecipScale
rain_scale (Scaling.Precip p) = accepted p
rain_scale (Scaling.Linear s) = refused (kind 10 [])
rain_scale (Scaling.Legacy at post) = refused (kind 10 [])
rain_scale Scaling.Class = refused (kind 10 [])

-- what stands before 10 in the sweep reading, and then 10
unfoldable pub rain_of : Scheme → List ℕ → ℕ → List ℕ → Result PrecipScale
rain_of scheme file clock body =
    then (head_of scheme file clock) λ h.
    then (picture_of body) λ _.
    rain_scale h.scaling

-- What acceptance gives: the sweep with its picture, the scale of its codes, how many fields the plan has, and their totals.
pub record Totalled : Type 0 where
  pub sweep : Accepted
  pub scale : PrecipScale
  pub fields : ℕ
  pub totals : List ℕ

-- what totals see of a sweep
abbrev pub grid_of : PrecipScale → Accepted → Grid
grid_of scale a = grid a.codes a.sweep.figures.n_bins scale.floor scale.ceiling

-- a plan over an accepted sweep: 37, 38, 39, then 36 for a totals buffer of nt places
unfoldable pub planned : List ℕ → ℕ → PrecipScale → Accepted → Result Totalled
planned plan nt scale a =
    then (plan_of plan a.sweep.figures.n_radials a.sweep.figures.n_bins) λ n.
    refuse (ltb nt n) (kind 36 (buffer Buffer.Totals ∷ []))
    (accepted (record { sweep = a; scale = scale; fields = n; totals = totals (grid_of scale a) (items (entries_of plan)) }))

-- the sweep reading with a plan, and buffers of na, nc, np and nt places
unfoldable pub totals_of : Scheme → List ℕ → ℕ → List ℕ → List ℕ → ℕ → ℕ → ℕ → ℕ → Result Totalled
totals_of scheme file clock body plan na nc np nt =
    then (rain_of scheme file clock body) λ scale.
    then (sweep_of scheme file clock body na nc np) λ a.
    planned plan nt scale a

-- what an answer says, beside the picture and the totals
abbrev pub totals_in : Result Totalled → Result SweepTotals
totals_in r = then r λ t. accepted (record { sweep = t.sweep.sweep; fields = t.fields })

abbrev pub TotalsAnswer : Type 0
TotalsAnswer = Std.Result SweepTotals Level3DecodeError

-- the same of the check
abbrev pub checked_in : Result Totalled → Result Checked
checked_in r = then r λ t. accepted (record { sweep = t.sweep.sweep; scale = t.scale; fields = t.fields })

-- a plan over what a sweep's check answers
unfoldable pub checked_on : List ℕ → ℕ → PrecipScale → Result Sweep → Result Checked
checked_on plan nt scale swept =
    then swept λ s.
    then (plan_of plan s.figures.n_radials s.figures.n_bins) λ n.
    refuse (ltb nt n) (kind 36 (buffer Buffer.Totals ∷ []))
    (accepted (record { sweep = s; scale = scale; fields = n }))

-- ---- a run of the code

-- What four lent buffers hold: f64 azimuths, u16 codes by row, f32 physical values, u64 totals.
pub record TotalsBuffers : Type 0 where
  pub azimuths : List Float
  pub codes : List ℕ
  pub physical : List Float
  pub totals : List ℕ

abbrev pub totals_buffers : List Float → List ℕ → List Float → List ℕ → TotalsBuffers
totals_buffers az cs ph ts = record { azimuths = az; codes = cs; physical = ph; totals = ts }

-- the reading with a plan, with buffers of these lengths
abbrev pub totals_into : Scheme → List ℕ → ℕ → List ℕ → List ℕ → TotalsBuffers → Result Totalled
totals_into scheme file clock body plan old =
    totals_of scheme file clock body plan (length old.azimuths) (length old.codes) (length old.physical) (length old.totals)

-- One run with a plan: the answer, and what the buffers hold before and after.
pub record TotalsRan (scheme : Scheme) (file : List ℕ) (clock : ℕ) (body plan : List ℕ) (old new : TotalsBuffers) (said : TotalsAnswer) : Type 0 where
  pub answered : answer said ≡ totals_in (totals_into scheme file clock body plan old)
  pub azimuths : new.azimuths ≡ lent (totals_into scheme file clock body plan old) (λ t. t.sweep.azimuths) old.azimuths
  pub codes : new.codes ≡ lent (totals_into scheme file clock body plan old) (λ t. t.sweep.codes) old.codes
  pub physical : new.physical ≡ lent (totals_into scheme file clock body plan old) (λ t. t.sweep.physical) old.physical
  pub totals : new.totals ≡ lent (totals_into scheme file clock body plan old) (λ t. t.totals) old.totals
