-- The totals of a plan over the codes of any picture, by M-104's definitions; M-104's reading gives those of its picture (`OfPicture`).
use Rattle.std.specs.Prelude.{ℕ, ◌*◌, List, [], ◌∷◌, ◌≡◌, ltb, length}
use Rattle.wire.specs.Refusal.{kind, buffer}
use Rattle.wire.specs.Result.{Result, accepted, refuse, then}
use Rattle.wire.specs.declared.error.Buffer.TheVariants as Buffer
use Rattle.scale.specs.declared.scaling.PrecipScale.{PrecipScale}
use Rattle.scale.specs.declared.physical.Scheme.{Scheme}
use Rattle.fields.specs.Plan.{entries_of, plan_of}
use Rattle.fields.specs.Totals.{grid, totals, items}
use Rattle.sweep.specs.Sweep.{Accepted, sweep_of}
use Rattle.fields.specs.Fields.{rain_of, totals_of}

-- the codes of a picture of so many radials and bins, its scale, a plan, a totals buffer of nt places: 36 of the codes, where there are
-- fewer than cells; 37, 38, 39; 36 of the totals
unfoldable pub picture_totals : List ℕ → ℕ → ℕ → PrecipScale → List ℕ → ℕ → Result (List ℕ)
picture_totals codes radials bins scale plan nt =
    refuse (ltb (length codes) (radials * bins)) (kind 36 (buffer Buffer.Codes ∷ []))
    (then (plan_of plan radials bins) λ n.
    refuse (ltb nt n) (kind 36 (buffer Buffer.Totals ∷ []))
    (accepted (totals (grid codes bins scale.floor scale.ceiling) (items (entries_of plan)))))

-- what an answer says, beside the totals: how many
abbrev pub fields_in : Result (List ℕ) → Result ℕ
fields_in r = then r λ t. accepted (length t)

-- M-104's reading, once head and body are read with the precipitation scale and the sweep is accepted, gives the totals of its picture or
-- refuses the plan as they do: 37, 38, 39, 36 of the totals
abbrev pub OfPicture : Type 0
OfPicture =
    (scheme : Scheme) (file : List ℕ) (clock : ℕ) (body plan : List ℕ) (na nc np nt : ℕ) (scale : PrecipScale) (a : Accepted)
    → rain_of scheme file clock body ≡ accepted scale → sweep_of scheme file clock body na nc np ≡ accepted a
    → totals_of scheme file clock body plan na nc np nt
    ≡ then (picture_totals a.codes a.sweep.figures.n_radials a.sweep.figures.n_bins scale plan nt) λ t.
    accepted (record { sweep = a; scale = scale; fields = length t; totals = t })
