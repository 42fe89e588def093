-- A field plan over a clear scan (document 02, M-107 with M-104): no strip lies inside a picture of no rows, and a field without strips has the
-- total 0.
use Rattle.std.specs.Prelude.{ℕ, Bool, true, false, cond, List, [], ◌∷◌, ltb, replicate}
use Rattle.wire.specs.Refusal.{kind, buffer}
use Rattle.wire.specs.Result.{Result, accepted, refuse, then}
use Rattle.wire.specs.declared.error.Buffer.TheVariants as Buffer
use Rattle.scale.specs.declared.scaling.PrecipScale.{PrecipScale}
use Rattle.scale.specs.declared.physical.Scheme.{Scheme}
use Rattle.symbology.specs.declared.figures.Packet.{Packet}
use Rattle.sweep.specs.Sweep.{Accepted}
use Rattle.sweep.specs.Clear.{clear_sweep}
use Rattle.fields.specs.declared.plan.Entry.{Entry}
use Rattle.fields.specs.declared.plan.Record.{Record}
use Rattle.fields.specs.declared.plan.Record.TheVariants.{Field, Strip, Malformed}
use Rattle.fields.specs.Plan.{entries_of, bad_at, repeated_at, refuse_first, field_count}
use Rattle.fields.specs.Fields.{rain_of, Totalled}

abbrev pub is_strip : Record → Bool
is_strip (Field n) = false
is_strip (Strip r g c w) = true
is_strip Malformed = false

-- the offsets of a plan's strips
unfoldable pub strips_at : List Entry → List ℕ
strips_at [] = []
strips_at (e ∷ es) = cond (is_strip e.item) (e.at ∷ strips_at es) (strips_at es)

-- over a picture of no rows: 37, 38; 39 of the first strip; 36 for a totals buffer of nt places; else the total 0 for each field
unfoldable pub clear_planned : List ℕ → ℕ → PrecipScale → Accepted → Result Totalled
clear_planned plan nt scale a =
    refuse_first 37 (bad_at 0 0 (entries_of plan))
    (refuse_first 38 (repeated_at [] (entries_of plan))
    (refuse_first 39 (strips_at (entries_of plan))
    (refuse (ltb nt (field_count (entries_of plan))) (kind 36 (buffer Buffer.Totals ∷ []))
    (accepted (record { sweep = a; scale = scale; fields = field_count (entries_of plan); totals = replicate (field_count (entries_of plan)) 0 })))))

-- after the refusals of the sweep
unfoldable pub clear_totals : Scheme → List ℕ → ℕ → Packet → List ℕ → List ℕ → ℕ → Result Totalled
clear_totals scheme file clock packet b plan nt =
    then (rain_of scheme file clock b) λ scale.
    then (clear_sweep scheme file clock packet b) λ a.
    clear_planned plan nt scale a
