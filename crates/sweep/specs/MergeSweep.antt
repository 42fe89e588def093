-- Two receptions, one picture (M-111): from one set of file bytes, clock and scheme and two bodies, the readings with gaps of both merged.
-- Order: the first body's reading up to 36, the second's, 43, 44, 36.
use Rattle.std.specs.Prelude.{ℕ, List, [], not, length}
use Rattle.wire.specs.Refusal.{kind}
use Rattle.wire.specs.Result.{Result, accepted, refuse, then}
use Rattle.wire.specs.Reading.{Given, run, gaps}
use Rattle.scale.specs.Physical.{declared_scale}
use Rattle.scale.specs.declared.physical.Scheme.{Scheme}
use Rattle.symbology.specs.Symbology.{Sweep, symbology}
use Rattle.symbology.specs.Merge.{merged_of}
use Rattle.sweep.specs.declared.plan.Head.{Head}
use Rattle.sweep.specs.Sweep.{SweepAnswer, head_of, allowed}
use Rattle.sweep.specs.GapSweep.{GapSweep, gap_finish, GapBuffers, MarkedRan}

-- what a body's reading with gaps gives after the head and before 36: symbology, 10, 9
unfoldable pub readied : Scheme → Head → List ℕ → Result (Given Sweep)
readied scheme h body =
    then (run (gaps symbology) body 0) λ g.
    refuse (not (allowed scheme g.value.figures.packet)) (kind 10 [])
    (then (declared_scale h.scaling) λ _.
    accepted g)

-- 43 and 44 are `merged_of`'s; what follows is as in the reading with gaps (10 and 9 have passed by then, so 36)
unfoldable pub merge_sweep_of : Scheme → List ℕ → ℕ → List ℕ → List ℕ → ℕ → ℕ → ℕ → ℕ → Result GapSweep
merge_sweep_of scheme file clock first second na nc np nm =
    then (head_of scheme file clock) λ h.
    then (readied scheme h first) λ a.
    then (readied scheme h second) λ b.
    then (merged_of a b) λ p.
    gap_finish scheme file na nc np nm h p

-- ---- a run of the code

-- with buffers of these lengths
abbrev pub merge_into : Scheme → List ℕ → ℕ → List ℕ → List ℕ → GapBuffers → Result GapSweep
merge_into scheme file clock first second old =
    merge_sweep_of scheme file clock first second (length old.azimuths) (length old.codes) (length old.physical) (length old.marks)

abbrev pub MergeRan : Scheme → List ℕ → ℕ → List ℕ → List ℕ → GapBuffers → GapBuffers → SweepAnswer → Type 0
MergeRan scheme file clock first second old new said = MarkedRan (merge_into scheme file clock first second old) old new said
