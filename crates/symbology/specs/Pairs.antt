-- Two walks over the radials side by side, as the code goes. No public contract cites this file.
use Rattle.std.specs.Prelude.{ℕ, Bool, true, false, not, List, [], Option, Some, None, Float}
use Rattle.wire.specs.Refusal.{kind}
use Rattle.wire.specs.Result.{Result, accepted, refused, refuse, then}
use Rattle.wire.specs.Reading.{Given, run}
use Rattle.wire.specs.SameFloat.{same_float}
use Rattle.symbology.specs.Walk.{in_mode, radial_by, radials_by, first_row}
use Rattle.symbology.specs.Merge.{same_floats, disagree, agreed, merge_rows}
use Rattle.symbology.specs.Answers.{GapPicture, picture_with}
use Rattle.symbology.specs.declared.figures.Figures.{Figures}
use Rattle.symbology.specs.declared.pairs.Side.{Side}

-- a radial that stands at p, and all radials from p on, read with gaps
abbrev pub radial_at : Figures → ℕ → List ℕ → ℕ → Result (Given Float)
radial_at f r s p = run (in_mode true (radial_by f r)) s p

abbrev pub walk_by : Figures → List ℕ → ℕ → Result (Given (List Float))
walk_by f s p = run (in_mode true (radials_by f)) s p

-- one radial of both: 43 where the centres differ
unfoldable pub turned : Result (Given Float) → Result (Given Float) → Result Side
turned (refused x) q = refused x
turned (accepted p) (refused y) = refused y
turned (accepted p) (accepted q) =
    refuse (not (same_float p.value q.value)) (kind 43 [])
    (accepted (record { first = p.next; second = q.next; disagrees = disagree (first_row p.rows) (first_row q.rows) }))

-- the lowest radial so far whose rows disagree, where there is one
abbrev pub note_of : Option ℕ → ℕ → Bool → Option ℕ
note_of noted r false = noted
note_of None r true = Some r
note_of (Some n) r true = Some n

-- 43 of the azimuths, then 44
unfoldable pub judged : Result (Given (List Float)) → Result (Given (List Float)) → Result (Unit {0})
judged (refused x) b = refused x
judged (accepted a) (refused y) = refused y
judged (accepted a) (accepted b) = refuse (not (same_floats a.value b.value)) (kind 43 []) (agreed 0 a.rows b.rows)

-- the position after a radial
abbrev pub next_in : Result (Given Float) → Result ℕ
next_in r = then r λ g. accepted g.next

-- the rows and gaps of both
abbrev pub both_rows : Result (Given (List Float)) → Result (Given (List Float)) → Result (List (List ℕ))
both_rows a b = then a λ x. then b λ y. accepted (merge_rows x.rows y.rows)

-- the picture that the radials of two bodies with the figures f make: 43 of the azimuths, 44
abbrev pub merged_parts : Figures → Result (Given (List Float)) → Result (Given (List Float)) → Result GapPicture
merged_parts f a b =
    then (judged a b) λ _.
    then a λ x.
    then b λ y.
    accepted (picture_with (record { figures = f; azimuths = x.value }) (merge_rows x.rows y.rows))
