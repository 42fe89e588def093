-- In every description record that an entry reports each float is the stated operation on the whole number beside it (M-110): whatever the
-- contracts of l3_pdb, l3_sweep, l3_strict, l3_gaps, l3_merge and l3_totals allow, where the reading accepts and the report has room. Assumes nothing.
use Rattle.std.proofs.Common.{◌≡◌, ℕ, false, List, length, refl, subst, arith}
use lib.Ieee.{Float}
use Rattle.wire.specs.Result.{Result, accepted}
use Rattle.head.specs.declared.pdb.PdbFields.{PdbFields}
use Rattle.head.specs.Pdb.{pdb_fields, Coherent}
use Rattle.head.proofs.Coherence.{coherent}
use Rattle.sweep.specs.Sweep.{Accepted, sweep_in, Buffers, read_into}
use Rattle.sweep.specs.GapSweep.{GapSweep, gap_sweep_in, GapBuffers, gaps_into}
use Rattle.sweep.specs.MergeSweep.{merge_into}
use Rattle.sweep.proofs.Coherence.{sweep_coherent, gaps_coherent, merge_coherent}
use Rattle.fields.specs.Fields.{Totalled, totals_in, TotalsBuffers, totals_into}
use Rattle.fields.proofs.Coherence.{totals_coherent}
use Rattle.archive.specs.Archive.{strict_into}
use Rattle.archive.proofs.Coherence.{strict_coherent}
use Rattle.capi.specs.declared.report.Report.{Report}
use Rattle.capi.specs.declared.places.PicturePlaces.{PicturePlaces}
use Rattle.capi.specs.declared.places.ScalePlaces.{ScalePlaces}
use Rattle.capi.specs.Report.{report_of, with_place, Said, said, failed, saying, short, over, Leaves}
use Rattle.capi.specs.Places.{placed, head_places, fields_report, sweep_report, totals_report, Beside}
use Rattle.capi.specs.Entries.{scheme_said, sweep_said, strict_said, SweepLeaves, gaps_said, merge_said, GapsLeave, totals_said, TotalsLeave}

-- ---- reports

-- a report in which the record stands, whatever the buffers held
abbrev Shows : PdbFields → Report → Type 0
Shows f r = (ints : List ℕ) (floats : List Float) → Beside f (over r.ints ints) (over r.floats floats)

-- with the number of fields in place 14, 0 without a plan
shows : {f : PdbFields} → Coherent f → (token time : ℕ) (p : PicturePlaces) (s : ScalePlaces) (fields : ℕ)
    → Shows f (with_place (placed (head_places token f time) p s) 14 fields)
shows good token time p s fields ints floats =
    record {
      lat_whole = refl;
      lon_whole = refl;
      feet_whole = refl;
      tenths_whole = refl;
      latitude = good.latitude;
      longitude = good.longitude;
      height = good.height;
      elevation = good.elevation;
    }

-- it is left where there is room
left : {f : PdbFields} (r : Report) {n : ℕ} {ints ints' : List ℕ} {floats floats' : List Float} → Shows f r → short (length ints) (length floats) ≡ false
    → Leaves (said r) n ints ints' floats floats' → Beside f ints' floats'
left r {ints = ints} {floats = floats} shown t l = rw (l.ints_left, l.floats_left, t) (shown ints floats)

-- what is said of another thing
said_by : {A B : Type 0} (f : A → B) (s : Said A) (b : B) → saying f s ≡ said b → (a : A) × (f a ≡ b)
said_by f (said a) b e = (a, cc)
said_by f (failed n) b e = absurd (let z : ◌≡◌ {A = ℕ} 0 1 = cc in omega arith)

-- ---- the entries

pub pdb_beside : (file : List ℕ) (block : ℕ) {n : ℕ} {ints ints' : List ℕ} {floats floats' : List Float} → Leaves (said (report_of (pdb_fields file block) fields_report)) n ints ints' floats floats'
    → short (length ints) (length floats) ≡ false → (f : PdbFields) → pdb_fields file block ≡ accepted f → Beside f ints' floats'
pdb_beside file block {n} {ints} {ints'} {floats} {floats'} l room f e =
    left (fields_report f) (shows (coherent file block f e) 0 0 _ _ 0) room
    (subst (λ r. Leaves (said (report_of r fields_report)) n ints ints' floats floats') e l)

module _ (scheme : ℕ) (x : Float) (file : List ℕ) (clock : ℕ) (body : List ℕ) {n : ℕ} {ints ints' : List ℕ} {floats floats' : List Float}
    (room : short (length ints) (length floats) ≡ false) where
  -- a sweep that is read in any way
  read_beside : (d : Buffers → Said (Result Accepted)) {old new : Buffers} → SweepLeaves d n old new ints ints' floats floats'
      → (p : Accepted) → d old ≡ said (accepted p) → Coherent p.sweep.fields → Beside p.sweep.fields ints' floats'
  read_beside d l p e good =
      left (sweep_report p.sweep) (shows good _ _ _ _ 0) room
      (subst (λ s. Leaves (saying (λ a. report_of (sweep_in a) sweep_report) s) n ints ints' floats floats') e l.report)

  pub sweep_beside : {old new : Buffers} → SweepLeaves (sweep_said scheme x file clock body) n old new ints ints' floats floats'
      → (p : Accepted) → sweep_said scheme x file clock body old ≡ said (accepted p) → Beside p.sweep.fields ints' floats'
  sweep_beside {old} l p e =
      let g = said_by (λ h. read_into h file clock body old) (scheme_said scheme x) (accepted p) e in
      read_beside (sweep_said scheme x file clock body) l p e (sweep_coherent g.0 file clock body _ _ _ p g.1)

  pub strict_beside : {old new : Buffers} → SweepLeaves (strict_said scheme x file clock body) n old new ints ints' floats floats'
      → (p : Accepted) → strict_said scheme x file clock body old ≡ said (accepted p) → Beside p.sweep.fields ints' floats'
  strict_beside {old} l p e =
      let g = said_by (λ h. strict_into h file clock body old) (scheme_said scheme x) (accepted p) e in
      read_beside (strict_said scheme x file clock body) l p e (strict_coherent g.0 file clock body _ _ _ p g.1)

  -- with marks
  marked_beside : (d : GapBuffers → Said (Result GapSweep)) {old new : GapBuffers} → GapsLeave d n old new ints ints' floats floats'
      → (p : GapSweep) → d old ≡ said (accepted p) → Coherent p.sweep.fields → Beside p.sweep.fields ints' floats'
  marked_beside d l p e good =
      left (sweep_report p.sweep) (shows good _ _ _ _ 0) room
      (subst (λ s. Leaves (saying (λ a. report_of (gap_sweep_in a) sweep_report) s) n ints ints' floats floats') e l.report)

  pub gaps_beside : {old new : GapBuffers} → GapsLeave (gaps_said scheme x file clock body) n old new ints ints' floats floats'
      → (p : GapSweep) → gaps_said scheme x file clock body old ≡ said (accepted p) → Beside p.sweep.fields ints' floats'
  gaps_beside {old} l p e =
      let g = said_by (λ h. gaps_into h file clock body old) (scheme_said scheme x) (accepted p) e in
      marked_beside (gaps_said scheme x file clock body) l p e (gaps_coherent g.0 file clock body _ _ _ _ p g.1)

  -- `body` is the first of two
  pub merge_beside : (second : List ℕ) {old new : GapBuffers} → GapsLeave (merge_said scheme x file clock body second) n old new ints ints' floats floats'
      → (p : GapSweep) → merge_said scheme x file clock body second old ≡ said (accepted p) → Beside p.sweep.fields ints' floats'
  merge_beside second {old} l p e =
      let g = said_by (λ h. merge_into h file clock body second old) (scheme_said scheme x) (accepted p) e in
      marked_beside (merge_said scheme x file clock body second) l p e (merge_coherent g.0 file clock body second _ _ _ _ p g.1)

  pub totals_beside : (plan : List ℕ) {old new : TotalsBuffers} → TotalsLeave (totals_said scheme x file clock body plan) n old new ints ints' floats floats'
      → (t : Totalled) → totals_said scheme x file clock body plan old ≡ said (accepted t) → Beside t.sweep.sweep.fields ints' floats'
  totals_beside plan {old} l t e =
      let g = said_by (λ h. totals_into h file clock body plan old) (scheme_said scheme x) (accepted t) e in
      left (totals_report (record { sweep = t.sweep.sweep; fields = t.fields })) (shows (totals_coherent g.0 file clock body plan _ _ _ _ t g.1) _ _ _ _ t.fields) room
      (subst (λ s. Leaves (saying (λ a. report_of (totals_in a) totals_report) s) n ints ints' floats floats') e l.report)
