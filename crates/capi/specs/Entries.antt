-- What the entries that take a kind, an item, a scheme or an exact length have to say.
use Rattle.std.specs.Prelude.{◌≡◌, ℕ, ◌-◌, cond, ◌&&◌, List, [], ◌∷◌, length, ◌==◌, nat_lt, Float}
use Rattle.std.specs.Prelude as Std
use Rattle.wire.specs.Float.{f32}
use Rattle.wire.specs.Reading.{walk}
use Rattle.wire.specs.Result.{Result, then}
use Rattle.wire.specs.Products.{codes}
use Rattle.wire.specs.Bytes.{read_u16, read_i16, read_i32}
use Rattle.head.specs.Pdb.{hw_i16, hw_u16, hw_i32, hw_pair}
use Rattle.scale.specs.Pdb.{precip_family_scale, threshold_place}
use Rattle.scale.specs.Legacy.{levels_of}
use Rattle.scale.specs.Physical.{fill_of}
use Rattle.scale.specs.declared.physical.Scheme.{Scheme}
use Rattle.symbology.specs.Answers.{Picture, figures_in}
use Rattle.sweep.specs.Sweep.{Accepted, sweep_in, Buffers, read_into}
use Rattle.sweep.specs.GapSweep.{GapSweep, gap_sweep_in, GapBuffers, gaps_into}
use Rattle.sweep.specs.MergeSweep.{merge_into}
use Rattle.fields.specs.Fields.{Totalled, totals_in, TotalsBuffers, totals_into}
use Rattle.fields.specs.Picture.{picture_totals}
use Rattle.export.specs.Export.{length_in}
use Rattle.archive.specs.Archive.{strict_into}
use Rattle.xdr.specs.Xdr as Xdr
use Rattle.xdr.specs.Cursor.{done, string_part, array_part}
use Rattle.xdr.specs.Each.{uint_at, float_at, string_at, array_at, head_at, list_at, end_at}
use Rattle.capi.specs.declared.report.Report.{Report}
use Rattle.capi.specs.Report.{report_of, ended_report, Said, said, failed, saying, choice, room_first, Leaves, lent_by}
use Rattle.capi.specs.Places.{no_report, number_report, signed_report, float_report, pair_report, part_report, number_found, signed_found, figures_report, sweep_report, totals_report}

-- a field, by its kind: i16, u16, i32, a pair of f32
abbrev pub field_said : List ℕ → ℕ → ℕ → ℕ → Said Report
field_said file block index kind =
    choice kind
    (report_of (hw_i16 file block index) signed_report ∷ report_of (hw_u16 file block index) number_report
    ∷ report_of (hw_i32 file block index) signed_report ∷ report_of (hw_pair file block index) pair_report ∷ [])

-- an XDR item, by its number: int, uint, float, string, array of integers, list of parameters
abbrev pub xdr_said : ℕ → List ℕ → ℕ → Said Report
xdr_said op s at =
    choice op
    (ended_report (walk Xdr.int s at) signed_report ∷ ended_report (walk Xdr.uint s at) number_report ∷ ended_report (walk Xdr.float s at) float_report
    ∷ ended_report (string_part s at (walk Xdr.string s at)) part_report ∷ ended_report (array_part at (walk Xdr.int_array s at)) part_report
    ∷ ended_report (done (walk (Xdr.counted Xdr.parameter) s at)) no_report ∷ [])

-- of the items that one cursor reads one after another, one by its number: int, uint, float, string, array of integers, head of a list,
-- list of parameters, and 7 the number of bytes left after all of them
abbrev pub items_said : ℕ → List ℕ → Said Report
items_said item s =
    choice item
    (ended_report (walk Xdr.int s 0) signed_report ∷ ended_report (walk Xdr.uint s (uint_at s)) number_report ∷ ended_report (walk Xdr.float s (float_at s)) float_report
    ∷ ended_report (string_part s (string_at s) (walk Xdr.string s (string_at s))) part_report ∷ ended_report (array_part (array_at s) (walk Xdr.int_array s (array_at s))) part_report
    ∷ ended_report (walk Xdr.list_head s (head_at s)) number_report ∷ ended_report (done (walk (Xdr.counted Xdr.parameter) s (list_at s))) no_report
    ∷ number_report (length s - end_at s) ∷ [])

-- a number at an offset, by its kind: u16, i16, i32
abbrev pub read_said : ℕ → List ℕ → ℕ → Said Report
read_said kind s at = choice kind (number_found (read_u16 s at) ∷ signed_found (read_i16 s at) ∷ signed_found (read_i32 s at) ∷ [])

-- the thresholds' place, for a buffer of n bytes, which has to be 32
unfoldable pub threshold_said : List ℕ → ℕ → ℕ → Said (Result ℕ)
threshold_said file block n = cond (n == 32) (said (threshold_place file block)) (failed 101)

-- the sixteen levels of 32 bytes, for a buffer of n places
unfoldable pub levels_said : List ℕ → Float → ℕ → Said (List Float)
levels_said bytes post n = cond (length bytes == 32 && n == 16) (said (levels_of bytes 0 post)) (failed 101)

-- the known codes, for a buffer of n places, which has to hold all 26
unfoldable pub codes_said : ℕ → Said (List ℕ)
codes_said n = cond (nat_lt n 26) (failed 101) (said codes)

-- a scheme by its number, with the factor or the post-scale: halfword, float, precipitation, legacy, class
abbrev pub scheme_said : ℕ → Float → Said Scheme
scheme_said n x = choice n (Scheme.Halfword ∷ Scheme.Float ∷ Scheme.Precipitation x ∷ Scheme.Legacy x ∷ Scheme.Class ∷ [])

-- the sweep, read into buffers that hold `old`
abbrev pub sweep_said : ℕ → Float → List ℕ → ℕ → List ℕ → Buffers → Said (Result Accepted)
sweep_said n x file clock body old = saying (λ scheme. read_into scheme file clock body old) (scheme_said n x)

-- the same by the archive profile
abbrev pub strict_said : ℕ → Float → List ℕ → ℕ → List ℕ → Buffers → Said (Result Accepted)
strict_said n x file clock body old = saying (λ scheme. strict_into scheme file clock body old) (scheme_said n x)

-- What l3_sweep or l3_strict returns and leaves in the report's buffers and in the three that it is lent, where it has s to say.
pub record SweepLeaves (s : Buffers → Said (Result Accepted)) (number : ℕ) (old new : Buffers) (ints ints' : List ℕ) (floats floats' : List Float) : Type 0 where
  pub report : Leaves (saying (λ a. report_of (sweep_in a) sweep_report) (s old)) number ints ints' floats floats'
  pub azimuths : new.azimuths ≡ lent_by (room_first ints floats (s old)) (λ p. p.azimuths) old.azimuths
  pub codes : new.codes ≡ lent_by (room_first ints floats (s old)) (λ p. p.codes) old.codes
  pub physical : new.physical ≡ lent_by (room_first ints floats (s old)) (λ p. p.physical) old.physical

-- the sweep with gaps, read into buffers that hold `old`
abbrev pub gaps_said : ℕ → Float → List ℕ → ℕ → List ℕ → GapBuffers → Said (Result GapSweep)
gaps_said n x file clock body old = saying (λ scheme. gaps_into scheme file clock body old) (scheme_said n x)

-- two receptions of it, merged into buffers that hold `old`
abbrev pub merge_said : ℕ → Float → List ℕ → ℕ → List ℕ → List ℕ → GapBuffers → Said (Result GapSweep)
merge_said n x file clock first second old = saying (λ scheme. merge_into scheme file clock first second old) (scheme_said n x)

-- The same of l3_gaps and l3_merge, and of the fourth buffer, the marks.
pub record GapsLeave (s : GapBuffers → Said (Result GapSweep)) (number : ℕ) (old new : GapBuffers) (ints ints' : List ℕ) (floats floats' : List Float) : Type 0 where
  pub report : Leaves (saying (λ a. report_of (gap_sweep_in a) sweep_report) (s old)) number ints ints' floats floats'
  pub azimuths : new.azimuths ≡ lent_by (room_first ints floats (s old)) (λ p. p.azimuths) old.azimuths
  pub codes : new.codes ≡ lent_by (room_first ints floats (s old)) (λ p. p.codes) old.codes
  pub physical : new.physical ≡ lent_by (room_first ints floats (s old)) (λ p. p.physical) old.physical
  pub marks : new.marks ≡ lent_by (room_first ints floats (s old)) (λ p. p.marks) old.marks

-- the sweep with a plan, read into buffers that hold `old`
abbrev pub totals_said : ℕ → Float → List ℕ → ℕ → List ℕ → List ℕ → TotalsBuffers → Said (Result Totalled)
totals_said n x file clock body plan old = saying (λ scheme. totals_into scheme file clock body plan old) (scheme_said n x)

-- The same of l3_totals, and of the fourth buffer, the totals.
pub record TotalsLeave (s : TotalsBuffers → Said (Result Totalled)) (number : ℕ) (old new : TotalsBuffers) (ints ints' : List ℕ) (floats floats' : List Float) : Type 0 where
  pub report : Leaves (saying (λ a. report_of (totals_in a) totals_report) (s old)) number ints ints' floats floats'
  pub azimuths : new.azimuths ≡ lent_by (room_first ints floats (s old)) (λ t. t.sweep.azimuths) old.azimuths
  pub codes : new.codes ≡ lent_by (room_first ints floats (s old)) (λ t. t.sweep.codes) old.codes
  pub physical : new.physical ≡ lent_by (room_first ints floats (s old)) (λ t. t.sweep.physical) old.physical
  pub totals : new.totals ≡ lent_by (room_first ints floats (s old)) (λ t. t.totals) old.totals

-- The same of l3_symbology, which reads a body by d into two buffers that held az and cs.
pub record PictureLeaves (d : ℕ → ℕ → Result Picture) (number : ℕ) (az az' : List Float) (cs cs' : List ℕ) (ints ints' : List ℕ) (floats floats' : List Float) : Type 0 where
  pub report : Leaves (said (report_of (figures_in (d (length az) (length cs))) figures_report)) number ints ints' floats floats'
  pub azimuths : az' ≡ lent_by (room_first ints floats (said (d (length az) (length cs)))) (λ p. p.azimuths) az
  pub codes : cs' ≡ lent_by (room_first ints floats (said (d (length az) (length cs)))) (λ p. p.codes) cs

-- the totals of a plan over a picture's codes, by the precipitation scale of a description block, of which they take floor and ceiling, not
-- the factor; for a totals buffer of nt places
abbrev pub plan_totals : List ℕ → ℕ → List ℕ → ℕ → ℕ → List ℕ → ℕ → Result (List ℕ)
plan_totals file block codes radials bins plan nt =
    then (precip_family_scale file block (f32 1 1)) λ scale.
    picture_totals codes radials bins scale plan nt

-- The same of l3_export16 and l3_plan_totals, which write what d gives to a buffer that held o.
pub record ExportLeaves (d : ℕ → Result (List ℕ)) (number : ℕ) (o o' : List ℕ) (ints ints' : List ℕ) (floats floats' : List Float) : Type 0 where
  pub report : Leaves (said (report_of (length_in (d (length o))) number_report)) number ints ints' floats floats'
  pub output : o' ≡ lent_by (room_first ints floats (said (d (length o)))) (λ b. b) o

-- the values of the codes, for a buffer of `np` places
abbrev pub physical_said : ℕ → Float → List ℕ → ℕ → List ℕ → ℕ → Said (Result (List Float))
physical_said n x file block codes np = saying (λ scheme. fill_of scheme file block codes np) (scheme_said n x)

-- what the code says of a scheme's number
abbrev pub asked_of : Std.Result Scheme ℕ → Said Scheme
asked_of (Std.Ok s) = said s
asked_of (Std.Err n) = failed n
