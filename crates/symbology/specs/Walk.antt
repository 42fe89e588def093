-- The walk over the radials as the code goes, one for all packets; it is the reading's (proofs/Bodies.antt `walk_is`, XdrRadials.antt
-- `radials_are`). No public contract cites this file.
use Rattle.std.specs.Prelude.{◌≡◌, ℕ, zero, suc, ◌+◌, ◌-◌, ◌*◌, ◌/◌, ◌%◌, ◌≤◌, Bool, true, false, cond, not, ◌&&◌, List, [], ◌∷◌, map, length, ℤ, pos, ◌==◌, int_le, nat_lt, slice_set, Option, Some, None, Float}
use Rattle.std.specs.Prelude as Std
use Rattle.std.specs.Option.{unwrap_or}
use Rattle.std.proofs.Math.Seq.{slice}
use Rattle.wire.specs.Refusal.{refusal_of, kind, nat, whole}
use Rattle.wire.specs.declared.error.Level3DecodeError.{Level3DecodeError}
use Rattle.wire.specs.Bytes.{u16_at}
use Rattle.wire.specs.Result.{Result, accepted, refused, then}
use Rattle.wire.specs.Reading.{Read, Flat, gaps, marked, give, remaining, ◌>>=◌, ◌>>◌, radial_data, refuse_if, run, walk, Given, Ended, passed, halted}
use Rattle.xdr.specs.Xdr.{pointer, at_least0, elements}
use Rattle.symbology.specs.Centre.{centre}
use Rattle.symbology.specs.Rows.{row_of, codes_of, FullRow}
use Rattle.symbology.specs.Answers.{joined, shown, mark_of, admit, passing, decode_for, gap_decode_for, Decodes, DecodesWithGaps}
use Rattle.symbology.specs.Merge.{usable}
use Rattle.symbology.specs.Places.{Enough}
use Rattle.symbology.specs.Symbology.{Sweep, covered, frame, xdr_frame, component, only}
use Rattle.symbology.specs.declared.figures.Packet.{Packet}
use Rattle.symbology.specs.declared.figures.Packet.TheVariants.{Packet16, PacketAf1f, Packet28}
use Rattle.symbology.specs.declared.spans.Place.{Place}
use Rattle.symbology.specs.declared.spans.Plan.{Plan}
use Rattle.symbology.specs.declared.spans.BodyPlan.{BodyPlan}
use Rattle.symbology.specs.declared.spans.Room.{Room}
use Rattle.symbology.specs.declared.figures.Figures.{Figures}
use Rattle.symbology.specs.declared.figures.Terms.{Terms}

-- ---- with gaps and without

-- a reading, or the same with gaps
unfoldable pub in_mode : {W A : Type 0} → Bool → Read W A → Read W A
in_mode true t = gaps t
in_mode false t = t

-- what it has for a radial's row
unfoldable pub kept_of : Bool → Result (List ℕ) → Result (List ℕ)
kept_of true row = accepted (marked row)
kept_of false row = row

-- the codes that are written for it, and for all rows
unfoldable pub cells_of : Bool → ℕ → List ℕ → List ℕ
cells_of true bins row = shown bins row
cells_of false bins row = row

unfoldable pub codes_in : Bool → ℕ → List (List ℕ) → List ℕ
codes_in true bins rows = joined (map (shown bins) rows)
codes_in false bins rows = joined rows

-- and the marks
unfoldable pub marks_in : Bool → List (List ℕ) → List ℕ
marks_in true rows = map mark_of rows
marks_in false rows = []

-- what data are lent for: to be shown, or for a row that they make
unfoldable pub Ready : Bool → Packet → ℕ → List ℕ → Type 0
Ready true packet bins bytes = Enough packet bins (length bytes)
Ready false packet bins bytes = FullRow packet bins bytes

-- the cells that they get, and the mark
unfoldable pub cells_from : Bool → Packet → ℕ → ℕ → List ℕ → List ℕ
cells_from true packet bins r bytes = shown bins (marked (row_of packet bins r bytes))
cells_from false packet bins r bytes = codes_of packet bins bytes

unfoldable pub mark_from : Bool → Packet → ℕ → ℕ → List ℕ → ℕ
mark_from true packet bins r bytes = mark_of (marked (row_of packet bins r bytes))
mark_from false packet bins r bytes = 0

-- a radial's mark, and the marks with it put in its place
unfoldable pub mark_in : Bool → List ℕ → ℕ
mark_in true row = mark_of row
mark_in false row = 0

unfoldable pub put_mark : Bool → List ℕ → ℕ → ℕ → List ℕ
put_mark true marks r mark = slice_set marks r mark
put_mark false marks r mark = marks

-- the reading of a body on terms, with gaps or without
unfoldable pub DecodesIn : Bool → Terms → List ℕ → List Float → List Float → List ℕ → List ℕ → List ℕ → List ℕ → Std.Result Figures Level3DecodeError → Type 0
DecodesIn true t body az az' cs cs' ms ms' r = DecodesWithGaps (gap_decode_for t body) az az' cs cs' ms ms' r
DecodesIn false t body az az' cs cs' ms ms' r = Decodes (decode_for t body) az az' cs cs' r

-- ---- the radials

-- a radial's centre, and how many bytes its data have
pub record Span : Type 0 where
  pub centre : Float
  pub size : ℕ

-- the bins that packet 28 expects: the first reading of radial 0 takes its own
abbrev pub expected_of : Option ℕ → ℕ → ℕ
expected_of = unwrap_or

-- 29, 31, 32, 33 at a position, of a radial with its own number of bins as it was read, the one expected, and the number of integers
-- declared
unfoldable pub frame_tested : ℕ → ℕ → ℤ → Option ℕ → ℕ → ℕ → Ended (Unit {0})
frame_tested radials r own expected declared p =
    cond (int_le own (pos 0)) (halted (kind 29 (nat radials ∷ whole own ∷ [])) p)
    (cond (not (at_least0 own == expected_of expected (at_least0 own))) (halted (kind 31 (nat r ∷ nat (at_least0 own) ∷ nat (expected_of expected (at_least0 own)) ∷ [])) p)
    (cond (not (declared == at_least0 own)) (halted (kind 32 (nat r ∷ nat declared ∷ nat (at_least0 own) ∷ [])) p)
    (cond (r == 0 && nat_lt 4000000 (radials * at_least0 own)) (halted (kind 33 (nat radials ∷ nat (at_least0 own) ∷ nat (radials * at_least0 own) ∷ nat 4000000 ∷ [])) p)
    (passed tt p))))

unfoldable pub beam_span : Packet → ℕ → ℕ → ℕ → Flat Span
beam_span packet radials bins r = do
  beam ← frame packet radials bins r
  give (record { centre = centre beam.start beam.width; size = covered packet beam.count })

unfoldable pub xdr_radial_span : ℕ → ℕ → ℕ → Flat Span
xdr_radial_span radials bins r = do
  xdr ← xdr_frame radials r (expected_of (Some bins))
  give (record { centre = xdr.centre; size = xdr.bins * 4 })

unfoldable pub any_frame : Packet → ℕ → ℕ → ℕ → Flat Span
any_frame Packet16 = beam_span Packet16
any_frame PacketAf1f = beam_span PacketAf1f
any_frame Packet28 = xdr_radial_span

unfoldable pub any_radial : Packet → ℕ → ℕ → ℕ → Flat Float
any_radial packet radials bins r = do
  span ← any_frame packet radials bins r
  radial_data span.size (row_of packet bins r)
  give span.centre

-- n radials from radial r on
unfoldable pub any_walk : Packet → ℕ → ℕ → ℕ → ℕ → Flat (List Float)
any_walk packet radials bins zero r = give []
any_walk packet radials bins (suc n) r = do
  first ← any_radial packet radials bins r
  azimuths ← any_walk packet radials bins n (suc r)
  give (first ∷ azimuths)

-- the same by a body's figures
abbrev pub frame_by : Figures → ℕ → Flat Span
frame_by f r = any_frame f.packet f.n_radials f.n_bins r

abbrev pub radial_by : Figures → ℕ → Flat Float
radial_by f r = any_radial f.packet f.n_radials f.n_bins r

abbrev pub radials_by : Figures → Flat (List Float)
radials_by f = any_walk f.packet f.n_radials f.n_bins f.n_radials 0

-- ---- what the answers say

-- the centre and the place of the data
abbrev pub placed : Ended Span → Result Place
placed (passed sp q) = accepted (record { centre = sp.centre; from = q; to = q + sp.size })
placed (halted x q) = refused x

-- the position after a reading
abbrev pub position : {A : Type 0} → Ended A → Result ℕ
position (passed a q) = accepted q
position (halted x q) = refused x

abbrev pub ends_at : Std.Result ℕ Level3DecodeError → ℕ → Bool
ends_at (Std.Ok q) p = q == p
ends_at (Std.Err e) p = false

-- the position after the walk from radial r on, which starts at p
abbrev pub walk_from : Bool → Packet → ℕ → ℕ → List ℕ → ℕ → ℕ → Result ℕ
walk_from gapped packet radials bins s r p = position (walk (in_mode gapped (any_walk packet radials bins (radials - r) r)) s p)

abbrev pub walk_on : Bool → Figures → List ℕ → ℕ → ℕ → Result ℕ
walk_on gapped f s r p = walk_from gapped f.packet f.n_radials f.n_bins s r p

-- the first bin, which packet 16 alone has
abbrev pub first_of : Packet → List ℕ → ℕ
first_of Packet16 body = u16_at body 18
first_of PacketAf1f body = 0
first_of Packet28 body = 0

-- ---- what is written

abbrev pub Accepted : {A : Type 0} → Result A → Type 0
Accepted {A} r = (a : A) × (r ≡ accepted a)

-- the row of one radial
abbrev pub first_row : List (List ℕ) → List ℕ
first_row [] = []
first_row (row ∷ rows) = row

abbrev pub row_in : Result (Given Float) → List ℕ
row_in (accepted g) = first_row g.rows
row_in (refused x) = []

-- its centre, and the position after it
abbrev pub centre_in : Result (Given Float) → Result (Float × ℕ)
centre_in r = then r λ g. accepted (g.value, g.next)

-- ---- packet 28's payload

-- what follows the list: 28, 35
abbrev pub only_whole : List Sweep → Read (Unit {0}) Sweep
only_whole components = only components >>= λ sweep. remaining >>= λ rest. refuse_if (not (rest == 0)) (kind 35 (nat rest ∷ [])) >> give sweep

-- n components and what follows them; a component after a pointer
abbrev pub listed : ℕ → Read (Unit {0}) Sweep
listed n = elements component n >>= only_whole

abbrev pub next_component : Flat Sweep
next_component = pointer >> component

-- a sweep from its figures and the run of its radials
abbrev pub sweep_from : Figures → Result (Given (List Float)) → Result (Given Sweep)
sweep_from f (accepted g) = accepted (record { value = record { figures = f; azimuths = g.value }; next = g.next; rows = g.rows })
sweep_from f (refused x) = refused x

-- What a plan says of a reading R of the bytes s: its refusal; or its figures, and where its radials stand, all of which are accepted.
pub record Planned (gapped : Bool) (figures : Figures) (at next : ℕ) (s : List ℕ) (R : Result (Given Sweep)) : Type 0 where
  pub radials : Given (List Float)
  pub radials_are : run (in_mode gapped (radials_by figures)) s at ≡ accepted radials
  pub next_is : radials.next ≡ next
  pub whole : R ≡ sweep_from figures (accepted radials)

abbrev pub Plans : Bool → Std.Result Plan Level3DecodeError → List ℕ → Result (Given Sweep) → Type 0
Plans gapped (Std.Ok plan) s R = Planned gapped plan.grid.figures plan.at plan.next s R
Plans gapped (Std.Err e) s R = refused (refusal_of e) ≡ R

-- The same of a body, whose radials stand in a part of it.
pub record Plotted (gapped : Bool) (figures : Figures) (from to at : ℕ) (body : List ℕ) (R : Result (Given Sweep)) : Type 0 where
  pub radials : Given (List Float)
  pub end : ℕ
  pub ordered : from ≤ to
  pub inside : to ≤ length body
  pub radials_are : run (in_mode gapped (radials_by figures)) (slice from to body) at ≡ accepted radials
  pub whole : R ≡ accepted (record { value = record { figures = figures; azimuths = radials.value }; next = end; rows = radials.rows })

abbrev pub Plots : Bool → Std.Result BodyPlan Level3DecodeError → List ℕ → Result (Given Sweep) → Type 0
Plots gapped (Std.Ok plan) body R = Plotted gapped plan.grid.figures plan.from plan.to plan.at body R
Plots gapped (Std.Err e) body R = refused (refusal_of e) ≡ R

abbrev pub in_part : ℕ → ℕ → Plan → BodyPlan
in_part from to plan = record { grid = plan.grid; from = from; to = to; at = plan.at }

-- a body's reading on terms, with buffers of na and nc places: its own refusals, then 10, 9, 36
abbrev pub on_terms : Terms → ℕ → ℕ → Result (Given Sweep) → Result (Given Sweep)
on_terms t na nc reading = passing (admit t na nc) reading

-- what is asked of a body's figures: with buffers of so many places, or without any
abbrev pub asked_for : Terms → Option Room → Figures → Result (Unit {0})
asked_for t None = usable t
asked_for t (Some room) = admit t room.azimuths room.codes
