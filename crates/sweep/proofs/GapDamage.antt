-- Demand 3's damage and the sweep reading with gaps. Assumes nothing.
use Prim.Native.Nat.{ℕ, ◌+◌, ◌*◌, ◌<◌, ◌≤◌}
use native.Mathlib.Omega.{arith}
use mathlib.Core.List.{List, [], ◌∷◌, map}
use mathlib.Core.Logic.{◌↔◌}
use mathlib.Core.Path.{◌≡◌, refl, sym, ap, ◌∙◌, subst}
use lib.ListN.{length, get_or, drop, length-map, get_or-map}
use lib.Ieee.{Float}
use Rattle.wire.specs.Result.{Result, accepted, refused}
use Rattle.wire.specs.Reading.{marked}
use Rattle.head.specs.Header.{message_header}
use Rattle.scale.specs.Physical.{physical_of}
use Rattle.scale.specs.declared.physical.Scheme.{Scheme}
use Rattle.symbology.specs.Answers.{joined, mark_of, shown}
use Rattle.symbology.specs.Rows.{row_of}
use Rattle.symbology.specs.Places.{Placed}
use Rattle.symbology.specs.Symbology as Symbology
use Rattle.symbology.specs.Symbology.{symbology}
use Rattle.symbology.specs.Damage.{Changed, radial_count}
use Rattle.symbology.specs.Words.{Bytes, data_of, ChangedIn, DamageInWords}
use Rattle.symbology.proofs.Gapped.{GapContained, gap_contained}
use Rattle.symbology.proofs.GapRows.{gap_row_here, gap_codes_long, marks_long}
use Rattle.symbology.proofs.Placement.{placed}
use Rattle.symbology.proofs.RowPlaces.{row_here}
use Rattle.symbology.proofs.Words.{damage_in_words}
use Rattle.wire.proofs.Results.{clash}
use Rattle.sweep.specs.Sweep.{Accepted, sweep_of}
use Rattle.sweep.specs.GapSweep.{GapSweep, blanked, gap_sweep_of}
use Rattle.sweep.specs.Demand3.{row_at}
use Rattle.sweep.specs.InWords.{RowInWords}
use Rattle.sweep.specs.WithGaps.{GapRows, GapKept}
use Rattle.sweep.proofs.InWords.{radial_changed, row_is, radial_makes}
use Rattle.sweep.proofs.Parts.{block_start, Parts, parts}
use Rattle.sweep.proofs.RowLaws.{row_values}
use Rattle.sweep.proofs.Blanks.{blank_kept, blank_gap}
use Rattle.sweep.proofs.AsOrdinary.{gap_gives}

-- what the data of a radial make
abbrev Made : Result (List ℕ) → Type 0
Made c = (codes : List ℕ) × (c ≡ accepted codes)

mark_one : (c : Result (List ℕ)) → mark_of (marked c) ≡ 1 → (marked c ≡ 1 ∷ []) × (Made c → ⊥)
mark_one (accepted codes) m = absurd (omega (arith, m))
mark_one (refused x) m = (refl, λ w. clash w.0 x w.1)

mark_else : (c : Result (List ℕ)) → (mark_of (marked c) ≡ 1 → ⊥) → mark_of (marked c) ≡ 0
mark_else (accepted codes) n = refl
mark_else (refused x) n = absurd (n refl)

mark_made : (c : Result (List ℕ)) {codes : List ℕ} → c ≡ accepted codes → marked c ≡ 0 ∷ codes
mark_made c e = ap marked e

module _ (scheme : Scheme) (file : List ℕ) (clock : ℕ) (b b' : List ℕ) (na nc np nm : ℕ) (p : Accepted) (q : Parts scheme file clock na nc np b p)
    (small : Bytes b') (d : DamageInWords b p.sweep.figures b') (room : p.sweep.figures.n_radials ≤ nm) where
  n : ℕ
  n = p.sweep.figures.n_radials

  bins : ℕ
  bins = p.sweep.figures.n_bins

  value : ℕ → Float
  value = physical_of scheme file q.head.block

  contained : GapContained symbology b b' q.body
  contained =
      gap_contained symbology b b' q.body q.body_is
      ((damage_in_words b b' q.body q.body_is).1 (rw q.figures d))

  rows : List (List ℕ)
  rows = contained.second.rows

  codes' : List ℕ
  codes' = joined (map (shown bins) rows)

  second : GapSweep
  second =
      record {
        sweep = p.sweep;
        azimuths = p.azimuths;
        codes = codes';
        physical = blanked bins (map mark_of rows) (map value codes');
        marks = map mark_of rows;
      }

  gives : gap_sweep_of scheme file clock b' na nc np nm ≡ accepted second
  unfolding n bins value rows codes' second
  gives =
      gap_gives scheme file clock b' na nc np nm p q.head contained.second q.head_is contained.gives
      (ap (λ (a : Symbology.Sweep). a.figures) contained.value ∙ q.figures) (ap (λ (a : Symbology.Sweep). a.azimuths) contained.value ∙ q.azimuths) q.finishes room

  figures_are : contained.second.value.figures ≡ p.sweep.figures
  figures_are = ap (λ (a : Symbology.Sweep). a.figures) contained.value ∙ q.figures

  -- the places of the first body
  places : Placed b p.sweep.figures
  places = subst (Placed b) q.figures (placed b q.body q.body_is)

  count_is : radial_count symbology b ≡ n
  unfolding n
  count_is = places.count

  -- the data that radial r has in the second body
  data' : ℕ → List ℕ
  data' r = data_of p.sweep.figures.packet b r b'

  -- what they make
  there : ℕ → Result (List ℕ)
  there r = row_of p.sweep.figures.packet bins r (data' r)

  makes : (r : ℕ) → r < n → Made (there r) ↔ RowInWords p.sweep.figures.packet bins (data' r)
  unfolding n bins there data'
  makes r lt = rw (row_is p.sweep.figures b b' places r lt) at (radial_makes p.sweep.figures b b' places d.same_length small r lt)

  each : (r : ℕ) → r < n → get_or rows r [] ≡ marked (there r)
  unfolding n bins rows there data'
  each r lt = contained.each r (rw count_is lt) ∙ ap marked (row_is p.sweep.figures b b' places r lt)

  mark_at : (r : ℕ) → r < n → get_or (map mark_of rows) r 0 ≡ mark_of (marked (there r))
  mark_at r lt = get_or-map mark_of rows r [] ∙ ap mark_of (each r lt)

  -- row r of the codes
  codes_at : (r : ℕ) → r < n → row_at bins r codes' ≡ shown bins (marked (there r))
  unfolding n bins rows codes'
  codes_at r lt = gap_row_here b' contained.second contained.gives p.sweep.figures figures_are r lt ∙ ap (shown bins) (each r lt)

  made_at : (r : ℕ) → r < n → {codes : List ℕ} → there r ≡ accepted codes → row_at bins r codes' ≡ codes
  unfolding shown
  made_at r lt e = codes_at r lt ∙ ap (λ (c : Result (List ℕ)). shown bins (marked c)) e

  many_marks : length (map mark_of rows) ≡ n
  unfolding n rows
  many_marks = marks_long b' contained.second contained.gives p.sweep.figures figures_are

  values_long : length (map value codes') ≡ length (map mark_of rows) * bins
  unfolding n bins rows codes'
  values_long =
      length-map codes' value ∙ gap_codes_long b' contained.second contained.gives p.sweep.figures figures_are ∙ ap (λ k. k * bins) (sym many_marks)

  -- the values of a row that is made
  values_at : (r : ℕ) → r < n → {codes : List ℕ} → there r ≡ accepted codes → row_at bins r second.physical ≡ map value (row_at bins r codes')
  unfolding second
  values_at r lt e =
      blank_kept bins (map mark_of rows) (map value codes') r values_long (rw many_marks lt) (mark_at r lt ∙ ap (λ (c : Result (List ℕ)). mark_of (marked c)) e)
      ∙ row_values value bins r codes'

  first_at : (r : ℕ) → r < n → row_at bins r p.codes ≡ get_or q.body.rows r []
  unfolding n bins
  first_at r lt = ap (row_at p.sweep.figures.n_bins r) (sym q.codes) ∙ row_here b q.body q.body_is p.sweep.figures q.figures r lt

  changed : (r : ℕ) → r < n → Changed symbology b b' r ↔ ChangedIn p.sweep.figures.packet b b' r
  unfolding n
  changed r lt = radial_changed p.sweep.figures b b' places r lt

  -- the data of an unchanged radial make the first's row
  same_data : (r : ℕ) → r < n → ¬ (ChangedIn p.sweep.figures.packet b b' r) → there r ≡ accepted (get_or q.body.rows r [])
  unfolding rows
  same_data r lt u = by (there r) (sym (each r lt) ∙ contained.unchanged r (rw count_is lt) (λ c. u ((changed r lt).0 c)))
    where
      by : (c : Result (List ℕ)) → marked c ≡ 0 ∷ get_or q.body.rows r [] → c ≡ accepted (get_or q.body.rows r [])
      by (accepted codes) e = ap accepted (ap (drop 1) e)
      by (refused x) e = absurd (let z : ◌≡◌ {A = ℕ} 1 0 = ap (λ l. get_or l 0 0) e in omega (arith, z))

  -- a mark is 1 just where changed data make no row
  marks_are : (r : ℕ) → r < n → (get_or (map mark_of rows) r 0 ≡ 1) ↔ (ChangedIn p.sweep.figures.packet b b' r × ¬ (RowInWords p.sweep.figures.packet bins (data' r)))
  unfolding n bins rows data'
  marks_are r lt =
      let g = contained.gap r (rw count_is lt) in
      let m = radial_makes p.sweep.figures b b' places d.same_length small r lt in (
        λ e. let w = g.0 (sym (get_or-map mark_of rows r []) ∙ e) in ((changed r lt).0 w.0, λ k. w.1 (m.1 k)),
        λ w. get_or-map mark_of rows r [] ∙ g.1 ((changed r lt).1 w.0, λ k. w.1 (m.0 k)),
      )

  start : (header : ℕ) × (message_header file ≡ accepted header) × (q.head.block ≡ header + 18)
  start = let s = block_start scheme file clock q.head q.head_is in (s.0, s.1, s.2)

  gap_rows : GapRows scheme file p.sweep.figures b b' p.codes second.codes p.physical second.physical second.marks
  unfolding n bins value second there data' shown rows
  gap_rows =
      record {
        gap = marks_are;
        whole = λ r lt m. mark_at r lt ∙ mark_else (there r) (λ e. m (mark_at r lt ∙ e));
        gap_row = λ r lt m. (
          codes_at r lt ∙ ap (shown bins) (mark_one (there r) (sym (mark_at r lt) ∙ m)).0,
          blank_gap bins (map mark_of rows) (map value codes') r values_long (rw many_marks lt) m,
        );
        unchanged = λ r lt u. (
          made_at r lt (same_data r lt u) ∙ sym (first_at r lt),
          values_at r lt (same_data r lt u) ∙ ap (map value) (made_at r lt (same_data r lt u) ∙ sym (first_at r lt)) ∙ sym (row_values value bins r p.codes) ∙ ap (row_at bins r) (sym q.physical),
        );
        made = λ r lt k. let m = (makes r lt).1 k in m.1 ∙ ap accepted (sym (made_at r lt m.1));
        header = start.0;
        header_is = start.1;
        values = λ r lt k. rw (← start.2) (values_at r lt ((makes r lt).1 k).1);
      }

  kept : GapKept scheme file clock b b' na nc np nm p
  unfolding second
  kept = record { second = second; gives = gives; sweep = refl; azimuths = refl; rows = gap_rows }

-- The first body is accepted by the ordinary reading, the second damaged as demand 3 says, and there is room for the marks.
pub gap_damage : (scheme : Scheme) (file : List ℕ) (clock : ℕ) (b b' : List ℕ) (na nc np nm : ℕ) (p : Accepted) → sweep_of scheme file clock b na nc np ≡ accepted p
    → Bytes b' → DamageInWords b p.sweep.figures b' → p.sweep.figures.n_radials ≤ nm → GapKept scheme file clock b b' na nc np nm p
gap_damage scheme file clock b b' na nc np nm p acc small d room =
    kept scheme file clock b b' na nc np nm p (parts scheme file clock na nc np b p acc) small d room
