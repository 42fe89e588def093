-- When the sweep reading with gaps is the ordinary one. Assumes nothing.
use Prim.Native.Nat.{ℕ, zero, suc, ◌<◌, ◌≤◌}
use native.Mathlib.Omega.{arith}
use mathlib.Core.List.{List, [], ◌∷◌, ◌++◌, map}
use mathlib.Core.Path.{◌≡◌, refl, sym, ap, ◌∙◌, subst}
use lib.ListN.{length, get_or, get_or-map}
use lib.Dec.{ltb}
use lib.Ieee.{Float}
use borrow.Author.Tests.{le-ltb}
use Rattle.wire.specs.Result.{Result, accepted, refused}
use Rattle.wire.specs.Reading.{Read, Given, run, gaps, marked}
use Rattle.wire.proofs.Results.{one_value, through, passed}
use Rattle.wire.proofs.Gaps.{Whole, whole_row, all_whole, gaps_accepted, no_gaps}
use Rattle.scale.specs.Physical.{physical_of}
use Rattle.scale.specs.declared.physical.Scheme.{Scheme}
use Rattle.symbology.specs.Damage.{row_in, radial_at}
use Rattle.symbology.proofs.Gapped.{gap_rows}
use Rattle.symbology.specs.Answers.{Picture, joined, mark_of, shown, GapPicture, picture_of, gap_picture_of}
use Rattle.symbology.specs.Symbology as Symbology
use Rattle.symbology.specs.Symbology.{symbology}
use Rattle.sweep.specs.Sweep.{head_of, Accepted, finish, sweep_of}
use Rattle.sweep.specs.GapSweep.{GapSweep, blanked, gap_finish, gap_sweep_of}
use Rattle.sweep.specs.WithGaps.{SamePicture, NoneMarked, AsOrdinary}
use Rattle.sweep.specs.declared.plan.Head.{Head}
use Rattle.sweep.proofs.Parts.{picture, with_codes, Parts, parts}
use Rattle.sweep.proofs.Blanks.{blank_none}
use Rattle.sweep.proofs.GapParts.{gap_sweep_sizes, none_marked}

whole_marks : (rows : List (List ℕ)) (r : ℕ) → get_or (map mark_of (map whole_row rows)) r 0 ≡ 0
whole_marks [] r = refl
whole_marks (row ∷ rows) zero = refl
whole_marks (row ∷ rows) (suc r) = whole_marks rows r

whole_codes : (bins : ℕ) (rows : List (List ℕ)) → joined (map (shown bins) (map whole_row rows)) ≡ joined rows
unfolding joined shown
whole_codes bins [] = refl
whole_codes bins (row ∷ rows) = ap (λ l. row ++ l) (whole_codes bins rows)

-- ---- acceptance

-- what the reading with gaps gives, once the body is read
pub gap_gives : (scheme : Scheme) (file : List ℕ) (clock : ℕ) (b : List ℕ) (na nc np nm : ℕ) (p : Accepted) (h : Head) (g : Given Symbology.Sweep)
    → head_of scheme file clock ≡ accepted h → run (gaps symbology) b 0 ≡ accepted g → g.value.figures ≡ p.sweep.figures → g.value.azimuths ≡ p.azimuths
    → ((l : List ℕ) → finish scheme file na nc np h (picture p l) ≡ accepted (with_codes (physical_of scheme file h.block) p l))
    → p.sweep.figures.n_radials ≤ nm
    → gap_sweep_of scheme file clock b na nc np nm
    ≡ accepted (record {
      sweep = p.sweep;
      azimuths = p.azimuths;
      codes = joined (map (shown p.sweep.figures.n_bins) g.rows);
      physical = blanked p.sweep.figures.n_bins (map mark_of g.rows) (map (physical_of scheme file h.block) (joined (map (shown p.sweep.figures.n_bins) g.rows)));
      marks = map mark_of g.rows;
    })
unfolding gap_sweep_of gap_picture_of gap_finish
gap_gives scheme file clock b na nc np nm p h g eh eg ef ea fin room =
    rw (eh, eg, ef, ea, fin (joined (map (shown p.sweep.figures.n_bins) g.rows)), le-ltb nm p.sweep.figures.n_radials room)

-- ---- marks

mark_whole : (c : Result (List ℕ)) → mark_of (marked c) ≡ 0 → Whole (marked c)
mark_whole (accepted codes) m = (codes, refl)
mark_whole (refused x) m = absurd (omega (arith, m))

marked_whole : {W A : Type 0} (t : Read W A) (s : List ℕ) (g : Given A) → run (gaps t) s 0 ≡ accepted g → (r : ℕ) → r < length g.rows → mark_of (get_or g.rows r []) ≡ 0
    → Whole (get_or g.rows r [])
marked_whole t s g acc r lt m =
    let a = gap_rows t s g acc in
    let e = a.1 r (rw a.0 at lt) in
    let w = mark_whole (row_in (radial_at t s r) s) (ap mark_of (sym e) ∙ m) in
    (w.0, e ∙ w.1)

-- ---- both readings

-- the pictures that the two readings draw
abbrev pub drawn : Given Symbology.Sweep → Picture
drawn g = record { figures = g.value.figures; azimuths = g.value.azimuths; codes = joined g.rows }

abbrev pub gap_drawn : Given Symbology.Sweep → Picture
gap_drawn g = record { figures = g.value.figures; azimuths = g.value.azimuths; codes = joined (map (shown g.value.figures.n_bins) g.rows) }

pub whole_drawn : (g : Given Symbology.Sweep) → gap_drawn (all_whole g) ≡ drawn g
unfolding all_whole
whole_drawn g = ap (λ (l : List ℕ). record { figures = g.value.figures; azimuths = g.value.azimuths; codes = l }) (whole_codes g.value.figures.n_bins g.rows)

module _ (scheme : Scheme) (file : List ℕ) (clock : ℕ) (b : List ℕ) (na nc np nm : ℕ) where
  whole : (p : Accepted) → sweep_of scheme file clock b na nc np ≡ accepted p → p.sweep.figures.n_radials ≤ nm
      → (g : GapSweep) × (gap_sweep_of scheme file clock b na nc np nm ≡ accepted g) × NoneMarked g.sweep.figures g.marks
  unfolding all_whole
  whole p acc room = (second, gives, λ r lt. whole_marks rows r)
    where
      q : Parts scheme file clock na nc np b p
      q = parts scheme file clock na nc np b p acc

      rows : List (List ℕ)
      rows = q.body.rows

      bins : ℕ
      bins = p.sweep.figures.n_bins

      value : ℕ → Float
      value = physical_of scheme file q.head.block

      marks : List ℕ
      marks = map mark_of (map whole_row rows)

      codes : List ℕ
      codes = joined (map (shown bins) (map whole_row rows))

      second : GapSweep
      second = record { sweep = p.sweep; azimuths = p.azimuths; codes = codes; physical = blanked bins marks (map value codes); marks = marks }

      read : run (gaps symbology) b 0 ≡ accepted (all_whole q.body)
      read = gaps_accepted symbology b 0 q.body q.body_is

      gives : gap_sweep_of scheme file clock b na nc np nm ≡ accepted second
      gives = gap_gives scheme file clock b na nc np nm p q.head (all_whole q.body) q.head_is read q.figures q.azimuths q.finishes room

  unmarked : (g : GapSweep) → gap_sweep_of scheme file clock b na nc np nm ≡ accepted g → NoneMarked g.sweep.figures g.marks
      → (p : Accepted) × (sweep_of scheme file clock b na nc np ≡ accepted p) × SamePicture g p
  unfolding gap_sweep_of gap_picture_of gap_finish sweep_of picture_of all_whole
  unmarked g acc unmarked-all =
      let none = none_marked g.sweep.figures g.marks (gap_sweep_sizes scheme file clock b na nc np nm g acc).marks unmarked-all in
      through (head_of scheme file clock) _ g acc λ h eh e₁.
      through (gap_picture_of b) _ g e₁ λ p ep e₂.
      through (run (gaps symbology) b 0) _ p ep λ a ea e₃.
      through (finish scheme file na nc np h p.picture) _ g e₂ λ x ex e₄.
      passed (ltb nm p.picture.figures.n_radials) _ _ g e₄ λ _ e₅.
      let is = one_value e₃ in
      let gs = one_value e₅ in
      let marks : map mark_of a.rows ≡ g.marks = ap (λ (y : GapPicture). y.marks) is ∙ ap (λ (y : GapSweep). y.marks) gs in
      let w = no_gaps symbology b 0 a ea (λ r lt. marked_whole symbology b a ea r lt (sym (get_or-map mark_of a.rows r []) ∙ ap (λ l. get_or l r 0) marks ∙ none r)) in
      let same : p.picture ≡ drawn w.0 = ap (λ (y : GapPicture). y.picture) (sym is) ∙ ap gap_drawn w.1.1 ∙ whole_drawn w.0 in (
        x,
        rw (eh, w.1.0) (ap (finish scheme file na nc np h) (sym same) ∙ ex),
        record {
          sweep = ap (λ (y : GapSweep). y.sweep) (sym gs);
          azimuths = ap (λ (y : GapSweep). y.azimuths) (sym gs);
          codes = ap (λ (y : GapSweep). y.codes) (sym gs);
          physical =
              ap (λ (y : GapSweep). y.physical) (sym gs)
              ∙ blank_none _ p.marks x.physical (λ r. ap (λ (y : GapSweep). get_or y.marks r 0) gs ∙ none r);
        },
      )

-- An accepted body is accepted with gaps, with none marked and the same picture, where the mark buffer is long enough.
pub ordinary_whole : (scheme : Scheme) (file : List ℕ) (clock : ℕ) (b : List ℕ) (na nc np nm : ℕ) (p : Accepted) → sweep_of scheme file clock b na nc np ≡ accepted p → p.sweep.figures.n_radials ≤ nm
    → (g : GapSweep) × (gap_sweep_of scheme file clock b na nc np nm ≡ accepted g) × NoneMarked g.sweep.figures g.marks × SamePicture g p
ordinary_whole scheme file clock b na nc np nm p acc room =
    let w = whole scheme file clock b na nc np nm p acc room in
    let u = unmarked scheme file clock b na nc np nm w.0 w.1 w.2 in
    (w.0, w.1, w.2, subst (SamePicture w.0) (one_value (sym u.1 ∙ acc)) u.2)

-- The mark buffer is long enough for the picture, if there is one.
pub as_ordinary : (scheme : Scheme) (file : List ℕ) (clock : ℕ) (b : List ℕ) (na nc np nm : ℕ)
    → ((p : Accepted) → sweep_of scheme file clock b na nc np ≡ accepted p → p.sweep.figures.n_radials ≤ nm) → AsOrdinary scheme file clock b na nc np nm
as_ordinary scheme file clock b na nc np nm room =
    record {
      exactly = (
        λ (g, acc, none). let u = unmarked scheme file clock b na nc np nm g acc none in (u.0, u.1),
        λ (p, acc). whole scheme file clock b na nc np nm p acc (room p acc),
      );
      equal = λ g acc none p is.
          let u = unmarked scheme file clock b na nc np nm g acc none in
          subst (SamePicture g) (one_value (sym u.1 ∙ is)) u.2;
    }
