-- Demand 3's damage and the reading with gaps, for every reading: it accepts, and each row is what the radial's own data make. Assumes nothing.
use Rattle.std.proofs.Common.{◌≡◌, ℕ, zero, suc, ◌<◌, ◌⊎◌, ◌↔◌, List, [], ◌∷◌, map, length, get_or, sym, refl, ap, ◌∙◌, inl, inr, ⊎_elim, le_of_suc-le-suc, not-suc-le-zero, arith}
use lib.ListN.{length-map}
use Rattle.wire.specs.Result.{Result, accepted, refused}
use Rattle.wire.specs.Reading.{Read, Given, run, Frame, frames, marked, gaps}
use Rattle.wire.proofs.Results.{clash, one_value}
use Rattle.wire.proofs.Gaps.{open_frame, gaps_frames, gaps_unread, whole_row, all_whole, gaps_accepted}
use Rattle.symbology.specs.Damage.{no_frame, row_in, radial_count, radial_at, Damage, Changed, MakesRow}
use Rattle.symbology.specs.Answers.{mark_of}
use Rattle.symbology.proofs.Containment.{accepted_rows, makes_or_changed, second_rows, damage_contained}

open_at : (fs : List Frame) (r : ℕ) → r < length fs → get_or (map open_frame fs) r no_frame ≡ open_frame (get_or fs r no_frame)
open_at [] r h = absurd (not-suc-le-zero h)
open_at (f ∷ fs) zero h = refl
open_at (f ∷ fs) (suc r) h = open_at fs r (le_of_suc-le-suc h)

whole_at : (rows : List (List ℕ)) (r : ℕ) → r < length rows → get_or (map whole_row rows) r [] ≡ 0 ∷ get_or rows r []
whole_at [] r h = absurd (not-suc-le-zero h)
whole_at (row ∷ rows) zero h = refl
whole_at (row ∷ rows) (suc r) h = whole_at rows r (le_of_suc-le-suc h)

-- What the reading with gaps gives for a second body s', where the reading of s gave g.
pub record GapContained {W A : Type 0} (t : Read W A) (s s' : List ℕ) (g : Given A) : Type 0 where
  pub second : Given A
  pub gives : run (gaps t) s' 0 ≡ accepted second
  pub value : second.value ≡ g.value
  pub count : length second.rows ≡ radial_count t s
  -- each row, or gap, is what the radial's own data make
  pub each : (r : ℕ) → r < radial_count t s → get_or second.rows r [] ≡ marked (row_in (radial_at t s r) s')
  -- a row that is not changed is the first's
  pub unchanged : (r : ℕ) → r < radial_count t s → ¬ (Changed t s s' r) → get_or second.rows r [] ≡ 0 ∷ get_or g.rows r []
  -- the marks are 1 at precisely the changed radials whose data make no row
  pub gap : (r : ℕ) → r < radial_count t s → (mark_of (get_or second.rows r []) ≡ 1) ↔ (Changed t s s' r × ¬ (MakesRow t s s' r))

module _ {W A : Type 0} (t : Read W A) (s : List ℕ) where
  open_count : radial_count (gaps t) s ≡ radial_count t s
  unfolding radial_count
  open_count = ap length (gaps_frames t s 0) ∙ length-map (frames t s 0) _

  open_radial : (r : ℕ) → r < radial_count t s → radial_at (gaps t) s r ≡ open_frame (radial_at t s r)
  unfolding radial_at radial_count
  open_radial r h = ap (λ fs. get_or fs r no_frame) (gaps_frames t s 0) ∙ open_at (frames t s 0) r h

  row_open : (s' : List ℕ) (r : ℕ) → r < radial_count t s → row_in (radial_at (gaps t) s r) s' ≡ accepted (marked (row_in (radial_at t s r) s'))
  unfolding row_in
  row_open s' r h = rw (open_radial r h)

  -- of a body that is accepted with gaps: as many rows as radials, each what the radial's data make
  pub gap_rows : (g : Given A) → run (gaps t) s 0 ≡ accepted g
      → (length g.rows ≡ radial_count t s) × ((r : ℕ) → r < radial_count t s → get_or g.rows r [] ≡ marked (row_in (radial_at t s r) s))
  gap_rows g acc =
      let a = accepted_rows (gaps t) s g acc in
      (a.0 ∙ open_count, λ r lt. one_value (sym (a.1 r (rw open_count lt)) ∙ row_open s r lt))

  open_damage : (s' : List ℕ) → Damage t s s' → Damage (gaps t) s s'
  open_damage s' d =
      record {
        same_length = d.same_length;
        only = λ i lt ne. ⊎_elim (λ u. inl (gaps_unread t s 0 i u)) (λ w. inr (w.0, rw open_count w.1, rw (open_radial w.0 w.1) w.2)) (d.only i lt ne);
      }

  module _ (s' : List ℕ) (g : Given A) (acc : run t s 0 ≡ accepted g) (d : Damage t s s') where
    first_open : run (gaps t) s 0 ≡ accepted (all_whole g)
    first_open = gaps_accepted t s 0 g acc

    makes_all : (r : ℕ) → r < radial_count (gaps t) s → Changed (gaps t) s s' r → MakesRow (gaps t) s s' r
    makes_all r h c = (_, row_open s' r (rw open_count at h))

    pub gap_contained : GapContained t s s' g
    unfolding all_whole
    gap_contained =
        let o = (damage_contained (gaps t) s s' (all_whole g) first_open (open_damage s' d)).otherwise makes_all in
        let each : (r : ℕ) → r < radial_count t s → get_or o.0.rows r [] ≡ marked (row_in (radial_at t s r) s') =
        λ r lt. one_value (sym (second_rows (gaps t) s s' (all_whole g) first_open (open_damage s' d) o.0 o.1 r (rw open_count lt)) ∙ row_open s' r lt) in
        record {
          second = o.0;
          gives = o.1;
          value = o.2;
          count = o.4 ∙ length-map g.rows _ ∙ (accepted_rows t s g acc).0;
          each = each;
          unchanged = λ r lt u. each r lt ∙ ⊎_elim (λ m. ap marked m) (λ c. absurd (u c)) (makes_or_changed t s s' g acc d r lt);
          gap = λ r lt. (
            λ m. by_mark r (row_in (radial_at t s r) s') refl (sym (ap mark_of (each r lt)) ∙ m) (makes_or_changed t s s' g acc d r lt),
            λ w. ap mark_of (each r lt) ∙ no_row r (row_in (radial_at t s r) s') refl w.1,
          );
        }
      where
        by_mark : (r : ℕ) (c : Result (List ℕ)) → row_in (radial_at t s r) s' ≡ c → mark_of (marked c) ≡ 1
            → (row_in (radial_at t s r) s' ≡ accepted (get_or g.rows r [])) ⊎ Changed t s s' r → Changed t s s' r × ¬ (MakesRow t s s' r)
        by_mark r (accepted codes) e m w = absurd (omega (arith, m))
        by_mark r (refused x) e m (inl k) = clash _ x (sym e ∙ k)
        by_mark r (refused x) e m (inr c) = (c, λ k. clash k.0 x (sym e ∙ k.1))

        no_row : (r : ℕ) (c : Result (List ℕ)) → row_in (radial_at t s r) s' ≡ c → ¬ (MakesRow t s s' r) → mark_of (marked c) ≡ 1
        no_row r (accepted codes) e n = absurd (n (codes, e))
        no_row r (refused x) e n = refl
