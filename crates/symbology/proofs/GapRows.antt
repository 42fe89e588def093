-- The picture of a body that is accepted with gaps: as many marks and codes as its figures say. Assumes nothing.
use Rattle.std.proofs.Common.{◌≡◌, ℕ, ◌*◌, ◌<◌, List, [], map, length, get_or, take, drop, sym, refl, ap, ◌∙◌, subst, append-nil}
use lib.ListN.{length-map, get_or-map}
use Rattle.wire.specs.Result.{Result, accepted}
use Rattle.wire.specs.Reading.{Given, run, marked, gaps}
use Rattle.wire.proofs.Results.{one_value, through}
use Rattle.symbology.specs.Rows.{row_of}
use Rattle.symbology.specs.Symbology.{Sweep, symbology}
use Rattle.symbology.specs.Damage.{row_in, data_in}
use Rattle.symbology.specs.Answers.{joined, mark_of, shown, GapPicture, gap_picture_of}
use Rattle.symbology.specs.declared.figures.Figures.{Figures}
use Rattle.symbology.proofs.Containment.{data_length}
use Rattle.symbology.proofs.FullRow.{full_row}
use Rattle.symbology.proofs.Gapped.{gap_rows}
use Rattle.symbology.proofs.Placement.{gap_placed}
use Rattle.symbology.proofs.RowPlaces.{row_place, joined_long}
use Rattle.symbology.proofs.Writing.{shown_long}

module _ (b : List ℕ) (g : Given Sweep) (acc : run (gaps symbology) b 0 ≡ accepted g) where
  -- as many rows as radials
  pub gap_count : length g.rows ≡ g.value.figures.n_radials
  gap_count = (gap_rows symbology b g acc).0 ∙ (gap_placed b g acc).count

  -- each, a gap or not, has n_bins codes
  pub gap_long : (r : ℕ) → r < g.value.figures.n_radials → length (shown g.value.figures.n_bins (get_or g.rows r [])) ≡ g.value.figures.n_bins
  unfolding row_in data_in
  gap_long r lt =
      let q = gap_placed b g acc in
      let f = g.value.figures in
      let bytes = data_in symbology b r b in
      let made : get_or g.rows r [] ≡ marked (row_of f.packet f.n_bins r bytes) =
      (gap_rows symbology b g acc).1 r (rw q.count lt) ∙ ap (λ (h : List ℕ → Result (List ℕ)). marked (h bytes)) (q.rows r lt) in
      ap (λ (row : List ℕ). length (shown f.n_bins row)) made
      ∙ shown_long f.n_bins (row_of f.packet f.n_bins r bytes)
      (λ codes e. (full_row f.packet f.n_bins r bytes codes (rw (data_length symbology b r) (q.enough r lt)) e).2)

-- a body that is accepted with gaps, with the figures f
module _ (b : List ℕ) (g : Given Sweep) (acc : run (gaps symbology) b 0 ≡ accepted g) (f : Figures) (is : g.value.figures ≡ f) where
  -- its rows and gaps as they are shown
  abbrev rows : List (List ℕ)
  rows = map (shown f.n_bins) g.rows

  many : length rows ≡ f.n_radials
  many = length-map g.rows (shown f.n_bins) ∙ gap_count b g acc ∙ ap (λ (x : Figures). x.n_radials) is

  row_at : (r : ℕ) → get_or rows r [] ≡ shown f.n_bins (get_or g.rows r [])
  unfolding shown
  row_at r = get_or-map (shown f.n_bins) g.rows r []

  each_long : (r : ℕ) → r < length rows → length (get_or rows r []) ≡ f.n_bins
  each_long r lt =
      ap length (row_at r)
      ∙ subst (λ (x : Figures). r < x.n_radials → length (shown x.n_bins (get_or g.rows r [])) ≡ x.n_bins) is (gap_long b g acc r) (rw many at lt)

  -- row r of the codes is the row, or the gap, of radial r
  pub gap_row_here : (r : ℕ) → r < f.n_radials
      → take f.n_bins (drop (r * f.n_bins) (joined rows)) ≡ shown f.n_bins (get_or g.rows r [])
  gap_row_here r lt =
      ap (λ (l : List ℕ). take f.n_bins (drop (r * f.n_bins) l)) (sym (append-nil (joined rows)))
      ∙ row_place f.n_bins rows [] each_long r (rw many lt) ∙ row_at r

  pub gap_codes_long : length (joined rows) ≡ f.n_radials * f.n_bins
  gap_codes_long = joined_long f.n_bins rows each_long ∙ rw many

  pub marks_long : length (map mark_of g.rows) ≡ f.n_radials
  marks_long = length-map g.rows mark_of ∙ gap_count b g acc ∙ ap (λ (x : Figures). x.n_radials) is

pub gap_sizes : (b : List ℕ) (p : GapPicture) → gap_picture_of b ≡ accepted p
    → (length p.marks ≡ p.picture.figures.n_radials) × (length p.picture.codes ≡ p.picture.figures.n_radials * p.picture.figures.n_bins)
unfolding gap_picture_of
gap_sizes b p e =
    through (run (gaps symbology) b 0) _ p e λ g eg y.
    let same = one_value y in
    subst (λ (p : GapPicture). (length p.marks ≡ p.picture.figures.n_radials) × (length p.picture.codes ≡ p.picture.figures.n_radials * p.picture.figures.n_bins)) same
    (marks_long b g eg _ refl, gap_codes_long b g eg _ refl)
