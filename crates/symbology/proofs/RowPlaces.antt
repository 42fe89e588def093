-- The rows of an accepted body: how many, which and how long; where each stands among the codes, and how many codes there are.
-- Assumes nothing.
use Rattle.std.proofs.Common.{◌≡◌, ℕ, zero, suc, ◌+◌, ◌*◌, ◌<◌, List, [], ◌∷◌, ◌++◌, length, get_or, take, drop, sym, ap, ◌∙◌, append_assoc, append-nil, suc-le-suc, le_of_suc-le-suc, not-suc-le-zero, suc-mul, add_comm, zero-mul, arith, length-append, drop-drop, take_at, drop_at}
use Rattle.wire.specs.Result.{Result, accepted}
use Rattle.wire.specs.Reading.{Given, run}
use Rattle.symbology.specs.Rows.{row_of}
use Rattle.symbology.specs.Symbology.{Sweep, symbology}
use Rattle.symbology.specs.Damage.{row_in, data_in}
use Rattle.symbology.specs.Answers.{joined}
use Rattle.symbology.specs.declared.figures.Figures.{Figures}
use Rattle.symbology.proofs.FullRow.{full_row}
use Rattle.symbology.proofs.Containment.{accepted_rows, data_length}
use Rattle.symbology.proofs.Placement.{placed}

-- an accepted body has as many rows as radials, each the one that its data make, with n_bins codes
pub rows_of_accepted : (b : List ℕ) (g : Given Sweep) → run symbology b 0 ≡ accepted g
    → (length g.rows ≡ g.value.figures.n_radials)
    × ((r : ℕ) → r < g.value.figures.n_radials
    → (row_of g.value.figures.packet g.value.figures.n_bins r (data_in symbology b r b) ≡ accepted (get_or g.rows r []))
    × (length (get_or g.rows r []) ≡ g.value.figures.n_bins))
unfolding row_in data_in
rows_of_accepted b g acc =
    let q = placed b g acc in
    let a = accepted_rows symbology b g acc in
    let packet = g.value.figures.packet in
    let bins = g.value.figures.n_bins in
    let made : (r : ℕ) → r < g.value.figures.n_radials → row_of packet bins r (data_in symbology b r b) ≡ accepted (get_or g.rows r []) =
    λ r lt. sym (ap (λ (f : List ℕ → Result (List ℕ)). f (data_in symbology b r b)) (q.rows r lt)) ∙ a.1 r (rw q.count lt) in
    (a.0 ∙ q.count, λ r lt. (made r lt, (full_row packet bins r _ _ (rw (data_length symbology b r) (q.enough r lt)) (made r lt)).2))

-- ---- a row's place among the codes

-- where each row has `bins` codes, row r stands at r × bins, whatever comes after the rows
pub row_place : (bins : ℕ) (rows : List (List ℕ)) (rest : List ℕ) → ((r : ℕ) → r < length rows → length (get_or rows r []) ≡ bins)
    → (r : ℕ) → r < length rows → take bins (drop (r * bins) (joined rows ++ rest)) ≡ get_or rows r []
unfolding joined
row_place bins [] rest h r lt = absurd (not-suc-le-zero lt)
row_place bins (row ∷ rows) rest h zero lt =
    let e : length row ≡ bins = h 0 (omega arith) in
    rw (zero-mul bins, append_assoc row (joined rows) rest) (take_at row (joined rows ++ rest) bins e)
row_place bins (row ∷ rows) rest h (suc r) lt =
    let e : length row ≡ bins = h 0 (omega arith) in
    let m : suc r * bins ≡ bins + r * bins = suc-mul r bins ∙ add_comm (r * bins) bins in
    rw (m, append_assoc row (joined rows) rest, ← drop-drop (r * bins) bins (row ++ (joined rows ++ rest)), drop_at row (joined rows ++ rest) bins e)
    (row_place bins rows rest (λ q l. h (suc q) (suc-le-suc l)) r (le_of_suc-le-suc lt))

-- rows of one length, one after the other
pub joined_long : (bins : ℕ) (rows : List (List ℕ)) → ((r : ℕ) → r < length rows → length (get_or rows r []) ≡ bins) → length (joined rows) ≡ length rows * bins
unfolding joined
joined_long bins [] h = sym (zero-mul bins)
joined_long bins (row ∷ rows) h =
    let rest = joined_long bins rows (λ r lt. h (suc r) (suc-le-suc lt)) in
    omega (arith, length-append row (joined rows), h 0 (omega arith), rest, suc-mul (length rows) bins)

-- an accepted body with the figures f
module _ (b : List ℕ) (g : Given Sweep) (acc : run symbology b 0 ≡ accepted g) (f : Figures) (is : g.value.figures ≡ f) where
  count : length g.rows ≡ f.n_radials
  count = (rows_of_accepted b g acc).0 ∙ rw is

  each_long : (r : ℕ) → r < length g.rows → length (get_or g.rows r []) ≡ f.n_bins
  each_long r lt = let a = rows_of_accepted b g acc in (a.1 r (rw a.0 at lt)).1 ∙ rw is

  -- row r of the codes is the row of radial r
  pub row_here : (r : ℕ) → r < f.n_radials → take f.n_bins (drop (r * f.n_bins) (joined g.rows)) ≡ get_or g.rows r []
  row_here r lt =
      ap (λ (l : List ℕ). take f.n_bins (drop (r * f.n_bins) l)) (sym (append-nil (joined g.rows)))
      ∙ row_place f.n_bins g.rows [] each_long r (rw count lt)

  pub codes_long : length (joined g.rows) ≡ f.n_radials * f.n_bins
  codes_long = joined_long f.n_bins g.rows each_long ∙ rw count
