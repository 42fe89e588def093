-- The cells of AF1F runs, written block over block: the first gate places are written, and what is left of the cells makes the rest of
-- the row. Assumes nothing.
use Rattle.std.proofs.Common.{◌≡◌, ℕ, ◌+◌, ◌-◌, ◌<◌, ◌≤◌, min, zero, suc, List, ◌∷◌, ◌++◌, map, length, get_or, take, drop, replicate, sym, refl, ap, ◌∙◌, append_assoc, append-nil, arith, length-append, length-drop, length-take, length-take-le, take_all, take_at}
use lib.ListN.{length-replicate, replicate-append-replicate}
use lib.Seq.{take-append-add, take-append-le}
use borrow.Rule.Slice.PartMut.{put_mid}
use mathlib.Core.List.{map-append}
use Rattle.wire.proofs.Parts.{part_take, part_long}
use Rattle.symbology.specs.Rows.{run_of, colour_of, reach, cells}
use Rattle.symbology.proofs.RunLoops.{left_cons, Reached, reached_end, reached_over, reached_turn}

-- the first n of m times v and more
take_same : {A : Type 0} (n m : ℕ) (v : A) (l : List A) → n ≤ m → take n (replicate m v ++ l) ≡ replicate n v
take_same n m v l h =
    let e : m ≡ n + (m - n) = omega arith in
    rw (e, ← (replicate-append-replicate n (m - n) v), append_assoc) (take_at (replicate n v) _ n (length-replicate n v))

-- `spread`: v at the first places, 16 or all that there are
spread_front : {A : Type 0} {ys : List A} (n : ℕ) (v : A) (d : List A) → n ≤ 16 → n ≤ length d → ys ≡ replicate (min 16 (length d)) v ++ drop 16 d → take n ys ≡ replicate n v
spread_front n v d h k e = rw e (take_same n (min 16 (length d)) v (drop 16 d) (omega arith))

-- what is before a, and then the first k of what is put there
take_past : {A : Type 0} (a k : ℕ) (row ys : List A) → a ≤ length row → take (a + k) (take a row ++ ys) ≡ take a row ++ take k ys
take_past a k row ys h =
    let e : a ≡ length (take a row) = sym (length-take-le a row h) in
    rw (ap (λ (m : ℕ). take (m + k) (take a row ++ ys)) e) (take-append-add (take a row) ys k)

put_long : {A : Type 0} (row ys : List A) (a : ℕ) → a ≤ length row → length ys ≡ length row - a → length (put_mid a (length row - a) row ys) ≡ length row
put_long row ys a h e =
    length-append (take a row) (ys ++ drop (length row - a) (drop a row))
    ∙ omega (arith, e, length-append ys (drop (length row - a) (drop a row)), length-drop (length row - a) (drop a row), length-drop a row, length-take-le a row h)

module _ {A : Type 0} (cell : ℕ → A) where
  map_same : (n v : ℕ) → map cell (replicate n v) ≡ replicate n (cell v)
  map_same zero v = refl
  map_same (suc n) v = ap (λ (l : List A). cell v ∷ l) (map_same n v)

  cells_more : (b k : ℕ) (bs : List ℕ) → map cell (take (run_of b + k) (cells (b ∷ bs))) ≡ replicate (run_of b) (cell (colour_of b)) ++ map cell (take k (cells bs))
  unfolding cells
  cells_more b k bs =
      let run = replicate (run_of b) (colour_of b) in
      let e : take (run_of b + k) (run ++ cells bs) ≡ run ++ take k (cells bs) =
      rw (ap (λ (m : ℕ). take (m + k) (run ++ cells bs)) (sym (length-replicate (run_of b) (colour_of b)))) (take-append-add run (cells bs) k) in
      ap (map cell) e ∙ map-append cell run (take k (cells bs)) ∙ ap (λ (l : List A). l ++ map cell (take k (cells bs))) (map_same (run_of b) (colour_of b))

  pub record Painted (runs : List ℕ) (row₀ row : List A) (i gate : ℕ) : Type 0 where
    pub reached : Reached runs (length row₀) i gate
    pub long : length row ≡ length row₀
    pub known : map cell (take (length row₀) (cells runs)) ≡ take gate row ++ map cell (take (length row₀ - gate) (cells (drop i runs)))

module _ {A : Type 0} {cell : ℕ → A} {runs : List ℕ} {row₀ row : List A} {i gate : ℕ} (full : reach (length row₀) runs ≡ length row₀) (inv : Painted cell runs row₀ row i gate) where
  stop : gate ≡ reach (length row₀) runs → row ≡ map cell (take (length row₀) (cells runs))
  stop h =
      let e : gate ≡ length row₀ = h ∙ full in
      let none : length row₀ - gate ≡ 0 = omega arith in
      sym (inv.known ∙ rw none (append-nil _ ∙ take_all gate row (omega (arith, inv.long))))

  pub painted_end : length runs ≤ i → row ≡ map cell (take (length row₀) (cells runs))
  painted_end h = stop (reached_end inv.reached h)

  module _ {b run : ℕ} (inside : i < length runs) (is : b ≡ get_or runs i 0) (many : run ≡ run_of b) where
    here : run ≡ run_of (get_or runs i 0)
    here = many ∙ ap run_of is

    pub painted_over : length row - gate < run → row ≡ map cell (take (length row₀) (cells runs))
    painted_over h = stop (reached_over inv.reached inside here (rw inv.long at h))

    -- the run's cells stand after those that were there
    pub painted_on : (row' : List A) → run ≤ length row - gate → length row' ≡ length row
        → take (gate + run) row' ≡ take gate row ++ replicate run (cell (colour_of b))
        → Painted cell runs row₀ row' (i + 1) (gate + run)
    painted_on row' h long front =
        let k : length row₀ - gate ≡ run_of b + (length row₀ - (gate + run)) = omega (arith, inv.long) in
        record {
          reached = reached_turn inv.reached inside here (omega (arith, inv.long));
          long = long ∙ inv.long;
          known = inv.known ∙ rw (front, append_assoc, k, left_cons runs i inside, ← is, many) (ap (λ (l : List A). take gate row ++ l) (cells_more cell b _ _));
        }

    -- a run of no cells
    pub painted_none : run ≡ 0 → Painted cell runs row₀ row (i + 1) gate
    painted_none e =
        let z : gate + run ≡ gate = omega arith in
        rw z at (painted_on row (omega arith) refl (rw (z, e) (sym (append-nil _))))

    pub painted_turn : (ys : List A) {v : A} → run ≤ 16 → run ≤ length row - gate → length ys ≡ length row - gate → v ≡ cell (colour_of b)
        → ys ≡ replicate (min 16 (length (take (length row - gate) (drop gate row)))) v ++ drop 16 (take (length row - gate) (drop gate row))
        → Painted cell runs row₀ (put_mid gate (length row - gate) row ys) (i + 1) (gate + run)
    painted_turn ys {v} few h long colour whole =
        let size : length (take (length row - gate) (drop gate row)) ≡ length row - gate = simp (length-take, length-drop) (omega arith) in
        let front : take run ys ≡ replicate run (cell (colour_of b)) =
        spread_front run v (take (length row - gate) (drop gate row)) few (rw size h) whole ∙ ap (replicate run) colour in
        let within : gate ≤ length row = omega (arith, inv.reached.within, inv.long) in
        painted_on (put_mid gate (length row - gate) row ys) h (put_long row ys gate within long)
        (take_past gate run row _ within ∙ rw (take-append-le run ys (drop (length row - gate) (drop gate row)) (omega (arith, long)), front))

    -- a part of just these places comes back filled with the run's cell
    pub painted_run : (ys : List A) {v : A} → run ≤ length row - gate → v ≡ cell (colour_of b)
        → ys ≡ replicate (length (take (gate + run - gate) (drop gate row))) v
        → Painted cell runs row₀ (put_mid gate (gate + run - gate) row ys) (i + 1) (gate + run)
    painted_run ys {v} h colour whole =
        let n : gate + run - gate ≡ run = omega arith in
        let inner : gate + run ≤ length row = omega (arith, inv.reached.within, inv.long) in
        let size : length (take run (drop gate row)) ≡ run = length-take-le run (drop gate row) (omega (arith, length-drop gate row)) in
        let same : ys ≡ replicate run (cell (colour_of b)) = (rw (n, size, colour) at whole) in
        let many : length ys ≡ run = ap length same ∙ length-replicate run (cell (colour_of b)) in
        painted_on (put_mid gate (gate + run - gate) row ys) h (part_long row ys gate run inner many)
        (part_take row ys gate run inner many ∙ ap (λ (l : List A). take gate row ++ l) same)
