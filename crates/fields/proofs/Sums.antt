-- A strip's total in code. Assumes nothing.
use mathlib.Core.Path.{◌≡◌, refl, ap, ◌∙◌}
use mathlib.Core.Bool.{Bool, true, false, cond, ◌&&◌}
use mathlib.Core.List.{List, [], ◌∷◌, map}
use Prim.Native.Nat.{ℕ, ◌+◌, ◌*◌, ◌-◌, ◌≤◌, ◌<◌}
use native.Mathlib.Nat.{mul-zero, mul-add, mul-le-mul, add_assoc, add-zero, add-sub_cancel_left}
use native.Mathlib.Numerals.{add-one}
use native.Mathlib.Omega.{arith}
use lib.Dec.{leb}
use lib.ListN.{length, get_or, take, drop, drop_of_length-le}
use lib.Seq.{drop-cons}
use borrow.Author.Tests.{le-leb}
use Rattle.std.specs.Prelude.{Option, Some, None}
use Rattle.fields.specs.Totals.{Grid, counts, top_of, sum, most, strip_total}

-- up to the highest code that may be valid is up to the ceiling
top_counts : (floor code : ℕ) (c : Option ℕ) → code < 65536 → counts floor (Some (top_of c)) code ≡ counts floor c code
unfolding counts
top_counts floor code (Some top) h = refl
top_counts floor code None h = let l : code ≤ 65535 = omega arith in rw (le-leb code 65535 l) (by (leb floor code))
  where
    by : (b : Bool) → cond (b && true) (code - floor) 0 ≡ cond b (code - floor) 0
    by true = refl
    by false = refl

pub to_ceiling : (floor code : ℕ) (c : Option ℕ) {top r : ℕ} → top ≡ top_of c
    → (r ≡ counts floor (Some top) code) × ((r ≤ 65535) × (code < 65536)) → (r ≡ counts floor c code) × (r ≤ 65535)
to_ceiling floor code c i e = (e.0 ∙ ap (λ t. counts floor (Some t) code) i ∙ top_counts floor code c e.1.1, e.1.0)

-- the loop of `cells_total`
pub record Adding (f : ℕ → ℕ) (cells : List ℕ) (total i : ℕ) : Type 0 where
  pub small : total ≤ i * 65535
  pub left : total + sum (map f (drop i cells)) ≡ sum (map f cells)

module _ {f : ℕ → ℕ} {cells : List ℕ} {total i : ℕ} (w : Adding f cells total i) where
  pub adding_end : length cells ≤ i → i ≤ 65535 → (total ≡ sum (map f cells)) × (total ≤ 65535 * 65535)
  unfolding sum
  adding_end h l = (rw (drop_of_length-le cells h, add-zero) at w.left, omega (arith, w.small))

  pub adding_turn : {t : ℕ} → i < length cells → (t ≡ f (get_or cells i 0)) × (t ≤ 65535) → Adding f cells (total + t) (i + 1)
  unfolding sum
  adding_turn {t} h e = record {
    small = omega (arith, w.small, e.1);
    left = rw (e.0, add-one, add_assoc) (rw (drop-cons cells i 0 h) at w.left);
  }

-- a weight on each cell is a weight on the sum
weighed : (w : ℕ) (f : ℕ → ℕ) (cells : List ℕ) → w * sum (map f cells) ≡ sum (map (λ code. w * f code) cells)
unfolding sum
weighed w f [] = mul-zero w
weighed w f (x ∷ cells) = mul-add w (f x) (sum (map f cells)) ∙ ap (λ n. w * f x + n) (weighed w f cells)

pub strip_is : (w : ℕ) (f : ℕ → ℕ) (cells : List ℕ) {n : ℕ} → w < 65536 → (n ≡ sum (map f cells)) × (n ≤ 65535 * 65535)
    → (w * n ≡ sum (map (λ code. w * f code) cells)) × (w * n ≤ most)
strip_is w f cells {n} h e =
    let a : w ≤ 65535 = omega arith in
    (ap (λ k. w * k) e.0 ∙ weighed w f cells, omega (arith, mul-le-mul a e.1))

-- a strip's total, of the part that the code takes
pub part_total : (p : Grid) (r g c wt : ℕ) {t : ℕ}
    → t ≡ sum (map (λ code. wt * counts p.floor p.ceiling code) (take (r * p.bins + g + c - (r * p.bins + g)) (drop (r * p.bins + g) p.codes)))
    → t ≡ strip_total p r g c wt
unfolding strip_total
part_total p r g c wt e = rw add-sub_cancel_left at e
