-- One cell's code moves: what each field's total moves by, over a list of records. Assumes nothing.
use mathlib.Core.Path.{◌≡◌, refl, sym, ap, subst, ◌∙◌}
use mathlib.Core.Bool.{Bool, true, false, cond, ◌&&◌}
use mathlib.Core.List.{List, [], ◌∷◌, map}
use mathlib.Core.Logic.{⊎_elim, ◌⊎◌, inl, inr}
use Prim.Native.Nat.{ℕ, zero, suc, ◌+◌, ◌*◌, ◌-◌, ◌≤◌, ◌<◌}
use native.Mathlib.Nat.{mul-sub, mul-le-mul_left, mul-le-mul_right, add-mul, one-mul, le_of_suc-le-suc}
use native.Mathlib.Omega.{arith}
use lib.Dec.{eqb, leb, ltb}
use lib.ListN.{length, get_or, take, drop, set, length-take, length-drop}
use lib.Seq.{take-set-le, take-set-lt, drop-set-lt, drop-set-add, get_or-take, get_or-drop}
use borrow.Author.Tests.{eqb-true, eqb-false, leb-true, leb-false, ltb-true, ltb-false}
use Rattle.std.specs.Prelude.{Option, Some, None}
use Rattle.fields.specs.declared.plan.Record.{Record}
use Rattle.fields.specs.declared.plan.Record.TheVariants.{Field, Strip}
use Rattle.scale.specs.Scaling.{valid}
use Rattle.fields.proofs.Walk.{and_both}
use Rattle.fields.specs.Totals.{Grid, counts, sum, strip_total, own_total, totals, covers, own_weight, weights}

-- the grid with another code at one place
abbrev pub moved : Grid → ℕ → ℕ → Grid
moved p k v = record { codes = set p.codes k v; bins = p.bins; floor = p.floor; ceiling = p.ceiling }

-- the sum of f over a list with one element changed
sum_set : (f : ℕ → ℕ) (l : List ℕ) (i v : ℕ) → i < length l → sum (map f (set l i v)) + f (get_or l i 0) ≡ sum (map f l) + f v
unfolding sum
sum_set f [] i v h = absurd (omega arith)
sum_set f (x ∷ l) zero v h = omega arith
sum_set f (x ∷ l) (suc i) v h = let t = sum_set f l i v (le_of_suc-le-suc h) in omega arith

pub floored : (floor : ℕ) (c : Option ℕ) (v : ℕ) → valid floor c v ≡ true → floor ≤ v
floored floor (Some top) v h = leb-true _ _ (and_both (leb floor v) h).0
floored floor None v h = leb-true _ _ h

-- a valid code's count, times a weight
weighed : (floor : ℕ) (c : Option ℕ) (w v : ℕ) → valid floor c v ≡ true → w * counts floor c v + w * floor ≡ w * v
unfolding counts
weighed floor c w v h =
    let l : floor ≤ v = floored floor c v h in
    rw (h, mul-sub) (omega (arith, mul-le-mul_left w l))

-- records that are no malformed ones, with each strip inside the rows
pub data Within (bins : ℕ) : List Record → Type 0 where
  none : Within bins []
  field : {n : ℕ} {rs : List Record} → Within bins rs → Within bins (Field n ∷ rs)
  strip : {r g c w : ℕ} {rs : List Record} → g + c ≤ bins → Within bins rs → Within bins (Strip r g c w ∷ rs)

abbrev Valid : Grid → ℕ → Type 0
Valid p code = valid p.floor p.ceiling code ≡ true

module _ (p : Grid) (k v : ℕ) (old : Valid p (get_or p.codes k 0)) (new : Valid p v) (in-codes : k < length p.codes) where
  -- a strip whose cells do not have the place
  apart : (r g c w : ℕ) → (k < r * p.bins + g) ⊎ (r * p.bins + g + c ≤ k) → strip_total (moved p k v) r g c w ≡ strip_total p r g c w
  unfolding strip_total
  apart r g c w o =
      ⊎_elim
      (λ (h : k < r * p.bins + g). rw (drop-set-lt (r * p.bins + g) p.codes k v h))
      (λ (h : r * p.bins + g + c ≤ k).
      let e : k ≡ r * p.bins + g + (k - (r * p.bins + g)) = omega arith in
      let d : drop (r * p.bins + g) (set p.codes k v) ≡ set (drop (r * p.bins + g) p.codes) (k - (r * p.bins + g)) v =
      subst (λ (n : ℕ). drop (r * p.bins + g) (set p.codes n v) ≡ set (drop (r * p.bins + g) p.codes) (k - (r * p.bins + g)) v) (sym e)
      (drop-set-add (r * p.bins + g) p.codes (k - (r * p.bins + g)) v) in
      let b : c ≤ k - (r * p.bins + g) = omega arith in
      rw (d, take-set-le c (drop (r * p.bins + g) p.codes) (k - (r * p.bins + g)) v b))
      o

  -- a strip whose cells have it, at place i
  within : (r g c w i : ℕ) → k ≡ r * p.bins + g + i → i < c
      → strip_total (moved p k v) r g c w + w * get_or p.codes k 0 ≡ strip_total p r g c w + w * v
  unfolding strip_total
  within r g c w i e h =
      let s : ℕ = r * p.bins + g in
      let l : List ℕ = take c (drop s p.codes) in
      let i_in : i < length l = simp (length-take, length-drop) (omega arith) in
      let d : take c (drop s (set p.codes k v)) ≡ set l i v =
      rw e (ap (take c) (drop-set-add s p.codes i v) ∙ take-set-lt c (drop s p.codes) i v h) in
      let at : get_or l i 0 ≡ get_or p.codes k 0 =
      get_or-take c (drop s p.codes) i 0 h ∙ get_or-drop s p.codes i 0 ∙ ap (λ (n : ℕ). get_or p.codes n 0) (sym e) in
      let t : sum (map (λ code. w * counts p.floor p.ceiling code) (set l i v)) + w * counts p.floor p.ceiling (get_or p.codes k 0)
      ≡ sum (map (λ code. w * counts p.floor p.ceiling code) l) + w * counts p.floor p.ceiling v =
      rw at at (sum_set (λ code. w * counts p.floor p.ceiling code) l i v i_in) in
      rw d (omega (arith, t, weighed p.floor p.ceiling w (get_or p.codes k 0) old, weighed p.floor p.ceiling w v new))

  module _ (radial gate : ℕ) (at : k ≡ radial * p.bins + gate) (in_row : gate < p.bins) where
    -- a strip of another row does not have the place
    other_row : (r g c : ℕ) → g + c ≤ p.bins → (t : Bool) → ltb r radial ≡ t → (r ≡ radial → ⊥) → (k < r * p.bins + g) ⊎ (r * p.bins + g + c ≤ k)
    other_row r g c inside true h ne =
        let l : r + 1 ≤ radial = omega (arith, ltb-true r radial h) in
        let m = rw (add-mul, one-mul) at (mul-le-mul_right p.bins l) in
        inr (omega arith)
    other_row r g c inside false h ne =
        let l : radial + 1 ≤ r = omega (arith, ltb-false r radial h) in
        let m = rw (add-mul, one-mul) at (mul-le-mul_right p.bins l) in
        inl (omega arith)

    by_cases : (r g c w : ℕ) → g + c ≤ p.bins → (a b d : Bool) → eqb r radial ≡ a → leb g gate ≡ b → ltb gate (g + c) ≡ d
        → strip_total (moved p k v) r g c w + cond (a && (b && d)) w 0 * get_or p.codes k 0 ≡ strip_total p r g c w + cond (a && (b && d)) w 0 * v
    by_cases r g c w inside true true true ha hb hd =
        let same : r ≡ radial = eqb-true r radial ha in
        let up : g ≤ gate = leb-true g gate hb in
        let e : k ≡ r * p.bins + g + (gate - g) = rw same (omega arith) in
        within r g c w (gate - g) e (omega (arith, ltb-true gate (g + c) hd))
    by_cases r g c w inside true true false ha hb hd =
        let same : r ≡ radial = eqb-true r radial ha in
        let e : r * p.bins + g + c ≤ k = rw same (omega (arith, ltb-false gate (g + c) hd)) in
        omega (arith, apart r g c w (inr e))
    by_cases r g c w inside true false d ha hb hd =
        let same : r ≡ radial = eqb-true r radial ha in
        let e : k < r * p.bins + g = rw same (omega (arith, leb-false g gate hb)) in
        omega (arith, apart r g c w (inl e))
    by_cases r g c w inside false b d ha hb hd =
        omega (arith, apart r g c w (other_row r g c inside (ltb r radial) refl (eqb-false r radial ha)))

    strip_moves : (r g c w : ℕ) → g + c ≤ p.bins
        → strip_total (moved p k v) r g c w + cond (covers radial gate r g c) w 0 * get_or p.codes k 0
        ≡ strip_total p r g c w + cond (covers radial gate r g c) w 0 * v
    strip_moves r g c w inside = by_cases r g c w inside (eqb r radial) (leb g gate) (ltb gate (g + c)) refl refl refl

    own_moves : {rs : List Record} → Within p.bins rs
        → own_total (moved p k v) rs + own_weight radial gate rs * get_or p.codes k 0 ≡ own_total p rs + own_weight radial gate rs * v
    unfolding own_total own_weight
    own_moves none = omega arith
    own_moves (field h) = omega arith
    own_moves (strip {r = r} {g = g} {c = c} {w = w} i h) =
        let s = strip_moves r g c w i in
        let t = own_moves h in
        rw (add-mul, add-mul) (omega arith)

    -- each field's total
    pub total_moves : {rs : List Record} → Within p.bins rs → (i : ℕ)
        → get_or (totals (moved p k v) rs) i 0 + get_or (weights radial gate rs) i 0 * get_or p.codes k 0
        ≡ get_or (totals p rs) i 0 + get_or (weights radial gate rs) i 0 * v
    unfolding totals weights
    total_moves none i = omega arith
    total_moves (field h) zero = own_moves h
    total_moves (field h) (suc i) = total_moves h i
    total_moves (strip c h) i = total_moves h i
