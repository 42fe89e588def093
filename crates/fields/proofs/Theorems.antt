-- The laws of the request, of plans over a grid. Assumes nothing.
use mathlib.Core.Path.{◌≡◌, refl}
use mathlib.Core.Bool.{true, false, ◌&&◌}
use mathlib.Core.List.{List, [], ◌∷◌}
use Prim.Native.Nat.{ℕ, ◌+◌, ◌*◌, ◌≤◌, ◌<◌}
use native.Mathlib.Nat.{mul-add, mul_comm, add-mul, one-mul, mul-le-mul_right}
use native.Mathlib.Omega.{arith}
use lib.Dec.{leb, ltb}
use lib.ListN.{length, get_or}
use borrow.Author.Tests.{leb-true, not-false}
use Rattle.wire.specs.Result.{accepted}
use Rattle.fields.specs.declared.plan.Entry.{Entry}
use Rattle.fields.specs.declared.plan.Record.{Record}
use Rattle.fields.specs.declared.plan.Record.TheVariants.{Field, Strip, Malformed}
use Rattle.scale.specs.Scaling.{valid}
use Rattle.fields.specs.Plan.{entries_of, fields_in, strips_in, bad, bad_at, leaves, outside_at, plan_of}
use Rattle.fields.specs.Totals.{Grid, totals, items, weights}
use Rattle.fields.proofs.Walk.{and_both, none_picked}
use Rattle.fields.proofs.Writing.{passed}
use Rattle.fields.specs.WithTotals.{Cut, Moved}
use Rattle.fields.proofs.Laws.{cut, move}
use Rattle.fields.proofs.Moves as moves

-- the totals of a plan
abbrev pub plan_totals : Grid → List ℕ → List ℕ
plan_totals p plan = totals p (items (entries_of plan))

-- Cutting a strip in two leaves every total
pub cut_in_two : (p : Grid) (plan plan' : List ℕ) → Cut plan plan' → plan_totals p plan ≡ plan_totals p plan'
cut_in_two p plan plan' k = rw (k.whole, k.parts) (cut p k.before k.after k.radial k.gate k.one k.two k.weight)

-- Moving a strip among the strips of its field leaves every total
pub moved_among : (p : Grid) (plan plan' : List ℕ) → Moved plan plan' → plan_totals p plan ≡ plan_totals p plan'
moved_among p plan plan' k = rw (k.was, k.is) (move p k.before k.others k.after k.radial k.gate k.count k.weight k.strips)

-- an accepted plan's strips lie inside the rows
stands : (radials bins fields strips : ℕ) (x : Record) {rs : List Record} → bad fields strips x ≡ false → leaves radials bins x ≡ false
    → moves.Within bins rs → moves.Within bins (x ∷ rs)
stands radials bins fields strips (Field n) b l h = moves.Within.field h
stands radials bins fields strips (Strip r g c w) b l h =
    let t = and_both (ltb r radials) (not-false (ltb r radials && leb (g + c) bins) l) in
    moves.Within.strip (leb-true (g + c) bins t.1) h
stands radials bins fields strips Malformed b l h = let z : ◌≡◌ {A = ℕ} 0 1 = cc in absurd (omega arith)

pub within : (radials bins fields strips : ℕ) (es : List Entry) → bad_at fields strips es ≡ [] → outside_at radials bins es ≡ [] → moves.Within bins (items es)
unfolding bad_at outside_at
within radials bins fields strips [] b o = moves.Within.none
within radials bins fields strips (e ∷ es) b o =
    let s = none_picked (bad fields strips e.item) e.at _ b in
    let t = none_picked (leaves radials bins e.item) e.at _ o in
    stands radials bins fields strips e.item s.0 t.0
    (within radials bins (fields + fields_in e.item) (strips + strips_in e.item) es s.1 t.1)

-- One cell's code moves by d, and is valid before and after: each field's total moves by d × the summed weights of its strips over that cell
module _ (p : Grid) (radials n : ℕ) (plan : List ℕ) (radial gate code : ℕ) (ok : plan_of plan radials p.bins ≡ accepted n) (in_radials : radial < radials)
    (in_row : gate < p.bins) (whole : radials * p.bins ≤ length p.codes)
    (old : valid p.floor p.ceiling (get_or p.codes (radial * p.bins + gate) 0) ≡ true) (new : valid p.floor p.ceiling code ≡ true) where
  balance : (i : ℕ)
      → get_or (plan_totals (moves.moved p (radial * p.bins + gate) code) plan) i 0 + get_or (weights radial gate (items (entries_of plan))) i 0 * get_or p.codes (radial * p.bins + gate) 0
      ≡ get_or (plan_totals p plan) i 0 + get_or (weights radial gate (items (entries_of plan))) i 0 * code
  balance i =
      let q = passed plan radials p.bins ok in
      let l : radial + 1 ≤ radials = omega arith in
      let m = rw (add-mul, one-mul) at (mul-le-mul_right p.bins l) in
      moves.total_moves p (radial * p.bins + gate) code old new (omega arith) radial gate refl in_row
      (within radials p.bins 0 0 (entries_of plan) q.no_bad q.no_outside) i

  pub moves_up : (d : ℕ) → code ≡ get_or p.codes (radial * p.bins + gate) 0 + d → (i : ℕ)
      → get_or (plan_totals (moves.moved p (radial * p.bins + gate) code) plan) i 0
      ≡ get_or (plan_totals p plan) i 0 + d * get_or (weights radial gate (items (entries_of plan))) i 0
  moves_up d e i =
      let w : ℕ = get_or (weights radial gate (items (entries_of plan))) i 0 in
      let o : ℕ = get_or p.codes (radial * p.bins + gate) 0 in
      let s : w * code ≡ w * o + d * w = rw (e, mul-add, mul_comm w d) in
      omega (arith, balance i, s)

  pub moves_down : (d : ℕ) → get_or p.codes (radial * p.bins + gate) 0 ≡ code + d → (i : ℕ)
      → get_or (plan_totals p plan) i 0
      ≡ get_or (plan_totals (moves.moved p (radial * p.bins + gate) code) plan) i 0 + d * get_or (weights radial gate (items (entries_of plan))) i 0
  moves_down d e i =
      let w : ℕ = get_or (weights radial gate (items (entries_of plan))) i 0 in
      let s : w * get_or p.codes (radial * p.bins + gate) 0 ≡ w * code + d * w = rw (e, mul-add, mul_comm w d) in
      omega (arith, balance i, s)
