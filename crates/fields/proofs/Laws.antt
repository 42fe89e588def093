-- Cutting a strip in two, and moving it among the strips of its field, leaves every total of a list of records. Assumes nothing.
use mathlib.Core.Path.{◌≡◌, refl, sym, ap, ◌∙◌}
use mathlib.Core.List.{List, [], ◌∷◌, ◌++◌, map}
use Prim.Native.Nat.{ℕ, ◌+◌, ◌*◌}
use native.Mathlib.Nat.{add_assoc, add_left_comm}
use native.Mathlib.Omega.{arith}
use lib.ListN.{drop}
use lib.Seq.{take-add, drop-drop}
use Rattle.fields.specs.declared.plan.Record.{Record}
use Rattle.fields.specs.declared.plan.Record.TheVariants.{Field, Strip, Malformed}
use Rattle.fields.specs.Totals.{Grid, sum, strip_total, own_total, totals}
use Rattle.fields.specs.WithTotals.{Strips}

-- the sum of f over a list joined of two
sum_joined : (f : ℕ → ℕ) (xs ys : List ℕ) → sum (map f (xs ++ ys)) ≡ sum (map f xs) + sum (map f ys)
unfolding sum
sum_joined f [] ys = omega arith
sum_joined f (x ∷ xs) ys = rw (sum_joined f xs ys) (sym (add_assoc _ _ _))

pub strip_cut : (p : Grid) (r g a b w : ℕ) → strip_total p r g (a + b) w ≡ strip_total p r g a w + strip_total p r (g + a) b w
unfolding strip_total
strip_cut p r g a b w =
    let k : r * p.bins + (g + a) ≡ r * p.bins + g + a = sym (add_assoc _ _ _) in
    rw (k, ← (drop-drop a (r * p.bins + g) p.codes), take-add a b (drop (r * p.bins + g) p.codes), sum_joined)

-- lists of records with the same totals, before which the same records are put
record Same (p : Grid) (us vs : List Record) : Type 0 where
  own : own_total p us ≡ own_total p vs
  all : totals p us ≡ totals p vs

behind : (p : Grid) (xs : List Record) {us vs : List Record} → Same p us vs → Same p (xs ++ us) (xs ++ vs)
unfolding own_total totals
behind p [] s = s
behind p (Field n ∷ xs) s =
    let t = behind p xs s in
    record { own = refl; all = rw (t.own, t.all) }
behind p (Strip r g c w ∷ xs) s =
    let t = behind p xs s in
    record { own = rw t.own; all = t.all }
behind p (Malformed ∷ xs) s = let t = behind p xs s in record { own = t.own; all = t.all }

-- Cutting a strip in two
cut_same : (p : Grid) (r g a b w : ℕ) (ys : List Record)
    → Same p (Strip r g (a + b) w ∷ ys) (Strip r g a w ∷ Strip r (g + a) b w ∷ ys)
unfolding own_total totals
cut_same p r g a b w ys = record { own = rw (strip_cut p r g a b w) (add_assoc _ _ _); all = refl }

pub cut : (p : Grid) (xs ys : List Record) (r g a b w : ℕ)
    → totals p (xs ++ Strip r g (a + b) w ∷ ys) ≡ totals p (xs ++ Strip r g a w ∷ Strip r (g + a) b w ∷ ys)
cut p xs ys r g a b w = (behind p xs (cut_same p r g a b w ys)).all

-- Moving a strip among the strips of its field
move_same : (p : Grid) {ms : List Record} → Strips ms → (r g c w : ℕ) (ys : List Record)
    → Same p (Strip r g c w ∷ ms ++ ys) (ms ++ Strip r g c w ∷ ys)
unfolding own_total totals
move_same p Strips.none r g c w ys = record { own = refl; all = refl }
move_same p (Strips.more {r = r'} {g = g'} {c = c'} {w = w'} {ms = ms} h) r g c w ys =
    let t = move_same p h r g c w ys in
    record { own = add_left_comm _ _ _ ∙ ap (λ n. strip_total p r' g' c' w' + n) t.own; all = t.all }

pub move : (p : Grid) (xs ms ys : List Record) (r g c w : ℕ) → Strips ms
    → totals p (xs ++ (Strip r g c w ∷ (ms ++ ys))) ≡ totals p (xs ++ (ms ++ (Strip r g c w ∷ ys)))
move p xs ms ys r g c w h = (behind p xs (move_same p h r g c w ys)).all
