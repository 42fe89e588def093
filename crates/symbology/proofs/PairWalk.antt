-- Two walks over the radials side by side: one radial of each, and the invariant of the comparison. Assumes nothing.
use Rattle.std.proofs.Common.{Option, Some, None, ◌≡◌, ℕ, zero, suc, ◌+◌, ◌-◌, ◌<◌, ◌≤◌, Bool, true, false, not, ◌&&◌, List, [], ◌∷◌, length, take, drop, sym, refl, ap, ◌∙◌, add-one, arith}
use lib.Ieee.{Float}
use Rattle.wire.specs.Refusal.{Refusal, kind, nat}
use Rattle.wire.specs.Result.{Result, accepted, refused, refuse}
use Rattle.wire.specs.Reading.{Given, run, marked}
use Rattle.wire.specs.Text.{same}
use Rattle.wire.proofs.Results.{clash, one_value}
use Rattle.symbology.specs.Answers.{mark_of, shown}
use Rattle.symbology.specs.Rows.{row_of, codes_of}
use Rattle.symbology.specs.Places.{Enough}
use Rattle.symbology.specs.Walk.{in_mode, kept_of, any_radial, any_walk, Accepted, row_in}
use Rattle.wire.specs.SameFloat.{same_float}
use Rattle.symbology.specs.Merge.{same_floats, disagree, agreed, either}
use Rattle.symbology.specs.declared.pairs.Side.{Side}
use Rattle.symbology.specs.Pairs.{turned, note_of, judged, next_in}
use Rattle.symbology.specs.declared.figures.Packet.{Packet}
use Rattle.symbology.proofs.FullRow.{full_row}
use Rattle.symbology.proofs.Walking.{Found}
use Rattle.symbology.proofs.Writing.{shown_long, gap_radial, Turn, turn, none}
use Rattle.symbology.proofs.Showing.{Tested, row_there}

-- ---- two rows

-- a gap is the mark 1 alone
gap_row : (c : Result (List ℕ)) {x : Refusal} → refused x ≡ Tested c → marked c ≡ 1 ∷ []
unfolding kept_of
gap_row (accepted codes) {x} k = clash tt x k
gap_row (refused y) k = refl

no_second : (c : Result (List ℕ)) → false ≡ disagree (marked c) (1 ∷ [])
unfolding disagree
no_second (accepted codes) = refl
no_second (refused y) = refl

module _ (packet : Packet) (n r : ℕ) (a b : List ℕ) where
  abbrev Disagree : Bool
  Disagree = disagree (marked (row_of packet n r a)) (marked (row_of packet n r b))

  pub pair_first : {x : Refusal} → refused x ≡ Tested (row_of packet n r a) → false ≡ Disagree
  unfolding disagree
  pair_first e = rw (gap_row (row_of packet n r a) e) refl

  pub pair_second : {x : Refusal} → refused x ≡ Tested (row_of packet n r b) → false ≡ Disagree
  pair_second e = rw (gap_row (row_of packet n r b) e) (no_second (row_of packet n r a))

  pub pair_whole : Enough packet n (length a) → Enough packet n (length b) → {t : Bool} → accepted tt ≡ Tested (row_of packet n r a) → accepted tt ≡ Tested (row_of packet n r b)
      → t ≡ same (codes_of packet n a) (codes_of packet n b) → not t ≡ Disagree
  unfolding disagree
  pair_whole ea eb ha hb e =
      let c = row_there packet n r a ha in
      let d = row_there packet n r b hb in
      let k : c.0 ≡ codes_of packet n a = (full_row packet n r a c.0 ea c.1).1 in
      let l : d.0 ≡ codes_of packet n b = (full_row packet n r b d.0 eb d.1).1 in
      rw (c.1, d.1, k, l) (ap not e)

-- the row that is written: after the first's, and after the second's
module _ (n : ℕ) where
  pub row_first : (x y : Result (List ℕ)) {mark : ℕ} {row : List ℕ} → mark ≡ mark_of (marked x) → row ≡ shown n (marked x) → mark ≡ 0
      → (0 ≡ mark_of (either (marked x) (marked y))) × (row ≡ shown n (either (marked x) (marked y)))
  unfolding either
  row_first (accepted c) y m e z = (refl, e)
  row_first (refused v) y m e z = absurd (omega (arith, m, z))

  pub row_second : (x y : Result (List ℕ)) {mark mark' : ℕ} {row : List ℕ} → mark ≡ mark_of (marked x) → (mark ≡ 0 → ⊥) → mark' ≡ mark_of (marked y) → row ≡ shown n (marked y)
      → (mark' ≡ mark_of (either (marked x) (marked y))) × (row ≡ shown n (either (marked x) (marked y)))
  unfolding either
  row_second (accepted c) y m z m' e = absurd (z m)
  row_second (refused v) y m z m' e = (m', e)

-- the same as the code has it: the row that was written first is as long
module _ (packet : Packet) (n r : ℕ) (a b : List ℕ) where
  module _ (enough : Enough packet n (length a)) {row : List ℕ} (e : row ≡ shown n (marked (row_of packet n r a))) where
    as_long : length row ≡ n
    as_long = ap length e ∙ shown_long n (row_of packet n r a) (λ codes h. (full_row packet n r a codes enough h).2)

-- ---- one radial of each

abbrev side : ℕ → ℕ → Bool → Side
side i j d = record { first = i; second = j; disagrees = d }

module _ (packet : Packet) (radials bins r : ℕ) (s t : List ℕ) (i j : ℕ) {a a' : Float} {from to from' to' : ℕ}
    (f : Found packet radials bins r s i a from to) (g : Found packet radials bins r t j a' from' to') where
  abbrev A : Result (Given Float)
  A = run (in_mode true (any_radial packet radials bins r)) s i

  abbrev B : Result (Given Float)
  B = run (in_mode true (any_radial packet radials bins r)) t j

  abbrev x : List ℕ
  x = marked (row_of packet bins r (take (to - from) (drop from s)))

  abbrev y : List ℕ
  y = marked (row_of packet bins r (take (to' - from') (drop from' t)))

  both_are : turned A B ≡ refuse (not (same_float a a')) (kind 43 []) (accepted (side to to' (disagree x y)))
  unfolding turned
  both_are = rw (gap_radial packet radials bins r s i f, gap_radial packet radials bins r t j g) refl

  module _ {c : Bool} (is : c ≡ same_float a a') where
    pub turn_43 : not c ≡ true → refused (kind 43 []) ≡ turned A B
    turn_43 h = rw (both_are, ← is, h) refl

    pub turn_next : not c ≡ false → {d : Bool} → d ≡ disagree x y → accepted (side to to' d) ≡ turned A B
    turn_next h e = rw (both_are, ← is, h, e) refl

  pub second_next : accepted to' ≡ next_in B
  second_next = sym (ap next_in (gap_radial packet radials bins r t j g))

  pub both_shown : {mark : ℕ} {row : List ℕ} → mark ≡ mark_of (either x y) → row ≡ shown bins (either x y)
      → (mark ≡ mark_of (either (row_in A) (row_in B))) × (row ≡ shown bins (either (row_in A) (row_in B)))
  both_shown m e = rw (gap_radial packet radials bins r s i f, gap_radial packet radials bins r t j g) (m, e)

-- ---- the comparison of all

module _ (packet : Packet) (radials bins : ℕ) (s t : List ℕ) (all : Result (Unit {0})) where
  -- what is left says, where a radial was noted or none was
  abbrev pub tail_of : Option ℕ → ℕ → List (List ℕ) → List (List ℕ) → Result (Unit {0})
  tail_of None r xs ys = agreed r xs ys
  tail_of (Some n) r xs ys = refused (kind 44 (nat n ∷ []))

  pub record Paired (r i j : ℕ) (noted : Option ℕ) : Type 0 where
    pub within : r ≤ radials
    pub a : Given (List Float)
    pub a_is : run (in_mode true (any_walk packet radials bins (radials - r) r)) s i ≡ accepted a
    pub b : Given (List Float)
    pub b_is : run (in_mode true (any_walk packet radials bins (radials - r) r)) t j ≡ accepted b
    pub known : refuse (not (same_floats a.value b.value)) (kind 43 []) (tail_of noted r a.rows b.rows) ≡ all

-- the same of equal lists
carried : (packet : Packet) (radials bins : ℕ) (s t : List ℕ) (all : Result (Unit {0})) (noted : Option ℕ) (r : ℕ) {v v' w w' : List Float} {x x' y y' : List (List ℕ)} → v ≡ v' → w ≡ w' → x ≡ x' → y ≡ y'
    → refuse (not (same_floats v w)) (kind 43 []) (tail_of packet radials bins s t all noted r x y) ≡ all
    → refuse (not (same_floats v' w')) (kind 43 []) (tail_of packet radials bins s t all noted r x' y') ≡ all
carried packet radials bins s t all noted r a b c d h = rw (← a, ← b, ← c, ← d) h

pub paired_first : (packet : Packet) (radials bins : ℕ) (s t : List ℕ) (i j : ℕ)
    → (x : Accepted (run (in_mode true (any_walk packet radials bins radials 0)) s i)) → (y : Accepted (run (in_mode true (any_walk packet radials bins radials 0)) t j))
    → Paired packet radials bins s t (judged (run (in_mode true (any_walk packet radials bins radials 0)) s i) (run (in_mode true (any_walk packet radials bins radials 0)) t j)) 0 i j None
unfolding judged
paired_first packet radials bins s t i j (a, ai) (b, bi) =
    let z : radials - 0 ≡ radials = omega arith in
    record { within = omega arith; a = a; a_is = rw z ai; b = b; b_is = rw z bi; known = rw (ai, bi) refl }

module _ {packet : Packet} {radials bins : ℕ} {s t : List ℕ} {all : Result (Unit {0})} {r i j : ℕ} {noted : Option ℕ} (inv : Paired packet radials bins s t all r i j noted) where
  module _ (lt : r < radials) where
    one : radials - r ≡ suc (radials - suc r)
    one = omega arith

    sa : Turn true packet radials bins s (radials - suc r) r i inv.a
    sa = turn true packet radials bins s (radials - suc r) r i inv.a (rw one at inv.a_is)

    sb : Turn true packet radials bins t (radials - suc r) r j inv.b
    sb = turn true packet radials bins t (radials - suc r) r j inv.b (rw one at inv.b_is)

    pub paired_both : Accepted (run (in_mode true (any_radial packet radials bins r)) s i) × Accepted (run (in_mode true (any_radial packet radials bins r)) t j)
    paired_both = ((sa.first, sa.first_is), (sb.first, sb.first_is))

    abbrev Turned : Result Side
    Turned = turned (run (in_mode true (any_radial packet radials bins r)) s i) (run (in_mode true (any_radial packet radials bins r)) t j)

    turned_is : Turned ≡ refuse (not (same_float sa.first.value sb.first.value)) (kind 43 [])
        (accepted (side sa.first.next sb.first.next (disagree sa.codes sb.codes)))
    unfolding turned
    turned_is = rw (sa.first_is, sb.first_is, sa.rows_are, sb.rows_are) refl

    -- what is known, a radial on
    known_is : refuse (not (same_float sa.first.value sb.first.value && same_floats sa.rest.value sb.rest.value)) (kind 43 [])
        (tail_of packet radials bins s t all noted r (sa.codes ∷ sa.rest.rows) (sb.codes ∷ sb.rest.rows)) ≡ all
    unfolding same_floats
    known_is = carried packet radials bins s t all noted r sa.value_is sb.value_is sa.whole sb.whole inv.known

    pub paired_stop : {x : Refusal} → refused x ≡ Turned → refused x ≡ all
    paired_stop {x} e = by (same_float sa.first.value sb.first.value) (e ∙ turned_is) known_is
      where
        by : (c : Bool) → refused x ≡ refuse (not c) (kind 43 []) (accepted (side sa.first.next sb.first.next (disagree sa.codes sb.codes)))
            → refuse (not (c && same_floats sa.rest.value sb.rest.value)) (kind 43 []) (tail_of packet radials bins s t all noted r (sa.codes ∷ sa.rest.rows) (sb.codes ∷ sb.rest.rows)) ≡ all
            → refused x ≡ all
        by true h k = clash _ x h
        by false h k = let z : x ≡ kind 43 [] = cc in rw z k

    tail_on : tail_of packet radials bins s t all noted r (sa.codes ∷ sa.rest.rows) (sb.codes ∷ sb.rest.rows)
        ≡ tail_of packet radials bins s t all (note_of noted r (disagree sa.codes sb.codes)) (suc r) sa.rest.rows sb.rest.rows
    unfolding agreed
    tail_on = go noted (disagree sa.codes sb.codes) refl
      where
        tail : Option ℕ → Result (Unit {0})
        tail n = tail_of packet radials bins s t all n (suc r) sa.rest.rows sb.rest.rows

        none_yet : (d : Bool) → refuse d (kind 44 (nat r ∷ [])) (tail None) ≡ tail (note_of None r d)
        none_yet true = refl
        none_yet false = refl

        one_noted : (k : ℕ) (d : Bool) → refused (kind 44 (nat k ∷ [])) ≡ tail (note_of (Some k) r d)
        one_noted k true = refl
        one_noted k false = refl

        go : (n : Option ℕ) (d : Bool) → disagree sa.codes sb.codes ≡ d
            → tail_of packet radials bins s t all n r (sa.codes ∷ sa.rest.rows) (sb.codes ∷ sb.rest.rows) ≡ tail (note_of n r (disagree sa.codes sb.codes))
        go None d e = none_yet (disagree sa.codes sb.codes)
        go (Some k) d e = one_noted k (disagree sa.codes sb.codes)

    pub paired_turn : {i' j' : ℕ} {noted' : Option ℕ} {d : Bool} → accepted (side i' j' d) ≡ Turned → noted' ≡ note_of noted r d
        → Paired packet radials bins s t all (r + 1) i' j' noted'
    paired_turn {i'} {j'} {noted'} {d} e n = by (same_float sa.first.value sb.first.value) (e ∙ turned_is) known_is
      where
        by : (c : Bool)
            → accepted (side i' j' d) ≡ refuse (not c) (kind 43 []) (accepted (side sa.first.next sb.first.next (disagree sa.codes sb.codes)))
            → refuse (not (c && same_floats sa.rest.value sb.rest.value)) (kind 43 []) (tail_of packet radials bins s t all noted r (sa.codes ∷ sa.rest.rows) (sb.codes ∷ sb.rest.rows)) ≡ all
            → Paired packet radials bins s t all (r + 1) i' j' noted'
        by false h k = clash _ (kind 43 []) (sym h)
        by true h k =
            let z : side i' j' d ≡ side sa.first.next sb.first.next (disagree sa.codes sb.codes) = one_value h in
            let x : i' ≡ sa.first.next = ap (λ (y : Side). y.first) z in
            let w : j' ≡ sb.first.next = ap (λ (y : Side). y.second) z in
            let v : d ≡ disagree sa.codes sb.codes = ap (λ (y : Side). y.disagrees) z in
            record {
              within = omega arith;
              a = sa.rest;
              a_is = rw (add-one, x) sa.rest_is;
              b = sb.rest;
              b_is = rw (add-one, w) sb.rest_is;
              known = rw (add-one, n, v, ← tail_on) k;
            }

  module _ (over : radials ≤ r) where
    none_left : tail_of packet radials bins s t all noted r [] [] ≡ all
    unfolding same_floats
    none_left =
        let z : radials - r ≡ zero = omega arith in
        let x = none true packet radials bins s r i inv.a (rw z at inv.a_is) in
        let y = none true packet radials bins t r j inv.b (rw z at inv.b_is) in
        carried packet radials bins s t all noted r (ap (λ (g : Given (List Float)). g.value) x) (ap (λ (g : Given (List Float)). g.value) y) (ap (λ (g : Given (List Float)). g.rows) x) (ap (λ (g : Given (List Float)). g.rows) y) inv.known

    pub paired_noted : {n : ℕ} → noted ≡ Some n → refused (kind 44 (nat n ∷ [])) ≡ all
    paired_noted e = rw e at none_left

    pub paired_end : noted ≡ None → accepted tt ≡ all
    unfolding agreed
    paired_end e = rw e at none_left
