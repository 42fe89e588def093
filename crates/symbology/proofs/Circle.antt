-- Every centre of packets 16 and AF1F lies in the circle, by the order of rounding: k / 20 is from 0 to 7,199 / 20, and so is what it is
-- rounded to. Assumes nothing.
use Rattle.std.proofs.Common.{◌≡◌, ℕ, ◌+◌, ◌*◌, ◌%◌, ◌<◌, ◌≤◌, Bool, true, false, ◌&&◌, ◌||◌, T, eqb, ltb, ℤ, pos, sym, refl, ap, ◌∙◌, subst, true≢false, mod-lt, mul_assoc, mul_comm, mul-pos, arith, lit<, eqb→eq, ltb→lt, lt→ltb}
use lib.Ieee.{Float, nan, inf, fin, binary64, up, down, round, div, of_int, le, lt, eq}
use lib.Ieee.Back.{round_whole}
use lib.Ieee.Exact.{HasValue}
use lib.Ieee.Fits.{down_pos}
use lib.Ieee.Order.{round_mono}
use lib.Ieee.Scale.{round_same, finite}
use Rattle.wire.specs.Float.{f64}
use Rattle.symbology.specs.Centre.{twentieths, centre}
use Rattle.symbology.specs.Circle.{InCircle}

-- ---- a whole number divided by twenty is rounded once

over_twenty : (m : ℕ) (e : ℤ) (n : ℕ) → m * up e * 1 ≡ n * down e → round binary64 false (m * up e * 1) (20 * down e) ≡ round binary64 false n 20
over_twenty m e n h =
    round_same binary64 false (m * up e * 1) (20 * down e) n 20 (mul-pos (lit< tt) (down_pos e)) (lit< tt)
    (ap (λ (z : ℕ). z * 20) h ∙ mul_assoc n (down e) 20 ∙ ap (λ (z : ℕ). n * z) (mul_comm (down e) 20))

div_twenty : (x : Float) (n : ℕ) → HasValue x false n 1 → div binary64 x (fin false 5 (pos 2)) ≡ round binary64 false n 20
unfolding div
div_twenty nan n h = absurd h
div_twenty (inf t) n h = absurd h
div_twenty (fin true m e) n h = absurd (true≢false h.0)
div_twenty (fin false m e) n h = over_twenty m e n h.1

twenty : f64 20 1 ≡ fin false 5 (pos 2)
unfolding f64
twenty = refl

fewer : (n : ℕ) → n % 7200 < 7200
fewer n = mod-lt n (lit< tt)

nearest_is : (start width : ℕ) → centre start width ≡ f64 (twentieths start width) 20
unfolding centre f64 of_int
nearest_is start width =
    ap (div binary64 (of_int binary64 (pos (twentieths start width)))) twenty
    ∙ div_twenty _ (twentieths start width) (round_whole binary64 false (twentieths start width) (let h = fewer (2 * start + width) in omega arith))

-- ---- the order

at_most : (a b : ℕ) → T (ltb a b || (eqb a b && true)) → a ≤ b
at_most a b t = go (ltb a b) (eqb a b) (ltb→lt a b) (eqb→eq a b) t
  where
    go : (x y : Bool) → (T x → a < b) → (T y → a ≡ b) → T (x || (y && true)) → a ≤ b
    go true y h k t = let l = h tt in omega arith
    go false true h k t = let l = k tt in omega arith
    go false false h k t = absurd t

bounded : (x : Float) → T (le (f64 0 1) x) → T (le x (f64 7199 20)) → T (finite x) × T (lt x (f64 360 1))
unfolding le lt eq f64
bounded nan h k = absurd h
bounded (inf true) h k = absurd h
bounded (inf false) h k = absurd k
bounded (fin true m e) h k = (tt, lt→ltb 0 (m * up e * 1 + 45 * 8 * down e) (let d = down_pos e in omega arith))
bounded (fin false m e) h k =
    let l : m * up e * 17592186044416 ≤ 6332307366687539 * 1 * down e = at_most _ _ k in
    (tt, lt→ltb (m * up e * 1) (45 * 8 * down e) (let d = down_pos e in omega arith))

twentieth : (k : ℕ) → k < 7200 → InCircle (f64 k 20)
unfolding f64
twentieth k h =
    let lo = round_mono binary64 0 1 k 20 (lit< tt) (lit< tt) (omega arith) in
    let hi = round_mono binary64 k 20 7199 20 (lit< tt) (lit< tt) (omega arith) in
    let b = bounded (f64 k 20) lo hi in
    record { k = k; below_7200 = h; nearest = refl; is_finite = b.0; from_0 = lo; below_360 = b.1 }

pub centre_in_circle : (start width : ℕ) → InCircle (centre start width)
centre_in_circle start width = subst InCircle (sym (nearest_is start width)) (twentieth (twentieths start width) (fewer (2 * start + width)))
