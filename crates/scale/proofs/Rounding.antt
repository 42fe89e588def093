-- How far `round` moves a fraction, at any format. Assumes nothing.
use mathlib.Core.Path.{◌≡◌, sym, ap, ◌∙◌, subst}
use mathlib.Core.Bool.{Bool, not}
use Prim.Native.Nat.{ℕ, suc, ◌+◌, ◌-◌, ◌*◌, ◌/◌, ◌%◌, ◌^◌, ◌≤◌, ◌<◌, compare, Ordering}
use native.Mathlib.Nat.{le_of_eq, lt_of_lt_of_le, mul_assoc, mul_right_comm, mul-le-mul_left, mul-le-mul_right, mul-lt-mul_of_pos_right, mul-pos, suc-mul, add-mul, div-add-mod', mod-lt, div-lt_iff_lt-mul}
use native.Mathlib.Omega.{arith}
use lib.Dec.{T, is_le, compare_is_eq, eqb, leb→le, nleb→lt, eqb→eq, eqb_refl}
use lib.Arith.{lt_of_le-ne}
use lib.Pow.{pow-add, pow_pos, pow_mono}
use lib.Ieee.{Float, Format, prec, low, size, nearest, round}
use lib.Ieee.Digits.{size-le}
use lib.Ieee.Fits.{round_is}
use lib.Ieee.Exact.{HasValue, units_val}
use lib.Ieee.Nearest.{closest}
use lib.Ieee.Order.{drop, kept}
use lib.Ieee.Scale.{grid, overflow}

-- ---- a and b differ by at most d
abbrev pub Within : ℕ → ℕ → ℕ → Type 0
Within a b d = (a ≤ b + d) × (b ≤ a + d)

abbrev Cmp : Ordering → ℕ → ℕ → Type 0
Cmp Ordering.lt a b = a < b
Cmp Ordering.eq a b = a ≡ b
Cmp Ordering.gt a b = b < a

cmp : (a b : ℕ) → Cmp (compare a b) a b
cmp a b = go (compare a b) (leb→le a b) (nleb→lt a b) (eqb→eq a b) (λ (e : a ≡ b). subst (λ (x : ℕ). T (eqb a x)) e (eqb_refl a))
  where
    go : (o : Ordering) → (T (is_le o) → a ≤ b) → (T (not (is_le o)) → b < a) → (T (compare_is_eq o) → a ≡ b) → (a ≡ b → T (compare_is_eq o)) → Cmp o a b
    go Ordering.lt h k e n = lt_of_le-ne (h tt) n
    go Ordering.eq h k e n = e tt
    go Ordering.gt h k e n = k tt

-- q * u + r, with r below u, and the multiple of u that `nearest` picks
near : (q r u : ℕ) (o : Ordering) → Cmp o (r * 2) u → r < u → Within (nearest q o * u * 2) ((q * u + r) * 2) u
near q r u Ordering.lt c l = (omega arith, omega arith)
near q r u Ordering.eq c l = tie (q % 2) (omega arith)
  where
    tie : (b : ℕ) → b < 2 → Within ((q + b) * u * 2) ((q * u + r) * 2) u
    tie b h = let e : (q + b) * u ≡ q * u + b * u = add-mul q b u in let k : b * u ≤ 1 * u = mul-le-mul_right u (omega arith) in (omega arith, omega arith)
near q r u Ordering.gt c l = let e : suc q * u ≡ q * u + u = suc-mul q u in (omega arith, omega arith)

closest_near : (n u : ℕ) → 0 < u → Within (closest n u * u * 2) (n * 2) u
closest_near n u U = subst (λ (z : ℕ). Within (closest n u * u * 2) (z * 2) u) (div-add-mod' n u) (near (n / u) (n % u) u (compare (n % u * 2) u) (cmp (n % u * 2) u) (mod-lt n U))

-- in units of the smallest value, a / c is moved by at most half of 2 ^ drop
pub grid_near : (f : Format) (a c : ℕ) → 0 < c → Within (grid f a c * c * 2) (a * 2 ^ low f * 2) (c * 2 ^ drop (prec f) (a * 2 ^ low f) c)
grid_near f a c C =
    let n = a * 2 ^ low f in
    let k = drop (prec f) n c in
    subst (λ (z : ℕ). Within (z * 2) (n * 2) (c * 2 ^ k))
    (sym (mul_assoc (kept (prec f) n c) c (2 ^ k)) ∙ mul_right_comm (kept (prec f) n c) c (2 ^ k))
    (closest_near n (c * 2 ^ k) (mul-pos C (pow_pos k)))

spare : (z p b l : ℕ) → z ≤ b + l → z - p ≤ b + l - p
spare z p b l h = omega arith

widen : (a b d e : ℕ) → d ≤ e → Within a b d → Within a b e
widen a b d e h w = let x = w.0 in let y = w.1 in (omega arith, omega arith)

-- so below 2 ^ b it is moved by at most half of 2 ^ (b + low - prec)
pub grid_below : (f : Format) (a c b : ℕ) → 0 < c → a < 2 ^ b * c → Within (grid f a c * c * 2) (a * 2 ^ low f * 2) (c * 2 ^ (b + low f - prec f))
grid_below f a c b C h =
    let l = low f in
    let x : a * 2 ^ l < 2 ^ (b + l) * c = lt_of_lt_of_le (mul-lt-mul_of_pos_right h (pow_pos l)) (le_of_eq (mul_right_comm (2 ^ b) c (2 ^ l) ∙ ap (λ (z : ℕ). z * c) (sym (pow-add 2 b l)))) in
    let y : size (a * 2 ^ l / c) ≤ b + l = size-le (a * 2 ^ l / c) (b + l) ((div-lt_iff_lt-mul C).1 x) in
    widen _ _ _ _ (mul-le-mul_left c (pow_mono (spare (size (a * 2 ^ l / c)) (prec f) b l y))) (grid_near f a c C)

-- `round` at either sign
pub round_val : (f : Format) (s : Bool) (a c : ℕ) → grid f a c < overflow f → HasValue (round f s a c) s (grid f a c) (2 ^ low f)
round_val f s a c h = subst (λ (z : Float). HasValue z s (grid f a c) (2 ^ low f)) (sym (round_is f s a c)) (units_val f s (kept (prec f) (a * 2 ^ low f) c) (drop (prec f) (a * 2 ^ low f) c) h)
