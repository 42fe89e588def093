-- What the f32 operations give of values that are known as fractions: the exact fraction, rounded once. Assumes nothing.
use mathlib.Core.Path.{◌≡◌, sym, ap, ◌∙◌, subst}
use mathlib.Core.Bool.{Bool, true, false, not, cond, true≢false, false≢true}
use mathlib.Core.Logic.{◌⊎◌, inl, inr}
use Prim.Native.Nat.{ℕ, ◌+◌, ◌-◌, ◌*◌, ◌≤◌, ◌<◌}
use native.Mathlib.Nat.{mul_comm, mul_assoc, mul_right_comm, mul-le-mul_right, mul-lt-mul_of_pos_right, lt_of_mul-lt-mul_right, le_of_mul-le-mul_right, mul-pos, mul-sub, add-mul, mul-mul-mul_comm}
use lib.Dec.{T, ltb, lit<, ltb→lt, nltb→le}
use lib.IntN.{ℤ, pos}
use lib.Ieee.{Float, nan, inf, fin, Format, binary32, up, down, round, sum, add, mul, div}
use lib.Ieee.Fits.{down_pos}
use lib.Ieee.Exact.{HasValue}
use lib.Ieee.Scale.{round_same}
use borrow.Author.Tests.{lt-ltb, le-ltb}

pub lt_or_ge : (a b : ℕ) → (a < b) ⊎ (b ≤ a)
lt_or_ge a b = go (ltb a b) (ltb→lt a b) (nltb→le a b)
  where
    go : (t : Bool) → (T t → a < b) → (T (not t) → b ≤ a) → (a < b) ⊎ (b ≤ a)
    go true h k = inl (h tt)
    go false h k = inr (k tt)

-- a whole number divided by ten
over_ten : (t s : Bool) (m : ℕ) (e : ℤ) (n : ℕ) → t ≡ s → m * up e * 1 ≡ n * down e → round binary32 t (m * up e * 1) (10 * down e) ≡ round binary32 s n 10
over_ten t s m e n q h =
    ap (λ (b : Bool). round binary32 b (m * up e * 1) (10 * down e)) q
    ∙ round_same binary32 s (m * up e * 1) (10 * down e) n 10 (mul-pos (lit< tt) (down_pos e)) (lit< tt) (ap (λ (z : ℕ). z * 10) h ∙ mul_assoc n (down e) 10 ∙ ap (λ (z : ℕ). n * z) (mul_comm (down e) 10))

pub div_ten : (x : Float) (s : Bool) (n : ℕ) → HasValue x s n 1 → div binary32 x (fin false 5 (pos 1)) ≡ round binary32 s n 10
unfolding div
div_ten nan s n h = absurd h
div_ten (inf t) s n h = absurd h
div_ten (fin true m e) s n h = over_ten true s m e n h.0 h.1
div_ten (fin false m e) s n h = over_ten false s m e n h.0 h.1

-- a product of values that are not negative
pub mul_val : (f : Format) (x y : Float) (a c b d : ℕ) → 0 < c → 0 < d → HasValue x false a c → HasValue y false b d → mul f x y ≡ round f false (a * b) (c * d)
unfolding mul
mul_val f nan y a c b d C D h k = absurd h
mul_val f (inf s) y a c b d C D h k = absurd h
mul_val f (fin true m e) y a c b d C D h k = absurd (true≢false h.0)
mul_val f (fin false m e) nan a c b d C D h k = absurd k
mul_val f (fin false m e) (inf t) a c b d C D h k = absurd k
mul_val f (fin false m e) (fin true n g) a c b d C D h k = absurd (true≢false k.0)
mul_val f (fin false m e) (fin false n g) a c b d C D h k =
    round_same f false (m * up e * (n * up g)) (down e * down g) (a * b) (c * d) (mul-pos (down_pos e) (down_pos g)) (mul-pos C D)
    (mul-mul-mul_comm (m * up e) (n * up g) c d ∙ ap (λ (z : ℕ). z * (n * up g * d)) h.1 ∙ ap (λ (z : ℕ). a * down e * z) k.1 ∙ mul-mul-mul_comm a (down e) b (down g))

-- ---- a sum of values over one denominator L. Its parts over the denominator that `add` takes:
module _ (m : ℕ) (e : ℤ) (n : ℕ) (g : ℤ) (a b L : ℕ) (h : m * up e * L ≡ a * down e) (k : n * up g * L ≡ b * down g) where
  left : m * up e * down g * L ≡ a * (down e * down g)
  left = mul_right_comm (m * up e) (down g) L ∙ ap (λ (z : ℕ). z * down g) h ∙ mul_assoc a (down e) (down g)

  right : n * up g * down e * L ≡ b * (down e * down g)
  right = mul_right_comm (n * up g) (down e) L ∙ ap (λ (z : ℕ). z * down e) k ∙ mul_assoc b (down g) (down e) ∙ ap (λ (z : ℕ). b * z) (mul_comm (down g) (down e))

pub add_val : (f : Format) (x y : Float) (a b L : ℕ) → 0 < L → HasValue x false a L → HasValue y false b L → add f x y ≡ round f false (a + b) L
unfolding add sum
add_val f nan y a b L P h k = absurd h
add_val f (inf s) y a b L P h k = absurd h
add_val f (fin true m e) y a b L P h k = absurd (true≢false h.0)
add_val f (fin false m e) nan a b L P h k = absurd k
add_val f (fin false m e) (inf t) a b L P h k = absurd k
add_val f (fin false m e) (fin true n g) a b L P h k = absurd (true≢false k.0)
add_val f (fin false m e) (fin false n g) a b L P h k =
    round_same f false (m * up e * down g + n * up g * down e) (down e * down g) (a + b) L (mul-pos (down_pos e) (down_pos g)) P
    (add-mul (m * up e * down g) (n * up g * down e) L ∙ ap (λ (z : ℕ). z + n * up g * down e * L) (left m e n g a b L h.1 k.1) ∙ ap (λ (z : ℕ). a * (down e * down g) + z) (right m e n g a b L h.1 k.1) ∙ sym (add-mul a b (down e * down g)))

pub sub_scale : (A B a b C L : ℕ) → A * L ≡ a * C → B * L ≡ b * C → (B - A) * L ≡ (b - a) * C
sub_scale A B a b C L p q =
    mul_comm (B - A) L ∙ mul-sub L B A ∙ ap (λ (z : ℕ). z - L * A) (mul_comm L B ∙ q ∙ mul_comm b C) ∙ ap (λ (z : ℕ). C * b - z) (mul_comm L A ∙ p ∙ mul_comm a C) ∙ sym (mul-sub C b a) ∙ mul_comm C (b - a)

ltb_scale : (A B a b C L : ℕ) → 0 < C → 0 < L → A * L ≡ a * C → B * L ≡ b * C → ltb A B ≡ ltb a b
ltb_scale A B a b C L h_c hL p q = elim (lt_or_ge a b) [
  | inl l ↦ lt-ltb A B (lt_of_mul-lt-mul_right L (subst (λ (z : ℕ). z < B * L) (sym p) (subst (λ (z : ℕ). a * C < z) (sym q) (mul-lt-mul_of_pos_right l h_c)))) ∙ sym (lt-ltb a b l)
  | inr g ↦ le-ltb A B (le_of_mul-le-mul_right (subst (λ (z : ℕ). z ≤ A * L) (sym q) (subst (λ (z : ℕ). b * C ≤ z) (sym p) (mul-le-mul_right C g))) hL) ∙ sym (le-ltb a b g)
]

-- -a / L + b / L
pub sub_val : (f : Format) (x y : Float) (a b L : ℕ) → 0 < L → HasValue x true a L → HasValue y false b L → add f x y ≡ cond (ltb a b) (round f false (b - a) L) (round f (ltb b a) (a - b) L)
unfolding add sum
sub_val f nan y a b L P h k = absurd h
sub_val f (inf s) y a b L P h k = absurd h
sub_val f (fin false m e) y a b L P h k = absurd (false≢true h.0)
sub_val f (fin true m e) nan a b L P h k = absurd k
sub_val f (fin true m e) (inf t) a b L P h k = absurd k
sub_val f (fin true m e) (fin true n g) a b L P h k = absurd (true≢false k.0)
sub_val f (fin true m e) (fin false n g) a b L P h k =
    let A = m * up e * down g in
    let B = n * up g * down e in
    let C = down e * down g in
    let h_c : 0 < C = mul-pos (down_pos e) (down_pos g) in
    let p = left m e n g a b L h.1 k.1 in
    let q = right m e n g a b L h.1 k.1 in
    ap (λ (t : Bool). cond t (round f false (B - A) C) (round f (ltb B A) (A - B) C)) (ltb_scale A B a b C L h_c P p q)
    ∙ ap (λ (t : Bool). cond (ltb a b) (round f false (B - A) C) (round f t (A - B) C)) (ltb_scale B A b a C L h_c P q p)
    ∙ ap (λ (z : Float). cond (ltb a b) z (round f (ltb b a) (A - B) C)) (round_same f false (B - A) C (b - a) L h_c P (sub_scale A B a b C L p q))
    ∙ ap (λ (z : Float). cond (ltb a b) (round f false (b - a) L) z) (round_same f (ltb b a) (A - B) C (a - b) L h_c P (sub_scale B A b a C L q p))
