-- Laws for decimal numbers and the scheme's word. Assumes nothing.
use Rattle.std.proofs.Common.{◌≡◌, ℕ, zero, suc, ◌+◌, ◌-◌, ◌*◌, ◌^◌, ◌<◌, ◌≤◌, Bool, true, false, cond, ◌||◌, eqb, ltb, List, [], ◌∷◌, ◌++◌, length, get_or, take, drop, sym, refl, ap, ◌∙◌, arith, length-drop, ltb-false, eq-eqb, ne_eqb}
use lib.Ieee.{Float, nan}
use Rattle.wire.specs.Float.{f32}
use Rattle.std.proofs.lemmas.List.Sums.{prefix_len-le-length}
use Rattle.std.specs.Prelude.{Option, Some, None}
use Rattle.show.specs.Words.{is_digit, number_from, no_point, point_at, quotient_of, over, decimal_of}

-- the powers of ten from 10^n on
abbrev pub powers : ℕ → ℕ → List Float
powers n zero = []
powers n (suc k) = f32 (10 ^ n) 1 ∷ powers (suc n) k

power_at : (n k i : ℕ) → i < k → get_or (powers n k) i nan ≡ f32 (10 ^ (n + i)) 1
power_at n zero i h = absurd (omega arith)
power_at n (suc k) zero h = ap (λ m. f32 (10 ^ m) 1) (omega arith)
power_at n (suc k) (suc i) h = power_at (suc n) k i (omega arith) ∙ ap (λ m. f32 (10 ^ m) 1) (omega arith)

pub ten_power : (k : ℕ) → k ≤ 10 → get_or (powers 0 11) k nan ≡ f32 (10 ^ k) 1
ten_power k h = power_at 0 11 k (omega arith) ∙ ap (λ m. f32 (10 ^ m) 1) (omega arith)

-- the point is no further than the end
pub point_within : (text : List ℕ) → point_at text ≤ length text
unfolding point_at
point_within text = prefix_len-le-length no_point text

-- a number that was read has at most fifteen digits
pub at_most : (n : ℕ) (s : List ℕ) → n ≤ 999999999999999 → {m : ℕ} → Some m ≡ number_from n s → m ≤ 999999999999999
unfolding number_from
at_most n [] h {m} e = let v : ◌≡◌ {A = ℕ} m n = cc in omega arith
at_most n (b ∷ s) h {m} e = go (is_digit b) (ltb 999999999999999 (n * 10 + (b - 48))) refl (λ k x. at_most (n * 10 + (b - 48)) s k x) e
  where
    bad : Some m ≡ None → m ≤ 999999999999999
    bad e = absurd (let z : ◌≡◌ {A = ℕ} 0 1 = cc in omega arith)

    go : (d t : Bool) → ltb 999999999999999 (n * 10 + (b - 48)) ≡ t
        → (n * 10 + (b - 48) ≤ 999999999999999 → Some m ≡ number_from (n * 10 + (b - 48)) s → m ≤ 999999999999999)
        → Some m ≡ cond d (cond t None (number_from (n * 10 + (b - 48)) s)) None → m ≤ 999999999999999
    go true true l k e = bad e
    go true false l k e = k (ltb-false _ _ l) e
    go false t l k e = bad e

past : (n : ℕ) (s : List ℕ) → length s ≤ n → drop n s ≡ []
past zero [] h = refl
past zero (b ∷ s) h = absurd (omega arith)
past (suc n) [] h = refl
past (suc n) (b ∷ s) h = past n s (omega arith)

-- the digits of two texts one after the other
abbrev further : Option ℕ → List ℕ → Option ℕ
further (Some n) s = number_from n s
further None s = None

joined : (n : ℕ) (s t : List ℕ) → number_from n (s ++ t) ≡ further (number_from n s) t
unfolding number_from
joined n [] t = refl
joined n (b ∷ s) t = go (is_digit b) (ltb 999999999999999 (n * 10 + (b - 48))) (joined (n * 10 + (b - 48)) s t)
  where
    go : (d l : Bool) → number_from (n * 10 + (b - 48)) (s ++ t) ≡ further (number_from (n * 10 + (b - 48)) s) t
        → cond d (cond l None (number_from (n * 10 + (b - 48)) (s ++ t))) None
        ≡ further (cond d (cond l None (number_from (n * 10 + (b - 48)) s)) None) t
    go true true e = refl
    go true false e = e
    go false l e = refl

or_true : (b : Bool) → b || true ≡ true
or_true true = refl
or_true false = refl

module _ (text : List ℕ) {p : ℕ} (here : p ≡ point_at text) where
  -- what is left to read once the point is found
  abbrev rest : Option ℕ → Option Float
  rest w = over (further w (drop (p + 1) text)) (length (drop (p + 1) text))

  decimal_is : cond (eqb p 0 || eqb (p + 1) (length text)) None (rest (number_from 0 (take p text))) ≡ decimal_of text
  unfolding decimal_of
  decimal_is = rw (here, joined)

  -- no digit before the point, or none after it
  pub decimal_none : p ≡ 0 → None ≡ decimal_of text
  decimal_none e = sym (ap (λ b. cond (b || eqb (p + 1) (length text)) None (rest (number_from 0 (take p text)))) (eq-eqb p 0 e)) ∙ decimal_is

  pub decimal_last : p + 1 ≡ length text → None ≡ decimal_of text
  decimal_last e =
      sym (ap (λ b. cond b None (rest (number_from 0 (take p text)))) (ap (λ b. eqb p 0 || b) (eq-eqb (p + 1) (length text) e) ∙ or_true (eqb p 0))) ∙ decimal_is

  -- another byte than a digit, or too many digits
  pub decimal_bad : rest (number_from 0 (take p text)) ≡ None → None ≡ decimal_of text
  decimal_bad e = sym (ap (cond (eqb p 0 || eqb (p + 1) (length text)) None) e ∙ either (eqb p 0 || eqb (p + 1) (length text))) ∙ decimal_is
    where
      either : (b : Bool) → cond {A = Option Float} b None None ≡ None
      either true = refl
      either false = refl

  pub whole_bad : None ≡ number_from 0 (take p text) → None ≡ decimal_of text
  whole_bad e = decimal_bad (ap rest (sym e))

  module _ {w : ℕ} (whole : Some w ≡ number_from 0 (take p text)) where
    pub fraction_bad : None ≡ number_from w (drop (p + 1) text) → None ≡ decimal_of text
    fraction_bad e = decimal_bad (ap rest (sym whole) ∙ ap (λ x. over x (length (drop (p + 1) text))) (sym e))

    -- the number over its power of ten
    pub decimal_read : {n k : ℕ} {r : Option Float} → (p ≡ 0 → ⊥) → (p + 1 ≡ length text → ⊥) → Some n ≡ number_from w (drop (p + 1) text) → k ≡ length text - (p + 1)
        → r ≡ quotient_of n k → r ≡ decimal_of text
    decimal_read {n} {k} first last e is q =
        let there : over (Some n) k ≡ rest (number_from 0 (take p text)) =
        ap (over (Some n)) (is ∙ sym (length-drop (p + 1) text)) ∙ ap (λ (x : Option ℕ). over x (length (drop (p + 1) text))) e ∙ ap rest whole in
        let both : eqb p 0 || eqb (p + 1) (length text) ≡ false = rw (ne_eqb p 0 first) (ne_eqb (p + 1) (length text) last) in
        q ∙ there ∙ sym (ap (λ (b : Bool). cond b None (rest (number_from 0 (take p text)))) both) ∙ decimal_is

    pub whole_read : {r : Option Float} → (p ≡ 0 → ⊥) → p ≡ length text → r ≡ quotient_of w 0 → r ≡ decimal_of text
    unfolding number_from
    whole_read first e q =
        let d : drop (p + 1) text ≡ [] = past (p + 1) text (omega arith) in
        decimal_read first (λ l. absurd (omega arith)) (ap (number_from w) (sym d)) (omega arith) q
