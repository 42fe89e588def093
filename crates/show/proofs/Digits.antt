-- Laws for the number that a text makes. Assumes nothing.
use Rattle.std.proofs.Common.{◌≡◌, ℕ, true, false, ◌+◌, ◌-◌, ◌*◌, ◌<◌, ◌≤◌, List, ◌∷◌, length, get_or, drop, sym, ap, ◌∙◌, add-one, arith, drop-cons, le-ltb, lt-ltb}
use lib.Seq.{drop-length}
use Rattle.std.specs.Prelude.{Some, None}
use Rattle.show.specs.Words.{is_digit, number_from}

-- the number that is left to read gives the whole's
pub record Reading (n : ℕ) (s : List ℕ) (value i : ℕ) : Type 0 where
  pub inside : i ≤ length s
  pub small : value ≤ 999999999999999
  pub same : number_from value (drop i s) ≡ number_from n s

module _ {n : ℕ} {s : List ℕ} {value i b : ℕ} (w : Reading n s value i) (more : i < length s) (known : b ≡ get_or s i 0) where
  here : number_from value (b ∷ drop (i + 1) s) ≡ number_from n s
  here = rw (known, add-one, ← drop-cons s i 0 more) w.same

  pub read_bad : is_digit b ≡ false → None ≡ number_from n s
  unfolding number_from
  read_bad e = sym (simp e) ∙ here

  pub read_long : is_digit b ≡ true → 999999999999999 < value * 10 + (b - 48) → None ≡ number_from n s
  unfolding number_from
  read_long e l = sym (simp (e, lt-ltb _ _ l)) ∙ here

  pub read_next : is_digit b ≡ true → value * 10 + (b - 48) ≤ 999999999999999 → Reading n s (value * 10 + (b - 48)) (i + 1)
  unfolding number_from
  read_next e l = record { inside = omega arith; small = l; same = sym (simp (e, le-ltb _ _ l)) ∙ here }

pub read_end : {n : ℕ} {s : List ℕ} {value i : ℕ} → Reading n s value i → length s ≤ i → Some value ≡ number_from n s
unfolding number_from
read_end {n} {s} {value} {i} w h =
    let e : i ≡ length s = omega (arith, w.inside) in
    ap (number_from value) (sym (drop-length s)) ∙ rw e at w.same
