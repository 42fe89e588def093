-- Laws of walks, for the proofs of code: one reading after another, a test, a reading that passed, a part of a slice. Assumes nothing.
use Prim.Native.Nat.{ℕ, zero, suc, ◌+◌, ◌-◌, ◌≤◌}
use native.Mathlib.Omega.{arith}
use mathlib.Core.List.{List, [], ◌∷◌}
use mathlib.Core.Bool.{Bool, true, false, cond}
use mathlib.Core.Path.{◌≡◌, refl, sym, ap, ◌∙◌}
use lib.ListN.{length, take, drop}
use lib.Seq.{slice, take-nil}
use Rattle.wire.specs.Refusal.{Refusal}
use Rattle.wire.specs.Result.{Result, accepted, refused}
use Rattle.wire.specs.Reading.{Read, Flat, give, stop, left, skip, number, data_row, within, size, value_at, Ended, passed, halted, onward, past_row, walk, ◌>>=◌, ◌>>◌, refuse_if}

-- what is left of the first c + m once c are passed
pub drop_take : {A : Type 0} (c m : ℕ) (s : List A) → drop c (take (c + m) s) ≡ take m (drop c s)
drop_take zero m s = let e : 0 + m ≡ m = omega arith in rw e refl
drop_take (suc c) m [] = ap (drop (suc c)) (take-nil (suc c + m)) ∙ sym (take-nil m)
drop_take (suc c) m (x ∷ s) = let e : suc c + m ≡ suc (c + m) = omega arith in rw e (drop_take c m s)

-- ---- the walk

module _ {W A B : Type 0} (f : A → Read W B) where
  past_onward : (c : Result (List ℕ)) (p : ℕ) (e : Ended A) (k : A → ℕ → Ended B) → past_row c p (onward e k) ≡ onward (past_row c p e) k
  past_onward (accepted c) p e k = refl
  past_onward (refused x) p e k = refl

  -- one reading after another
  pub walk_then : (t : Flat A) (s : List ℕ) (p : ℕ) → walk (t >>= f) s p ≡ onward (walk t s p) (λ a q. walk (f a) s q)
  unfolding walk ◌>>=◌
  walk_then (give a) s p = refl
  walk_then (stop x) s p = refl
  walk_then (left g) s p = walk_then (g (length s - p)) s p
  walk_then (skip k t) s p = walk_then t s (p + k)
  walk_then (number w g) s p = walk_then (g (value_at w s p)) s (p + size w)
  walk_then (data_row k row t) s p =
      ap (past_row (row (slice p (p + k) s)) (p + k)) (walk_then t s (p + k))
      ∙ past_onward (row (slice p (p + k) s)) (p + k) (walk t s (p + k)) (λ a q. walk (f a) s q)
  walk_then (within w k t) s p = absurd w

module _ {W A : Type 0} where
  -- a test that stops the reading or lets it go on
  pub walk_check : (b : Bool) (x : Refusal) (f : Unit {0} → Read W A) (s : List ℕ) (p : ℕ) → walk (refuse_if b x >>= f) s p ≡ cond b (halted x p) (walk (f tt) s p)
  unfolding walk refuse_if ◌>>=◌
  walk_check true x f s p = refl
  walk_check false x f s p = refl

module _ {W A B : Type 0} (f : A → Read W B) (t : Flat A) (s : List ℕ) (p : ℕ) where
  -- the reading after it goes on at its value and position
  pub then_passed : {a : A} {q : ℕ} → passed a q ≡ walk t s p → walk (t >>= f) s p ≡ walk (f a) s q
  then_passed e = walk_then f t s p ∙ ap (λ r. onward r (λ a q. walk (f a) s q)) (sym e)

  -- its refusal is the answer
  pub then_halted : {x : Refusal} {q : ℕ} → halted x q ≡ walk t s p → halted x q ≡ walk (t >>= f) s p
  then_halted e = sym (walk_then f t s p ∙ ap (λ r. onward r (λ a q. walk (f a) s q)) (sym e))

-- a part of a slice, as a reading has it
pub part_slice : (s : List ℕ) (a e : ℕ) → a ≤ e → take (e - a) (drop a s) ≡ slice a e s
part_slice s a e h =
    let k : a + (e - a) ≡ e = omega arith in
    sym (ap (λ n. drop a (take n s)) (sym k) ∙ drop_take a (e - a) s)

-- a test, and what follows where it is passed
pub walk_checks : {W A : Type 0} (b : Bool) (x : Refusal) (f : Unit {0} → Read W A) (s : List ℕ) (p : ℕ) {y : Ended A} → walk (f tt) s p ≡ y
    → walk (refuse_if b x >>= f) s p ≡ cond b (halted x p) y
walk_checks b x f s p h = walk_check b x f s p ∙ ap (cond b (halted x p)) h

-- the same where another reading stands after them
pub walk_checks_then : {W A B : Type 0} (g : A → Read W B) (b : Bool) (x : Refusal) (f : Unit {0} → Flat A) (s : List ℕ) (p : ℕ) {y : Ended B}
    → walk (f tt >>= g) s p ≡ y → walk ((refuse_if b x >>= f) >>= g) s p ≡ cond b (halted x p) y
unfolding walk refuse_if ◌>>=◌
walk_checks_then g true x f s p h = refl
walk_checks_then g false x f s p h = h

-- ---- a reading that passed: each of its parts did

module _ {W A B : Type 0} (f : A → Read W B) (t : Flat A) (s : List ℕ) (p : ℕ) where
  pub record Parts (b : B) (q : ℕ) : Type 0 where
    pub value : A
    pub middle : ℕ
    pub first : passed value middle ≡ walk t s p
    pub second : passed b q ≡ walk (f value) s middle

  pub parts : {b : B} {q : ℕ} → passed b q ≡ walk (t >>= f) s p → Parts b q
  parts {b} {q} e = go (walk t s p) refl (e ∙ walk_then f t s p)
    where
      go : (r : Ended A) → walk t s p ≡ r → passed b q ≡ onward r (λ a q. walk (f a) s q) → Parts b q
      go (passed a m) h k = record { value = a; middle = m; first = sym h; second = k }
      go (halted x m) h k = let z : ◌≡◌ {A = ℕ} 0 1 = cc in absurd (omega arith)

-- the same where the value between them is not used
pub parts_by : {W A B : Type 0} (t : Flat A) (u : Read W B) (s : List ℕ) (p : ℕ) {b : B} {q : ℕ} → passed b q ≡ walk (t >> u) s p → Parts (λ (a : A). u) t s p b q
unfolding ◌>>◌
parts_by t u s p e = parts (λ a. u) t s p e

-- what passed was past the test
pub past_test : {A : Type 0} (b : Bool) (x : Refusal) (m : ℕ) (e : Ended A) {a : A} {q : ℕ} → passed a q ≡ cond b (halted x m) e → (b ≡ false) × (passed a q ≡ e)
past_test true x m e h = let z : ◌≡◌ {A = ℕ} 0 1 = cc in absurd (omega arith)
past_test false x m e h = (refl, h)

pub passed_check : {W A : Type 0} (b : Bool) (x : Refusal) (u : Read W A) (s : List ℕ) (p : ℕ) {a : A} {q : ℕ} → passed a q ≡ walk (refuse_if b x >> u) s p
    → (b ≡ false) × (passed a q ≡ walk u s p)
unfolding ◌>>◌
passed_check b x u s p e = past_test b x p _ (e ∙ walk_check b x (λ _. u) s p)

pub walk_give : {A : Type 0} (a : A) (s : List ℕ) (p : ℕ) → walk {W = ⊥} (give a) s p ≡ passed a p
unfolding walk
walk_give a s p = refl
