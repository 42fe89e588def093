-- Laws of specs/Result.antt: what an answer shows of the way to it. Assumes nothing.
use Prim.Native.Nat.{ℕ}
use native.Mathlib.Omega.{arith}
use mathlib.Core.Bool.{Bool, true, false}
use mathlib.Core.Path.{◌≡◌, refl, ap, ◌∙◌}
use Rattle.std.specs.Prelude as Std
use Rattle.std.specs.Prelude.{IsErrAnd}
use Rattle.std.proofs.lemmas.Result.{err_from_is_err_and}
use Rattle.wire.specs.Refusal.{Refusal}
use Rattle.wire.specs.declared.error.Level3DecodeError.{Level3DecodeError}
use Rattle.std.specs.Result.{result_and}
use Rattle.wire.specs.Result.{Result, accepted, answer, refused, refuse, then}

-- what follows an answer that is known by an equation
pub then_by : {A B : Type 0} {r q : Result A} (f : A → Result B) → r ≡ q → then r f ≡ then q f
then_by f e = ap (λ x. then x f) e

-- what a `?` returns: the error that came
pub returned : {T : Type 0} {r : Std.Result T Level3DecodeError} {e : Level3DecodeError} → IsErrAnd r (λ x. x ≡ e) → r ≡ Std.Err e
returned {r = r} h = let p = err_from_is_err_and r h in p.1 ∙ ap Std.Err p.2

-- the first refusal of two results
pub both : {A B : Type 0} (r : Std.Result A Level3DecodeError) (q : Std.Result B Level3DecodeError) → answer (result_and r q) ≡ then (answer r) (λ _. answer q)
both (Std.Ok a) q = refl
both (Std.Err e) q = refl

-- a refusal is no acceptance
pub clash : {A B : Type 0} (a : A) (x : Refusal) → ◌≡◌ {A = Result A} (refused x) (accepted a) → B
clash a x h = absurd (let z : ◌≡◌ {A = ℕ} 0 1 = cc in omega arith)

pub one_value : {A : Type 0} {a b : A} → ◌≡◌ {A = Result A} (accepted a) (accepted b) → a ≡ b
one_value h = cc

pub one_refusal : {A : Type 0} {x y : Refusal} → ◌≡◌ {A = Result A} (refused x) (refused y) → x ≡ y
one_refusal h = cc

-- what was accepted came through each step
module _ {A B C : Type 0} where
  pub through : (r : Result A) (f : A → Result B) (b : B) → then r f ≡ accepted b → ((a : A) → r ≡ accepted a → f a ≡ accepted b → C) → C
  through (accepted a) f b h k = k a refl h
  through (refused x) f b h k = clash b x h

  -- and what was refused stopped at one
  pub stopped : (r : Result A) (f : A → Result B) (x : Refusal) → then r f ≡ refused x → (r ≡ refused x → C) → ((a : A) → r ≡ accepted a → f a ≡ refused x → C) → C
  stopped (accepted a) f x h k l = l a refl h
  stopped (refused y) f x h k l = k (ap refused (one_refusal h))

-- and passed each test
pub passed : {A C : Type 0} (t : Bool) (x : Refusal) (r : Result A) (a : A) → refuse t x r ≡ accepted a → (t ≡ false → r ≡ accepted a → C) → C
passed true x r a h k = clash a x h
passed false x r a h k = k refl h
