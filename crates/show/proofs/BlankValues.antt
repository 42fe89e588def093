-- The buffer of the physical values before a reading: its zeros, and how many. Over the number of places, since a checker that unfolds so many
-- zeros doesn't end. Assumes nothing.
use Rattle.std.proofs.Common.{◌≡◌, ℕ, List, ◌++◌, length, take, drop}
use lib.ListN.{replicate, length-replicate}
use lib.Seq.{take_at}
use lib.Ieee.{Float}
use Rattle.std.specs.Prelude.{Result, IfOk}
use Rattle.wire.specs.Float.{f32}
use Rattle.show.specs.BlankValues.{blank_values}

pub blank_of : {T E : Type 0} (items : T → List Float) (r : Result T E) (n : ℕ) → IfOk r (λ v. items v ≡ replicate n (f32 0 1)) → IfOk r (λ v. items v ≡ blank_values n)
unfolding blank_values
blank_of items r n h = h

pub blank_long : (n : ℕ) → length (blank_values n) ≡ n
unfolding blank_values
blank_long n = length-replicate n (f32 0 1)

-- a buffer that is lent whole holds what is written to it
pub written : {A : Type 0} (new old : List A) (n : ℕ) → length new ≡ n → take n (new ++ drop (length new) old) ≡ new
written new old n e = take_at new (drop (length new) old) n e
