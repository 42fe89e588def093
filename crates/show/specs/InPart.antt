-- The sweep reading with room for as many physical values as codes, of which a shorter buffer gets the first ones.
use Rattle.std.specs.Prelude.{◌≡◌, ℕ, List, length, take}
use Rattle.wire.specs.Result.{Result, answer, lent}
use Rattle.scale.specs.declared.physical.Scheme.{Scheme}
use Rattle.sweep.specs.Sweep.{Accepted, sweep_of, sweep_in, SweepAnswer, Buffers}

abbrev pub as_long : Scheme → List ℕ → ℕ → List ℕ → Buffers → Result Accepted
as_long scheme file clock body old = sweep_of scheme file clock body (length old.azimuths) (length old.codes) (length old.codes)

-- The answer, and what the buffers hold before and after.
pub record ReadInPart (scheme : Scheme) (file : List ℕ) (clock : ℕ) (body : List ℕ) (old new : Buffers) (said : SweepAnswer) : Type 0 where
  pub answered : answer said ≡ sweep_in (as_long scheme file clock body old)
  pub azimuths : new.azimuths ≡ lent (as_long scheme file clock body old) (λ p. p.azimuths) old.azimuths
  pub codes : new.codes ≡ lent (as_long scheme file clock body old) (λ p. p.codes) old.codes
  pub physical : new.physical ≡ lent (as_long scheme file clock body old) (λ p. take (length old.physical) p.physical) old.physical
