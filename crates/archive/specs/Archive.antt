-- The archive profile of the sweep reading (document 02, M-112): 45 and 46 stand after all refusals of the symbology and before 10.
use Rattle.std.specs.Prelude.{ℕ, List, [], ◌∷◌, ◌↔◌, ◌≡◌, length}
use Rattle.wire.specs.Refusal.{Refusal, kind, nat}
use Rattle.wire.specs.Result.{Result, accepted, refused, then}
use Rattle.scale.specs.declared.physical.Scheme.{Scheme}
use Rattle.symbology.specs.Answers.{Picture, picture_of}
use Rattle.sweep.specs.declared.plan.Head.{Head}
use Rattle.sweep.specs.Sweep.{head_of, Accepted, finish, sweep_of, Buffers, SweepRan, SweepAnswer}
use Rattle.export.specs.RoundTrip.{IsLegacy, accepted16}
use Rattle.archive.specs.Surplus.{exact, NoSurplus, LowestOver, AfterAll}

-- `sweep_of` with the two tests between the symbology and 10
unfoldable pub strict_of : Scheme → List ℕ → ℕ → List ℕ → ℕ → ℕ → ℕ → Result Accepted
strict_of scheme file clock body na nc np =
    then (head_of scheme file clock) λ h.
    then (picture_of body) λ p.
    then (exact p.figures body) λ _.
    finish scheme file na nc np h p

-- What the profile answers, beside what the ordinary reading does.
pub record Archive (scheme : Scheme) (file : List ℕ) (clock : ℕ) (body : List ℕ) (na nc np : ℕ) : Type 0 where
  -- "Every body the profile accepts gets the ordinary answer,"
  pub ordinary : (p : Accepted) → strict_of scheme file clock body na nc np ≡ accepted p → sweep_of scheme file clock body na nc np ≡ accepted p
  -- "and it accepts each body that has no surplus and is ordinarily accepted", and no others
  pub exactly : (p : Accepted) → sweep_of scheme file clock body na nc np ≡ accepted p
      → (strict_of scheme file clock body na nc np ≡ accepted p) ↔ NoSurplus p.sweep.figures body
  -- "Refused: 45 SurplusInRow with the lowest radial, then 46 SurplusAfterRadials, both after all symbology refusals and before 10": of every
  -- body that the symbology accepts, whatever comes after
  pub in_row : (h : Head) (q : Picture) → head_of scheme file clock ≡ accepted h → picture_of body ≡ accepted q → (r : ℕ) → LowestOver q.figures body r
      → strict_of scheme file clock body na nc np ≡ refused (kind 45 (nat r ∷ []))
  pub after : (h : Head) (q : Picture) → head_of scheme file clock ≡ accepted h → picture_of body ≡ accepted q → AfterAll q.figures body
      → strict_of scheme file clock body na nc np ≡ refused (kind 46 [])
  -- else as the ordinary reading, refusals too: where the head is refused, where the symbology refuses the body, where it has no surplus
  pub no_head : (x : Refusal) → head_of scheme file clock ≡ refused x → strict_of scheme file clock body na nc np ≡ sweep_of scheme file clock body na nc np
  pub no_picture : (x : Refusal) → picture_of body ≡ refused x → strict_of scheme file clock body na nc np ≡ sweep_of scheme file clock body na nc np
  pub no_surplus : (q : Picture) → picture_of body ≡ accepted q → NoSurplus q.figures body
      → strict_of scheme file clock body na nc np ≡ sweep_of scheme file clock body na nc np

-- What was written for an original b, the body o, passes the profile: it has no surplus, and gets the ordinary answer under every scheme;
-- and under any but legacy that of the original, of packet 16.
pub record Passes (b o : List ℕ) : Type 0 where
  pub none : (q : Picture) → picture_of o ≡ accepted q → NoSurplus q.figures o
  pub same : (scheme : Scheme) (file : List ℕ) (clock na nc np : ℕ) → strict_of scheme file clock o na nc np ≡ sweep_of scheme file clock o na nc np
  pub original : (scheme : Scheme) (file : List ℕ) (clock na nc np : ℕ) → ¬ (IsLegacy scheme)
      → strict_of scheme file clock o na nc np ≡ then (sweep_of scheme file clock b na nc np) λ a. accepted (accepted16 a)

-- ---- a run of the code

-- the profile with buffers of these lengths
abbrev pub strict_into : Scheme → List ℕ → ℕ → List ℕ → Buffers → Result Accepted
strict_into scheme file clock body old = strict_of scheme file clock body (length old.azimuths) (length old.codes) (length old.physical)

-- One run by the profile: the answer, and what the buffers hold before and after.
abbrev pub StrictRan : Scheme → List ℕ → ℕ → List ℕ → Buffers → Buffers → SweepAnswer → Type 0
StrictRan scheme file clock body old new said = SweepRan (strict_into scheme file clock body old) old new said
