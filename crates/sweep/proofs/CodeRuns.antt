-- Demand 3 for two runs of the code: whatever arguments, outcomes and final buffers the contract of `read_sweep` allows. Assumes nothing.
use Prim.Native.Nat.{ℕ}
use Rattle.std.specs.Prelude as Std
use native.Mathlib.Omega.{arith}
use mathlib.Core.List.{List}
use mathlib.Core.Path.{◌≡◌, subst}
use contract.Lifetimes.{Lfts}
use borrow.Fn.World.{ArgsD, ResD}
use borrow.Fn.Kinds.{ended_of}
use denote.Triple.Clauses.{AtExit}
use mir.Syntax.{w8}
use borrow.Table.Referent.{f_int}
use borrow.Rule.Slice.Know.{Fit}
use Rattle.scale.specs.declared.physical.Scheme.{Scheme}
use Rattle.symbology.specs.Words.{Bytes, DamageInWords}
use Rattle.sweep.specs.declared.sweep.Sweep.{Sweep}
use Rattle.sweep.specs.Sweep.{Buffers, buffers, Ran, SweepAnswer}
use Rattle.sweep.specs.Demand3.{SameLengths, TwoRuns}
use Rattle.sweep.proofs.TwoRuns.{two_runs}
use Rattle.sweep.specs.contracts.sweep.read_sweep.{signature}
use Rattle.sweep.proofs.sweep.read_sweep.Kinds as kinds
use Rattle.sweep.proofs.sweep.read_sweep.Reads as reads

-- A call: its arguments (file, clock, scheme, body, azimuths, codes, physical, in this order), its result and the arguments at the return,
-- whatever they are.
pub record Call : Type 0 where
  pub lifetimes : Lfts 5
  pub given : ArgsD signature lifetimes
  pub answer : ResD signature lifetimes
  pub last : AtExit (ended_of 5 kinds.ps kinds.r) lifetimes
  -- each entry of the body is a u8: owning a `&[u8]` gives this (the kit's `shs_known`), the list alone does not
  pub good : Fit (f_int w8) 0 given.1.1.1.0.now

-- the contract of `read_sweep` allows it
abbrev pub Allowed : Call → Type 0
Allowed c = reads.Post c.lifetimes c.given c.answer c.last

abbrev pub file : Call → List ℕ
file c = c.given.0.now

abbrev pub clock : Call → ℕ
clock c = c.given.1.0

abbrev pub scheme : Call → Scheme
scheme c = c.given.1.1.0

abbrev pub body : Call → List ℕ
body c = c.given.1.1.1.0.now

-- what the buffers hold before and after
abbrev pub old : Call → Buffers
old c = let a = c.given.1.1.1.1 in buffers a.0.now a.1.0.now a.1.1.0.now

abbrev pub new : Call → Buffers
new c = let s = c.last.1.1.1.1 in buffers s.0.now s.1.0.now s.1.1.0.now

-- what the contract allows is what demand 3 calls a run, and nothing else
pub call_runs : (c : Call) → Allowed c → Ran (scheme c) (file c) (clock c) (body c) (old c) (new c) c.answer
call_runs c p = p

pub run_calls : (c : Call) → Ran (scheme c) (file c) (clock c) (body c) (old c) (new c) c.answer → Allowed c
run_calls c r = r

-- the body of a call is bytes
body_bytes : (c : Call) → Bytes (body c)
body_bytes c i = omega (arith, c.good i)

alike : {s s' : Scheme} {f f' : List ℕ} {k k' : ℕ} (b : List ℕ) (o n : Buffers) (a : SweepAnswer) → s' ≡ s → f' ≡ f → k' ≡ k → Ran s' f' k' b o n a → Ran s f k b o n a
alike b o n a es ef ek r = rw (← es, ← ef, ← ek) r

-- Two calls with the same file bytes, clock, scheme and buffer lengths. The first is accepted; the second body is damaged as demand 3 says.
pub two_calls : (c d : Call) → Allowed c → Allowed d → file d ≡ file c → clock d ≡ clock c → scheme d ≡ scheme c → SameLengths (old c) (old d)
    → (s : Sweep) → c.answer ≡ Std.Ok s → DamageInWords (body c) s.figures (body d)
    → TwoRuns (scheme c) (file c) (body c) (body d) s (new c) (new d) d.answer
two_calls c d one other files clocks schemes lengths s is damaged =
    two_runs (scheme c) (file c) (clock c) (body c) (body d) s (old c) (new c) (old d) (new d) d.answer
    (subst (Ran (scheme c) (file c) (clock c) (body c) (old c) (new c)) is (call_runs c one))
    (alike (body d) (old d) (new d) d.answer schemes files clocks (call_runs d other)) lengths (body_bytes d) damaged
