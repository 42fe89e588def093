-- What M-101 asks, for two runs of the code: whatever the contracts of `read_sweep` and `read_sweep_with_gaps` allow. Assumes nothing.
use Prim.Native.Nat.{ℕ, ◌≤◌}
use Rattle.std.specs.Prelude as Std
use native.Mathlib.Omega.{arith}
use mathlib.Core.List.{List}
use mathlib.Core.Path.{◌≡◌, subst}
use lib.ListN.{length}
use contract.Lifetimes.{Lfts}
use borrow.Fn.World.{ArgsD, ResD}
use borrow.Fn.Kinds.{ended_of}
use denote.Triple.Clauses.{AtExit}
use mir.Syntax.{w8}
use borrow.Table.Referent.{f_int}
use borrow.Rule.Slice.Know.{Fit}
use Rattle.scale.specs.declared.physical.Scheme.{Scheme}
use Rattle.sweep.specs.declared.sweep.Sweep.{Sweep}
use Rattle.symbology.specs.Words.{DamageInWords}
use Rattle.sweep.specs.Sweep.{Ran, SweepAnswer}
use Rattle.sweep.specs.GapSweep.{GapBuffers, gap_buffers, GapRan}
use Rattle.sweep.specs.WithGaps.{SameRoom, GapRuns, OrdinaryRuns}
use Rattle.sweep.proofs.CodeRuns as Ordinary
use Rattle.sweep.proofs.TwoGapRuns.{two_gap_runs, ordinary_runs}
use Rattle.sweep.specs.contracts.with_gaps.read_sweep_with_gaps.{signature}
use Rattle.sweep.proofs.with_gaps.read_sweep_with_gaps.Kinds as kinds
use Rattle.sweep.proofs.with_gaps.read_sweep_with_gaps.Reads as reads

-- A call: its arguments (file, clock, scheme, body, azimuths, codes, physical, marks, in this order), its result and the arguments at the
-- return, whatever they are.
pub record Call : Type 0 where
  pub lifetimes : Lfts 6
  pub given : ArgsD signature lifetimes
  pub answer : ResD signature lifetimes
  pub last : AtExit (ended_of 6 kinds.ps kinds.r) lifetimes
  -- each entry of the body is a u8, as in CodeRuns
  pub good : Fit (f_int w8) 0 given.1.1.1.0.now

-- the contract of `read_sweep_with_gaps` allows it
abbrev pub Allowed : Call → Type 0
Allowed c = reads.Post c.lifetimes c.given c.answer c.last

-- what a call reads
pub record Input : Type 0 where
  pub file : List ℕ
  pub clock : ℕ
  pub scheme : Scheme
  pub body : List ℕ

abbrev pub input : Call → Input
input c = let a = c.given in record { file = a.0.now; clock = a.1.0; scheme = a.1.1.0; body = a.1.1.1.0.now }

-- what the buffers hold before and after
abbrev pub old : Call → GapBuffers
old c = let a = c.given.1.1.1.1 in gap_buffers a.0.now a.1.0.now a.1.1.0.now a.1.1.1.0.now

abbrev pub new : Call → GapBuffers
new c = let s = c.last.1.1.1.1 in gap_buffers s.0.now s.1.0.now s.1.1.0.now s.1.1.1.0.now

-- what the contract allows is a run with gaps, and nothing else
pub call_runs : (c : Call) → Allowed c → GapRan (input c).scheme (input c).file (input c).clock (input c).body (old c) (new c) c.answer
call_runs c p = p

pub run_calls : (c : Call) → GapRan (input c).scheme (input c).file (input c).clock (input c).body (old c) (new c) c.answer → Allowed c
run_calls c r = r

alike : {s s' : Scheme} {f f' : List ℕ} {k k' : ℕ} (b : List ℕ) (o n : GapBuffers) (a : SweepAnswer) → s' ≡ s → f' ≡ f → k' ≡ k → GapRan s' f' k' b o n a → GapRan s f k b o n a
alike b o n a es ef ek r = rw (← es, ← ef, ← ek) r

-- An ordinary call that is accepted, and a call with gaps of the same file bytes, clock, scheme and picture buffer lengths, whose body is
-- damaged as demand 3 says and whose mark buffer is long enough.
pub gap_calls : (c : Ordinary.Call) (d : Call) → Ordinary.Allowed c → Allowed d → (input d).file ≡ Ordinary.file c → (input d).clock ≡ Ordinary.clock c → (input d).scheme ≡ Ordinary.scheme c
    → SameRoom (Ordinary.old c) (old d) → (s : Sweep) → c.answer ≡ Std.Ok s → DamageInWords (Ordinary.body c) s.figures (input d).body
    → s.figures.n_radials ≤ length (old d).marks
    → GapRuns (Ordinary.scheme c) (Ordinary.file c) (Ordinary.body c) (input d).body s (Ordinary.new c) (new d) d.answer
gap_calls c d one other files clocks schemes lengths s is damaged room =
    two_gap_runs (Ordinary.scheme c) (Ordinary.file c) (Ordinary.clock c) (Ordinary.body c) (input d).body s (Ordinary.old c) (Ordinary.new c) (old d) (new d) d.answer
    (subst (Ran (Ordinary.scheme c) (Ordinary.file c) (Ordinary.clock c) (Ordinary.body c) (Ordinary.old c) (Ordinary.new c)) is (Ordinary.call_runs c one))
    (alike (input d).body (old d) (new d) d.answer schemes files clocks (call_runs d other)) lengths (λ i. omega (arith, d.good i)) damaged room

-- An ordinary call, and a call with gaps of the same file bytes, clock, scheme, body and picture buffer lengths, whose mark buffer is long
-- enough for the picture, if there is one.
pub ordinary_calls : (c : Ordinary.Call) (d : Call) → Ordinary.Allowed c → Allowed d → (input d).file ≡ Ordinary.file c → (input d).clock ≡ Ordinary.clock c → (input d).scheme ≡ Ordinary.scheme c
    → (input d).body ≡ Ordinary.body c → SameRoom (Ordinary.old c) (old d)
    → ((s : Sweep) → c.answer ≡ Std.Ok s → s.figures.n_radials ≤ length (old d).marks)
    → OrdinaryRuns c.answer d.answer (Ordinary.new c) (new d)
ordinary_calls c d one other files clocks schemes bodies lengths room =
    ordinary_runs (Ordinary.scheme c) (Ordinary.file c) (Ordinary.clock c) (Ordinary.body c) (Ordinary.old c) (Ordinary.new c) (old d) (new d) c.answer d.answer
    (Ordinary.call_runs c one)
    (subst (λ b. GapRan (Ordinary.scheme c) (Ordinary.file c) (Ordinary.clock c) b (old d) (new d) d.answer) bodies
    (alike (input d).body (old d) (new d) d.answer schemes files clocks (call_runs d other))) lengths room
