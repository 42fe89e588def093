-- Two receptions for two runs of the code: whatever the contracts of `read_sweep` and `merge_receptions` allow. Assumes nothing.
use Prim.Native.Nat.{ℕ, ◌≤◌}
use Rattle.std.specs.Prelude as Std
use native.Mathlib.Omega.{arith}
use mathlib.Core.List.{List}
use mathlib.Core.Path.{◌≡◌, subst}
use lib.ListN.{length}
use contract.Lifetimes.{Lfts}
use borrow.Fn.World.{ArgsD, ResD}
use borrow.Fn.Kinds.{ended_of}
use denote.Triple.Clauses.{AtExit}
use mir.Syntax.{w8}
use borrow.Table.Referent.{f_int}
use borrow.Rule.Slice.Know.{Fit}
use Rattle.scale.specs.declared.physical.Scheme.{Scheme}
use Rattle.sweep.specs.declared.sweep.Sweep.{Sweep}
use Rattle.sweep.specs.Sweep.{Ran, SweepAnswer}
use Rattle.sweep.specs.GapSweep.{GapBuffers, gap_buffers, MarkedRan, GapRan}
use Rattle.sweep.specs.WithGaps.{SameRoom}
use Rattle.sweep.specs.MergeSweep.{MergeRan}
use Rattle.sweep.specs.Receptions.{Apart, MergeRuns}
use Rattle.sweep.proofs.CodeRuns as Ordinary
use Rattle.sweep.proofs.MergeAlike.{merged_alike}
use Rattle.sweep.proofs.TwoMergeRuns.{two_merge_runs}
use Rattle.sweep.specs.contracts.merge.merge_receptions.{signature}
use Rattle.sweep.proofs.merge.merge_receptions.Kinds as kinds
use Rattle.sweep.proofs.merge.merge_receptions.Reads as reads

-- A call: its arguments (file, clock, scheme, first, second, azimuths, codes, physical, marks, in this order), its result and the arguments
-- at the return, whatever they are.
pub record Call : Type 0 where
  pub lifetimes : Lfts 7
  pub given : ArgsD signature lifetimes
  pub answer : ResD signature lifetimes
  pub last : AtExit (ended_of 7 kinds.ps kinds.r) lifetimes
  -- each entry of both bodies is a u8, as in CodeRuns
  pub good : Fit (f_int w8) 0 given.1.1.1.0.now
  pub good_second : Fit (f_int w8) 0 given.1.1.1.1.0.now

-- the contract of `merge_receptions` allows it
abbrev pub Allowed : Call → Type 0
Allowed c = reads.Post c.lifetimes c.given c.answer c.last

-- what a call reads
pub record Input : Type 0 where
  pub file : List ℕ
  pub clock : ℕ
  pub scheme : Scheme
  pub first : List ℕ
  pub second : List ℕ

abbrev pub input : Call → Input
input c =
    let a = c.given in record { file = a.0.now; clock = a.1.0; scheme = a.1.1.0; first = a.1.1.1.0.now; second = a.1.1.1.1.0.now }

-- what the buffers hold before and after
abbrev pub old : Call → GapBuffers
old c = let a = c.given.1.1.1.1.1 in gap_buffers a.0.now a.1.0.now a.1.1.0.now a.1.1.1.0.now

abbrev pub new : Call → GapBuffers
new c = let s = c.last.1.1.1.1.1 in gap_buffers s.0.now s.1.0.now s.1.1.0.now s.1.1.1.0.now

-- what the contract allows is a merging run, and nothing else
pub call_runs : (c : Call) → Allowed c → MergeRan (input c).scheme (input c).file (input c).clock (input c).first (input c).second (old c) (new c) c.answer
call_runs c p = p

pub run_calls : (c : Call) → MergeRan (input c).scheme (input c).file (input c).clock (input c).first (input c).second (old c) (new c) c.answer → Allowed c
run_calls c r = r

alike : {s s' : Scheme} {f f' : List ℕ} {k k' : ℕ} (b₁ b₂ : List ℕ) (o n : GapBuffers) (a : SweepAnswer) → s' ≡ s → f' ≡ f → k' ≡ k → MergeRan s' f' k' b₁ b₂ o n a → MergeRan s f k b₁ b₂ o n a
alike b₁ b₂ o n a es ef ek r = rw (← es, ← ef, ← ek) r

-- An ordinary call that is accepted, and a merging call of the same file bytes, clock, scheme and picture buffer lengths, whose bodies are
-- damaged in radials of which none is in both and whose mark buffer is long enough.
pub merge_calls : (c : Ordinary.Call) (d : Call) → Ordinary.Allowed c → Allowed d → (input d).file ≡ Ordinary.file c → (input d).clock ≡ Ordinary.clock c → (input d).scheme ≡ Ordinary.scheme c
    → SameRoom (Ordinary.old c) (old d) → (s : Sweep) → c.answer ≡ Std.Ok s → Apart s.figures (Ordinary.body c) (input d).first (input d).second
    → s.figures.n_radials ≤ length (old d).marks
    → MergeRuns (Ordinary.body c) (input d).first (input d).second s (Ordinary.new c) (old d) (new d) d.answer
merge_calls c d one other files clocks schemes lengths s is damaged room =
    two_merge_runs (Ordinary.scheme c) (Ordinary.file c) (Ordinary.clock c) (Ordinary.body c) (input d).first (input d).second s (Ordinary.old c) (Ordinary.new c) (old d) (new d) d.answer
    (subst (Ran (Ordinary.scheme c) (Ordinary.file c) (Ordinary.clock c) (Ordinary.body c) (Ordinary.old c) (Ordinary.new c)) is (Ordinary.call_runs c one))
    (alike (input d).first (input d).second (old d) (new d) d.answer schemes files clocks (call_runs d other)) lengths
    (λ i. omega (arith, d.good i)) (λ i. omega (arith, d.good_second i)) damaged room

-- A call that merges a body with itself is one that the contract of `read_sweep_with_gaps` allows for that body.
pub itself_calls : (d : Call) → Allowed d → (input d).second ≡ (input d).first
    → GapRan (input d).scheme (input d).file (input d).clock (input d).first (old d) (new d) d.answer
itself_calls d p same =
    subst (λ R. MarkedRan R (old d) (new d) d.answer) ((merged_alike (input d).scheme (input d).file (input d).clock _ _ _ _).itself (input d).first)
    (subst (λ b. MergeRan (input d).scheme (input d).file (input d).clock (input d).first b (old d) (new d) d.answer) same (call_runs d p))
