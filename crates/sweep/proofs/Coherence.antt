-- In every description record that an entry of this crate returns each float is the stated operation on its whole number (M-110): in the
-- readings' answers, and in the answer of any call that the contracts allow. Assumes nothing.
use Prim.Native.Nat.{ℕ, ◌+◌}
use Rattle.std.specs.Prelude as Std
use mathlib.Core.List.{List}
use mathlib.Core.Bool.{not}
use mathlib.Core.Path.{◌≡◌, sym, ap, ◌∙◌, subst}
use lib.Dec.{ltb}
use contract.Lifetimes.{Lfts}
use borrow.Fn.World.{ArgsD, ResD}
use borrow.Fn.Kinds.{ended_of}
use denote.Triple.Clauses.{AtExit}
use Rattle.wire.specs.Result.{Result, accepted, answer, then}
use Rattle.wire.proofs.Results.{one_value, through, passed}
use Rattle.head.specs.Header.{token, message_header, scan_time}
use Rattle.head.specs.Pdb.{pdb_fields, Coherent}
use Rattle.head.proofs.Coherence.{coherent}
use Rattle.scale.specs.Physical.{scale_fields, declared_scale}
use Rattle.scale.specs.declared.physical.Scheme.{Scheme}
use Rattle.symbology.specs.Answers.{Picture, picture_of, GapPicture, gap_picture_of}
use Rattle.symbology.specs.Merge.{merged_of}
use Rattle.sweep.specs.declared.plan.Head.{Head}
use Rattle.sweep.specs.declared.sweep.Sweep.{Sweep}
use Rattle.sweep.specs.Sweep.{head_of, allowed, room_for, Accepted, finish, sweep_of, SweepAnswer}
use Rattle.sweep.specs.GapSweep.{GapSweep, gap_finish, gap_sweep_of}
use Rattle.sweep.specs.MergeSweep.{readied, merge_sweep_of}
use Rattle.sweep.proofs.Reading.{given_in}
use Rattle.sweep.proofs.CodeRuns as Ordinary
use Rattle.sweep.proofs.GapCalls as Gaps
use Rattle.sweep.proofs.MergeCalls as Merges
use Rattle.sweep.specs.contracts.plan.read_head as Head-read
use Rattle.sweep.proofs.plan.read_head.Kinds as head-kinds
use Rattle.sweep.proofs.plan.read_head.Reads as head-reads
use Rattle.sweep.specs.contracts.sweep.check_sweep as Check
use Rattle.sweep.proofs.sweep.check_sweep.Kinds as check-kinds
use Rattle.sweep.proofs.sweep.check_sweep.Reads as check-reads

-- ---- the readings

-- what the file says
pub head_coherent : (scheme : Scheme) (file : List ℕ) (clock : ℕ) (h : Head) → head_of scheme file clock ≡ accepted h → Coherent h.fields
unfolding head_of
head_coherent scheme file clock h e =
    through (token file) _ h e λ at _ e₁.
    through (message_header file) _ h e₁ λ header _ e₂.
    through (pdb_fields file (header + 18)) _ h e₂ λ fields ef e₃.
    through (scan_time fields.scan_days fields.scan_seconds clock) _ h e₃ λ time _ e₄.
    through (scale_fields scheme file (header + 18)) _ h e₄ λ scaling _ e₅.
    subst (λ (x : Head). Coherent x.fields) (one_value e₅) (coherent file (header + 18) fields ef)

-- a sweep has the record of its head
finished : (scheme : Scheme) (file : List ℕ) (na nc np : ℕ) (h : Head) (p : Picture) (x : Accepted) → finish scheme file na nc np h p ≡ accepted x → Coherent h.fields
    → Coherent x.sweep.fields
unfolding finish
finished scheme file na nc np h p x e good =
    passed (not (allowed scheme p.figures.packet)) _ _ x e λ _ e₁.
    through (declared_scale h.scaling) _ x e₁ λ declared _ e₂.
    through (room_for na nc np p.figures) _ x e₂ λ u _ e₃.
    subst (λ (a : Accepted). Coherent a.sweep.fields) (one_value e₃) good

pub sweep_coherent : (scheme : Scheme) (file : List ℕ) (clock : ℕ) (b : List ℕ) (na nc np : ℕ) (p : Accepted) → sweep_of scheme file clock b na nc np ≡ accepted p
    → Coherent p.sweep.fields
unfolding sweep_of
sweep_coherent scheme file clock b na nc np p acc =
    through (head_of scheme file clock) _ p acc λ h eh e₁.
    through (picture_of b) _ p e₁ λ q _ e₂.
    finished scheme file na nc np h q p e₂ (head_coherent scheme file clock h eh)

-- the same with marks
gap_finished : (scheme : Scheme) (file : List ℕ) (na nc np nm : ℕ) (h : Head) (q : GapPicture) (g : GapSweep) → gap_finish scheme file na nc np nm h q ≡ accepted g
    → Coherent h.fields → Coherent g.sweep.fields
unfolding gap_finish
gap_finished scheme file na nc np nm h q g e good =
    through (finish scheme file na nc np h q.picture) _ g e λ x ex e₁.
    passed (ltb nm q.picture.figures.n_radials) _ _ g e₁ λ _ e₂.
    subst (λ (x : GapSweep). Coherent x.sweep.fields) (one_value e₂) (finished scheme file na nc np h q.picture x ex good)

pub gaps_coherent : (scheme : Scheme) (file : List ℕ) (clock : ℕ) (b : List ℕ) (na nc np nm : ℕ) (g : GapSweep) → gap_sweep_of scheme file clock b na nc np nm ≡ accepted g
    → Coherent g.sweep.fields
unfolding gap_sweep_of
gaps_coherent scheme file clock b na nc np nm g acc =
    through (head_of scheme file clock) _ g acc λ h eh e₁.
    through (gap_picture_of b) _ g e₁ λ q _ e₂.
    gap_finished scheme file na nc np nm h q g e₂ (head_coherent scheme file clock h eh)

pub merge_coherent : (scheme : Scheme) (file : List ℕ) (clock : ℕ) (first second : List ℕ) (na nc np nm : ℕ) (g : GapSweep)
    → merge_sweep_of scheme file clock first second na nc np nm ≡ accepted g → Coherent g.sweep.fields
unfolding merge_sweep_of
merge_coherent scheme file clock first second na nc np nm g acc =
    through (head_of scheme file clock) _ g acc λ h eh e₁.
    through (readied scheme h first) _ g e₁ λ a _ e₂.
    through (readied scheme h second) _ g e₂ λ b _ e₃.
    through (merged_of a b) _ g e₃ λ q _ e₄.
    gap_finished scheme file na nc np nm h q g e₄ (head_coherent scheme file clock h eh)

-- ---- any call

-- an answer that hands on the sweep of a reading
handed_on : {A : Type 0} (part : A → Sweep) (r : Result A) → ((a : A) → r ≡ accepted a → Coherent (part a).fields) → (said : SweepAnswer)
    → answer said ≡ then r (λ a. accepted (part a)) → (s : Sweep) → said ≡ Std.Ok s → Coherent s.fields
handed_on part r good said e s is =
    let g = given_in part r (sym (ap answer is) ∙ e) in
    subst (λ (x : Sweep). Coherent x.fields) g.2 (good g.0 g.1)

pub call_head : (l : Lfts 1) (given : ArgsD Head-read.signature l) (said : ResD Head-read.signature l) (last : AtExit (ended_of 1 head-kinds.ps head-kinds.r) l)
    → head-reads.Post l given said last → (h : Head) → said ≡ Std.Ok h → Coherent h.fields
call_head l given said last allowed h is = head_coherent given.0 given.1.0.now given.1.1.0 h (sym allowed ∙ ap answer is)

pub call_check : (l : Lfts 2) (given : ArgsD Check.signature l) (said : ResD Check.signature l) (last : AtExit (ended_of 2 check-kinds.ps check-kinds.r) l)
    → check-reads.Post l given said last → (s : Sweep) → said ≡ Std.Ok s → Coherent s.fields
call_check l given said last allowed = handed_on (λ p. p.sweep) _ (sweep_coherent _ _ _ _ _ _ _) said allowed

pub call_sweep : (c : Ordinary.Call) → Ordinary.Allowed c → (s : Sweep) → c.answer ≡ Std.Ok s → Coherent s.fields
call_sweep c allowed = handed_on (λ p. p.sweep) _ (sweep_coherent _ _ _ _ _ _ _) c.answer allowed.answered

pub call_gaps : (c : Gaps.Call) → Gaps.Allowed c → (s : Sweep) → c.answer ≡ Std.Ok s → Coherent s.fields
call_gaps c allowed = handed_on (λ g. g.sweep) _ (gaps_coherent _ _ _ _ _ _ _ _) c.answer allowed.answered

pub call_merge : (c : Merges.Call) → Merges.Allowed c → (s : Sweep) → c.answer ≡ Std.Ok s → Coherent s.fields
call_merge c allowed = handed_on (λ g. g.sweep) _ (merge_coherent _ _ _ _ _ _ _ _ _) c.answer allowed.answered
