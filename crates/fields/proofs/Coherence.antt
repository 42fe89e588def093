-- In every description record that an entry of this crate returns each float is the stated operation on its whole number (M-110): in the
-- reading's answer, and in the answer of any call that the contracts allow. Assumes nothing.
use Prim.Native.Nat.{ℕ}
use mathlib.Core.List.{List}
use mathlib.Core.Path.{◌≡◌, sym, ap, ◌∙◌, subst}
use contract.Lifetimes.{Lfts}
use borrow.Fn.World.{ArgsD, ResD}
use borrow.Fn.Kinds.{ended_of}
use denote.Triple.Clauses.{AtExit}
use Rattle.std.specs.Prelude as Std
use Rattle.wire.specs.Result.{accepted, answer}
use Rattle.head.specs.Pdb.{Coherent}
use Rattle.scale.specs.declared.physical.Scheme.{Scheme}
use Rattle.sweep.proofs.Coherence.{sweep_coherent}
use Rattle.sweep.proofs.Reading.{given_in}
use Rattle.fields.specs.declared.fields.Checked.{Checked}
use Rattle.fields.specs.declared.fields.SweepTotals.{SweepTotals}
use Rattle.fields.specs.Fields.{Totalled, totals_of}
use Rattle.fields.proofs.Joined.{made}
use Rattle.fields.proofs.CodeRuns.{Call, Allowed}
use Rattle.fields.specs.contracts.fields.check_totals.{signature}
use Rattle.fields.proofs.fields.check_totals.Kinds as kinds
use Rattle.fields.proofs.fields.check_totals.Reads as reads

pub totals_coherent : (scheme : Scheme) (file : List ℕ) (clock : ℕ) (b plan : List ℕ) (na nc np nt : ℕ) (t : Totalled)
    → totals_of scheme file clock b plan na nc np nt ≡ accepted t → Coherent t.sweep.sweep.fields
totals_coherent scheme file clock b plan na nc np nt t e =
    sweep_coherent scheme file clock b na nc np t.sweep (made scheme file clock b plan na nc np nt t e).sweeps

-- any call of `check_totals`, and of `read_sweep_with_totals`
pub call_checked : (l : Lfts 3) (given : ArgsD signature l) (said : ResD signature l) (last : AtExit (ended_of 3 kinds.ps kinds.r) l) → reads.Post l given said last
    → (k : Checked) → said ≡ Std.Ok k → Coherent k.sweep.fields
call_checked l given said last allowed k is =
    let g = given_in (λ (t : Totalled). record { sweep = t.sweep.sweep; scale = t.scale; fields = t.fields }) _ (sym (ap answer is) ∙ allowed) in
    subst (λ (q : Checked). Coherent q.sweep.fields) g.2 (totals_coherent _ _ _ _ _ _ _ _ _ g.0 g.1)

pub call_totals : (c : Call) → Allowed c → (s : SweepTotals) → c.answer ≡ Std.Ok s → Coherent s.sweep.fields
call_totals c allowed s is =
    let g = given_in (λ (t : Totalled). record { sweep = t.sweep.sweep; fields = t.fields }) _ (sym (ap answer is) ∙ allowed.answered) in
    subst (λ (q : SweepTotals). Coherent q.sweep.fields) g.2 (totals_coherent _ _ _ _ _ _ _ _ _ g.0 g.1)
