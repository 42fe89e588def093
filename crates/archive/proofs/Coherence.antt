-- In the description record of what the profile accepts each float is the stated operation on its whole number (M-110). Assumes nothing.
use Prim.Native.Nat.{ℕ}
use mathlib.Core.List.{List}
use mathlib.Core.Path.{◌≡◌, sym, ap, ◌∙◌, subst}
use Rattle.std.specs.Prelude.{Ok}
use Rattle.wire.specs.Result.{accepted, answer}
use Rattle.head.specs.Pdb.{Coherent}
use Rattle.scale.specs.declared.physical.Scheme.{Scheme}
use Rattle.sweep.specs.declared.sweep.Sweep.{Sweep}
use Rattle.sweep.specs.Sweep.{Accepted}
use Rattle.sweep.proofs.Coherence.{sweep_coherent}
use Rattle.sweep.proofs.Reading.{given_in}
use Rattle.archive.specs.Archive.{strict_of}
use Rattle.archive.proofs.Profile.{archive}
use Rattle.sweep.proofs.CodeRuns.{Call}
use Rattle.archive.proofs.CodeRuns.{Allowed}

pub strict_coherent : (scheme : Scheme) (file : List ℕ) (clock : ℕ) (b : List ℕ) (na nc np : ℕ) (p : Accepted) → strict_of scheme file clock b na nc np ≡ accepted p
    → Coherent p.sweep.fields
strict_coherent scheme file clock b na nc np p e = sweep_coherent scheme file clock b na nc np p ((archive scheme file clock b na nc np).ordinary p e)

-- any call of `read_sweep_strict`
pub call_strict : (c : Call) → Allowed c → (s : Sweep) → c.answer ≡ Ok s → Coherent s.fields
call_strict c allowed s is =
    let g = given_in (λ (p : Accepted). p.sweep) _ (sym (ap answer is) ∙ allowed.answered) in
    subst (λ (x : Sweep). Coherent x.fields) g.2 (strict_coherent _ _ _ _ _ _ _ g.0 g.1)
