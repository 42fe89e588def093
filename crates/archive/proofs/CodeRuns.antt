-- What M-112 asks, for calls of the code: whatever arguments, answers and final buffers the contracts of `read_sweep_strict`, `read_sweep`
-- and `export_packet16` allow. Assumes nothing.
use Prim.Native.Nat.{ℕ}
use mathlib.Core.List.{List}
use mathlib.Core.Path.{◌≡◌, refl, sym, ap, ◌∙◌}
use lib.ListN.{length, take}
use Rattle.std.specs.Prelude.{Ok}
use Rattle.wire.specs.Result.{Result, accepted, answer}
use Rattle.scale.specs.declared.physical.Scheme.{Scheme}
use Rattle.sweep.specs.Sweep.{Accepted, Buffers, read_into, SweepRan, Ran, SweepAnswer}
use Rattle.sweep.specs.Demand3.{SameLengths}
use Rattle.sweep.specs.declared.sweep.Sweep.{Sweep}
use Rattle.sweep.proofs.Clear.{same_buffers}
use Rattle.sweep.proofs.CodeRuns as Reading
use Rattle.sweep.proofs.CodeRuns.{Call, file, clock, scheme, body, old, new}
use Rattle.sweep.proofs.Reading.{given_in}
use Rattle.export.specs.RoundTrip.{IsLegacy}
use Rattle.export.proofs.CodeRuns as Exporting
use Rattle.archive.specs.Surplus.{NoSurplus}
use Rattle.archive.specs.Archive.{strict_into, StrictRan}
use Rattle.archive.proofs.Passing.{export_passes}
use Rattle.archive.proofs.Profile.{archive, as_ordinary}
use Rattle.archive.proofs.strict.read_sweep_strict.Reads as reads

-- `read_sweep_strict` takes and returns what `read_sweep` does, so that one call is a call of either; this one its contract allows
abbrev pub Allowed : Call → Type 0
Allowed c = reads.Post c.lifetimes c.given c.answer c.last

-- what the contract allows is a run by the profile, and nothing else
pub call_runs : (c : Call) → Allowed c → StrictRan (scheme c) (file c) (clock c) (body c) (old c) (new c) c.answer
call_runs c p = p

pub run_calls : (c : Call) → StrictRan (scheme c) (file c) (clock c) (body c) (old c) (new c) c.answer → Allowed c
run_calls c r = r

-- ---- beside a call of `read_sweep`

-- two runs of one reading with the same buffers
same_runs : {R : Result Accepted} {old new new' : Buffers} {said said' : SweepAnswer} → SweepRan R old new said → SweepRan R old new' said'
    → (answer said' ≡ answer said) × (new' ≡ new)
same_runs r r' =
    (r'.answered ∙ sym r.answered, same_buffers (r'.azimuths ∙ sym r.azimuths) (r'.codes ∙ sym r.codes) (r'.physical ∙ sym r.physical))

module _ (scheme : Scheme) (file : List ℕ) (clock : ℕ) (body : List ℕ) (old : Buffers) {new new' : Buffers} {said said' : SweepAnswer}
    (ran : Ran scheme file clock body old new said) (strict : StrictRan scheme file clock body old new' said') where
  -- the profile accepts: the same answer, the same buffers, and there is no surplus
  accepted_alike : {s : Sweep} → answer said' ≡ accepted s → (answer said' ≡ answer said) × (new' ≡ new) × NoSurplus s.figures body
  accepted_alike {s} is =
      let g = given_in (λ (p : Accepted). p.sweep) (strict_into scheme file clock body old) (sym is ∙ strict.answered) in
      let w = archive scheme file clock body (length old.azimuths) (length old.codes) (length old.physical) in
      let o = w.ordinary g.0 g.1 in
      let n : NoSurplus g.0.sweep.figures body = (w.exactly g.0 o).0 g.1 in
      let k = same_runs ran (as_ordinary scheme file clock body old (g.1 ∙ sym o) strict) in
      (k.0, k.1, rw g.2 at n)

  -- the ordinary reading accepts, and there is no surplus: the profile accepts
  accepts_exact : {s : Sweep} → answer said ≡ accepted s → NoSurplus s.figures body → (answer said' ≡ answer said) × (new' ≡ new)
  accepts_exact {s} is n =
      let g = given_in (λ (p : Accepted). p.sweep) (read_into scheme file clock body old) (sym is ∙ ran.answered) in
      let w = archive scheme file clock body (length old.azimuths) (length old.codes) (length old.physical) in
      let e = (w.exactly g.0 g.1).1 (rw g.2 n) in
      same_runs ran (as_ordinary scheme file clock body old (e ∙ sym g.1) strict)

alike : {s s' : Scheme} {f f' : List ℕ} {k k' : ℕ} {b b' : List ℕ} {o o' : Buffers} (n : Buffers) (a : SweepAnswer) → s' ≡ s → f' ≡ f → k' ≡ k → b' ≡ b → o' ≡ o
    → StrictRan s' f' k' b' o' n a → StrictRan s f k b o n a
alike n a es ef ek eb eo r = rw (← es, ← ef, ← ek, ← eb, ← eo) r

-- A call of `read_sweep` and one of `read_sweep_strict` with the same file bytes, clock, scheme and body, and the same in their buffers.
pub record SameInput (c d : Call) : Type 0 where
  pub files : file d ≡ file c
  pub clocks : clock d ≡ clock c
  pub schemes : scheme d ≡ scheme c
  pub bodies : body d ≡ body c
  pub olds : old d ≡ old c

module _ (c d : Call) (ordinary : Reading.Allowed c) (strict : Allowed d) (same : SameInput c d) where
  strict_run : StrictRan (scheme c) (file c) (clock c) (body c) (old c) (new d) d.answer
  strict_run = alike (new d) d.answer same.schemes same.files same.clocks same.bodies same.olds (call_runs d strict)

  -- "Every body the profile accepts gets the ordinary answer", buffers too; and none of them has surplus
  pub accepted_calls : (s : Sweep) → d.answer ≡ Ok s
      → (answer d.answer ≡ answer c.answer) × (new d ≡ new c) × NoSurplus s.figures (body c)
  accepted_calls s is = accepted_alike (scheme c) (file c) (clock c) (body c) (old c) (Reading.call_runs c ordinary) strict_run (ap answer is)

  -- "it accepts each body that has no surplus and is ordinarily accepted"
  pub exact_calls : (s : Sweep) → c.answer ≡ Ok s → NoSurplus s.figures (body c)
      → (answer d.answer ≡ answer c.answer) × (new d ≡ new c)
  exact_calls s is n = accepts_exact (scheme c) (file c) (clock c) (body c) (old c) (Reading.call_runs c ordinary) strict_run (ap answer is) n

-- ---- what a call of `export_packet16` wrote

-- An export wrote a body of n bytes, and a call by the profile reads it: what that answers and leaves is the ordinary reading's, under any
-- scheme.
pub export_calls : (x : Exporting.Call) → Exporting.Allowed x → (n : ℕ) → x.answer ≡ Ok n → (d : Call) → Allowed d
    → body d ≡ take n (Exporting.new x) → Ran (scheme d) (file d) (clock d) (take n (Exporting.new x)) (old d) (new d) d.answer
export_calls x allowed n is d strict eb =
    let o = take n (Exporting.new x) in
    let passes = export_passes (Exporting.body x) (length (Exporting.old x)) o (Exporting.call_exports x allowed n is).is in
    as_ordinary (scheme d) (file d) (clock d) o (old d) (passes.same _ _ _ _ _ _)
    (alike (new d) d.answer refl refl refl eb refl (call_runs d strict))

-- And a call of `read_sweep` that read the original with the same other input, under any scheme but legacy: the same answer but for the
-- packet, or the same refusal, and the same centres, codes and physical values.
pub original_calls : (x : Exporting.Call) (allowed : Exporting.Allowed x) (n : ℕ) (is : x.answer ≡ Ok n) → (c d : Call)
    → Reading.Allowed c → Allowed d → body c ≡ Exporting.body x → body d ≡ take n (Exporting.new x) → file c ≡ file d
    → clock c ≡ clock d → scheme c ≡ scheme d → ¬ (IsLegacy (scheme d)) → SameLengths (old c) (old d)
    → Exporting.Agree (old c) (old d) (new c) (new d) c.answer d.answer
original_calls x allowed n is c d ordinary strict ec ed ef ek es other lengths =
    Exporting.agree (scheme d) (file d) (clock d) (Exporting.body x) (take n (Exporting.new x)) (old c) (old d) (new c) (new d) c.answer d.answer
    (Exporting.call_exports x allowed n is).trip other lengths
    (Exporting.alike (old c) (new c) c.answer es ef ek ec (Reading.call_runs c ordinary))
    (export_calls x allowed n is d strict ed)
