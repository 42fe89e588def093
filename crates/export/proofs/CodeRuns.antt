-- The round trip for calls of the code: whatever arguments, answers and final buffers the contracts of `export_packet16` and `read_sweep`
-- allow. Assumes nothing.
use Prim.Native.Nat.{ℕ}
use mathlib.Core.List.{List}
use mathlib.Core.Path.{◌≡◌, refl, sym, ap, ◌∙◌}
use lib.ListN.{length, take, drop}
use lib.Seq.{take_at, drop_at}
use contract.Lifetimes.{Lfts}
use borrow.Fn.World.{ArgsD, ResD}
use borrow.Fn.Kinds.{ended_of}
use denote.Triple.Clauses.{AtExit}
use mir.Syntax.{w8}
use borrow.Table.Referent.{f_int}
use borrow.Rule.Slice.Know.{Fit}
use Rattle.wire.specs.Result.{Result, accepted, answer, refused, then, lent}
use Rattle.wire.proofs.Results.{clash, one_value}
use Rattle.scale.specs.declared.physical.Scheme.{Scheme}
use Rattle.sweep.specs.Sweep.{Accepted, Buffers, read_into, Ran, sweep_in, SweepAnswer}
use Rattle.sweep.specs.Demand3.{SameLengths}
use Rattle.sweep.specs.declared.sweep.Sweep.{Sweep}
use Rattle.sweep.proofs.CodeRuns as Reading
use Rattle.export.specs.Export.{export_of, length_in}
use Rattle.export.specs.RoundTrip.{IsLegacy, figures16, accepted16, RoundTrip, Layout}
use Rattle.std.specs.Prelude.{Ok}
use Rattle.export.proofs.RoundTrip.{round_trip}
use Rattle.export.proofs.InWords.{layout}
use Rattle.export.specs.contracts.export.export_packet16.{signature}
use Rattle.export.proofs.export.export_packet16.Kinds as kinds
use Rattle.export.proofs.export.export_packet16.Reads as reads

-- A call: its arguments (body, out), its result and the arguments at the return, whatever they are.
pub record Call : Type 0 where
  pub lifetimes : Lfts 2
  pub given : ArgsD signature lifetimes
  pub answer : ResD signature lifetimes
  pub last : AtExit (ended_of 2 kinds.ps kinds.r) lifetimes
  -- each entry of the body is a u8: owning a `&[u8]` gives this (the kit's `shs_known`), the list alone does not
  pub good : Fit (f_int w8) 0 given.0.now

-- the contract of `export_packet16` allows it
abbrev pub Allowed : Call → Type 0
Allowed c = reads.Post c.lifetimes c.given c.answer c.last

abbrev pub body : Call → List ℕ
body c = c.given.0.now

-- what the buffer holds before and after
abbrev pub old : Call → List ℕ
old c = c.given.1.0.now

abbrev pub new : Call → List ℕ
new c = c.last.1.0.now

-- An accepted call: the first n places of the buffer are a body that is read as the original is and laid out as the request says, and the
-- later places keep their contents.
pub record Exported (b out₀ out : List ℕ) (n : ℕ) : Type 0 where
  pub is : export_of b (length out₀) ≡ accepted (take n out)
  pub trip : RoundTrip b (take n out)
  pub laid : Layout b (take n out)
  pub kept : drop n out ≡ drop n out₀
  pub long : length (take n out) ≡ n

exported : (b out₀ out : List ℕ) (n : ℕ) → accepted n ≡ length_in (export_of b (length out₀)) → out ≡ lent (export_of b (length out₀)) (λ o. o) out₀ → Exported b out₀ out n
exported b out₀ out n e k = go (export_of b (length out₀)) refl e k
  where
    go : (r : Result (List ℕ)) → export_of b (length out₀) ≡ r → accepted n ≡ length_in r → out ≡ lent r (λ o. o) out₀ → Exported b out₀ out n
    go (accepted o) h i j =
        let l : length o ≡ n = sym (one_value i) in
        let t : take n out ≡ o = ap (take n) j ∙ take_at o (drop (length o) out₀) n l in
        record {
          is = rw t h;
          trip = rw t (round_trip b (length out₀) o h);
          laid = rw t (layout b (length out₀) o h);
          kept = ap (drop n) j ∙ drop_at o (drop (length o) out₀) n l ∙ ap (λ m. drop m out₀) l;
          long = ap length t ∙ l;
        }
    go (refused x) h i j = clash n x (sym i)

pub call_exports : (c : Call) → Allowed c → (n : ℕ) → c.answer ≡ Ok n → Exported (body c) (old c) (new c) n
call_exports c allowed n is = exported (body c) (old c) (new c) n (ap answer (sym is) ∙ allowed.0) allowed.1

-- ---- an export, and the sweep reading of the original and of what was written

-- the same answer, of packet 16
abbrev pub sweep16 : Sweep → Sweep
sweep16 s = record { token = s.token; fields = s.fields; time = s.time; declared = s.declared; figures = figures16 s.figures }

-- The sweep reading answered a of the original and a' of the written body: the same but for the packet, or the same refusal; and what it
-- left in both sets of buffers is one and the same reading's.
pub record Agree (old old' new new' : Buffers) (a a' : SweepAnswer) : Type 0 where
  pub answered : answer a' ≡ then (answer a) λ s. accepted (sweep16 s)
  pub reading : Result Accepted
  pub azimuths : (new.azimuths ≡ lent reading (λ p. p.azimuths) old.azimuths) × (new'.azimuths ≡ lent reading (λ p. p.azimuths) old'.azimuths)
  pub codes : (new.codes ≡ lent reading (λ p. p.codes) old.codes) × (new'.codes ≡ lent reading (λ p. p.codes) old'.codes)
  pub physical : (new.physical ≡ lent reading (λ p. p.physical) old.physical) × (new'.physical ≡ lent reading (λ p. p.physical) old'.physical)

lent_16 : {A : Type 0} (r : Result Accepted) (f : Accepted → List A) → ((a : Accepted) → f (accepted16 a) ≡ f a) → (l : List A)
    → lent (then r λ a. accepted (accepted16 a)) f l ≡ lent r f l
lent_16 (accepted a) f same l = rw (same a) refl
lent_16 (refused x) f same l = refl

sweep_in_16 : (r : Result Accepted) → sweep_in (then r λ a. accepted (accepted16 a)) ≡ then (sweep_in r) λ s. accepted (sweep16 s)
sweep_in_16 (accepted a) = refl
sweep_in_16 (refused x) = refl

pub agree : (scheme : Scheme) (file : List ℕ) (clock : ℕ) (b o : List ℕ) (old old' new new' : Buffers) (a a' : SweepAnswer) → RoundTrip b o → ¬ (IsLegacy scheme)
    → SameLengths old old' → Ran scheme file clock b old new a → Ran scheme file clock o old' new' a' → Agree old old' new new' a a'
agree scheme file clock b o old old' new new' a a' t other lengths r r' =
    let first = read_into scheme file clock b old in
    let second : read_into scheme file clock o old' ≡ then first (λ p. accepted (accepted16 p)) =
    rw (lengths.azimuths, lengths.codes, lengths.physical) (t.swept scheme file clock (length old.azimuths) (length old.codes) (length old.physical) other) in
    record {
      answered = r'.answered ∙ ap sweep_in second ∙ sweep_in_16 first ∙ ap (λ (x : Result Sweep). then x (λ s. accepted (sweep16 s))) (sym r.answered);
      reading = first;
      azimuths = (r.azimuths, r'.azimuths ∙ ap (λ (x : Result Accepted). lent x (λ p. p.azimuths) old'.azimuths) second ∙ lent_16 first (λ p. p.azimuths) (λ p. refl) old'.azimuths);
      codes = (r.codes, r'.codes ∙ ap (λ (x : Result Accepted). lent x (λ p. p.codes) old'.codes) second ∙ lent_16 first (λ p. p.codes) (λ p. refl) old'.codes);
      physical = (r.physical, r'.physical ∙ ap (λ (x : Result Accepted). lent x (λ p. p.physical) old'.physical) second ∙ lent_16 first (λ p. p.physical) (λ p. refl) old'.physical);
    }

pub alike : {s s' : Scheme} {f f' : List ℕ} {k k' : ℕ} {b b' : List ℕ} (o n : Buffers) (a : SweepAnswer) → s' ≡ s → f' ≡ f → k' ≡ k → b' ≡ b → Ran s' f' k' b' o n a → Ran s f k b o n a
alike o n a es ef ek eb r = rw (← es, ← ef, ← ek, ← eb) r

pub calls_agree : (x : Call) → Allowed x → (n : ℕ) → x.answer ≡ Ok n → (c d : Reading.Call) → Reading.Allowed c → Reading.Allowed d
    → Reading.body c ≡ body x → Reading.body d ≡ take n (new x) → Reading.file d ≡ Reading.file c → Reading.clock d ≡ Reading.clock c → Reading.scheme d ≡ Reading.scheme c
    → ¬ (IsLegacy (Reading.scheme c)) → SameLengths (Reading.old c) (Reading.old d)
    → Agree (Reading.old c) (Reading.old d) (Reading.new c) (Reading.new d) c.answer d.answer
calls_agree x allowed n is c d pc pd eb eo ef ek es other lengths =
    agree (Reading.scheme c) (Reading.file c) (Reading.clock c) (body x) (take n (new x)) (Reading.old c) (Reading.old d) (Reading.new c) (Reading.new d) c.answer d.answer
    (call_exports x allowed n is).trip other lengths
    (alike (Reading.old c) (Reading.new c) c.answer refl refl refl eb (Reading.call_runs c pc))
    (alike (Reading.old d) (Reading.new d) d.answer es ef ek eo (Reading.call_runs d pd))
