-- What M-104 asks, for calls of the code: whatever arguments, outcomes and final buffers the contract of `read_sweep_with_totals` allows.
-- Assumes nothing.
use Prim.Native.Nat.{ℕ, ◌+◌, ◌*◌, ◌^◌, ◌<◌}
use native.Mathlib.Omega.{arith}
use mathlib.Core.List.{List}
use mathlib.Core.Path.{◌≡◌, refl, sym, ap, ◌∙◌}
use lib.ListN.{length, get_or, take}
use contract.Lifetimes.{Lfts}
use borrow.Fn.World.{ArgsD, ResD}
use borrow.Fn.Kinds.{ended_of}
use denote.Triple.Clauses.{AtExit}
use mir.Syntax.{w8}
use borrow.Table.Referent.{f_int}
use borrow.Rule.Slice.Know.{Fit}
use Rattle.std.specs.Prelude as Std
use Rattle.wire.specs.Result.{Result, accepted, then, lent, answer}
use Rattle.wire.proofs.Results.{one_value}
use Rattle.scale.specs.declared.scaling.PrecipScale.{PrecipScale}
use Rattle.scale.specs.declared.physical.Scheme.{Scheme}
use Rattle.symbology.specs.declared.figures.Figures.{Figures}
use Rattle.sweep.specs.Sweep.{buffers, Ran}
use Rattle.sweep.proofs.Parts.{sizes}
use Rattle.sweep.proofs.GapCalls.{Input}
use Rattle.sweep.proofs.Reading.{given_in, front_is}
use Rattle.fields.specs.declared.fields.SweepTotals.{SweepTotals}
use Rattle.fields.specs.Totals.{weights}
use Rattle.fields.specs.Fields.{rain_of, Totalled, totals_of, TotalsBuffers, totals_buffers, totals_into, TotalsRan}
use Rattle.fields.specs.WithTotals.{records_of, Cut, Moved, OneCell}
use Rattle.fields.proofs.Joined.{made, many_totals}
use Rattle.fields.proofs.Promises.{Reads, ordinary, no_overflow, cut_in_two, moved_among, moves_up, moves_down}
use Rattle.fields.specs.contracts.fields.read_sweep_with_totals.{signature}
use Rattle.fields.proofs.fields.read_sweep_with_totals.Kinds as kinds
use Rattle.fields.proofs.fields.read_sweep_with_totals.Reads as reads

-- A call: its arguments (file, clock, scheme, body, plan, azimuths, codes, physical, totals, in this order), its result and the arguments at
-- the return, whatever they are.
pub record Call : Type 0 where
  pub lifetimes : Lfts 7
  pub given : ArgsD signature lifetimes
  pub answer : ResD signature lifetimes
  pub last : AtExit (ended_of 7 kinds.ps kinds.r) lifetimes
  -- each entry of body and plan is a u8: owning a `&[u8]` gives this (the kit's `shs_known`), the list alone does not
  pub good_body : Fit (f_int w8) 0 given.1.1.1.0.now
  pub good_plan : Fit (f_int w8) 0 given.1.1.1.1.0.now

-- the contract of `read_sweep_with_totals` allows it
abbrev pub Allowed : Call → Type 0
Allowed c = reads.Post c.lifetimes c.given c.answer c.last

-- what it reads; and the plan
abbrev pub input : Call → Input
input c = let a = c.given in record { file = a.0.now; clock = a.1.0; scheme = a.1.1.0; body = a.1.1.1.0.now }

abbrev pub plan : Call → List ℕ
plan c = c.given.1.1.1.1.0.now

-- what the buffers hold before and after
abbrev pub old : Call → TotalsBuffers
old c = let a = c.given.1.1.1.1.1 in totals_buffers a.0.now a.1.0.now a.1.1.0.now a.1.1.1.0.now

abbrev pub new : Call → TotalsBuffers
new c = let s = c.last.1.1.1.1.1 in totals_buffers s.0.now s.1.0.now s.1.1.0.now s.1.1.1.0.now

-- what the contract allows is a run with a plan, and nothing else
pub call_runs : (c : Call) → Allowed c → TotalsRan (input c).scheme (input c).file (input c).clock (input c).body (plan c) (old c) (new c) c.answer
call_runs c p = p

pub run_calls : (c : Call) → TotalsRan (input c).scheme (input c).file (input c).clock (input c).body (plan c) (old c) (new c) c.answer → Allowed c
run_calls c r = r

-- ---- one call

-- the reading that a call is to give
abbrev reading : Call → Result Totalled
reading c = totals_into (input c).scheme (input c).file (input c).clock (input c).body (plan c) (old c)

abbrev summed : Totalled → SweepTotals
summed t = record { sweep = t.sweep.sweep; fields = t.fields }

abbrev figures : SweepTotals → Figures
figures s = s.sweep.figures

-- the totals and the codes that an accepted call left
abbrev pub totals_left : Call → SweepTotals → List ℕ
totals_left c s = take s.fields (new c).totals

abbrev pub codes_left : Call → SweepTotals → List ℕ
codes_left c s = take ((figures s).n_radials * (figures s).n_bins) (new c).codes

-- a body and a plan are accepted with what else a call reads, and give t
abbrev Gives : Call → List ℕ → List ℕ → Totalled → Type 0
Gives c =
    Reads (input c).scheme (input c).file (input c).clock (length (old c).azimuths) (length (old c).codes) (length (old c).physical)
    (length (old c).totals)

module _ (c : Call) (allowed : Allowed c) (s : SweepTotals) (is : c.answer ≡ Std.Ok s) where
  -- what it gave
  record Gave : Type 0 where
    t : Totalled
    reads : Gives c (input c).body (plan c) t
    told : summed t ≡ s
    totals : totals_left c s ≡ t.totals
    codes : codes_left c s ≡ t.sweep.codes

  gave : Gave
  gave =
      let g = given_in summed (reading c) (sym (ap answer is) ∙ allowed.answered) in
      let t = g.0 in
      let e = g.1 in
      let m = made (input c).scheme (input c).file (input c).clock (input c).body (plan c) _ _ _ _ t e in
      record {
        t = t;
        reads = record { is = e };
        told = g.2;
        totals = front_is _ t.totals (old c).totals (allowed.totals ∙ ap (λ r. lent r (λ q. q.totals) (old c).totals) e)
            (many_totals (input c).scheme (input c).file (input c).clock (input c).body (plan c) _ _ _ _ t e ∙ ap (λ (q : SweepTotals). q.fields) g.2);
        codes = front_is _ t.sweep.codes (old c).codes (allowed.codes ∙ ap (λ r. lent r (λ q. q.sweep.codes) (old c).codes) e)
            ((sizes (input c).scheme (input c).file (input c).clock (input c).body _ _ _ t.sweep m.sweeps).codes
            ∙ ap (λ (q : SweepTotals). (figures q).n_radials * (figures q).n_bins) g.2);
      }

  -- The picture that it left is that of a run of the ordinary reading.
  pub ordinary_call : Ran (input c).scheme (input c).file (input c).clock (input c).body (buffers (old c).azimuths (old c).codes (old c).physical)
      (buffers (new c).azimuths (new c).codes (new c).physical) (Std.Ok s.sweep)
  ordinary_call =
      let e = gave.reads.is in
      let o = sym (ordinary _ _ _ _ _ _ _ gave.reads) in
      record {
        answered = ap (λ (q : SweepTotals). accepted q.sweep) (sym gave.told) ∙ ap (λ r. then r λ p. accepted p.sweep) o;
        azimuths = allowed.azimuths ∙ ap (λ r. lent r (λ q. q.sweep.azimuths) (old c).azimuths) e ∙ ap (λ r. lent r (λ p. p.azimuths) (old c).azimuths) o;
        codes = allowed.codes ∙ ap (λ r. lent r (λ q. q.sweep.codes) (old c).codes) e ∙ ap (λ r. lent r (λ p. p.codes) (old c).codes) o;
        physical = allowed.physical ∙ ap (λ r. lent r (λ q. q.sweep.physical) (old c).physical) e ∙ ap (λ r. lent r (λ p. p.physical) (old c).physical) o;
      }

  -- No total that it left overflows 64 bits.
  pub small_totals : (i : ℕ) → get_or (totals_left c s) i 0 < 2 ^ 60
  small_totals i =
      rw gave.totals (no_overflow _ _ _ _ _ _ _ gave.reads (λ k. omega (arith, c.good_body k)) (λ k. omega (arith, c.good_plan k)) i)

-- ---- two calls

-- Two calls with the same file bytes, clock, scheme and buffer lengths.
pub record Alike (c d : Call) : Type 0 where
  pub files : (input d).file ≡ (input c).file
  pub clocks : (input d).clock ≡ (input c).clock
  pub schemes : (input d).scheme ≡ (input c).scheme
  pub azimuths : length (old d).azimuths ≡ length (old c).azimuths
  pub codes : length (old d).codes ≡ length (old c).codes
  pub physical : length (old d).physical ≡ length (old c).physical
  pub totals : length (old d).totals ≡ length (old c).totals

same_reading : {f f' : List ℕ} {k k' : ℕ} {h h' : Scheme} {b b' : List ℕ} {p p' : List ℕ} {na na' nc nc' np np' nt nt' : ℕ}
    → h' ≡ h → f' ≡ f → k' ≡ k → b' ≡ b → p' ≡ p → na' ≡ na → nc' ≡ nc → np' ≡ np → nt' ≡ nt
    → totals_of h f k b p na nc np nt ≡ totals_of h' f' k' b' p' na' nc' np' nt'
same_reading e₁ e₂ e₃ e₄ e₅ e₆ e₇ e₈ e₉ = rw (e₁, e₂, e₃, e₄, e₅, e₆, e₇, e₈, e₉)

-- both are accepted
module _ (c d : Call) (allowed : Allowed c) (allowed' : Allowed d) (alike : Alike c d) (s s' : SweepTotals) (is : c.answer ≡ Std.Ok s)
    (is' : d.answer ≡ Std.Ok s') where
  first : Gave c allowed s is
  first = gave c allowed s is

  second : Gave d allowed' s' is'
  second = gave d allowed' s' is'

  -- the second's reading, with what is the same taken from the first
  gives : {b p : List ℕ} → (input d).body ≡ b → plan d ≡ p → Gives c b p second.t
  gives eb ep = record {
    is = same_reading alike.schemes alike.files alike.clocks eb ep alike.azimuths alike.codes alike.physical alike.totals ∙ second.reads.is;
  }

  -- where both give the same totals, both leave them, as many
  left_alike : second.t.totals ≡ first.t.totals → totals_left d s' ≡ totals_left c s
  left_alike e = second.totals ∙ e ∙ sym first.totals

  -- One body; the second plan has a strip of the first cut in two, or moved among the strips of its field.
  module _ (bodies : (input d).body ≡ (input c).body) where
    pub cut_calls : Cut (plan c) (plan d) → totals_left d s' ≡ totals_left c s
    cut_calls k = left_alike (cut_in_two _ _ _ _ _ _ _ first.reads (gives bodies refl) k)

    pub move_calls : Moved (plan c) (plan d) → totals_left d s' ≡ totals_left c s
    move_calls k = left_alike (moved_among _ _ _ _ _ _ _ first.reads (gives bodies refl) k)

  -- One plan; of the codes that the second leaves just that of a cell is another, and it is valid before and after.
  module _ (plans : plan d ≡ plan c) (scale : PrecipScale)
      (scale-is : rain_of (input c).scheme (input c).file (input c).clock (input c).body ≡ accepted scale) (radial gate from to : ℕ)
      (o : OneCell scale (figures s) (figures s') (codes_left c s) (codes_left d s') radial gate from to) where
    same_scale : scale ≡ first.t.scale
    same_scale =
        one_value (sym scale-is ∙ (made (input c).scheme (input c).file (input c).clock (input c).body (plan c) _ _ _ _ first.t first.reads.is).rain)

    one_cell : OneCell first.t.scale first.t.sweep.sweep.figures second.t.sweep.sweep.figures first.t.sweep.codes second.t.sweep.codes
        radial gate from to
    one_cell = cell_as first.told second.told same_scale first.codes second.codes o
      where
        cell_as : {x y : SweepTotals} {a b : SweepTotals} {u v : PrecipScale} {l l' m m' : List ℕ} → x ≡ a → y ≡ b → u ≡ v → l ≡ l' → m ≡ m'
            → OneCell u (figures a) (figures b) l m radial gate from to → OneCell v (figures x) (figures y) l' m' radial gate from to
        cell_as e₁ e₂ e₃ e₄ e₅ r = rw (e₁, e₂, ← e₃, ← e₄, ← e₅) r

    -- up by n: each field's total moves by n × the summed weights of its strips over that cell
    pub up_calls : (n : ℕ) → to ≡ from + n → (i : ℕ)
        → get_or (totals_left d s') i 0 ≡ get_or (totals_left c s) i 0 + n * get_or (weights radial gate (records_of (plan c))) i 0
    up_calls n e i = rw (first.totals, second.totals) (moves_up _ _ _ _ _ _ _ first.reads (gives refl plans) radial gate from to one_cell n e i)

    -- and down
    pub down_calls : (n : ℕ) → from ≡ to + n → (i : ℕ)
        → get_or (totals_left c s) i 0 ≡ get_or (totals_left d s') i 0 + n * get_or (weights radial gate (records_of (plan c))) i 0
    down_calls n e i = rw (first.totals, second.totals) (moves_down _ _ _ _ _ _ _ first.reads (gives refl plans) radial gate from to one_cell n e i)
