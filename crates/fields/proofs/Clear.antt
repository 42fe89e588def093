-- Field plans over a clear scan: what they give, over the definition and in any call that the contract allows. Assumes nothing.
use Prim.Native.Nat.{ℕ, ◌+◌, ◌≤◌}
use native.Mathlib.Nat.{zero-add}
use native.Mathlib.Numerals.{one-add}
use native.Mathlib.Omega.{arith}
use mathlib.Core.List.{List, [], ◌∷◌}
use mathlib.Core.Path.{◌≡◌, refl, sym, ap, ◌∙◌}
use lib.Dec.{ltb}
use lib.ListN.{length, take, drop, replicate}
use lib.Seq.{take-nil, drop-nil}
use borrow.Author.Tests.{le-ltb}
use Rattle.wire.specs.Refusal.{kind, nat, buffer}
use Rattle.wire.specs.Result.{Result, accepted, refused, refuse, then, lent, answer}
use Rattle.wire.specs.declared.error.Buffer.TheVariants as Buffer
use Rattle.wire.proofs.Results.{then_by}
use Rattle.scale.specs.declared.scaling.PrecipScale.{PrecipScale}
use Rattle.scale.specs.declared.physical.Scheme.{Scheme}
use Rattle.symbology.specs.declared.figures.Packet.{Packet}
use Rattle.symbology.specs.Clear.{ClearScan, Agrees}
use Rattle.symbology.proofs.Clear.{clear_alike}
use Rattle.sweep.specs.Sweep.{Accepted, sweep_of}
use Rattle.sweep.specs.Clear.{clear_sweep, NoRows}
use Rattle.sweep.proofs.Clear.{lent_nothing, clear_sweep_lem, clear_rows, clear_sweeps}
use Rattle.fields.specs.declared.plan.Entry.{Entry}
use Rattle.fields.specs.declared.plan.Record.{Record}
use Rattle.fields.specs.declared.plan.Record.TheVariants.{Field, Strip, Malformed}
use Rattle.fields.specs.Plan.{entries_of, fields_in, bad_at, repeated_at, leaves, outside_at, refuse_first, field_count, plan_of}
use Rattle.fields.specs.Totals.{Grid, sum, strip_total, own_total, totals, items}
use Rattle.fields.specs.Fields.{TotalsAnswer, rain_of, Totalled, grid_of, planned, totals_of, totals_in, TotalsBuffers, TotalsRan}
use Rattle.fields.specs.Clear.{is_strip, strips_at, clear_planned, clear_totals}
use Rattle.fields.proofs.Joined.{made}
use Rattle.fields.proofs.CodeRuns.{Call, Allowed, input, plan, old, new, call_runs}

-- ---- a picture of no rows

-- every strip leaves it
leaves_all : (bins : ℕ) (x : Record) → leaves 0 bins x ≡ is_strip x
leaves_all bins (Field n) = refl
leaves_all bins (Strip r g c w) = rw (le-ltb r 0 (omega arith)) refl
leaves_all bins Malformed = refl

outside_all : (bins : ℕ) (es : List Entry) → outside_at 0 bins es ≡ strips_at es
unfolding outside_at strips_at
outside_all bins [] = refl
outside_all bins (e ∷ es) = rw (leaves_all bins e.item, outside_all bins es) refl

-- a grid without codes has no totals but 0
module _ (p : Grid) (none : p.codes ≡ []) where
  no_cells : (k c : ℕ) → take c (drop k p.codes) ≡ []
  no_cells k c = ap (λ l. take c (drop k l)) none ∙ ap (take c) (drop-nil k) ∙ take-nil c

  own_0 : (xs : List Record) → own_total p xs ≡ 0
  unfolding own_total strip_total sum
  own_0 [] = refl
  own_0 (Field n ∷ xs) = refl
  own_0 (Strip r g c w ∷ xs) = rw (no_cells _ c, own_0 xs) refl
  own_0 (Malformed ∷ xs) = own_0 xs

  totals_0 : (es : List Entry) → totals p (items es) ≡ replicate (field_count es) 0
  unfolding totals field_count
  totals_0 [] = refl
  totals_0 (e ∷ es) = by e.item (totals_0 es)
    where
      by : (x : Record) → totals p (items es) ≡ replicate (field_count es) 0 → totals p (x ∷ items es) ≡ replicate (fields_in x + field_count es) 0
      by (Field n) rest = rw (own_0 (items es), rest, one-add (field_count es)) refl
      by (Strip r g c w) rest = rw (zero-add (field_count es)) rest
      by Malformed rest = rw (zero-add (field_count es)) rest

-- a plan over it: what follows the three searches is the last answer
searched : {A B : Type 0} (os ps qs : List ℕ) (a : A) (next : A → Result B)
    → then (refuse_first 37 os (refuse_first 38 ps (refuse_first 39 qs (accepted a)))) next ≡ refuse_first 37 os (refuse_first 38 ps (refuse_first 39 qs (next a)))
searched [] [] [] a next = refl
searched [] [] (q ∷ qs) a next = refl
searched [] (p ∷ ps) qs a next = refl
searched (o ∷ os) ps qs a next = refl

none_inside : (file-plan : List ℕ) (radials bins : ℕ) → radials ≡ 0 → plan_of file-plan radials bins
    ≡ refuse_first 37 (bad_at 0 0 (entries_of file-plan))
    (refuse_first 38 (repeated_at [] (entries_of file-plan)) (refuse_first 39 (strips_at (entries_of file-plan)) (accepted (field_count (entries_of file-plan)))))
unfolding plan_of
none_inside file-plan radials bins e = rw (e, outside_all bins (entries_of file-plan)) refl

plan_over : (file-plan : List ℕ) (nt : ℕ) (scale : PrecipScale) (packet : Packet) (a : Accepted) → NoRows packet a → planned file-plan nt scale a ≡ clear_planned file-plan nt scale a
unfolding planned clear_planned
plan_over file-plan nt scale packet a rows =
    then_by _ (none_inside file-plan a.sweep.figures.n_radials a.sweep.figures.n_bins rows.radials)
    ∙ searched (bad_at 0 0 (entries_of file-plan)) (repeated_at [] (entries_of file-plan)) (strips_at (entries_of file-plan)) (field_count (entries_of file-plan)) _
    ∙ ap (λ ts. refuse_first 37 (bad_at 0 0 (entries_of file-plan))
    (refuse_first 38 (repeated_at [] (entries_of file-plan))
    (refuse_first 39 (strips_at (entries_of file-plan))
    (refuse (ltb nt (field_count (entries_of file-plan))) (kind 36 (buffer Buffer.Totals ∷ []))
    (accepted (record { sweep = a; scale = scale; fields = field_count (entries_of file-plan); totals = ts }))))))
    (totals_0 (grid_of scale a) rows.codes (entries_of file-plan))

-- ---- the reading with a plan

module _ (scheme : Scheme) (file : List ℕ) (clock : ℕ) (packet : Packet) (b : List ℕ) (c : ClearScan packet b) (file-plan : List ℕ) where
  pub clear_totals_lem : (na nc np nt : ℕ) → totals_of scheme file clock b file-plan na nc np nt ≡ clear_totals scheme file clock packet b file-plan nt
  unfolding totals_of clear_totals
  clear_totals_lem na nc np nt = rw (clear_sweep_lem scheme file clock packet b c na nc np) (by (rain_of scheme file clock b) (clear_sweep scheme file clock packet b) refl)
    where
      by : (r : Result PrecipScale) (s : Result Accepted) → clear_sweep scheme file clock packet b ≡ s
          → then r (λ scale. then s (planned file-plan nt scale)) ≡ then r (λ scale. then s (clear_planned file-plan nt scale))
      by (refused x) s e = refl
      by (accepted scale) (refused x) e = refl
      by (accepted scale) (accepted a) e = plan_over file-plan nt scale packet a (clear_rows scheme file clock packet b c a e)

  -- the sweep is accepted, and the plan passes 37 and 38
  module _ (na nc np nt : ℕ) (scale : PrecipScale) (a : Accepted) (rain : rain_of scheme file clock b ≡ accepted scale) (sweeps : sweep_of scheme file clock b na nc np ≡ accepted a)
      (well_formed_lem : bad_at 0 0 (entries_of file-plan) ≡ []) (distinct : repeated_at [] (entries_of file-plan) ≡ []) where
    sweep_is : clear_sweep scheme file clock packet b ≡ accepted a
    sweep_is = sym (clear_sweep_lem scheme file clock packet b c na nc np) ∙ sweeps

    -- any strip is 39, and the first is named
    pub strip_is_39 : (at : ℕ) (rest : List ℕ) → strips_at (entries_of file-plan) ≡ at ∷ rest → totals_of scheme file clock b file-plan na nc np nt ≡ refused (kind 39 (nat at ∷ []))
    unfolding clear_totals clear_planned
    strip_is_39 at rest e = clear_totals_lem na nc np nt ∙ rw (rain, sweep_is, well_formed_lem, distinct, e) refl

    -- fields alone are accepted, each with the total 0
    pub fields_alone : strips_at (entries_of file-plan) ≡ [] → field_count (entries_of file-plan) ≤ nt
        → totals_of scheme file clock b file-plan na nc np nt
        ≡ accepted (record { sweep = a; scale = scale; fields = field_count (entries_of file-plan); totals = replicate (field_count (entries_of file-plan)) 0 })
    unfolding clear_totals clear_planned
    fields_alone e room = clear_totals_lem na nc np nt ∙ rw (rain, sweep_is, well_formed_lem, distinct, e, le-ltb nt (field_count (entries_of file-plan)) room) refl

  -- a body that agrees on the bytes that are read gives the same with the plan, whatever the rest of it and the lengths of the picture's buffers are
  pub clear_totals_alike : (b' : List ℕ) → Agrees packet b b' → (na nc np na' nc' np' nt : ℕ)
      → totals_of scheme file clock b' file-plan na' nc' np' nt ≡ totals_of scheme file clock b file-plan na nc np nt
  unfolding totals_of rain_of
  clear_totals_alike b' agrees na nc np na' nc' np' nt =
      rw (clear_alike packet b b' c agrees, clear_sweeps packet b b' c agrees scheme file clock na nc np na' nc' np') refl

  -- the picture's buffers are left as they were
  clear_kept : {A : Type 0} (na nc np nt : ℕ) (part : Accepted → List A) (before : List A) → ((a : Accepted) → NoRows packet a → part a ≡ [])
      → lent (totals_of scheme file clock b file-plan na nc np nt) (λ t. part t.sweep) before ≡ before
  clear_kept na nc np nt part before h =
      lent_nothing (totals_of scheme file clock b file-plan na nc np nt) (λ (t : Totalled). part t.sweep) before
      (λ t e. h t.sweep
      (clear_rows scheme file clock packet b c t.sweep (sym (clear_sweep_lem scheme file clock packet b c na nc np) ∙ (made scheme file clock b file-plan na nc np nt t e).sweeps)))

  -- a run: its answer, the picture's buffers as they were, and the totals
  clear_totals_run : (before after : TotalsBuffers) (said : TotalsAnswer) → TotalsRan scheme file clock b file-plan before after said
      → (answer said ≡ totals_in (clear_totals scheme file clock packet b file-plan (length before.totals)))
      × (after.azimuths ≡ before.azimuths) × (after.codes ≡ before.codes) × (after.physical ≡ before.physical)
      × (after.totals ≡ lent (clear_totals scheme file clock packet b file-plan (length before.totals)) (λ t. t.totals) before.totals)
  clear_totals_run before after said ran =
      let na = length before.azimuths in
      let nc = length before.codes in
      let np = length before.physical in
      let nt = length before.totals in
      let e = clear_totals_lem na nc np nt in (
        ran.answered ∙ ap totals_in e,
        ran.azimuths ∙ clear_kept na nc np nt (λ a. a.azimuths) before.azimuths (λ a n. n.azimuths),
        ran.codes ∙ clear_kept na nc np nt (λ a. a.codes) before.codes (λ a n. n.codes),
        ran.physical ∙ clear_kept na nc np nt (λ a. a.physical) before.physical (λ a n. n.physical),
        ran.totals ∙ ap (λ r. lent r (λ t. t.totals) before.totals) e,
      )

-- ---- any call

module _ (packet : Packet) (c : Call) (allowed : Allowed c) (clear : ClearScan packet (input c).body) where
  abbrev given : Result Totalled
  given = clear_totals (input c).scheme (input c).file (input c).clock packet (input c).body (plan c) (length (old c).totals)

  pub clear_totals_call : (answer c.answer ≡ totals_in given)
      × ((new c).azimuths ≡ (old c).azimuths) × ((new c).codes ≡ (old c).codes) × ((new c).physical ≡ (old c).physical)
      × ((new c).totals ≡ lent given (λ t. t.totals) (old c).totals)
  clear_totals_call =
      clear_totals_run (input c).scheme (input c).file (input c).clock packet (input c).body clear (plan c) (old c) (new c) c.answer (call_runs c allowed)
