-- The clear scan in the sweep reading, with gaps and without, and in any call that the contracts allow: what it gives; that two which agree
-- on the bytes that are read give equal answers; and that none writes to a buffer. Assumes nothing.
use Prim.Native.Nat.{ℕ, ◌<◌}
use native.Mathlib.Nat.{zero-mul}
use native.Mathlib.Omega.{arith}
use mathlib.Core.Bool.{Bool, true, false, not}
use mathlib.Core.List.{List, []}
use mathlib.Core.Logic.{◌↔◌}
use mathlib.Core.Path.{◌≡◌, refl, sym, ap, subst, ◌∙◌}
use lib.Dec.{eqb}
use lib.ListN.{length}
use lib.Ieee.{Float}
use borrow.Author.Tests.{le-ltb}
use Rattle.std.specs.Prelude.{Option}
use Rattle.wire.specs.Bytes.{u16_at}
use Rattle.wire.specs.Refusal.{Refusal, kind}
use Rattle.wire.specs.Result.{Result, accepted, answer, refused, refuse, then, lent}
use Rattle.wire.proofs.Results.{one_value, through, passed, then_by}
use Rattle.scale.specs.Physical.{declared_scale}
use Rattle.scale.specs.declared.physical.Scheme.{Scheme}
use Rattle.scale.specs.declared.scaling.DeclaredLinearScale.{DeclaredLinearScale}
use Rattle.symbology.specs.declared.figures.Packet.{Packet}
use Rattle.symbology.specs.Answers.{Picture}
use Rattle.symbology.specs.Clear.{ClearScan, empty_picture, clear_answer, unmarked, Agrees}
use Rattle.symbology.specs.Walk.{first_of}
use Rattle.symbology.specs.Words.{IsData, DamageInWords}
use Rattle.symbology.proofs.Clear.{clear_is, clear_with_gaps, clear_too, answers_alike, clear_damage}
use Rattle.sweep.specs.declared.plan.Head.{Head}
use Rattle.sweep.specs.Sweep.{head_of, allowed, room_for, Accepted, finish, sweep_of, sweep_in, Buffers, buffers, Ran, SweepAnswer}
use Rattle.sweep.specs.GapSweep.{GapSweep, blanked, gap_finish, gap_sweep_of, gap_sweep_in, GapBuffers, gap_buffers, GapRan}
use Rattle.sweep.specs.Clear.{clear_sweep, unmarked_sweep, NoRows}
use Rattle.sweep.proofs.CodeRuns as Ordinary
use Rattle.sweep.proofs.GapCalls as Gaps

-- what is accepted of a head and a scale
abbrev empty : Head → Picture → Option DeclaredLinearScale → Accepted
empty h p declared =
    record { sweep = record { token = h.token; fields = h.fields; time = h.time; declared = declared; figures = p.figures }; azimuths = []; codes = []; physical = [] }

-- a buffer to which what is accepted writes nothing
pub lent_nothing : {A B : Type 0} (r : Result B) (part : B → List A) (old : List A) → ((x : B) → r ≡ accepted x → part x ≡ []) → lent r part old ≡ old
lent_nothing (accepted x) part old h = rw (h x refl) refl
lent_nothing (refused x) part old h = refl

pub same_buffers : {one other : Buffers} → other.azimuths ≡ one.azimuths → other.codes ≡ one.codes → other.physical ≡ one.physical → other ≡ one
same_buffers e f g = all e f g
  where
    all : {az az' : List Float} {cs cs' : List ℕ} {ph ph' : List Float} → az' ≡ az → cs' ≡ cs → ph' ≡ ph → buffers az' cs' ph' ≡ buffers az cs ph
    all e f g = rw (e, f, g)

same_gap_buffers : {one other : GapBuffers} → other.azimuths ≡ one.azimuths → other.codes ≡ one.codes → other.physical ≡ one.physical → other.marks ≡ one.marks → other ≡ one
same_gap_buffers e f g h = all e f g h
  where
    all : {az az' : List Float} {cs cs' : List ℕ} {ph ph' : List Float} {ms ms' : List ℕ} → az' ≡ az → cs' ≡ cs → ph' ≡ ph → ms' ≡ ms
        → gap_buffers az' cs' ph' ms' ≡ gap_buffers az cs ph ms
    all e f g h = rw (e, f, g, h)

module _ (scheme : Scheme) (file : List ℕ) (clock : ℕ) (packet : Packet) (b : List ℕ) (c : ClearScan packet b) where
  module _ (na nc np : ℕ) where
    -- no buffer is too short for no rows
    room : (bins range : ℕ) → room_for na nc np (empty_picture packet bins range).figures ≡ accepted tt
    unfolding room_for
    room bins range = rw (zero-mul bins, le-ltb na 0 (omega arith), le-ltb nc 0 (omega arith), le-ltb np 0 (omega arith)) refl

    finishes : (h : Head) (bins range : ℕ) → finish scheme file na nc np h (empty_picture packet bins range)
        ≡ refuse (not (allowed scheme packet)) (kind 10 []) (then (declared_scale h.scaling) λ declared. accepted (empty h (empty_picture packet bins range) declared))
    unfolding finish
    finishes h bins range = rw (room bins range) refl

    pub clear_sweep_lem : sweep_of scheme file clock b na nc np ≡ clear_sweep scheme file clock packet b
    unfolding sweep_of clear_sweep
    clear_sweep_lem = rw (clear_is packet b c) (by (head_of scheme file clock) (eqb (u16_at b 20) 0) (not (eqb (first_of packet b) 0)) _ _)
      where
        by : (r : Result Head) (e f : Bool) (x y : Refusal) → then r (λ h. then (refuse e x (refuse f y (accepted (empty_picture packet (u16_at b 20) (u16_at b 26))))) λ p. finish scheme file na nc np h p)
            ≡ then r (λ h. then (refuse e x (refuse f y (accepted (empty_picture packet (u16_at b 20) (u16_at b 26))))) λ p.
            refuse (not (allowed scheme packet)) (kind 10 []) (then (declared_scale h.scaling) λ declared. accepted (empty h p declared)))
        by (refused z) e f x y = refl
        by (accepted h) true f x y = refl
        by (accepted h) false true x y = refl
        by (accepted h) false false x y = finishes h (u16_at b 20) (u16_at b 26)

  module _ (na nc np nm : ℕ) where
    gap_finishes : (h : Head) (bins range : ℕ) → gap_finish scheme file na nc np nm h (unmarked (empty_picture packet bins range))
        ≡ then (refuse (not (allowed scheme packet)) (kind 10 []) (then (declared_scale h.scaling) λ declared. accepted (empty h (empty_picture packet bins range) declared)))
        (λ a. accepted (unmarked_sweep a))
    unfolding gap_finish blanked
    gap_finishes h bins range = rw (finishes na nc np h bins range, le-ltb nm 0 (omega arith)) (by (not (allowed scheme packet)) (declared_scale h.scaling))
      where
        by : (t : Bool) (d : Result (Option DeclaredLinearScale))
            → then (refuse t (kind 10 []) (then d λ declared. accepted (empty h (empty_picture packet bins range) declared))) (λ a. accepted (record { sweep = a.sweep; azimuths = a.azimuths; codes = a.codes; physical = a.physical; marks = [] }))
            ≡ then (refuse t (kind 10 []) (then d λ declared. accepted (empty h (empty_picture packet bins range) declared))) (λ a. accepted (unmarked_sweep a))
        by true d = refl
        by false (accepted declared) = refl
        by false (refused x) = refl

    pub clear_gap_sweep : gap_sweep_of scheme file clock b na nc np nm ≡ then (clear_sweep scheme file clock packet b) λ a. accepted (unmarked_sweep a)
    unfolding gap_sweep_of clear_sweep
    clear_gap_sweep = rw (clear_with_gaps packet b c) (by (head_of scheme file clock) (eqb (u16_at b 20) 0) (not (eqb (first_of packet b) 0)) _ _)
      where
        by : (r : Result Head) (e f : Bool) (x y : Refusal)
            → then r (λ h. then (then (refuse e x (refuse f y (accepted (empty_picture packet (u16_at b 20) (u16_at b 26))))) λ p. accepted (unmarked p)) λ p. gap_finish scheme file na nc np nm h p)
            ≡ then (then r (λ h. then (refuse e x (refuse f y (accepted (empty_picture packet (u16_at b 20) (u16_at b 26))))) λ p.
            refuse (not (allowed scheme packet)) (kind 10 []) (then (declared_scale h.scaling) λ declared. accepted (empty h p declared)))) (λ a. accepted (unmarked_sweep a))
        by (refused z) e f x y = refl
        by (accepted h) true f x y = refl
        by (accepted h) false true x y = refl
        by (accepted h) false false x y = gap_finishes h (u16_at b 20) (u16_at b 26)

  -- an accepted one has no rows
  pub clear_rows : (p : Accepted) → clear_sweep scheme file clock packet b ≡ accepted p → NoRows packet p
  unfolding clear_sweep
  clear_rows p acc =
      through (head_of scheme file clock) _ p acc λ h _ e₁.
      through (clear_answer packet b) _ p e₁ λ q eq e₂.
      passed (eqb (u16_at b 20) 0) _ _ q eq λ _ k₁.
      passed (not (eqb (first_of packet b) 0)) _ _ q k₁ λ _ k₂.
      passed (not (allowed scheme packet)) _ _ p e₂ λ _ e₃.
      through (declared_scale h.scaling) _ p e₃ λ declared _ e₄.
      let z : empty_picture packet (u16_at b 20) (u16_at b 26) ≡ q = one_value k₂ in
      subst (NoRows packet) (one_value e₄)
      (record { packet_is = ap (λ (x : Picture). x.figures.packet) (sym z); radials = ap (λ (x : Picture). x.figures.n_radials) (sym z); azimuths = refl; codes = refl; physical = refl })

  -- For damage such a sweep has no data bytes, and just the bytes that are read are not unread: a body is damaged as demand 3 says exactly if
  -- it agrees on these, and is as long.
  module _ (na nc np : ℕ) (p : Accepted) (acc : sweep_of scheme file clock b na nc np ≡ accepted p) where
    rows : NoRows packet p
    rows = clear_rows p (sym (clear_sweep_lem na nc np) ∙ acc)

    pub no_data_bytes : (r i : ℕ) → r < p.sweep.figures.n_radials → ¬ (IsData p.sweep.figures.packet b r i)
    no_data_bytes r i lt = absurd (omega (arith, rows.radials, lt))

    pub damage_agrees : (b' : List ℕ) → DamageInWords b p.sweep.figures b' ↔ ((length b' ≡ length b) × Agrees packet b b')
    damage_agrees b' = clear_damage packet b b' c p.sweep.figures rows.packet_is rows.radials

  -- ---- a run writes nothing

  -- by a reading that is the clear scan's
  kept : {A : Type 0} (r : Result Accepted) → r ≡ clear_sweep scheme file clock packet b → (part : Accepted → List A) (before : List A)
      → ((p : Accepted) → NoRows packet p → part p ≡ []) → lent r part before ≡ before
  kept r e part before h = lent_nothing r part before (λ p acc. h p (clear_rows p (sym e ∙ acc)))

  gap_kept : {A : Type 0} (r : Result GapSweep) → r ≡ then (clear_sweep scheme file clock packet b) (λ a. accepted (unmarked_sweep a)) → (part : GapSweep → List A) (before : List A)
      → ((p : Accepted) → NoRows packet p → part (unmarked_sweep p) ≡ []) → lent r part before ≡ before
  gap_kept r e part before h =
      lent_nothing r part before (λ g acc. through (clear_sweep scheme file clock packet b) _ g (sym e ∙ acc) λ p is f. ap part (sym (one_value f)) ∙ h p (clear_rows p is))

  pub clear_run : (old new : Buffers) (said : SweepAnswer) → Ran scheme file clock b old new said
      → (answer said ≡ sweep_in (clear_sweep scheme file clock packet b)) × (new ≡ old)
  clear_run old new said ran =
      let e = clear_sweep_lem (length old.azimuths) (length old.codes) (length old.physical) in (
        ran.answered ∙ ap sweep_in e,
        same_buffers (ran.azimuths ∙ kept _ e _ _ (λ p n. n.azimuths)) (ran.codes ∙ kept _ e _ _ (λ p n. n.codes)) (ran.physical ∙ kept _ e _ _ (λ p n. n.physical)),
      )

  pub clear_gap_run : (old new : GapBuffers) (said : SweepAnswer) → GapRan scheme file clock b old new said
      → (answer said ≡ sweep_in (clear_sweep scheme file clock packet b)) × (new ≡ old)
  clear_gap_run old new said ran =
      let e = clear_gap_sweep (length old.azimuths) (length old.codes) (length old.physical) (length old.marks) in (
        ran.answered ∙ ap gap_sweep_in e ∙ told (clear_sweep scheme file clock packet b),
        same_gap_buffers (ran.azimuths ∙ gap_kept _ e _ _ (λ p n. n.azimuths)) (ran.codes ∙ gap_kept _ e _ _ (λ p n. n.codes))
            (ran.physical ∙ gap_kept _ e _ _ (λ p n. n.physical)) (ran.marks ∙ gap_kept _ e _ _ (λ p n. refl)),
      )
    where
      told : (r : Result Accepted) → gap_sweep_in (then r λ a. accepted (unmarked_sweep a)) ≡ sweep_in r
      told (accepted a) = refl
      told (refused x) = refl

-- ---- two bodies

same_clear : {s s' : Scheme} {f f' : List ℕ} {k k' : ℕ} (packet : Packet) (b b' : List ℕ) → s' ≡ s → f' ≡ f → k' ≡ k → clear_answer packet b' ≡ clear_answer packet b
    → clear_sweep s' f' k' packet b' ≡ clear_sweep s f k packet b
unfolding clear_sweep
same_clear packet b b' es ef ek eb = rw (es, ef, ek, eb)

module _ (packet : Packet) (b b' : List ℕ) (c : ClearScan packet b) (a : Agrees packet b b') where
  -- A clear scan and a body, each of at least 30 bytes, that agree on the bytes that are read (0-3, 16-17, 18-19 in packet 16, 20-21, 26-29) give
  -- equal answers, whatever the rest of them and the lengths of the buffers are.
  pub clear_sweeps : (scheme : Scheme) (file : List ℕ) (clock na nc np na' nc' np' : ℕ) → sweep_of scheme file clock b' na' nc' np' ≡ sweep_of scheme file clock b na nc np
  clear_sweeps scheme file clock na nc np na' nc' np' =
      clear_sweep_lem scheme file clock packet b' (clear_too packet b b' c a) na' nc' np'
      ∙ same_clear packet b b' refl refl refl (answers_alike packet b b' c a)
      ∙ sym (clear_sweep_lem scheme file clock packet b c na nc np)

  pub clear_gap_sweeps : (scheme : Scheme) (file : List ℕ) (clock na nc np nm na' nc' np' nm' : ℕ)
      → gap_sweep_of scheme file clock b' na' nc' np' nm' ≡ gap_sweep_of scheme file clock b na nc np nm
  clear_gap_sweeps scheme file clock na nc np nm na' nc' np' nm' =
      clear_gap_sweep scheme file clock packet b' (clear_too packet b b' c a) na' nc' np' nm'
      ∙ then_by _ (same_clear packet b b' refl refl refl (answers_alike packet b b' c a))
      ∙ sym (clear_gap_sweep scheme file clock packet b c na nc np nm)

-- ---- any calls

-- A call of a clear scan, and a call with the same file bytes, clock and scheme whose body agrees with it on the bytes that are read: the answers
-- are equal, and neither writes to a buffer.
pub clear_calls : (packet : Packet) (c d : Ordinary.Call) → Ordinary.Allowed c → Ordinary.Allowed d → Ordinary.file d ≡ Ordinary.file c → Ordinary.clock d ≡ Ordinary.clock c
    → Ordinary.scheme d ≡ Ordinary.scheme c → ClearScan packet (Ordinary.body c) → Agrees packet (Ordinary.body c) (Ordinary.body d)
    → (answer d.answer ≡ answer c.answer) × (Ordinary.new c ≡ Ordinary.old c) × (Ordinary.new d ≡ Ordinary.old d)
clear_calls packet c d one other files clocks schemes clear agrees =
    let too = clear_too packet (Ordinary.body c) (Ordinary.body d) clear agrees in
    let first = clear_run (Ordinary.scheme c) (Ordinary.file c) (Ordinary.clock c) packet (Ordinary.body c) clear (Ordinary.old c) (Ordinary.new c) c.answer (Ordinary.call_runs c one) in
    let second = clear_run (Ordinary.scheme d) (Ordinary.file d) (Ordinary.clock d) packet (Ordinary.body d) too (Ordinary.old d) (Ordinary.new d) d.answer (Ordinary.call_runs d other) in (
      second.0
          ∙ ap sweep_in (same_clear packet (Ordinary.body c) (Ordinary.body d) schemes files clocks (answers_alike packet (Ordinary.body c) (Ordinary.body d) clear agrees))
          ∙ sym first.0,
      first.1,
      second.1,
    )

-- The same with gaps: nothing is written to the mark buffer either.
pub clear_gap_calls : (packet : Packet) (c d : Gaps.Call) → Gaps.Allowed c → Gaps.Allowed d → (Gaps.input d).file ≡ (Gaps.input c).file → (Gaps.input d).clock ≡ (Gaps.input c).clock
    → (Gaps.input d).scheme ≡ (Gaps.input c).scheme → ClearScan packet (Gaps.input c).body → Agrees packet (Gaps.input c).body (Gaps.input d).body
    → (answer d.answer ≡ answer c.answer) × (Gaps.new c ≡ Gaps.old c) × (Gaps.new d ≡ Gaps.old d)
clear_gap_calls packet c d one other files clocks schemes clear agrees =
    let i = Gaps.input c in
    let j = Gaps.input d in
    let first = clear_gap_run i.scheme i.file i.clock packet i.body clear (Gaps.old c) (Gaps.new c) c.answer (Gaps.call_runs c one) in
    let second = clear_gap_run j.scheme j.file j.clock packet j.body (clear_too packet i.body j.body clear agrees) (Gaps.old d) (Gaps.new d) d.answer (Gaps.call_runs d other) in (
      second.0 ∙ ap sweep_in (same_clear packet i.body j.body schemes files clocks (answers_alike packet i.body j.body clear agrees)) ∙ sym first.0,
      first.1,
      second.1,
    )
