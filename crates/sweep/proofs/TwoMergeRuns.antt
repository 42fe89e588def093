-- Two receptions, from the merged reading to two runs of the code. Assumes nothing.
use Prim.Native.Nat.{ℕ, ◌≤◌, ◌<◌}
use Rattle.std.specs.Prelude as Std
use mathlib.Core.List.{List}
use mathlib.Core.Path.{◌≡◌, refl, sym, ap, ◌∙◌, subst}
use lib.ListN.{length, get_or, get_or-append}
use lib.Ieee.{Float}
use Rattle.wire.specs.Refusal.{Refusal, refusal_of}
use Rattle.wire.specs.Result.{Result, accepted, answer, refused, then, lent}
use Rattle.wire.specs.declared.error.Level3DecodeError.{Level3DecodeError}
use Rattle.wire.proofs.Results.{clash, through}
use Rattle.scale.specs.declared.physical.Scheme.{Scheme}
use Rattle.symbology.specs.Words.{Bytes}
use Rattle.sweep.specs.declared.sweep.Sweep.{Sweep}
use Rattle.sweep.specs.Sweep.{Accepted, Buffers, read_into, Ran, SweepAnswer}
use Rattle.sweep.specs.GapSweep.{GapSweep, GapBuffers}
use Rattle.sweep.specs.WithGaps.{SameRoom, SamePicture, SameFront, NoneMarked}
use Rattle.sweep.specs.MergeSweep.{merge_into, MergeRan}
use Rattle.sweep.specs.Receptions.{Apart, TwoReceptions, MergeRuns}
use Rattle.sweep.proofs.TwoRuns.{answer_is}
use Rattle.sweep.proofs.TwoGapRuns.{same_front}
use Rattle.sweep.proofs.MergeReading.{merge_sizes}
use Rattle.sweep.proofs.Receptions.{two_receptions}

-- an answer of the code, and the reading's
module _ {A : Type 0} (f : A → Sweep) where
  to_refused : (r : Result A) (said : SweepAnswer) → answer said ≡ then r (λ a. accepted (f a)) → {e : Level3DecodeError} → said ≡ Std.Err e → r ≡ refused (refusal_of e)
  to_refused r said is {e} k = by r (sym (ap answer k) ∙ is)
    where
      by : (r : Result A) → refused (refusal_of e) ≡ then r (λ a. accepted (f a)) → r ≡ refused (refusal_of e)
      by (accepted a) h = clash (f a) (refusal_of e) h
      by (refused x) h = let q : x ≡ refusal_of e = cc in ap refused q

  from_refused : (r : Result A) (said : SweepAnswer) → answer said ≡ then r (λ a. accepted (f a)) → {x : Refusal} → r ≡ refused x → (e : Level3DecodeError) × (said ≡ Std.Err e)
  from_refused r (Std.Ok s) is {x} k = clash s x (sym (is ∙ ap (λ z. then z λ a. accepted (f a)) k))
  from_refused r (Std.Err e) is k = (e, refl)

same_buffers : {a a' : List Float} {c c' : List ℕ} {p p' : List Float} {m m' : List ℕ} → a' ≡ a → c' ≡ c → p' ≡ p → m' ≡ m
    → ◌≡◌ {A = GapBuffers} (record { azimuths = a'; codes = c'; physical = p'; marks = m' }) (record { azimuths = a; codes = c; physical = p; marks = m })
same_buffers e f g h = rw (e, f, g, h) refl

module _ (scheme : Scheme) (file : List ℕ) (clock : ℕ) (b b₁ b₂ : List ℕ) (old new : Buffers) (old' new' : GapBuffers) (said' : SweepAnswer) (p : Accepted)
    (ran : Ran scheme file clock b old new (Std.Ok p.sweep)) (ran' : MergeRan scheme file clock b₁ b₂ old' new' said') (same : SameRoom old old')
    (acc : read_into scheme file clock b old ≡ accepted p) (small₁ : Bytes b₁) (small₂ : Bytes b₂) (d : Apart p.sweep.figures b b₁ b₂) (room : p.sweep.figures.n_radials ≤ length old'.marks) where
  abbrev M : Result GapSweep
  M = merge_into scheme file clock b₁ b₂ old'

  two : TwoReceptions scheme file clock b b₁ b₂ (length old'.azimuths) (length old'.codes) (length old'.physical) (length old'.marks) p
  two = two_receptions scheme file clock b b₁ b₂ _ _ _ _ p (rw (same.azimuths, same.codes, same.physical) acc) room small₁ small₂ d

  untouched : (x : Refusal) → M ≡ refused x → new' ≡ old'
  untouched x e =
      same_buffers (ran'.azimuths ∙ ap (λ z. lent z (λ q. q.azimuths) old'.azimuths) e) (ran'.codes ∙ ap (λ z. lent z (λ q. q.codes) old'.codes) e)
      (ran'.physical ∙ ap (λ z. lent z (λ q. q.physical) old'.physical) e) (ran'.marks ∙ ap (λ z. lent z (λ q. q.marks) old'.marks) e)

  restored : (g : GapSweep) → M ≡ accepted g → NoneMarked g.sweep.figures g.marks → SamePicture g p
      → (said' ≡ Std.Ok p.sweep) × SameFront p.sweep.figures new new' × NoneMarked p.sweep.figures new'.marks
  restored g e none k = (
    answer_is said' p.sweep (ran'.answered ∙ ap (λ x. then x λ q. accepted q.sweep) e ∙ ap accepted k.sweep),
    same_front scheme file clock b old new p ran acc old' new' ran' g e k,
    λ r lt.
        let here : r < g.sweep.figures.n_radials = subst (λ (s : Sweep). r < s.figures.n_radials) (sym k.sweep) lt in
        ap (λ l. get_or l r 0) (ran'.marks ∙ ap (λ x. lent x (λ q. q.marks) old'.marks) e)
        ∙ get_or-append g.marks _ 0 r (subst (λ n. r < n) (sym (merge_sizes scheme file clock b₁ b₂ _ _ _ _ g e).marks) here) ∙ none r here,
  )

  runs : MergeRuns b b₁ b₂ p.sweep new old' new' said'
  runs =
      record {
        exactly = (
          λ w. two.exactly.0 (refusal_of w.0, to_refused (λ (q : GapSweep). q.sweep) M said' ran'.answered w.1),
          λ w. from_refused (λ (q : GapSweep). q.sweep) M said' ran'.answered (two.exactly.1 w).1,
        );
        lowest = λ e k.
            let m : M ≡ refused (refusal_of e) = to_refused (λ (q : GapSweep). q.sweep) M said' ran'.answered k in
            let w = two.lowest (refusal_of e) m in
            (w.0, w.1, w.2, untouched (refusal_of e) m);
        otherwise = λ no. let w = two.otherwise no in restored w.0 w.1 w.2 w.3;
      }

pub two_merge_runs : (scheme : Scheme) (file : List ℕ) (clock : ℕ) (b b₁ b₂ : List ℕ) (s : Sweep) (old new : Buffers) (old' new' : GapBuffers) (said' : SweepAnswer)
    → Ran scheme file clock b old new (Std.Ok s) → MergeRan scheme file clock b₁ b₂ old' new' said' → SameRoom old old'
    → Bytes b₁ → Bytes b₂ → Apart s.figures b b₁ b₂ → s.figures.n_radials ≤ length old'.marks → MergeRuns b b₁ b₂ s new old' new' said'
two_merge_runs scheme file clock b b₁ b₂ s old new old' new' said' ran ran' same small₁ small₂ d room =
    through (read_into scheme file clock b old) _ s (sym ran.answered) λ p acc e.
    let is : p.sweep ≡ s = cc in
    subst (λ (s : Sweep). MergeRuns b b₁ b₂ s new old' new' said') is
    (runs scheme file clock b b₁ b₂ old new old' new' said' p (subst (λ (s : Sweep). Ran scheme file clock b old new (Std.Ok s)) (sym is) ran) ran' same acc small₁ small₂
    (subst (λ (s : Sweep). Apart s.figures b b₁ b₂) (sym is) d) (rw (← is) at room))
