-- The refusals that the sweep reading with gaps keeps. Assumes nothing.
use Prim.Native.Nat.{ℕ}
use mathlib.Core.Bool.{Bool, true, false}
use mathlib.Core.List.{List, [], ◌∷◌, map}
use mathlib.Core.Logic.{◌⊎◌, inl, inr, ⊎_elim}
use mathlib.Core.Path.{◌≡◌, refl, sym, ap, ◌∙◌}
use lib.Dec.{ltb}
use Rattle.wire.specs.Refusal.{Refusal, kind, buffer}
use Rattle.wire.specs.Result.{Result, accepted, refused, refuse}
use Rattle.wire.specs.Reading.{Given, run, gaps}
use Rattle.wire.specs.declared.error.Buffer.TheVariants as Buffer
use Rattle.wire.proofs.Results.{clash, one_refusal, stopped}
use Rattle.wire.proofs.Gaps.{all_whole, gaps_accepted}
use Rattle.scale.specs.declared.physical.Scheme.{Scheme}
use Rattle.symbology.specs.Answers.{GapPicture, mark_of, picture_of, gap_picture_of}
use Rattle.symbology.specs.Gaps.{TurnsIntoGap}
use Rattle.symbology.specs.Symbology as Symbology
use Rattle.symbology.specs.Symbology.{symbology}
use Rattle.symbology.proofs.GapKinds.{body_refused_alike}
use Rattle.sweep.specs.declared.plan.Head.{Head}
use Rattle.sweep.specs.Sweep.{head_of, finish, sweep_of}
use Rattle.sweep.specs.GapSweep.{gap_finish, gap_sweep_of}
use Rattle.sweep.specs.WithGaps.{OthersKept}
use Rattle.sweep.proofs.AsOrdinary.{drawn, gap_drawn, whole_drawn}

short_buffer : {A : Type 0} (t : Bool) (y : Refusal) (a : A) (x : Refusal) → refuse t y (accepted a) ≡ refused x → x ≡ y
short_buffer true y a x e = sym (one_refusal e)
short_buffer false y a x e = clash a x (sym e)

module _ (scheme : Scheme) (file : List ℕ) (clock : ℕ) (b : List ℕ) (na nc np nm : ℕ) (h : Head) (eh : head_of scheme file clock ≡ accepted h) where
  -- the head is read, and the body is read or refused: the two readings
  ordinary_refused : (x : Refusal) → run symbology b 0 ≡ refused x → sweep_of scheme file clock b na nc np ≡ refused x
  unfolding sweep_of picture_of
  ordinary_refused x e = rw (eh, e)

  ordinary_read : (g : Given Symbology.Sweep) → run symbology b 0 ≡ accepted g → sweep_of scheme file clock b na nc np ≡ finish scheme file na nc np h (drawn g)
  unfolding sweep_of picture_of
  ordinary_read g e = rw (eh, e)

  gap_refused : (x : Refusal) → run (gaps symbology) b 0 ≡ refused x → gap_sweep_of scheme file clock b na nc np nm ≡ refused x
  unfolding gap_sweep_of gap_picture_of
  gap_refused x e = rw (eh, e)

  -- where the picture with gaps does not get past 10, 9 and 36
  gap_stopped : (p : GapPicture) (x : Refusal) → gap_picture_of b ≡ accepted p → finish scheme file na nc np h p.picture ≡ refused x
      → gap_sweep_of scheme file clock b na nc np nm ≡ refused x
  unfolding gap_sweep_of gap_finish
  gap_stopped p x ep e = rw (eh, ep, e)

  -- what the ordinary reading reads, the reading with gaps reads alike
  gap_read : (g : Given Symbology.Sweep) → run symbology b 0 ≡ accepted g → (p : GapPicture) × (gap_picture_of b ≡ accepted p) × (p.picture ≡ drawn g)
  unfolding gap_picture_of
  gap_read g e =
      (record { picture = gap_drawn (all_whole g); marks = map mark_of (all_whole g).rows }, rw (gaps_accepted symbology b 0 g e), whole_drawn g)

  kept_by : (x : Refusal) → sweep_of scheme file clock b na nc np ≡ refused x → (z : Result (Given Symbology.Sweep)) → run symbology b 0 ≡ z
      → TurnsIntoGap x ⊎ (gap_sweep_of scheme file clock b na nc np nm ≡ refused x)
  kept_by x e (refused y) er =
      let same : y ≡ x = one_refusal (sym (ordinary_refused y er) ∙ e) in
      ⊎_elim inl (λ eg. inr (gap_refused x eg)) (body_refused_alike b x (er ∙ ap refused same))
  kept_by x e (accepted g) er =
      let p = gap_read g er in
      inr (gap_stopped p.0 x p.1 (ap (finish scheme file na nc np h) p.2 ∙ sym (ordinary_read g er) ∙ e))

  none_by : (x : Refusal) → gap_sweep_of scheme file clock b na nc np nm ≡ refused x → (z : Result (Given Symbology.Sweep)) → run symbology b 0 ≡ z
      → (x ≡ kind 36 (buffer Buffer.Marks ∷ []))
      ⊎ ((sweep_of scheme file clock b na nc np ≡ refused x) ⊎ ((y : Refusal) × (sweep_of scheme file clock b na nc np ≡ refused y) × TurnsIntoGap y))
  unfolding gap_sweep_of gap_finish
  none_by x e (refused y) er =
      inr (⊎_elim (λ k. inr (y, ordinary_refused y er, k))
      (λ eg. inl (ordinary_refused x (er ∙ ap refused (one_refusal (sym (gap_refused y eg) ∙ e))))) (body_refused_alike b y er))
  none_by x e (accepted g) er =
      let p = gap_read g er in
      stopped (finish scheme file na nc np h p.0.picture) _ x (rw (eh, p.1) at e)
      (λ ef. inr (inl (ordinary_read g er ∙ ap (finish scheme file na nc np h) (sym p.2) ∙ ef)))
      λ a ea el. inl (short_buffer (ltb nm p.0.picture.figures.n_radials) _ _ x el)

pub others_kept : (scheme : Scheme) (file : List ℕ) (clock : ℕ) (b : List ℕ) (na nc np nm : ℕ) → OthersKept scheme file clock b na nc np nm
unfolding sweep_of gap_sweep_of
others_kept scheme file clock b na nc np nm =
    record {
      kept = λ x e.
          stopped (head_of scheme file clock) _ x e (λ eh. inr (rw eh)) λ h eh _. kept_by scheme file clock b na nc np nm h eh x e (run symbology b 0) refl;
      none_else = λ x e.
          stopped (head_of scheme file clock) _ x e (λ eh. inr (inl (rw eh))) λ h eh _. none_by scheme file clock b na nc np nm h eh x e (run symbology b 0) refl;
    }
