-- A sweep that is accepted with gaps: the picture that it came from, and how many places it fills. Assumes nothing.
use Prim.Native.Nat.{ℕ, suc, ◌*◌, ◌<◌}
use native.Mathlib.Decide.{dec_le}
use native.Mathlib.Omega.{arith}
use mathlib.Core.List.{List, map}
use mathlib.Core.Bool.{not}
use mathlib.Core.Path.{◌≡◌, sym, ap, ◌∙◌, subst}
use lib.Dec.{ltb}
use lib.ListN.{length, get_or, length-map, get_or-eq_default}
use Rattle.wire.specs.Result.{accepted}
use Rattle.wire.proofs.Results.{one_value, through, passed}
use Rattle.scale.specs.Physical.{declared_scale, physical_of}
use Rattle.scale.specs.declared.physical.Scheme.{Scheme}
use Rattle.symbology.specs.declared.figures.Figures.{Figures}
use Rattle.symbology.specs.Answers.{Picture, GapPicture, gap_picture_of}
use Rattle.symbology.proofs.GapRows.{gap_sizes}
use Rattle.sweep.specs.declared.plan.Head.{Head}
use Rattle.sweep.specs.Sweep.{head_of, allowed, room_for, Accepted, finish}
use Rattle.sweep.specs.GapSweep.{GapSweep, gap_finish, gap_sweep_of}
use Rattle.sweep.specs.WithGaps.{NoneMarked}
use Rattle.sweep.proofs.Blanking.{blanked_long}
use Rattle.sweep.proofs.GapReading.{Sized}

-- what stands after the body hands the picture on
finished : (scheme : Scheme) (file : List ℕ) (na nc np : ℕ) (h : Head) (p : Picture) (x : Accepted) → finish scheme file na nc np h p ≡ accepted x
    → (x.sweep.figures ≡ p.figures) × (x.codes ≡ p.codes) × (x.physical ≡ map (physical_of scheme file h.block) p.codes)
unfolding finish
finished scheme file na nc np h p x e =
    passed (not (allowed scheme p.figures.packet)) _ _ x e λ _ e₁.
    through (declared_scale h.scaling) _ x e₁ λ declared _ e₂.
    through (room_for na nc np p.figures) _ x e₂ λ u _ e₃.
    let y = sym (one_value e₃) in
    (ap (λ (a : Accepted). a.sweep.figures) y, ap (λ (a : Accepted). a.codes) y, ap (λ (a : Accepted). a.physical) y)

-- how many places it fills
pub record GapSizes (g : GapSweep) : Type 0 where
  pub marks : length g.marks ≡ g.sweep.figures.n_radials
  pub codes : length g.codes ≡ g.sweep.figures.n_radials * g.sweep.figures.n_bins
  pub physical : length g.physical ≡ g.sweep.figures.n_radials * g.sweep.figures.n_bins

pub finished_sizes : (scheme : Scheme) (file : List ℕ) (na nc np nm : ℕ) (h : Head) (p : GapPicture) (g : GapSweep) → gap_finish scheme file na nc np nm h p ≡ accepted g → Sized p → GapSizes g
unfolding gap_finish
finished_sizes scheme file na nc np nm h p g e z =
    through (finish scheme file na nc np h p.picture) _ g e λ x ex e₁.
    passed (ltb nm p.picture.figures.n_radials) _ _ g e₁ λ _ e₂.
    let w = finished scheme file na nc np h p.picture x ex in
    let n : x.sweep.figures.n_radials ≡ p.picture.figures.n_radials = ap (λ (f : Figures). f.n_radials) w.0 in
    let cells : x.sweep.figures.n_radials * x.sweep.figures.n_bins ≡ p.picture.figures.n_radials * p.picture.figures.n_bins =
    ap (λ (f : Figures). f.n_radials * f.n_bins) w.0 in
    let values : length x.physical ≡ p.picture.figures.n_radials * p.picture.figures.n_bins = ap length w.2 ∙ length-map p.picture.codes _ ∙ z.1 in
    subst GapSizes (one_value e₂)
    (record {
      marks = z.0 ∙ sym n;
      codes = ap length w.1 ∙ z.1 ∙ sym cells;
      physical =
          blanked_long p.picture.figures.n_bins p.marks x.physical (values ∙ ap (λ k. k * p.picture.figures.n_bins) (sym z.0))
          ∙ values ∙ sym cells;
    })

pub gap_sweep_sizes : (scheme : Scheme) (file : List ℕ) (clock : ℕ) (b : List ℕ) (na nc np nm : ℕ) (g : GapSweep) → gap_sweep_of scheme file clock b na nc np nm ≡ accepted g → GapSizes g
unfolding gap_sweep_of
gap_sweep_sizes scheme file clock b na nc np nm g acc =
    through (head_of scheme file clock) _ g acc λ h _ e₁.
    through (gap_picture_of b) _ g e₁ λ p ep e₂.
    finished_sizes scheme file na nc np nm h p g e₂ (gap_sizes b p ep)

-- where no radial is marked, no place is
pub none_marked : (f : Figures) (marks : List ℕ) → length marks ≡ f.n_radials → NoneMarked f marks → (r : ℕ) → get_or marks r 0 ≡ 0
none_marked f marks long none r = by (dec_le (suc r) f.n_radials)
  where
    by : Dec (r < f.n_radials) → get_or marks r 0 ≡ 0
    by (yes lt) = none r lt
    by (no ge) = get_or-eq_default marks 0 (omega (arith, long, ge))
