-- Bodies whose readings with gaps are the same merge to that reading. Assumes nothing.
use Prim.Native.Nat.{ℕ, suc, ◌*◌, ◌<◌, suc-le-suc}
use native.Mathlib.Omega.{arith}
use mathlib.Core.List.{List, [], ◌∷◌, map}
use mathlib.Core.Bool.{Bool, true, false, not}
use mathlib.Core.Path.{◌≡◌, refl, sym, ap, ap₂, ◌∙◌}
use lib.ListN.{length, get_or, take, drop}
use lib.Ieee.{Float}
use Rattle.std.specs.Prelude.{Option}
use Rattle.wire.specs.Refusal.{Refusal, kind}
use Rattle.wire.specs.Result.{Result, accepted, refused, refuse, then}
use Rattle.wire.specs.Reading.{Given, run, gaps}
use Rattle.wire.proofs.Gaps.{all_whole, gaps_accepted, whole_row}
use Rattle.wire.proofs.Results.{clash, one_value}
use Rattle.scale.specs.Physical.{declared_scale}
use Rattle.scale.specs.declared.scaling.DeclaredLinearScale.{DeclaredLinearScale}
use Rattle.scale.specs.declared.physical.Scheme.{Scheme}
use Rattle.symbology.specs.Answers.{GapPicture, picture_with, gap_picture_of}
use Rattle.symbology.specs.Merge.{merged_of}
use Rattle.symbology.specs.Symbology as Symbology
use Rattle.symbology.specs.Symbology.{symbology}
use Rattle.symbology.specs.declared.figures.Figures.{Figures}
use Rattle.symbology.proofs.Containment.{accepted_rows}
use Rattle.symbology.proofs.RowPlaces.{row_here}
use Rattle.sweep.specs.declared.plan.Head.{Head}
use Rattle.sweep.specs.Sweep.{head_of, allowed, finish, Accepted}
use Rattle.sweep.specs.GapSweep.{gap_finish, gap_sweep_of}
use Rattle.sweep.specs.MergeSweep.{readied, merge_sweep_of}
use Rattle.sweep.specs.Receptions.{MergedAlike}
use Rattle.sweep.proofs.AsOrdinary.{ordinary_whole}
use Rattle.sweep.proofs.MergeSelf.{merged_self}
use Rattle.sweep.proofs.Parts.{Parts, parts}
use Rattle.sweep.proofs.Receptions.{counted}

-- what a reading gives beside its end
abbrev seen : Result (Given Symbology.Sweep) → Result (Symbology.Sweep × List (List ℕ))
seen R = then R λ g. accepted (g.value, g.rows)

module _ (scheme : Scheme) (file : List ℕ) (clock : ℕ) (na nc np nm : ℕ) where
  -- 10 and 9 where the reading with gaps has them
  finish_10 : (h : Head) (p : GapPicture) → not (allowed scheme p.picture.figures.packet) ≡ true → gap_finish scheme file na nc np nm h p ≡ refused (kind 10 [])
  unfolding gap_finish finish
  finish_10 h p t = rw t refl

  finish_9 : (h : Head) (p : GapPicture) (x : Refusal) → not (allowed scheme p.picture.figures.packet) ≡ false → declared_scale h.scaling ≡ refused x → gap_finish scheme file na nc np nm h p ≡ refused x
  unfolding gap_finish finish
  finish_9 h p x t d = rw (t, d) refl

  module _ (h : Head) where
    -- up to 36
    abbrev ready : Result (Given Symbology.Sweep) → Result (Given Symbology.Sweep)
    ready R = then R λ g. refuse (not (allowed scheme g.value.figures.packet)) (kind 10 []) (then (declared_scale h.scaling) λ _. accepted g)

    both_ready : (R R' : Result (Given Symbology.Sweep)) → seen R ≡ seen R'
        → then (ready R) (λ a. then (ready R') λ b. then (merged_of a b) (gap_finish scheme file na nc np nm h))
        ≡ then (then R λ g. accepted (picture_with g.value g.rows)) (gap_finish scheme file na nc np nm h)
    both_ready (refused x) R' e = refl
    both_ready (accepted g) (refused y) e = clash _ y (sym e)
    both_ready (accepted g) (accepted g') e = by (not (allowed scheme g.value.figures.packet)) (declared_scale h.scaling) refl refl
      where
        v : g.value ≡ g'.value
        v = ap (λ z. z.0) (one_value e)

        r : g.rows ≡ g'.rows
        r = ap (λ z. z.1) (one_value e)

        by : (t : Bool) (d : Result (Option DeclaredLinearScale)) → not (allowed scheme g.value.figures.packet) ≡ t → declared_scale h.scaling ≡ d
            → then (ready (accepted g)) (λ a. then (ready (accepted g')) λ b. then (merged_of a b) (gap_finish scheme file na nc np nm h))
            ≡ gap_finish scheme file na nc np nm h (picture_with g.value g.rows)
        by true d t k = rw t (sym (finish_10 h (picture_with g.value g.rows) t))
        by false (refused x) t k = rw (t, k) (sym (finish_9 h (picture_with g.value g.rows) x t k))
        by false (accepted declared) t k =
            let t' : not (allowed scheme g'.value.figures.packet) ≡ false = ap (λ (s : Symbology.Sweep). not (allowed scheme s.figures.packet)) (sym v) ∙ t in
            rw (t, t', k, merged_self g g' v r) refl

  pub same_reading : (b₁ b₂ : List ℕ) → seen (run (gaps symbology) b₁ 0) ≡ seen (run (gaps symbology) b₂ 0) → merge_sweep_of scheme file clock b₁ b₂ na nc np nm ≡ gap_sweep_of scheme file clock b₁ na nc np nm
  unfolding merge_sweep_of readied gap_sweep_of gap_picture_of
  same_reading b₁ b₂ e = by (head_of scheme file clock)
    where
      by : (z : Result Head)
          → then z (λ h. then (ready h (run (gaps symbology) b₁ 0)) λ a. then (ready h (run (gaps symbology) b₂ 0)) λ b. then (merged_of a b) (gap_finish scheme file na nc np nm h))
          ≡ then z (λ h. then (then (run (gaps symbology) b₁ 0) λ g. accepted (picture_with g.value g.rows)) (gap_finish scheme file na nc np nm h))
      by (accepted h) = both_ready h (run (gaps symbology) b₁ 0) (run (gaps symbology) b₂ 0) e
      by (refused x) = refl

-- ---- two bodies without a gap

same_rows : (xs ys : List (List ℕ)) → length xs ≡ length ys → ((r : ℕ) → r < length xs → get_or xs r [] ≡ get_or ys r []) → xs ≡ ys
same_rows [] [] e h = refl
same_rows [] (y ∷ ys) e h = absurd (omega arith)
same_rows (x ∷ xs) [] e h = absurd (omega arith)
same_rows (x ∷ xs) (y ∷ ys) e h = ap₂ (λ (a : List ℕ) (l : List (List ℕ)). a ∷ l) (h 0 (omega arith)) (same_rows xs ys (omega arith) (λ r lt. h (suc r) (suc-le-suc lt)))

same_sweep : {f f' : Figures} {a a' : List Float} → f ≡ f' → a ≡ a' → ◌≡◌ {A = Symbology.Sweep} (record { figures = f; azimuths = a }) (record { figures = f'; azimuths = a' })
same_sweep e k = rw (e, k) refl

module _ (scheme : Scheme) (file : List ℕ) (clock : ℕ) (na nc np nm : ℕ) where
  module _ (b₁ b₂ : List ℕ) (p : Accepted) (q₁ : Parts scheme file clock na nc np b₁ p) (q₂ : Parts scheme file clock na nc np b₂ p) where
    many : (b : List ℕ) (q : Parts scheme file clock na nc np b p) → length q.body.rows ≡ p.sweep.figures.n_radials
    many b q = (accepted_rows symbology b q.body q.body_is).0 ∙ counted b q.body q.body_is p q.figures

    row_of : (b : List ℕ) (q : Parts scheme file clock na nc np b p) (r : ℕ) → r < p.sweep.figures.n_radials
        → get_or q.body.rows r [] ≡ take p.sweep.figures.n_bins (drop (r * p.sweep.figures.n_bins) p.codes)
    row_of b q r lt = sym (row_here b q.body q.body_is p.sweep.figures q.figures r lt) ∙ ap (λ (l : List ℕ). take p.sweep.figures.n_bins (drop (r * p.sweep.figures.n_bins) l)) q.codes

    rows_same : q₁.body.rows ≡ q₂.body.rows
    rows_same =
        same_rows q₁.body.rows q₂.body.rows (many b₁ q₁ ∙ sym (many b₂ q₂)) (λ r lt.
        let k : r < p.sweep.figures.n_radials = rw (many b₁ q₁) at lt in
        row_of b₁ q₁ r k ∙ sym (row_of b₂ q₂ r k))

    value_same : q₁.body.value ≡ q₂.body.value
    value_same = same_sweep (q₁.figures ∙ sym q₂.figures) (q₁.azimuths ∙ sym q₂.azimuths)

    seen_same : seen (run (gaps symbology) b₁ 0) ≡ seen (run (gaps symbology) b₂ 0)
    unfolding all_whole
    seen_same =
        ap seen (gaps_accepted symbology b₁ 0 q₁.body q₁.body_is)
        ∙ ap₂ (λ (v : Symbology.Sweep) (l : List (List ℕ)). accepted (v, map whole_row l)) value_same rows_same
        ∙ sym (ap seen (gaps_accepted symbology b₂ 0 q₂.body q₂.body_is))

  pub merged_alike : MergedAlike scheme file clock na nc np nm
  merged_alike =
      record {
        itself = λ b. same_reading scheme file clock na nc np nm b b refl;
        agreeing = λ b₁ b₂ p acc₁ acc₂ room.
            let w = ordinary_whole scheme file clock b₁ na nc np nm p acc₁ room in
            let q₁ = parts scheme file clock na nc np b₁ p acc₁ in
            let q₂ = parts scheme file clock na nc np b₂ p acc₂ in
            (w.0, same_reading scheme file clock na nc np nm b₁ b₂ (seen_same b₁ b₂ p q₁ q₂) ∙ w.1, w.2, w.3);
      }
