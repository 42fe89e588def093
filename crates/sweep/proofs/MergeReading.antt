-- The merged reading of two bodies by way of symbology's entry, a law for each answer of the code. Assumes nothing.
use Prim.Native.Nat.{ℕ, zero, suc, ◌*◌, ◌<◌, suc-le-suc}
use Rattle.std.specs.Prelude.{Option}
use Rattle.std.specs.Prelude as Std
use native.Mathlib.Omega.{arith}
use native.Mathlib.Nat.{not-suc-le-zero, le_of_suc-le-suc}
use mathlib.Core.List.{List, [], ◌∷◌, map}
use mathlib.Core.Bool.{Bool, true, false, not, ◌&&◌}
use mathlib.Core.Path.{◌≡◌, refl, sym, ap, ap₂, subst, ◌∙◌}
use lib.ListN.{length, get_or, length-map, get_or-map}
use lib.Ieee.{Float}
use Rattle.wire.specs.declared.error.Level3DecodeError.{Level3DecodeError}
use Rattle.wire.specs.Refusal.{kind, refusal_of}
use Rattle.wire.specs.Result.{Result, accepted, refused, refuse, then}
use Rattle.wire.specs.Reading.{Given, run, gaps}
use Rattle.wire.proofs.Codes.{both}
use Rattle.wire.proofs.Results.{one_value, through, passed}
use borrow.Author.Tests.{not-false}
use Rattle.scale.specs.Physical.{scale_fields, declared_scale}
use Rattle.scale.specs.declared.scaling.DeclaredLinearScale.{DeclaredLinearScale}
use Rattle.scale.specs.declared.physical.Scheme.{Scheme}
use Rattle.symbology.specs.Answers.{asked, step_of, passing, joined, mark_of, shown, GapPicture, gaps_on_terms}
use Rattle.symbology.specs.Merge.{same_figures, same_floats, agreed, either, merge_rows, merged_of, usable, usable_of, merge_picture_of, merge_for}
use Rattle.symbology.specs.Symbology as Symbology
use Rattle.symbology.specs.Symbology.{symbology}
use Rattle.symbology.specs.declared.figures.Figures.{Figures}
use Rattle.symbology.specs.declared.figures.Terms.{Terms}
use Rattle.symbology.proofs.GapRows.{gap_count, gap_long}
use Rattle.symbology.proofs.Merging.{either_long}
use Rattle.symbology.proofs.RowPlaces.{joined_long}
use Rattle.symbology.proofs.SameFigures.{figures_are}
use Rattle.sweep.specs.declared.plan.Head.{Head}
use Rattle.sweep.specs.Sweep.{head_of, allowed, packets_for, terms_for}
use Rattle.sweep.specs.GapSweep.{GapSweep, gap_finish, gap_buffers, MarkedRan}
use Rattle.sweep.specs.MergeSweep.{readied, merge_sweep_of}
use Rattle.sweep.proofs.Parts.{block_start}
use Rattle.sweep.proofs.Reading.{asked_is, step_declared}
use Rattle.sweep.proofs.GapReading.{Sized, Begun, told}
use Rattle.sweep.proofs.GapParts.{GapSizes, finished_sizes}

-- ---- a body up to 36, on the terms of a scheme

by_step : {A : Type 0} (b : Bool) (d : Result (Option DeclaredLinearScale)) (a : A)
    → then (refuse b (kind 10 []) (then d λ _. accepted (tt {0}))) (λ _. accepted a) ≡ refuse b (kind 10 []) (then d λ _. accepted a)
by_step true d a = refl
by_step false (accepted declared) a = refl
by_step false (refused x) a = refl

usable_is : (scheme : Scheme) (file : List ℕ) (h : Head) (np : ℕ) → scale_fields scheme file h.block ≡ accepted h.scaling → (body : List ℕ)
    → usable_of (terms_for h.scaling np) body ≡ readied scheme h body
unfolding readied terms_for passing usable
usable_is scheme file h np es body = by (run (gaps symbology) body 0)
  where
    by : (z : Result (Given Symbology.Sweep))
        → then z (λ g. then (refuse (not (asked (packets_for h.scaling) g.value.figures.packet)) (kind 10 []) (step_of (packets_for h.scaling))) λ _. accepted g)
        ≡ then z (λ g. refuse (not (allowed scheme g.value.figures.packet)) (kind 10 []) (then (declared_scale h.scaling) λ _. accepted g))
    by (accepted g) =
        rw (asked_is scheme file h.block h.scaling es g.value.figures.packet, step_declared h.scaling)
        (by_step (not (allowed scheme g.value.figures.packet)) (declared_scale h.scaling) g)
    by (refused x) = refl

-- what passes was read
was_read : (test : Figures → Result (Unit {0})) (R : Result (Given Symbology.Sweep)) (g : Given Symbology.Sweep) → passing test R ≡ accepted g → R ≡ accepted g
unfolding passing
was_read test R g e =
    through R _ g e λ a ea e₁.
    through (test a.value.figures) _ g e₁ λ u _ e₂.
    ea ∙ e₂

-- ---- how many marks and codes there are

abbrev Long : ℕ → List (List ℕ) → Type 0
Long bins rows = (r : ℕ) → r < length rows → length (shown bins (get_or rows r [])) ≡ bins

merged_long : (bins : ℕ) (xs ys : List (List ℕ)) → length xs ≡ length ys → Long bins xs → Long bins ys → (length (merge_rows xs ys) ≡ length xs) × Long bins (merge_rows xs ys)
unfolding merge_rows
merged_long bins [] ys e h k = (refl, λ r lt. absurd (not-suc-le-zero lt))
merged_long bins (x ∷ xs) [] e h k = absurd (omega arith)
merged_long bins (x ∷ xs) (y ∷ ys) e h k =
    let i = merged_long bins xs ys (omega arith) (λ r lt. h (suc r) (suc-le-suc lt)) (λ r lt. k (suc r) (suc-le-suc lt)) in
    (ap suc i.0, each i.1)
  where
    each : Long bins (merge_rows xs ys) → Long bins (either x y ∷ merge_rows xs ys)
    each i zero lt = either_long bins x y (h 0 (omega arith)) (k 0 (omega arith))
    each i (suc r) lt = i r (le_of_suc-le-suc lt)

shown_long : (bins : ℕ) (rows : List (List ℕ)) → Long bins rows → length (joined (map (shown bins) rows)) ≡ length rows * bins
unfolding shown
shown_long bins rows h =
    joined_long bins (map (shown bins) rows) (λ r lt. ap length (get_or-map (shown bins) rows r []) ∙ h r (rw (length-map rows (shown bins)) at lt))
    ∙ ap (λ n. n * bins) (length-map rows (shown bins))

merged_sized : (t : Terms) (b₁ b₂ : List ℕ) (p : GapPicture) → merge_picture_of t b₁ b₂ ≡ accepted p → Sized p
unfolding merge_picture_of merged_of
merged_sized t b₁ b₂ p e =
    through (usable_of t b₁) _ p e λ a ea e₁.
    through (usable_of t b₂) _ p e₁ λ b eb e₂.
    passed (not (same_figures a.value.figures b.value.figures && same_floats a.value.azimuths b.value.azimuths)) _ _ p e₂ λ same e₃.
    through (agreed 0 a.rows b.rows) _ p e₃ λ _ _ e₄.
    let f = a.value.figures in
    let ra = was_read (usable t) _ a ea in
    let rb = was_read (usable t) _ b eb in
    let is : f ≡ b.value.figures = figures_are f b.value.figures (both _ _ (not-false _ same)).0 in
    let na : length a.rows ≡ f.n_radials = gap_count b₁ a ra in
    let nb : length b.rows ≡ f.n_radials = gap_count b₂ b rb ∙ ap (λ (x : Figures). x.n_radials) (sym is) in
    let w =
    merged_long f.n_bins a.rows b.rows (na ∙ sym nb) (λ r lt. gap_long b₁ a ra r (rw na at lt))
    (λ r lt. subst (λ (x : Figures). r < x.n_radials → length (shown x.n_bins (get_or b.rows r [])) ≡ x.n_bins) (sym is) (gap_long b₂ b rb r) (rw nb at lt)) in
    subst Sized (one_value e₄) (
      length-map (merge_rows a.rows b.rows) mark_of ∙ w.0 ∙ na,
      shown_long f.n_bins (merge_rows a.rows b.rows) w.1 ∙ ap (λ n. n * f.n_bins) (w.0 ∙ na),
    )

-- ---- the answers

-- one after the other
both_then : {A B C D : Type 0} (a : Result A) (b : Result B) (m : A → B → Result C) (k : C → Result D)
    → then a (λ x. then b λ y. then (m x y) k) ≡ then (then a λ x. then b λ y. m x y) k
both_then (accepted x) (accepted y) m k = refl
both_then (accepted x) (refused v) m k = refl
both_then (refused u) b m k = refl

module _ (scheme : Scheme) (file : List ℕ) (clock : ℕ) (first second : List ℕ) (az : List Float) (cs : List ℕ) (ph : List Float) (ms : List ℕ) where
  abbrev M : Result GapSweep
  M = merge_sweep_of scheme file clock first second (length az) (length cs) (length ph) (length ms)

  pub merge_head_refused : {x : Level3DecodeError} → refused (refusal_of x) ≡ head_of scheme file clock → MarkedRan M (gap_buffers az cs ph ms) (gap_buffers az cs ph ms) (Std.Err x)
  unfolding merge_sweep_of
  merge_head_refused {x} e = let d : refused (refusal_of x) ≡ M = rw (← e) in told az cs ph ms d refl refl refl refl refl

  pub merge_begun : (h : Head) {t : Terms} → accepted h ≡ head_of scheme file clock → t ≡ terms_for h.scaling (length ph)
      → Begun scheme file clock M (merge_for t first second) az cs ph ms h (declared_scale h.scaling)
  unfolding merge_sweep_of merge_for merge_picture_of
  merge_begun h {t} eh et =
      record {
        head_is = eh;
        declared_is = refl;
        made = merge_picture_of t first second;
        sized = merged_sized t first second;
        decode_is = ap (λ x. gaps_on_terms x (merge_picture_of t first second) (length az) (length cs) (length ms)) et;
        reading_is = rw (← eh)
            (both_then (readied scheme h first) (readied scheme h second) merged_of (gap_finish scheme file (length az) (length cs) (length ph) (length ms) h)
            ∙ ap₂ (λ (x y : Result (Given Symbology.Sweep)). then (then x λ a. then y λ b. merged_of a b) (gap_finish scheme file (length az) (length cs) (length ph) (length ms) h)) (as_usable first) (as_usable second));
      }
    where
      as_usable : (body : List ℕ) → readied scheme h body ≡ usable_of t body
      as_usable body = sym (usable_is scheme file h (length ph) (block_start scheme file clock h (sym eh)).3 body) ∙ ap (λ x. usable_of x body) (sym et)

-- ---- how many places an accepted sweep fills

made : (t : Terms) (b₁ b₂ : List ℕ) {a b : Given Symbology.Sweep} {p : GapPicture} → usable_of t b₁ ≡ accepted a → usable_of t b₂ ≡ accepted b → merged_of a b ≡ accepted p → merge_picture_of t b₁ b₂ ≡ accepted p
unfolding merge_picture_of
made t b₁ b₂ ea eb ep = rw (ea, eb) ep

pub merge_sizes : (scheme : Scheme) (file : List ℕ) (clock : ℕ) (b₁ b₂ : List ℕ) (na nc np nm : ℕ) (g : GapSweep) → merge_sweep_of scheme file clock b₁ b₂ na nc np nm ≡ accepted g → GapSizes g
unfolding merge_sweep_of
merge_sizes scheme file clock b₁ b₂ na nc np nm g acc =
    through (head_of scheme file clock) _ g acc λ h eh e₁.
    through (readied scheme h b₁) _ g e₁ λ a ea e₂.
    through (readied scheme h b₂) _ g e₂ λ b eb e₃.
    through (merged_of a b) _ g e₃ λ p ep e₄.
    let as_usable : (body : List ℕ) → usable_of (terms_for h.scaling np) body ≡ readied scheme h body = usable_is scheme file h np (block_start scheme file clock h eh).3 in
    finished_sizes scheme file na nc np nm h p g e₄ (merged_sized (terms_for h.scaling np) b₁ b₂ p (made _ b₁ b₂ (as_usable b₁ ∙ ea) (as_usable b₂ ∙ eb) ep))
