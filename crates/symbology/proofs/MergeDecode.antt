-- What two plans and the terms say of the picture that two bodies make, a law for each answer of the code. Assumes nothing.
use Rattle.std.proofs.Common.{◌≡◌, ℕ, ◌<◌, ◌≤◌, Bool, true, false, not, List, [], ◌∷◌, map, length, sym, refl, ap, ◌∙◌, subst, le-ltb, lt-ltb}
use lib.Ieee.{Float}
use borrow.Author.Tests.{not-false, not-true}
use Rattle.wire.specs.Refusal.{kind, buffer, refusal_of}
use Rattle.wire.specs.Result.{Result, accepted, refused, lent}
use Rattle.wire.specs.Reading.{Given, run}
use Rattle.wire.specs.declared.error.Buffer.TheVariants as Buffer
use Rattle.wire.specs.declared.error.Level3DecodeError.{Level3DecodeError}
use Rattle.wire.specs.declared.error.Level3DecodeError.TheVariants as Error
use Rattle.symbology.specs.Answers.{GapPicture, joined, shown, mark_of, admit, passing, picture_with, gaps_on_terms, DecodesWithGaps}
use Rattle.symbology.specs.Walk.{in_mode, Plotted, Accepted}
use Rattle.symbology.specs.Symbology.{Sweep, symbology}
use Rattle.symbology.specs.Merge.{same_figures, same_floats, agreed, merge_rows, merged_of, usable, merge_picture_of, merge_for}
use Rattle.symbology.specs.Pairs.{walk_by, judged, both_rows, merged_parts}
use Rattle.symbology.specs.declared.figures.Figures.{Figures}
use Rattle.symbology.specs.declared.figures.Terms.{Terms}
use Rattle.std.specs.Prelude as Std
use Rattle.symbology.proofs.SameFigures.{figures_are}
use Rattle.symbology.proofs.Decode.{radials_in, radials_there, refuse_then}
use Rattle.symbology.proofs.GapDecode.{answered}

-- ---- the radials of both

module _ (t : Terms) (f : Figures) (s : List ℕ) (i : ℕ) (u : List ℕ) (j : ℕ) (az : List Float) (cs ms : List ℕ) where
  abbrev Made : List Float → List ℕ → List ℕ → Std.Result Figures Level3DecodeError → Type 0
  Made az' cs' ms' = DecodesWithGaps (gaps_on_terms t (merged_parts f (walk_by f s i) (walk_by f u j))) az az' cs cs' ms ms'

  abbrev D : Result GapPicture
  D = gaps_on_terms t (merged_parts f (walk_by f s i) (walk_by f u j)) (length az) (length cs) (length ms)

  pub parts_judged : {x : Level3DecodeError} → refused (refusal_of x) ≡ judged (walk_by f s i) (walk_by f u j) → Made az cs ms (Std.Err x)
  unfolding gaps_on_terms
  parts_judged {x} h = let d : refused (refusal_of x) ≡ D = rw (← h) refl in answered az cs ms d refl refl refl refl

  module _ (a : Accepted (walk_by f s i)) (b : Accepted (walk_by f u j)) (h : accepted tt ≡ judged (walk_by f s i) (walk_by f u j)) where
    abbrev made : GapPicture
    made = picture_with (record { figures = f; azimuths = a.0.value }) (merge_rows a.0.rows b.0.rows)

    parts_are : merged_parts f (walk_by f s i) (walk_by f u j) ≡ accepted made
    parts_are = rw (← h) (rw (a.1, b.1) refl)

    pub parts_halted : {x : Level3DecodeError} → refused (refusal_of x) ≡ admit t (length az) (length cs) f → Made az cs ms (Std.Err x)
    unfolding gaps_on_terms
    parts_halted {x} k = let d : refused (refusal_of x) ≡ D = rw (parts_are, ← k) refl in answered az cs ms d refl refl refl refl

    module _ (k : accepted tt ≡ admit t (length az) (length cs) f) where
      pub parts_no_marks : length ms < f.n_radials → Made az cs ms (Std.Err (Error.BufferTooShort Buffer.Marks))
      unfolding gaps_on_terms
      parts_no_marks l =
          let d : refused (kind 36 (buffer Buffer.Marks ∷ [])) ≡ D = rw (parts_are, ← k, lt-ltb (length ms) f.n_radials l) refl in
          answered az cs ms d refl refl refl refl

      pub parts_written : {az' : List Float} {cs' ms' : List ℕ} → f.n_radials ≤ length ms
          → az' ≡ lent (walk_by f s i) (λ g. g.value) az
          → cs' ≡ lent (both_rows (walk_by f s i) (walk_by f u j)) (λ rows. joined (map (shown f.n_bins) rows)) cs
          → ms' ≡ lent (both_rows (walk_by f s i) (walk_by f u j)) (λ rows. map mark_of rows) ms → Made az' cs' ms' (Std.Ok f)
      unfolding gaps_on_terms
      parts_written l x y z =
          let d : accepted made ≡ D = rw (parts_are, ← k, le-ltb (length ms) f.n_radials l) refl in
          let r : both_rows (walk_by f s i) (walk_by f u j) ≡ accepted (merge_rows a.0.rows b.0.rows) = rw (a.1, b.1) refl in
          answered az cs ms d refl (x ∙ ap (λ e. lent e (λ g. g.value) az) a.1)
          (y ∙ ap (λ e. lent e (λ rows. joined (map (shown f.n_bins) rows)) cs) r)
          (z ∙ ap (λ e. lent e (λ rows. map mark_of rows) ms) r)

-- ---- two bodies

-- a body's reading with gaps, up to 36
abbrev used_of : Terms → List ℕ → Result (Given Sweep)
used_of t body = passing (usable t) (run (in_mode true symbology) body 0)

module _ (t : Terms) (b₁ b₂ : List ℕ) (az : List Float) (cs ms : List ℕ) where
  abbrev Merged : List Float → List ℕ → List ℕ → Std.Result Figures Level3DecodeError → Type 0
  Merged az' cs' ms' = DecodesWithGaps (merge_for t b₁ b₂) az az' cs cs' ms ms'

  abbrev E : Result GapPicture
  E = merge_for t b₁ b₂ (length az) (length cs) (length ms)

  pub first_refused : {x : Level3DecodeError} → refused (refusal_of x) ≡ used_of t b₁ → Merged az cs ms (Std.Err x)
  unfolding merge_for gaps_on_terms merge_picture_of in_mode
  first_refused {x} h = let d : refused (refusal_of x) ≡ E = rw (← h) refl in answered az cs ms d refl refl refl refl

  module _ {f : Figures} {from to at : ℕ} (p : Plotted true f from to at b₁ (used_of t b₁)) where
    pub second_refused : {x : Level3DecodeError} → refused (refusal_of x) ≡ used_of t b₂ → Merged az cs ms (Std.Err x)
    unfolding merge_for gaps_on_terms merge_picture_of in_mode
    second_refused {x} h = let d : refused (refusal_of x) ≡ E = rw (p.whole, ← h) refl in answered az cs ms d refl refl refl refl

    module _ {f' : Figures} {from' to' at' : ℕ} (q : Plotted true f' from' to' at' b₂ (used_of t b₂)) {c : Bool} (is : c ≡ same_figures f f') where
      pub other_figures : not c ≡ true → Merged az cs ms (Std.Err Error.DifferentSweeps)
      unfolding merge_for gaps_on_terms merge_picture_of merged_of in_mode
      other_figures h =
          let n : c ≡ false = not-true c h in
          let d : refused (kind 43 []) ≡ E = rw (p.whole, q.whole, ← is, n) refl in
          answered az cs ms d refl refl refl refl

      module _ (h : not c ≡ false) where
        same_is : f' ≡ f
        same_is = sym (figures_are f f' (sym is ∙ not-false c h))

        -- the radials of both, by the first's figures
        pub first_radials : Accepted (radials_in true b₁ f from to at)
        first_radials = (p.radials, radials_there true b₁ p)

        pub second_radials : Accepted (radials_in true b₂ f from' to' at')
        second_radials = (q.radials, subst (λ x. radials_in true b₂ x from' to' at' ≡ accepted q.radials) same_is (radials_there true b₂ q))

        parts_whole : merged_parts f (radials_in true b₁ f from to at) (radials_in true b₂ f from' to' at') ≡ merge_picture_of t b₁ b₂
        unfolding merge_picture_of merged_of judged in_mode first_radials second_radials
        parts_whole =
            rw (first_radials.1, second_radials.1)
            (rw (p.whole, q.whole, sym is ∙ not-false c h)
            (sym (refuse_then (not (same_floats p.radials.value q.radials.value)) (kind 43 []) (agreed 0 p.radials.rows q.radials.rows) _)))

        pub both_merged : {r : Std.Result Figures Level3DecodeError} {az' : List Float} {cs' ms' : List ℕ}
            → DecodesWithGaps (gaps_on_terms t (merged_parts f (radials_in true b₁ f from to at) (radials_in true b₂ f from' to' at'))) az az' cs cs' ms ms' r → Merged az' cs' ms' r
        unfolding merge_for
        both_merged {r} {az'} {cs'} {ms'} w = subst (λ x. DecodesWithGaps (gaps_on_terms t x) az az' cs cs' ms ms' r) parts_whole w
