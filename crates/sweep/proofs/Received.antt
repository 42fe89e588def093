-- Two receptions of one accepted body, damaged in different radials: their readings with gaps merge to its picture, or 44. Assumes nothing.
use Prim.Native.Nat.{ℕ, suc, ◌<◌, suc-le-suc}
use native.Mathlib.Omega.{arith}
use native.Mathlib.Nat.{zero-add}
use mathlib.Core.List.{List, [], ◌∷◌, map}
use mathlib.Core.Logic.{◌⊎◌, inl, inr, ⊎_elim}
use mathlib.Core.Path.{◌≡◌, refl, sym, ap, ap₂, ◌∙◌}
use lib.ListN.{length, get_or, get_or-map}
use Rattle.wire.specs.Refusal.{kind, nat}
use Rattle.wire.specs.Result.{Result, accepted, refused, then}
use Rattle.wire.specs.Reading.{Given, run, gaps, marked, Frame, frames}
use Rattle.wire.proofs.Gaps.{whole_row, all_whole, gaps_accepted}
use Rattle.symbology.specs.Answers.{GapPicture, picture_with, gap_picture_of}
use Rattle.symbology.specs.Damage.{no_frame, row_in, radial_at, radial_count, Damage, Changed}
use Rattle.symbology.specs.Merge.{agreed, merge_rows, merged_of}
use Rattle.symbology.specs.Symbology as Symbology
use Rattle.symbology.specs.Symbology.{symbology}
use Rattle.symbology.proofs.Containment.{accepted_rows, makes_or_changed}
use Rattle.symbology.proofs.Gapped.{gap_contained}
use Rattle.sweep.proofs.RowMerge.{Row, UnlikeAt, Covered, none, more, Agreed, Stopped, outcome}
use Rattle.sweep.proofs.MergeSelf.{figures_self, floats_self}

-- ---- rows by their frames

abbrev pub rows_in : List ℕ → List Frame → List Row
rows_in s fs = map (λ f. row_in f s) fs

rows_by : (s : List ℕ) (fs : List Frame) (rows : List (List ℕ)) → length rows ≡ length fs → ((r : ℕ) → r < length fs → get_or rows r [] ≡ marked (row_in (get_or fs r no_frame) s))
    → rows ≡ map marked (rows_in s fs)
rows_by s [] [] e h = refl
rows_by s [] (x ∷ rows) e h = absurd (omega arith)
rows_by s (f ∷ fs) [] e h = absurd (omega arith)
rows_by s (f ∷ fs) (x ∷ rows) e h = ap₂ (λ (v : List ℕ) (l : List (List ℕ)). v ∷ l) (h 0 (omega arith)) (rows_by s fs rows (omega arith) (λ r lt. h (suc r) (suc-le-suc lt)))

alike_given : {A : Type 0} {v v' : A} {n : ℕ} {r r' : List (List ℕ)} → v ≡ v' → r ≡ r' → ◌≡◌ {A = Given A} (record { value = v; next = n; rows = r }) (record { value = v'; next = n; rows = r' })
alike_given e k = rw (e, k) refl

covered_by : (b₁ b₂ : List ℕ) (fs : List Frame) (os : List (List ℕ)) → length os ≡ length fs
    → ((r : ℕ) → r < length fs → (row_in (get_or fs r no_frame) b₁ ≡ accepted (get_or os r [])) ⊎ (row_in (get_or fs r no_frame) b₂ ≡ accepted (get_or os r [])))
    → Covered (rows_in b₁ fs) (rows_in b₂ fs) os
covered_by b₁ b₂ [] [] e h = none
covered_by b₁ b₂ [] (o ∷ os) e h = absurd (omega arith)
covered_by b₁ b₂ (f ∷ fs) [] e h = absurd (omega arith)
covered_by b₁ b₂ (f ∷ fs) (o ∷ os) e h = more (h 0 (omega arith)) (covered_by b₁ b₂ fs os (omega arith) (λ r lt. h (suc r) (suc-le-suc lt)))

-- the row of radial k
pub row_at : (b b' : List ℕ) (k : ℕ) → get_or (rows_in b' (frames symbology b 0)) k (accepted []) ≡ row_in (radial_at symbology b k) b'
unfolding radial_at row_in no_frame
row_at b b' k = get_or-map (λ (f : Frame). row_in f b') (frames symbology b 0) k no_frame

-- ---- both readings with gaps, and what they merge to

module _ (b b₁ b₂ : List ℕ) (g : Given Symbology.Sweep) (eg : run symbology b 0 ≡ accepted g) (d₁ : Damage symbology b b₁) (d₂ : Damage symbology b b₂) where
  -- what is given of a reception
  pub reception : (b' : List ℕ) → Damage symbology b b' → Given Symbology.Sweep
  reception b' d = record { value = g.value; next = (gap_contained symbology b b' g eg d).second.next; rows = map marked (rows_in b' (frames symbology b 0)) }

  pub reception_is : (b' : List ℕ) (d : Damage symbology b b') → run (gaps symbology) b' 0 ≡ accepted (reception b' d)
  unfolding radial_at radial_count reception
  reception_is b' d =
      let c = gap_contained symbology b b' g eg d in
      c.gives ∙ ap accepted (alike_given c.value (rows_by b' (frames symbology b 0) c.second.rows c.count c.each))

  pub reception_value : (b' : List ℕ) (d : Damage symbology b b') → (reception b' d).value ≡ g.value
  unfolding reception
  reception_value b' d = refl

  abbrev X : List Row
  X = rows_in b₁ (frames symbology b 0)

  abbrev Y : List Row
  Y = rows_in b₂ (frames symbology b 0)

  abbrev M : Result GapPicture
  M = merged_of (reception b₁ d₁) (reception b₂ d₂)

  merged_is : M ≡ then (agreed 0 (map marked X) (map marked Y)) λ _. accepted (picture_with g.value (merge_rows (map marked X) (map marked Y)))
  unfolding merged_of reception
  merged_is = rw (figures_self g.value.figures, floats_self g.value.azimuths) refl

  -- the picture of the original, read with gaps
  original_is : gap_picture_of b ≡ accepted (picture_with g.value (map whole_row g.rows))
  unfolding gap_picture_of all_whole
  original_is = rw (gaps_accepted symbology b 0 g eg) refl

  -- no row unlike the original's, and its picture without a gap; or 44 of the lowest
  pub record Whole : Type 0 where
    pub merged : M ≡ gap_picture_of b
    pub none_unlike : (k : ℕ) → k < radial_count symbology b → UnlikeAt X Y g.rows k → ⊥

  pub record Disagreed : Type 0 where
    pub at : ℕ
    pub inside : at < radial_count symbology b
    pub merged : M ≡ refused (kind 44 (nat at ∷ []))
    pub here : UnlikeAt X Y g.rows at
    pub lower : (q : ℕ) → q < at → UnlikeAt X Y g.rows q → ⊥

  module _ (apart : (r : ℕ) → r < radial_count symbology b → Changed symbology b b₁ r → Changed symbology b b₂ r → ⊥) where
    rows_count : length g.rows ≡ radial_count symbology b
    rows_count = (accepted_rows symbology b g eg).0

    cover : Covered X Y g.rows
    unfolding radial_at radial_count
    cover = covered_by b₁ b₂ (frames symbology b 0) g.rows rows_count one
      where
        one : (r : ℕ) → r < length (frames symbology b 0)
            → (row_in (get_or (frames symbology b 0) r no_frame) b₁ ≡ accepted (get_or g.rows r [])) ⊎ (row_in (get_or (frames symbology b 0) r no_frame) b₂ ≡ accepted (get_or g.rows r []))
        one r lt =
            ⊎_elim inl (λ c₁. ⊎_elim inr (λ c₂. absurd (apart r lt c₁ c₂)) (makes_or_changed symbology b b₂ g eg d₂ r lt)) (makes_or_changed symbology b b₁ g eg d₁ r lt)

    by_outcome : Agreed 0 X Y g.rows ⊎ Stopped 0 X Y g.rows → Whole ⊎ Disagreed
    by_outcome (inl a) = inl (record { merged = merged_is ∙ rw (a.is, a.merged) (sym original_is); none_unlike = λ k lt. a.none k (rw rows_count lt) })
    by_outcome (inr s) = inr (record { at = s.at; inside = rw rows_count at s.inside; merged = merged_is ∙ rw (s.is, zero-add) refl; here = s.here; lower = s.lower })

    pub both_received : Whole ⊎ Disagreed
    both_received = by_outcome (outcome cover 0)
