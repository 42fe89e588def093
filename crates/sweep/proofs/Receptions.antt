-- Two receptions of one accepted body, damaged in different radials, give its picture, or 44, in document 01's words. Assumes nothing.
use Prim.Native.Nat.{ℕ, ◌<◌, ◌≤◌}
use native.Mathlib.Omega.{arith}
use mathlib.Core.List.{List, [], ◌∷◌}
use mathlib.Core.Bool.{false, not}
use mathlib.Core.Logic.{◌⊎◌, inl, inr, ⊎_elim}
use mathlib.Core.Path.{◌≡◌, refl, sym, ap, ◌∙◌, subst}
use lib.ListN.{get_or}
use Rattle.wire.specs.Refusal.{kind, nat}
use Rattle.wire.specs.Result.{Result, accepted, refused, then}
use Rattle.wire.specs.Reading.{Given, run, frames}
use Rattle.wire.proofs.Results.{clash, one_value, one_refusal}
use Rattle.scale.specs.declared.physical.Scheme.{Scheme}
use Rattle.symbology.specs.Answers.{gap_picture_of}
use Rattle.symbology.specs.Damage.{row_in, radial_at, radial_count, Damage}
use Rattle.symbology.specs.Merge.{merged_of}
use Rattle.symbology.specs.Places.{Placed}
use Rattle.symbology.specs.Rows.{row_of}
use Rattle.symbology.specs.Words.{Bytes, data_of, DamageInWords}
use Rattle.symbology.specs.Symbology as Symbology
use Rattle.symbology.specs.Symbology.{symbology}
use Rattle.symbology.proofs.Containment.{accepted_rows, makes_or_changed}
use Rattle.symbology.proofs.Placement.{placed}
use Rattle.symbology.proofs.Words.{damage_in_words}
use Rattle.sweep.specs.Sweep.{allowed, Accepted, sweep_of}
use Rattle.sweep.specs.GapSweep.{GapSweep, gap_finish, gap_sweep_of}
use Rattle.sweep.specs.MergeSweep.{readied, merge_sweep_of}
use Rattle.sweep.specs.Receptions.{OtherCodes, Other, Apart, TwoReceptions}
use Rattle.sweep.proofs.AsOrdinary.{ordinary_whole}
use Rattle.sweep.proofs.InWords.{radial_changed, row_is, radial_makes}
use Rattle.sweep.proofs.Parts.{Parts, parts}
use Rattle.sweep.proofs.RowMerge.{Unlike, UnlikeAt}
use Rattle.sweep.proofs.Received.{rows_in, row_at, reception, reception_is, reception_value, Whole, Disagreed, both_received}

-- ---- a row of other codes, in words

module _ (b : List ℕ) (g : Given Symbology.Sweep) (eg : run symbology b 0 ≡ accepted g) (p : Accepted) (is : g.value.figures ≡ p.sweep.figures) where
  places : Placed b p.sweep.figures
  places = subst (Placed b) is (placed b g eg)

  pub counted : radial_count symbology b ≡ p.sweep.figures.n_radials
  counted = places.count

  module _ (b' : List ℕ) (small : Bytes b') (w : DamageInWords b p.sweep.figures b') where
    pub damaged : Damage symbology b b'
    damaged = (damage_in_words b b' g eg).1 (rw is w)

    module _ (k : ℕ) (lt : k < p.sweep.figures.n_radials) where
      in_body : k < radial_count symbology b
      in_body = rw counted lt

      original : row_of p.sweep.figures.packet p.sweep.figures.n_bins k (data_of p.sweep.figures.packet b k b) ≡ accepted (get_or g.rows k [])
      original = sym (row_is p.sweep.figures b b places k lt) ∙ (accepted_rows symbology b g eg).1 k in_body

      there : get_or (rows_in b' (frames symbology b 0)) k (accepted []) ≡ row_of p.sweep.figures.packet p.sweep.figures.n_bins k (data_of p.sweep.figures.packet b k b')
      there = row_at b b' k ∙ row_is p.sweep.figures b b' places k lt

      pub to_other : Unlike (get_or (rows_in b' (frames symbology b 0)) k (accepted [])) (get_or g.rows k []) → OtherCodes p.sweep.figures b b' k
      to_other (c, e, ne) =
          let v : row_in (radial_at symbology b k) b' ≡ accepted c = sym (row_at b b' k) ∙ e in
          record {
            changed = (radial_changed p.sweep.figures b b' places k lt).0 (⊎_elim (λ x. absurd (ne (one_value (sym v ∙ x)))) (λ x. x) (makes_or_changed symbology b b' g eg damaged k in_body));
            makes = (radial_makes p.sweep.figures b b' places w.same_length small k lt).0 (c, v);
            other = λ same. ne (one_value (sym e ∙ there ∙ same ∙ original));
          }

      pub from_other : OtherCodes p.sweep.figures b b' k → Unlike (get_or (rows_in b' (frames symbology b 0)) k (accepted [])) (get_or g.rows k [])
      from_other o =
          let m = (radial_makes p.sweep.figures b b' places w.same_length small k lt).1 o.makes in
          let e : get_or (rows_in b' (frames symbology b 0)) k (accepted []) ≡ accepted m.0 = row_at b b' k ∙ m.1 in
          (m.0, e, λ same. o.other (sym there ∙ e ∙ ap accepted same ∙ sym original))

-- ---- both

module _ (scheme : Scheme) (file : List ℕ) (clock : ℕ) (b b₁ b₂ : List ℕ) (na nc np nm : ℕ) (p : Accepted) (q : Parts scheme file clock na nc np b p) (acc : sweep_of scheme file clock b na nc np ≡ accepted p)
    (room : p.sweep.figures.n_radials ≤ nm) (small₁ : Bytes b₁) (small₂ : Bytes b₂) (a : Apart p.sweep.figures b b₁ b₂) where
  abbrev Merges : Result GapSweep → Type 0
  Merges r = merge_sweep_of scheme file clock b₁ b₂ na nc np nm ≡ r

  d₁ : Damage symbology b b₁
  d₁ = damaged b q.body q.body_is p q.figures b₁ small₁ a.first

  d₂ : Damage symbology b b₂
  d₂ = damaged b q.body q.body_is p q.figures b₂ small₂ a.second

  count_is : radial_count symbology b ≡ p.sweep.figures.n_radials
  count_is = counted b q.body q.body_is p q.figures

  abbrev given : (b' : List ℕ) → Damage symbology b b' → Given Symbology.Sweep
  given b' d = reception b b₁ b₂ q.body q.body_is d₁ d₂ b' d

  readied_is : (b' : List ℕ) (d : Damage symbology b b') → readied scheme q.head b' ≡ accepted (given b' d)
  unfolding readied
  readied_is b' d =
      let same = reception_value b b₁ b₂ q.body q.body_is d₁ d₂ b' d in
      let k : not (allowed scheme (given b' d).value.figures.packet) ≡ false =
      ap (λ (x : Symbology.Sweep). not (allowed scheme x.figures.packet)) same ∙ rw (q.figures, q.works) refl in
      rw (reception_is b b₁ b₂ q.body q.body_is d₁ d₂ b' d, k, q.declares) refl

  merged_is : Merges (then (merged_of (given b₁ d₁) (given b₂ d₂)) (gap_finish scheme file na nc np nm q.head))
  unfolding merge_sweep_of
  merged_is = rw (q.head_is, readied_is b₁ d₁, readied_is b₂ d₂) refl

  -- the original, read with gaps
  original_is : gap_sweep_of scheme file clock b na nc np nm ≡ then (gap_picture_of b) (gap_finish scheme file na nc np nm q.head)
  unfolding gap_sweep_of
  original_is = rw q.head_is refl

  to : (k : ℕ) → k < p.sweep.figures.n_radials → UnlikeAt (rows_in b₁ (frames symbology b 0)) (rows_in b₂ (frames symbology b 0)) q.body.rows k → Other p.sweep.figures b b₁ b₂ k
  to k lt =
      ⊎_elim (λ u. inl (to_other b q.body q.body_is p q.figures b₁ small₁ a.first k lt u))
      (λ u. inr (to_other b q.body q.body_is p q.figures b₂ small₂ a.second k lt u))

  back : (k : ℕ) → k < p.sweep.figures.n_radials → Other p.sweep.figures b b₁ b₂ k → UnlikeAt (rows_in b₁ (frames symbology b 0)) (rows_in b₂ (frames symbology b 0)) q.body.rows k
  back k lt =
      ⊎_elim (λ o. inl (from_other b q.body q.body_is p q.figures b₁ small₁ a.first k lt o))
      (λ o. inr (from_other b q.body q.body_is p q.figures b₂ small₂ a.second k lt o))

  by_outcome : Whole b b₁ b₂ q.body q.body_is d₁ d₂ ⊎ Disagreed b b₁ b₂ q.body q.body_is d₁ d₂ → TwoReceptions scheme file clock b b₁ b₂ na nc np nm p
  by_outcome (inl whole) =
      let w = ordinary_whole scheme file clock b na nc np nm p acc room in
      let m : Merges (accepted w.0) = merged_is ∙ ap (λ z. then z (gap_finish scheme file na nc np nm q.head)) whole.merged ∙ sym original_is ∙ w.1 in
      record {
        exactly = (λ x. clash w.0 x.0 (sym x.1 ∙ m), λ (k, lt, o). absurd (whole.none_unlike k (rw count_is lt) (back k lt o)));
        lowest = λ x k. clash w.0 x (sym k ∙ m);
        otherwise = λ _. (w.0, m, w.2, w.3);
      }
  by_outcome (inr s) =
      let m : Merges (refused (kind 44 (nat s.at ∷ []))) = merged_is ∙ ap (λ z. then z (gap_finish scheme file na nc np nm q.head)) s.merged in
      let lt : s.at < p.sweep.figures.n_radials = rw count_is at s.inside in
      record {
        exactly = (λ _. (s.at, lt, to s.at lt s.here), λ _. (kind 44 (nat s.at ∷ []), m));
        lowest = λ x e. (
          s.at,
          record { inside = lt; here = to s.at lt s.here; lower = λ k below o. s.lower k below (back k (omega (arith, below, lt)) o) },
          one_refusal (sym e ∙ m),
        );
        otherwise = λ no. absurd (no s.at lt (to s.at lt s.here));
      }

  two_given : TwoReceptions scheme file clock b b₁ b₂ na nc np nm p
  two_given =
      by_outcome (both_received b b₁ b₂ q.body q.body_is d₁ d₂ (λ r lt c₁ c₂.
      let k : r < p.sweep.figures.n_radials = rw count_is at lt in
      let there = places b q.body q.body_is p q.figures in
      a.apart r k ((radial_changed p.sweep.figures b b₁ there r k).0 c₁) ((radial_changed p.sweep.figures b b₂ there r k).0 c₂)))

pub two_receptions : (scheme : Scheme) (file : List ℕ) (clock : ℕ) (b b₁ b₂ : List ℕ) (na nc np nm : ℕ) (p : Accepted) → sweep_of scheme file clock b na nc np ≡ accepted p
    → p.sweep.figures.n_radials ≤ nm → Bytes b₁ → Bytes b₂ → Apart p.sweep.figures b b₁ b₂ → TwoReceptions scheme file clock b b₁ b₂ na nc np nm p
two_receptions scheme file clock b b₁ b₂ na nc np nm p acc room small₁ small₂ a =
    two_given scheme file clock b b₁ b₂ na nc np nm p (parts scheme file clock na nc np b p acc) acc room small₁ small₂ a
