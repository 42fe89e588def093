-- The record at an offset, as `record_at` reads it. Assumes nothing.
use Rattle.wire.specs.Bytes.{u16_at}
use mathlib.Core.Path.{◌≡◌, sym, ◌∙◌}
use mathlib.Core.Bool.{true, false}
use mathlib.Core.List.{List}
use Prim.Native.Nat.{ℕ, ◌+◌, ◌-◌, ◌≤◌}
use native.Mathlib.Omega.{arith}
use lib.Dec.{eqb, leb}
use lib.ListN.{length, get_or}
use borrow.Author.Tests.{eq-eqb, ne_eqb, le-leb}
use Rattle.fields.specs.declared.plan.Record.TheVariants.{Field, Strip}
use Rattle.fields.specs.Plan.{record_at}

module _ (plan : List ℕ) (at : ℕ) where
  module _ {tag len : ℕ} (h5 : 5 ≤ length plan - at) (isTag : tag ≡ get_or plan at 0) (isLen : len ≡ u16_at plan (at + 1)) where
    whole : leb (at + 5) (length plan) ≡ true
    whole = le-leb (at + 5) (length plan) (omega arith)

    pub a_field : {n : ℕ} → tag ≡ 1 → len ≡ 2 → n ≡ u16_at plan (at + 3) → Field n ≡ record_at plan at
    unfolding record_at
    a_field ht hl hn = simp (whole, eq-eqb _ _ (sym isTag ∙ ht), eq-eqb _ _ (sym isLen ∙ hl), hn)

    module _ (h1 : tag ≡ 1 → ⊥) where
      no_tag : eqb (get_or plan at 0) 1 ≡ false
      no_tag = ne_eqb _ _ (λ e. h1 (isTag ∙ e))

      pub a_strip : {r g c w : ℕ} → 11 ≤ length plan - at → tag ≡ 2 → len ≡ 8 → r ≡ u16_at plan (at + 3) → g ≡ u16_at plan (at + 5)
          → c ≡ u16_at plan (at + 7) → w ≡ u16_at plan (at + 9) → Strip r g c w ≡ record_at plan at
      unfolding record_at
      a_strip h11 h2 hl hr hg hc hw =
          let b : at + 11 ≤ length plan = omega arith in
          simp (whole, no_tag, le-leb _ _ b, eq-eqb _ _ (sym isTag ∙ h2), eq-eqb _ _ (sym isLen ∙ hl), hr, hg, hc, hw)
