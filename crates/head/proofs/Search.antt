-- The search for the message header. Assumes nothing.
use Prim.Native.Nat.{ℕ, zero, suc, ◌+◌, ◌≤◌, ◌<◌, suc-le-suc}
use native.Mathlib.Nat.{zero-add}
use native.Mathlib.Omega.{arith}
use mathlib.Core.List.{[]}
use mathlib.Core.Path.{◌≡◌, refl, sym, ap, ◌∙◌}
use mathlib.Core.Bool.{Bool, true, false}
use Rattle.std.specs.Option.{MatchOption, ok_or}
use Rattle.std.specs.Prelude.{Option, Some, None}
use Rattle.wire.specs.declared.error.Level3DecodeError.TheVariants.{NoMessageHeader}
use Rattle.wire.specs.Refusal.{kind}
use Rattle.wire.specs.Result.{accepted, refused, answer}
use Rattle.head.specs.Header.{first_of}

module _ (p : ℕ → Bool) where
  none_passes : (n i : ℕ) → ((k : ℕ) → k < n → p (i + k) ≡ false) → refused (kind 2 []) ≡ first_of p i n
  unfolding first_of
  none_passes zero i h = refl
  none_passes (suc n) i h =
      let z : i + 0 ≡ i = omega arith in
      let e : p i ≡ false = ap p (sym z) ∙ h 0 (omega arith) in
      none_passes n (i + 1) (λ k l. let q : i + 1 + k ≡ i + suc k = omega arith in ap p q ∙ h (suc k) (suc-le-suc l)) ∙ simp e

  first_passes : (j n i : ℕ) → j < n → ((k : ℕ) → k < j → p (i + k) ≡ false) → p (i + j) ≡ true → accepted (i + j) ≡ first_of p i n
  unfolding first_of
  first_passes j zero i l h t = absurd (omega arith)
  first_passes zero (suc n) i l h t =
      let z : i + 0 ≡ i = omega arith in
      let e : p i ≡ true = ap p (sym z) ∙ t in
      ap accepted z ∙ simp e
  first_passes (suc j) (suc n) i l h t =
      let z : i + 0 ≡ i = omega arith in
      let e : p i ≡ false = ap p (sym z) ∙ h 0 (omega arith) in
      let r : i + suc j ≡ i + 1 + j = omega arith in
      ap accepted r
      ∙ first_passes j n (i + 1) (omega arith) (λ k m. let q : i + 1 + k ≡ i + suc k = omega arith in ap p q ∙ h (suc k) (suc-le-suc m)) (ap p (sym r) ∙ t)
      ∙ simp e

  -- the first of the numbers below n that passes
  pub first_found : (n : ℕ) (r : Option ℕ)
      → MatchOption r ((k : ℕ) → 0 ≤ k → k < n → p k ≡ false) (λ i. (0 ≤ i) × (i < n) × (p i ≡ true) × ((k : ℕ) → 0 ≤ k → k < i → p k ≡ false))
      → answer (ok_or r NoMessageHeader) ≡ first_of p 0 n
  first_found n None h = none_passes n 0 (λ k l. simp zero-add (h k (omega arith) l))
  first_found n (Some i) h = simp zero-add at (first_passes i n 0 h.1 (λ k l. simp zero-add (h.3 k (omega arith) l)) (simp zero-add h.2))
