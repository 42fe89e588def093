-- Laws of the fields. Assumes nothing.
use Prim.Native.Nat.{ℕ, ◌+◌, ◌*◌, ◌-◌, ◌≤◌, ◌<◌}
use native.Mathlib.Omega.{arith}
use mathlib.Core.List.{[], ◌∷◌}
use mathlib.Core.Path.{◌≡◌, refl}
use mathlib.Core.Bool.{Bool, true, false, ◌||◌}
use lib.Dec.{eqb, ltb}
use borrow.Author.Tests.{lt-ltb, le-ltb, eq-eqb, ne_eqb, ltb-false}
use Rattle.wire.specs.Refusal.{kind, nat}
use Rattle.wire.specs.Result.{accepted, refused, refuse}
use Rattle.head.specs.Pdb.{field_at}

module _ (len block i width : ℕ) where
  pub field_zero : i ≡ 0 → refused (kind 3 (nat i ∷ [])) ≡ field_at len block i width
  unfolding field_at
  field_zero e = simp (eq-eqb i 0 e)

  pub field_out : (i ≡ 0 → ⊥) → len < block + 2 * (i - 1) + width → refused (kind 3 (nat i ∷ [])) ≡ field_at len block i width
  unfolding field_at
  field_out z h = simp (ne_eqb i 0 z, lt-ltb len _ h)

  pub field_in : (i ≡ 0 → ⊥) → block + 2 * (i - 1) + width ≤ len → accepted (block + 2 * (i - 1)) ≡ field_at len block i width
  unfolding field_at
  field_in z h = simp (ne_eqb i 0 z, le-ltb len _ h)

pub field_inside : (len block i width : ℕ) {k : ℕ} → field_at len block i width ≡ accepted k → k + width ≤ len
unfolding field_at
field_inside len block i width {k} e = go (eqb i 0 || ltb len (block + 2 * (i - 1) + width)) refl e
  where
    fits : (b c : Bool) → b || c ≡ false → c ≡ false
    fits true c h = let z : ◌≡◌ {A = ℕ} 0 1 = cc in absurd (omega arith)
    fits false c h = h

    go : (b : Bool) → eqb i 0 || ltb len (block + 2 * (i - 1) + width) ≡ b
        → refuse b (kind 3 (nat i ∷ [])) (accepted (block + 2 * (i - 1))) ≡ accepted k → k + width ≤ len
    go true h q = let z : ◌≡◌ {A = ℕ} 0 1 = cc in absurd (omega arith)
    go false h q =
        let j : block + 2 * (i - 1) ≡ k = cc in
        omega (arith, ltb-false len (block + 2 * (i - 1) + width) (fits (eqb i 0) _ h))
