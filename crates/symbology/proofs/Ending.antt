-- The bytes after the body, once the zero bytes at their end are trimmed. Assumes nothing.
use Rattle.std.proofs.Common.{◌≡◌, ℕ, Bool, true, false, ◌&&◌, eqb, List, [], ◌∷◌, length, take, sym, refl, ap, ◌∙◌, ap₂, eqb-true}
use mathlib.Core.Bool.{false≢true}
use Rattle.wire.specs.Refusal.{kind, nat}
use Rattle.wire.specs.Result.{accepted, refused}
use Rattle.wire.specs.Text.{same, is_zero, trim_end}
use Rattle.wire.proofs.Alike.{unlike}
use Rattle.wire.proofs.Ends.{trim_front_lem}
use Rattle.symbology.specs.Trailing.{ending, trailing}

-- the same bytes are the same list
same_is : (a b : List ℕ) → same a b ≡ true → a ≡ b
same_is [] [] h = refl
same_is [] (y ∷ b) h = absurd (false≢true h)
same_is (x ∷ a) [] h = absurd (false≢true h)
same_is (x ∷ a) (y ∷ b) h = go (eqb x y) refl h (same_is a b)
  where
    go : (t : Bool) → eqb x y ≡ t → t && same a b ≡ true → (same a b ≡ true → a ≡ b) → x ∷ a ≡ y ∷ b
    go true e h later = ap₂ ◌∷◌ (eqb-true x y e) (later h)
    go false e h later = absurd (false≢true h)

-- n bytes are left
module _ (s : List ℕ) (n : ℕ) (long : n ≡ length (trim_end is_zero s)) where
  part : trim_end is_zero s ≡ take n s
  part = sym (ap (λ k. take k s) long ∙ trim_front_lem is_zero s)

  pub part_long : n ≡ length (take n s)
  part_long = long ∙ ap length part

  pub ends_as : (t : List ℕ) → ending t ≡ true → same (take n s) t ≡ true → accepted tt ≡ trailing s
  unfolding trailing
  ends_as t e h = rw (part, same_is (take n s) t h, e)

  pub ends_other : (n ≡ 0 → ⊥) → same (take n s) (3 ∷ []) ≡ false → same (take n s) (13 ∷ 13 ∷ 10 ∷ 3 ∷ []) ≡ false
      → refused (kind 11 (nat n ∷ [])) ≡ trailing s
  unfolding trailing
  ends_other z a b = rw (part, a, b, sym (unlike (take n s) [] (λ e. z (part_long ∙ e))), ← part_long)
