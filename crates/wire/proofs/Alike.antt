-- Byte strings of other lengths are not the same. Assumes nothing.
use Prim.Native.Nat.{ℕ, suc}
use mathlib.Core.List.{List, [], ◌∷◌}
use mathlib.Core.Path.{◌≡◌, refl, sym, ap, ◌∙◌}
use mathlib.Core.Bool.{false, ◌&&◌, and-false}
use lib.ListN.{length}
use lib.Dec.{eqb}
use Rattle.wire.specs.Text.{same}

pub unlike : (a b : List ℕ) → (length a ≡ length b → ⊥) → false ≡ same a b
unlike [] [] h = absurd (h refl)
unlike [] (y ∷ b) h = refl
unlike (x ∷ a) [] h = refl
unlike (x ∷ a) (y ∷ b) h = sym (and-false (eqb x y)) ∙ ap (λ b. eqb x y && b) (unlike a b (λ e. h (ap suc e)))
