-- The table's rule: one test over a whole list, and what it says of each entry. Assumes nothing.
use Prim.Native.Nat.{ℕ, zero, suc, ◌+◌, ◌<◌}
use native.Mathlib.Nat.{add-zero, zero-add, add-suc, suc-add, le_of_suc-le-suc, not-suc-le-zero}
use mathlib.Core.Bool.{Bool, true, false, cond, ◌&&◌}
use mathlib.Core.List.{List, [], ◌∷◌}
use mathlib.Core.Path.{◌≡◌, refl, sym, subst, ◌∙◌}
use lib.Dec.{eqb, ltb}
use lib.ListN.{length, get_or}
use borrow.Author.Tests.{eqb-true, ltb-true}
use Rattle.wire.proofs.Codes.{both}
use Rattle.calendar.specs.Calendar.{start, year_of, month_of, month_length}

-- the first entry is s, and each next is larger by the length of the month before it; the first is of month k
unfoldable pub follows : ℕ → ℕ → List ℕ → Bool
follows k s [] = true
follows k s (x ∷ xs) = eqb x s && follows (suc k) (s + month_length (year_of k) (month_of k)) xs

from : (xs : List ℕ) (k : ℕ) → follows k (start k) xs ≡ true → (i d : ℕ) → i < length xs → get_or xs i d ≡ start (k + i)
unfolding follows start
from [] k t i d h = absurd (not-suc-le-zero h)
from (x ∷ xs) k t zero d h = subst (λ (m : ℕ). x ≡ start m) (sym (add-zero k)) (eqb-true x (start k) (both (eqb x (start k)) _ t).0)
from (x ∷ xs) k t (suc i) d h =
    subst (λ (m : ℕ). get_or xs i d ≡ start m) (suc-add k i ∙ sym (add-suc k i))
    (from xs (suc k) (both (eqb x (start k)) _ t).1 i d (le_of_suc-le-suc h))

pub entry : (xs : List ℕ) → follows 0 1 xs ≡ true → (k d : ℕ) → k < length xs → get_or xs k d ≡ start k
unfolding start
entry xs t k d h = subst (λ (m : ℕ). get_or xs k d ≡ start m) (zero-add k) (from xs 0 t k d h)

chosen : {b : Bool} {x y : ℕ} → (b ≡ true → x ≡ y) → x ≡ cond b y x
chosen {b = true} h = h refl
chosen {b = false} h = refl

-- The same as a rewriting: an entry of a list that passes the test is the start of its month.
pub by_rule : (xs : List ℕ) (k : ℕ) → get_or xs k 0 ≡ cond (follows 0 1 xs && ltb k (length xs)) (start k) (get_or xs k 0)
by_rule xs k =
    chosen (λ t. let h = both (follows 0 1 xs) (ltb k (length xs)) t in entry xs h.0 k 0 (ltb-true k (length xs) h.1))
