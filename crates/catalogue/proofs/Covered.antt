-- Which codes the table has. Assumes nothing.
use Rattle.std.proofs.Common.{◌≡◌, ℕ, Bool, true, false, cond, ◌||◌, eqb, List, [], ◌∷◌, map, ◌↔◌, ℤ, pos, negsuc, Option, Some, refl, subst, arith}
use Rattle.wire.specs.Products.{codes, known}
use Rattle.wire.specs.Text.{member}
use Rattle.catalogue.specs.declared.product.Product.{Product}
use Rattle.catalogue.specs.Catalogue.{table, entry_in, product_of}
use Rattle.catalogue.specs.Covered.{Covered}

abbrev Has : Option Product → Type 0
Has o = (p : Product) × (o ≡ Some p)

abbrev numbers : List (ℕ × Product) → List ℕ
numbers = map (λ (e : ℕ × Product). e.0)

has_entry : (l : List (ℕ × Product)) (n : ℕ) → (member n (numbers l) ≡ true) ↔ Has (entry_in l n)
unfolding entry_in
has_entry [] n = (λ e. absurd (let z : ◌≡◌ {A = ℕ} 0 1 = cc in omega arith), λ h. absurd (let z : ◌≡◌ {A = ℕ} 0 1 = cc in omega arith))
has_entry ((c, p) ∷ l) n = by (eqb c n) (has_entry l n)
  where
    by : (t : Bool) → (member n (numbers l) ≡ true) ↔ Has (entry_in l n) → ((t || member n (numbers l)) ≡ true) ↔ Has (cond t (Some p) (entry_in l n))
    by true h = (λ e. (p, refl), λ k. refl)
    by false h = h

codes_are : numbers table ≡ codes
unfolding table codes
codes_are = refl

of_table : {ks : List ℕ} → numbers table ≡ ks → (n : ℕ) → (member n ks ≡ true) ↔ Has (entry_in table n)
of_table e n = subst (λ ks. (member n ks ≡ true) ↔ Has (entry_in table n)) e (has_entry table n)

exactly : (code : ℤ) → (known code ≡ true) ↔ Has (product_of code)
unfolding known product_of
exactly (pos n) = of_table codes_are n
exactly (negsuc n) = (λ e. absurd (let z : ◌≡◌ {A = ℕ} 0 1 = cc in omega arith), λ h. absurd (let z : ◌≡◌ {A = ℕ} 0 1 = cc in omega arith))

pub covered : Covered
covered = record { codes_are = codes_are; exactly = exactly }
