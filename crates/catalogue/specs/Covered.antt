-- Which codes the table has.
use Rattle.std.specs.Prelude.{ℕ, map, true, ◌↔◌, ◌≡◌, ℤ, Some}
use Rattle.wire.specs.Products.{codes, known}
use Rattle.catalogue.specs.declared.product.Product.{Product}
use Rattle.catalogue.specs.Catalogue.{table, product_of}

pub record Covered : Type 0 where
  -- each known code once, ascending, and no other
  pub codes_are : map (λ (e : ℕ × Product). e.0) table ≡ codes
  -- a code has a product exactly if it is known
  pub exactly : (code : ℤ) → (known code ≡ true) ↔ ((p : Product) × (product_of code ≡ Some p))
