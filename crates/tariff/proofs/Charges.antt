-- Rain charges are as the request has them (specs/Charges.antt). Assumes nothing.
use Prim.Native.Nat.{ℕ, ◌/◌, ◌%◌, ◌≤◌}
use native.Mathlib.Nat.{div-add-mod'}
use native.Mathlib.Omega.{arith}
use mathlib.Core.Bool.{Bool, true, false, not}
use mathlib.Core.List.{List}
use mathlib.Core.Path.{◌≡◌, refl, sym, ap, ◌∙◌}
use lib.Dec.{ltb}
use lib.ListN.{length}
use borrow.Author.Tests.{le-leb, ltb-false, eq-eqb}
use Rattle.wire.specs.Result.{accepted, answer}
use Rattle.wire.proofs.Codes.{climbing}
use Rattle.wire.proofs.Every.{all_of}
use Rattle.wire.proofs.Results.{one_value, passed}
use Rattle.tariff.specs.declared.charge.Charge.{Charge}
use Rattle.tariff.specs.Tariff.{limit, last_of, is_rate, well_formed, band_products, due, charge_of}
use Rattle.tariff.specs.Charges.{Tariff, Charged, Charges}
use Rattle.tariff.proofs.Dues.{is_tariff, parts_whole, due_grows, due_bound, one_of, first_of_lem, malformed, too_large, charged}

-- the test passes exactly for a tariff
formed : (ends rates : List ℕ) → Tariff ends rates → well_formed ends rates ≡ true
unfolding well_formed
formed ends rates t =
    rw (
      le-leb 1 (length ends) t.some,
      le-leb (length ends) 8 t.few,
      eq-eqb (length ends) (length rates) t.equal,
      climbing ends t.ascending,
      le-leb limit (last_of ends) t.far,
    )
    (all_of is_rate rates (λ k l. le-leb _ _ (t.low k)))

unformed : (ends rates : List ℕ) (b : Bool) → well_formed ends rates ≡ b → (Tariff ends rates → ⊥) → well_formed ends rates ≡ false
unformed ends rates true e n = absurd (n (is_tariff ends rates e))
unformed ends rates false e n = e

-- what an acceptance shows
record Given (total : ℕ) (ends rates : List ℕ) (c : Charge) : Type 0 where
  well : well_formed ends rates ≡ true
  small : total ≤ limit
  its_charge : c.charge ≡ due total ends rates / 1000
  its_remainder : c.remainder ≡ due total ends rates % 1000

not_not : (b : Bool) → not b ≡ false → b ≡ true
not_not true e = refl
not_not false e = sym e

given : (total : ℕ) (ends rates : List ℕ) (c : Charge) → charge_of total ends rates ≡ accepted c → Given total ends rates c
unfolding charge_of
given total ends rates c e =
    passed (not (well_formed ends rates)) _ _ c e λ w e₁.
    passed (ltb limit total) _ _ c e₁ λ l e₂.
    record {
      well = not_not (well_formed ends rates) w;
      small = ltb-false _ _ l;
      its_charge = ap (λ (x : Charge). x.charge) (sym (one_value e₂));
      its_remainder = ap (λ (x : Charge). x.remainder) (sym (one_value e₂));
    }

is_charged : (total : ℕ) (ends rates : List ℕ) (c : Charge) → charge_of total ends rates ≡ accepted c → Charged total ends rates c
unfolding due
is_charged total ends rates c e =
    let g = given total ends rates c e in
    let b = due_bound total ends rates g.well g.small in
    record {
      whole = rw (g.its_charge, g.its_remainder) (div-add-mod' _ 1000);
      below = omega (arith, g.its_remainder);
      add_up = parts_whole total ends rates g.well g.small;
      product_fits = λ k. omega (arith, b, one_of (band_products total ends rates) k);
      sum_fits = λ k. omega (arith, b, first_of_lem (band_products total ends rates) k);
    }

never_less : (s t : ℕ) (ends rates : List ℕ) (c d : Charge) → charge_of s ends rates ≡ accepted c → charge_of t ends rates ≡ accepted d → s ≤ t
    → c.charge ≤ d.charge
never_less s t ends rates c d e f h =
    omega (arith, (given s ends rates c e).its_charge, (given t ends rates d f).its_charge, due_grows ends rates h)

pub charges : Charges
charges =
    record {
      malformed = λ total ends rates n. sym (malformed total ends rates (sym (unformed ends rates (well_formed ends rates) refl n)) refl);
      too_large = λ total ends rates t l. sym (too_large total ends rates (sym (formed ends rates t)) refl l);
      taken = λ total ends rates t l. (_, sym (charged total ends rates (sym (formed ends rates t)) refl l refl));
      charged = is_charged;
      never_less = λ s t ends rates q r e f h c d p o.
          never_less s t ends rates c d (sym e ∙ ap answer p) (sym f ∙ ap answer o) h;
    }
