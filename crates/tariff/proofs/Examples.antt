-- Worked examples, computed from the definitions: a charge, rounding, the bounds and the order of the refusals. Assumes nothing.
use Prim.Native.Nat.{ℕ}
use mathlib.Core.List.{List, [], ◌∷◌}
use mathlib.Core.Path.{◌≡◌, refl}
use Rattle.wire.specs.Products.{climbs}
use Rattle.wire.specs.Refusal.{kind}
use Rattle.wire.specs.Result.{Result, accepted, refused}
use Rattle.tariff.specs.declared.charge.Charge.{Charge}
use Rattle.tariff.specs.Tariff.{limit, well_formed, parts, products, sum, due, charge_of}

abbrev of : ℕ → ℕ → Result Charge
of charge remainder = accepted (record { charge = charge; remainder = remainder })

abbrev three : List ℕ
three = 100 ∷ 1000 ∷ limit ∷ []

abbrev nine : List ℕ
nine = 1 ∷ 2 ∷ 3 ∷ 4 ∷ 5 ∷ 6 ∷ 7 ∷ 8 ∷ limit ∷ []

pub record Examples : Type 0 where
  -- 100 units free, 900 at 50, 500 at 65,535
  pub bands : charge_of 1500 three (0 ∷ 50 ∷ 65535 ∷ []) ≡ of 32812 500
  pub nothing : charge_of 0 three (0 ∷ 50 ∷ 65535 ∷ []) ≡ of 0 0
  -- twice half a cent is a cent
  pub rounded_once : charge_of 2 (1 ∷ limit ∷ []) (500 ∷ 500 ∷ []) ≡ of 1 0
  -- a first end of 0 is a band that no total has a part in
  pub end_0 : charge_of 3000 (0 ∷ limit ∷ []) (9 ∷ 2 ∷ []) ≡ of 6 0
  pub most : charge_of limit (limit ∷ []) (65535 ∷ []) ≡ of 72056494526300 160
  pub over : charge_of 1099511627777 (limit ∷ []) (65535 ∷ []) ≡ refused (kind 41 [])
  pub malformed_first : charge_of 1099511627777 (limit ∷ []) (65536 ∷ []) ≡ refused (kind 40 [])
  pub no_band : charge_of 0 [] [] ≡ refused (kind 40 [])
  pub nine_bands : charge_of 0 nine nine ≡ refused (kind 40 [])
  pub no_rate : charge_of 0 (1 ∷ limit ∷ []) (1 ∷ []) ≡ refused (kind 40 [])
  pub equal_ends : charge_of 0 (1 ∷ limit ∷ limit ∷ []) (1 ∷ 1 ∷ 1 ∷ []) ≡ refused (kind 40 [])
  pub near_end : charge_of 0 (1099511627775 ∷ []) (1 ∷ []) ≡ refused (kind 40 [])

pub examples : Examples
unfolding charge_of well_formed climbs due parts products sum
examples =
    record {
      bands = refl;
      nothing = refl;
      rounded_once = refl;
      end_0 = refl;
      most = refl;
      over = refl;
      malformed_first = refl;
      no_band = refl;
      nine_bands = refl;
      no_rate = refl;
      equal_ends = refl;
      near_end = refl;
    }
