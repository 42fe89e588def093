-- The order of the tests with a plan, on small inputs each of which fails several of them. And plans that are accepted.
use Rattle.std.specs.Prelude.{ℕ, List, [], ◌∷◌, ◌++◌, ◌≡◌, replicate}
use Rattle.wire.specs.Float.{f32}
use Rattle.wire.specs.Refusal.{kind, nat, buffer}
use Rattle.wire.specs.Result.{accepted, refused, then}
use Rattle.wire.specs.declared.error.Buffer.TheVariants as Buffer
use Rattle.scale.specs.declared.physical.Scheme.{Scheme}
use Rattle.symbology.specs.Table.{two, no_radials}
use Rattle.sweep.specs.Order.{up_to21, product, body16}
use Rattle.fields.specs.Fields.{totals_of}

-- scale 1, offset 0 (fields 22 to 25), largest 255, leading 2, trailing 0 (27 to 29): the valid codes are 2 to 255
abbrev pub rain : List ℕ
rain = up_to21 1 ++ (63 ∷ 128 ∷ 0 ∷ 0 ∷ []) ++ replicate 6 0 ++ two 255 ++ two 2 ++ two 0

abbrev pub precipitation : Scheme
precipitation = Scheme.Precipitation (f32 1 1)

-- field 7; a strip of radial r, from gate 0 on, two gates, weight 3
abbrev pub field7 : List ℕ
field7 = 1 ∷ 0 ∷ 2 ∷ 0 ∷ 7 ∷ []

abbrev pub strip : ℕ → List ℕ
strip r = 2 ∷ 0 ∷ 8 ∷ 0 ∷ r ∷ 0 ∷ 0 ∷ 0 ∷ 2 ∷ 0 ∷ 3 ∷ []

pub record Order : Type 0 where
  -- another scheme, a step of 0, no room and no plan: 10
  pub scheme_first : totals_of Scheme.Halfword product 0 body16 (0 ∷ []) 0 0 0 0 ≡ refused (kind 10 [])
  -- a short body under another scheme: 12
  pub body_before_scheme : totals_of Scheme.Class product 0 (replicate 17 0) [] 0 0 0 0 ≡ refused (kind 12 (nat 17 ∷ []))
  -- no room for the picture, and no plan: 36 of the sweep
  pub sweep_before_plan : totals_of precipitation rain 0 body16 (0 ∷ []) 1 2 1 0 ≡ refused (kind 36 (buffer Buffer.Physical ∷ []))
  -- a field twice, a strip outside, and a byte too many: 37 with the byte's offset
  pub malformed_first : totals_of precipitation rain 0 body16 (field7 ++ strip 1 ++ field7 ++ (1 ∷ [])) 1 2 2 0 ≡ refused (kind 37 (nat 21 ∷ []))
  -- without the byte: 38 with the second field's offset
  pub repeated_next : totals_of precipitation rain 0 body16 (field7 ++ strip 1 ++ field7) 1 2 2 0 ≡ refused (kind 38 (nat 16 ∷ []))
  -- without the second field, and no room for totals: 39 with the strip's offset
  pub outside_next : totals_of precipitation rain 0 body16 (field7 ++ strip 1) 1 2 2 0 ≡ refused (kind 39 (nat 5 ∷ []))
  -- inside the grid: 36
  pub totals_last : totals_of precipitation rain 0 body16 (field7 ++ strip 0) 1 2 2 0 ≡ refused (kind 36 (buffer Buffer.Totals ∷ []))
  -- room enough: the codes 7 and 9 count 5 and 7, three times
  pub all_passed : then (totals_of precipitation rain 0 body16 (field7 ++ strip 0) 1 2 2 1) (λ t. accepted t.totals) ≡ accepted (36 ∷ [])
  -- a clear scan, with no room for a picture: a strip is 39, also where there is no room for totals; a field has the total 0
  pub clear_strip : totals_of precipitation rain 0 (no_radials 16 0 5 []) (field7 ++ strip 0) 0 0 0 0 ≡ refused (kind 39 (nat 5 ∷ []))
  pub clear_fields : then (totals_of precipitation rain 0 (no_radials 0xAF1F 0 5 []) field7 0 0 0 1) (λ t. accepted t.totals) ≡ accepted (0 ∷ [])
