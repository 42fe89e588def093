use Rattle.wire.proofs.Results.{returned}
use Rattle.std.proofs.Common.{◌≡◌, arith, ◌∙◌, to_z-of_z, w16, rules}
use Rattle.symbology.proofs.Bodies.{plots_as, code_at, body_refused, body_16, body_af1f, body_28, body_unknown}
use Rattle.symbology.proofs.Walking.{no28, no28'}
use Rattle.symbology.proofs.symbology.plan.Goals as goal

pub returns-in_err-code : goal.returns-in_err-code
returns-in_err-code c = rw (returned c.from_residual.ensures.1) (body_refused _ _ c.in_err-code.ensures)

pub plan_radial_packet-requires : goal.plan_radial_packet-requires
plan_radial_packet-requires c = ((code_at _ c.in_ok-code.ensures).0, no28)

pub returns-in-16 : goal.returns-in-16
returns-in-16 c = plots_as _ _ _ (body_16 _ _ c.in_ok-code.ensures c.in-16.is) c.plan_radial_packet.ensures

pub plan_radial_packet-requires-in-44831 : goal.plan_radial_packet-requires-in-44831
plan_radial_packet-requires-in-44831 c = ((code_at _ c.in_ok-code.ensures).0, no28')

pub returns-in-44831 : goal.returns-in-44831
returns-in-44831 c = let ne : c.in_ok-code.code ≡ 16 → ⊥ = omega (arith, c.in-44831.is) in plots_as _ _ _ (body_af1f _ _ c.in_ok-code.ensures ne c.in-44831.is) c.plan_radial_packet-in-44831.ensures

pub plan_generic_packet-requires : goal.plan_generic_packet-requires
plan_generic_packet-requires c = (code_at _ c.in_ok-code.ensures).0

pub returns-in-28 : goal.returns-in-28
returns-in-28 c =
    let ne : c.in_ok-code.code ≡ 16 → ⊥ = omega (arith, c.in-28.is) in
    let ne' : c.in_ok-code.code ≡ 44831 → ⊥ = omega (arith, c.in-28.is) in
    plots_as _ _ _ (body_28 _ _ c.in_ok-code.ensures ne ne' c.in-28.is) c.plan_generic_packet.ensures

pub returns-in_default : goal.returns-in_default
returns-in_default c = body_unknown _ _ c.in_ok-code.ensures (search rules) (search rules) (search rules) (to_z-of_z {w = w16} {z = c.as_i16.result} (search rules) ∙ c.as_i16.ensures)
