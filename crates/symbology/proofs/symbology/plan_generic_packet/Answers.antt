use Rattle.wire.proofs.Results.{returned}
use Rattle.std.proofs.Common.{◌∙◌, to_z-of_z, w32, rules}
use Rattle.symbology.proofs.Bodies.{generic_cut, generic_short, generic_inside, generic_refused, generic_plotted}
use Rattle.symbology.proofs.symbology.plan_generic_packet.Goals as goal

pub returns-then-len-lt24 : goal.returns-then-len-lt24
returns-then-len-lt24 c = generic_cut _ _ c.requires c.if-len-lt24.true

pub returns-then-is_body_short : goal.returns-then-is_body_short
returns-then-is_body_short c = generic_short _ c.if-len-lt24.false (to_z-of_z {w = w32} {z = c.i32_at-size.result} (search rules) ∙ c.i32_at-size.ensures) c.at_least_0-need.ensures.0 c.is_body_short.ensures _ c.if-is_body_short.true

pub slice_bounds-read_payload-end : goal.slice_bounds-read_payload-end
slice_bounds-read_payload-end c = generic_inside _ c.if-len-lt24.false (to_z-of_z {w = w32} {z = c.i32_at-size.result} (search rules) ∙ c.i32_at-size.ensures) c.at_least_0-need.ensures.0 c.is_body_short.ensures c.if-is_body_short.false

pub returns-in_err-plan : goal.returns-in_err-plan
returns-in_err-plan c = rw (returned c.from_residual.ensures.1) (generic_refused _ c.if-len-lt24.false (to_z-of_z {w = w32} {z = c.i32_at-size.result} (search rules) ∙ c.i32_at-size.ensures) c.at_least_0-need.ensures.0 c.is_body_short.ensures c.if-is_body_short.false c.type_inv.body _ c.in_err-plan.ensures)

pub returns : goal.returns
returns c = rw c.in_part.ensures (generic_plotted _ c.if-len-lt24.false (to_z-of_z {w = w32} {z = c.i32_at-size.result} (search rules) ∙ c.i32_at-size.ensures) c.at_least_0-need.ensures.0 c.is_body_short.ensures c.if-is_body_short.false c.type_inv.body _ c.in_ok-plan.ensures)
