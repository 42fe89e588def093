use Rattle.std.proofs.Common.{rules, sym, ap, ◌∙◌, to_z-of_z, w32}
use Rattle.wire.proofs.Results.{returned}
use Rattle.xdr.specs.Xdr as Xdr
use Rattle.xdr.specs.Xdr.{pass, int, string, array_count, at_least0, counted, parameter}
use Rattle.xdr.proofs.Chains.{given, go_on, go_no, by_on, by_no, past_on, past_no, let_on, let_no}
use Rattle.std.proofs.Common.{◌≡◌, ℕ, true, false, not, eqb, [], ◌∷◌, eq-eqb, ne_eqb}
use Rattle.wire.specs.Refusal.{kind, nat, whole}
use Rattle.symbology.specs.Symbology.{component_head}
use Rattle.symbology.proofs.generic.component_head.Goals as goal

kind_right : {n m : ℕ} → n ≡ m → n ≡ 1 → not (eqb m 1) ≡ false
kind_right e h = ap not (eq-eqb _ _ (sym e ∙ h))

kind_wrong : {n m : ℕ} → n ≡ m → (n ≡ 1 → ⊥) → not (eqb m 1) ≡ true
kind_wrong e h = ap not (ne_eqb _ _ (λ q. h (e ∙ q)))

pub returns-in_err-kind : goal.returns-in_err-kind
unfolding component_head
returns-in_err-kind c = rw (returned c.from_residual.ensures.1) (go_no int _ c.in_err-kind.ensures)

pub returns-then-at_least_0-ne-RADIAL_COMPONENT_TYPE : goal.returns-then-at_least_0-ne-RADIAL_COMPONENT_TYPE
unfolding component_head
returns-then-at_least_0-ne-RADIAL_COMPONENT_TYPE c = go_on int _ c.in_ok-kind.ensures (let_no _ _ (kind_wrong (c.at_least_0.ensures.0 ∙ ap at_least0 (to_z-of_z {w = w32} {z = c.in_ok-kind.kind} (search rules))) c.if-at_least_0-ne-RADIAL_COMPONENT_TYPE.true) (ap (λ z. kind 27 (whole z ∷ [])) (to_z-of_z {w = w32} {z = c.in_ok-kind.kind} (search rules))))

pub returns-in_err-skip_string : goal.returns-in_err-skip_string
unfolding component_head
returns-in_err-skip_string c = rw (returned c.from_residual-in_err-skip_string.ensures.1) (go_on int _ c.in_ok-kind.ensures (let_on _ _ (kind_right (c.at_least_0.ensures.0 ∙ ap at_least0 (to_z-of_z {w = w32} {z = c.in_ok-kind.kind} (search rules))) c.if-at_least_0-ne-RADIAL_COMPONENT_TYPE.false) (by_no string _ c.in_err-skip_string.ensures)))

pub returns-in_err-gate_width : goal.returns-in_err-gate_width
unfolding component_head
returns-in_err-gate_width c = rw (returned c.from_residual-in_err-gate_width.ensures.1) (go_on int _ c.in_ok-kind.ensures (let_on _ _ (kind_right (c.at_least_0.ensures.0 ∙ ap at_least0 (to_z-of_z {w = w32} {z = c.in_ok-kind.kind} (search rules))) c.if-at_least_0-ne-RADIAL_COMPONENT_TYPE.false) (by_on string _ c.in_ok-skip_string.ensures (go_no Xdr.float _ c.in_err-gate_width.ensures))))

pub returns-in_err-first_gate : goal.returns-in_err-first_gate
unfolding component_head
returns-in_err-first_gate c = rw (returned c.from_residual-in_err-first_gate.ensures.1) (go_on int _ c.in_ok-kind.ensures (let_on _ _ (kind_right (c.at_least_0.ensures.0 ∙ ap at_least0 (to_z-of_z {w = w32} {z = c.in_ok-kind.kind} (search rules))) c.if-at_least_0-ne-RADIAL_COMPONENT_TYPE.false) (by_on string _ c.in_ok-skip_string.ensures (go_on Xdr.float _ c.in_ok-gate_width.ensures (go_no Xdr.float _ c.in_err-first_gate.ensures)))))

pub returns-in_err-skip_parameters : goal.returns-in_err-skip_parameters
unfolding component_head
returns-in_err-skip_parameters c = rw (returned c.from_residual-in_err-skip_parameters.ensures.1) (go_on int _ c.in_ok-kind.ensures (let_on _ _ (kind_right (c.at_least_0.ensures.0 ∙ ap at_least0 (to_z-of_z {w = w32} {z = c.in_ok-kind.kind} (search rules))) c.if-at_least_0-ne-RADIAL_COMPONENT_TYPE.false) (by_on string _ c.in_ok-skip_string.ensures (go_on Xdr.float _ c.in_ok-gate_width.ensures (go_on Xdr.float _ c.in_ok-first_gate.ensures (past_no (counted parameter) _ c.in_err-skip_parameters.ensures))))))

pub returns-in_err-num_rads : goal.returns-in_err-num_rads
unfolding component_head
returns-in_err-num_rads c = rw (returned c.from_residual-in_err-num_rads.ensures.1) (go_on int _ c.in_ok-kind.ensures (let_on _ _ (kind_right (c.at_least_0.ensures.0 ∙ ap at_least0 (to_z-of_z {w = w32} {z = c.in_ok-kind.kind} (search rules))) c.if-at_least_0-ne-RADIAL_COMPONENT_TYPE.false) (by_on string _ c.in_ok-skip_string.ensures (go_on Xdr.float _ c.in_ok-gate_width.ensures (go_on Xdr.float _ c.in_ok-first_gate.ensures (past_on (counted parameter) _ c.in_ok-skip_parameters.ensures (go_no int _ c.in_err-num_rads.ensures)))))))

pub returns-then-num_rads-le0 : goal.returns-then-num_rads-le0
unfolding component_head
returns-then-num_rads-le0 c = go_on int _ c.in_ok-kind.ensures (let_on _ _ (kind_right (c.at_least_0.ensures.0 ∙ ap at_least0 (to_z-of_z {w = w32} {z = c.in_ok-kind.kind} (search rules))) c.if-at_least_0-ne-RADIAL_COMPONENT_TYPE.false) (by_on string _ c.in_ok-skip_string.ensures (go_on Xdr.float _ c.in_ok-gate_width.ensures (go_on Xdr.float _ c.in_ok-first_gate.ensures (past_on (counted parameter) _ c.in_ok-skip_parameters.ensures (go_on int _ c.in_ok-num_rads.ensures (let_no _ _ (rw (to_z-of_z {w = w32} {z = c.in_ok-num_rads.num_rads} (search rules)) at c.if-num_rads-le0.true) (ap (λ z. kind 29 (whole z ∷ nat 0 ∷ [])) (to_z-of_z {w = w32} {z = c.in_ok-num_rads.num_rads} (search rules))))))))))

pub returns-then-num_rads-gt-MAX_XDR_RADIALS : goal.returns-then-num_rads-gt-MAX_XDR_RADIALS
unfolding component_head
returns-then-num_rads-gt-MAX_XDR_RADIALS c = go_on int _ c.in_ok-kind.ensures (let_on _ _ (kind_right (c.at_least_0.ensures.0 ∙ ap at_least0 (to_z-of_z {w = w32} {z = c.in_ok-kind.kind} (search rules))) c.if-at_least_0-ne-RADIAL_COMPONENT_TYPE.false) (by_on string _ c.in_ok-skip_string.ensures (go_on Xdr.float _ c.in_ok-gate_width.ensures (go_on Xdr.float _ c.in_ok-first_gate.ensures (past_on (counted parameter) _ c.in_ok-skip_parameters.ensures (go_on int _ c.in_ok-num_rads.ensures (let_on _ _ (rw (to_z-of_z {w = w32} {z = c.in_ok-num_rads.num_rads} (search rules)) at c.if-num_rads-le0.false) (let_no _ _ (rw (to_z-of_z {w = w32} {z = c.in_ok-num_rads.num_rads} (search rules)) at c.if-num_rads-gt-MAX_XDR_RADIALS.true) (ap (λ z. kind 30 (whole z ∷ nat 100000 ∷ [])) (to_z-of_z {w = w32} {z = c.in_ok-num_rads.num_rads} (search rules)))))))))))

pub returns : goal.returns
unfolding component_head
returns c = go_on int _ c.in_ok-kind.ensures (let_on _ _ (kind_right (c.at_least_0.ensures.0 ∙ ap at_least0 (to_z-of_z {w = w32} {z = c.in_ok-kind.kind} (search rules))) c.if-at_least_0-ne-RADIAL_COMPONENT_TYPE.false) (by_on string _ c.in_ok-skip_string.ensures (go_on Xdr.float _ c.in_ok-gate_width.ensures (go_on Xdr.float _ c.in_ok-first_gate.ensures (past_on (counted parameter) _ c.in_ok-skip_parameters.ensures (go_on int _ c.in_ok-num_rads.ensures (let_on _ _ (rw (to_z-of_z {w = w32} {z = c.in_ok-num_rads.num_rads} (search rules)) at c.if-num_rads-le0.false) (let_on _ _ (rw (to_z-of_z {w = w32} {z = c.in_ok-num_rads.num_rads} (search rules)) at c.if-num_rads-gt-MAX_XDR_RADIALS.false) (given (ap (λ n. record { radials = n; gate_width = c.in_ok-gate_width.gate_width; first_gate = c.in_ok-first_gate.first_gate }) (c.at_least_0-radials.ensures.0 ∙ ap at_least0 (to_z-of_z {w = w32} {z = c.in_ok-num_rads.num_rads} (search rules)))))))))))))
