use Rattle.std.proofs.Common.{rules, ap₂, ap, ◌∙◌, to_z-of_z, w32}
use Rattle.wire.proofs.Results.{returned}
use Rattle.wire.specs.declared.error.XdrItem.TheVariants as Item
use Rattle.xdr.specs.Xdr as Xdr
use Rattle.xdr.specs.Xdr.{pass, int, string, array_count, at_least0, counted, parameter}
use Rattle.xdr.proofs.Chains.{given, go_on, go_no, by_on, by_no}
use Rattle.symbology.specs.Symbology.{xdr_frame}
use Rattle.symbology.proofs.XdrFrames.{tests_no, tests_on}
use Rattle.symbology.proofs.generic.xdr_frame.Goals as goal

pub returns-in_err-azimuth : goal.returns-in_err-azimuth
unfolding xdr_frame
returns-in_err-azimuth c = rw (returned c.from_residual.ensures.1) (go_no Xdr.float _ c.in_err-azimuth.ensures)

pub returns-in_err-skip : goal.returns-in_err-skip
unfolding xdr_frame
returns-in_err-skip c = rw (returned c.from_residual-in_err-skip.ensures.1) (go_on Xdr.float _ c.in_ok-azimuth.ensures (by_no (pass Item.Float 4) _ c.in_err-skip.ensures))

pub returns-in_err-width : goal.returns-in_err-width
unfolding xdr_frame
returns-in_err-width c = rw (returned c.from_residual-in_err-width.ensures.1) (go_on Xdr.float _ c.in_ok-azimuth.ensures (by_on (pass Item.Float 4) _ c.in_ok-skip.ensures (go_no Xdr.float _ c.in_err-width.ensures)))

pub returns-in_err-num_bins : goal.returns-in_err-num_bins
unfolding xdr_frame
returns-in_err-num_bins c = rw (returned c.from_residual-in_err-num_bins.ensures.1) (go_on Xdr.float _ c.in_ok-azimuth.ensures (by_on (pass Item.Float 4) _ c.in_ok-skip.ensures (go_on Xdr.float _ c.in_ok-width.ensures (go_no int _ c.in_err-num_bins.ensures))))

pub returns-in_err-skip_string : goal.returns-in_err-skip_string
unfolding xdr_frame
returns-in_err-skip_string c = rw (returned c.from_residual-in_err-skip_string.ensures.1) (go_on Xdr.float _ c.in_ok-azimuth.ensures (by_on (pass Item.Float 4) _ c.in_ok-skip.ensures (go_on Xdr.float _ c.in_ok-width.ensures (go_on int _ c.in_ok-num_bins.ensures (by_no string _ c.in_err-skip_string.ensures)))))

pub returns-in_err-declared : goal.returns-in_err-declared
unfolding xdr_frame
returns-in_err-declared c = rw (returned c.from_residual-in_err-declared.ensures.1) (go_on Xdr.float _ c.in_ok-azimuth.ensures (by_on (pass Item.Float 4) _ c.in_ok-skip.ensures (go_on Xdr.float _ c.in_ok-width.ensures (go_on int _ c.in_ok-num_bins.ensures (by_on string _ c.in_ok-skip_string.ensures (go_no array_count _ c.in_err-declared.ensures))))))

pub returns-in_err-test_frame : goal.returns-in_err-test_frame
unfolding xdr_frame
returns-in_err-test_frame c = rw (returned c.from_residual-in_err-test_frame.ensures.1) (go_on Xdr.float _ c.in_ok-azimuth.ensures (by_on (pass Item.Float 4) _ c.in_ok-skip.ensures (go_on Xdr.float _ c.in_ok-width.ensures (go_on int _ c.in_ok-num_bins.ensures (by_on string _ c.in_ok-skip_string.ensures (go_on array_count _ c.in_ok-declared.ensures (tests_no _ _ _ c.args.radials.n_bins _ _ (rw (to_z-of_z {w = w32} {z = c.in_ok-num_bins.num_bins} (search rules)) at (c.in_err-test_frame.ensures c.array_count.new.self.pos)))))))))

pub returns : goal.returns
unfolding xdr_frame
returns c = go_on Xdr.float _ c.in_ok-azimuth.ensures (by_on (pass Item.Float 4) _ c.in_ok-skip.ensures (go_on Xdr.float _ c.in_ok-width.ensures (go_on int _ c.in_ok-num_bins.ensures (by_on string _ c.in_ok-skip_string.ensures (go_on array_count _ c.in_ok-declared.ensures (tests_on _ _ _ c.args.radials.n_bins _ _ (rw (to_z-of_z {w = w32} {z = c.in_ok-num_bins.num_bins} (search rules)) at (c.in_ok-test_frame.ensures c.array_count.new.self.pos)) (given (ap₂ (λ a n. record { centre = a; bins = n }) c.azimuth_centre_28-centre.ensures (c.at_least_0-bins.ensures.0 ∙ ap at_least0 (to_z-of_z {w = w32} {z = c.in_ok-num_bins.num_bins} (search rules)))))))))))
