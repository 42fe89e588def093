use Rattle.wire.proofs.Results.{returned}
use Rattle.wire.specs.declared.error.XdrItem.TheVariants as Item
use Rattle.xdr.specs.Xdr.{pass, string, counted, parameter}
use Rattle.xdr.proofs.Chains.{by_on, by_no, end_given}
use Rattle.symbology.specs.Symbology.{product_block}
use Rattle.symbology.proofs.generic.product_block.Goals as goal

pub returns-in_err-skip_string : goal.returns-in_err-skip_string
unfolding product_block
returns-in_err-skip_string c = rw (returned c.from_residual.ensures.1) (by_no (string) _ c.in_err-skip_string.ensures)

pub returns-in_err-skip_string-2 : goal.returns-in_err-skip_string-2
unfolding product_block
returns-in_err-skip_string-2 c = rw (returned c.from_residual-in_err-skip_string-2.ensures.1) (by_on (string) _ c.in_ok-skip_string.ensures (by_no (string) _ c.in_err-skip_string-2.ensures))

pub returns-in_err-skip : goal.returns-in_err-skip
unfolding product_block
returns-in_err-skip c = rw (returned c.from_residual-in_err-skip.ensures.1) (by_on (string) _ c.in_ok-skip_string.ensures (by_on (string) _ c.in_ok-skip_string-2.ensures (by_no (pass Item.Int 4) _ c.in_err-skip.ensures)))

pub returns-in_err-skip-2 : goal.returns-in_err-skip-2
unfolding product_block
returns-in_err-skip-2 c = rw (returned c.from_residual-in_err-skip-2.ensures.1) (by_on (string) _ c.in_ok-skip_string.ensures (by_on (string) _ c.in_ok-skip_string-2.ensures (by_on (pass Item.Int 4) _ c.in_ok-skip.ensures (by_no (pass Item.Int 4) _ c.in_err-skip-2.ensures))))

pub returns-in_err-skip-3 : goal.returns-in_err-skip-3
unfolding product_block
returns-in_err-skip-3 c = rw (returned c.from_residual-in_err-skip-3.ensures.1) (by_on (string) _ c.in_ok-skip_string.ensures (by_on (string) _ c.in_ok-skip_string-2.ensures (by_on (pass Item.Int 4) _ c.in_ok-skip.ensures (by_on (pass Item.Int 4) _ c.in_ok-skip-2.ensures (by_no (pass Item.Uint 4) _ c.in_err-skip-3.ensures)))))

pub returns-in_err-skip_string-3 : goal.returns-in_err-skip_string-3
unfolding product_block
returns-in_err-skip_string-3 c = rw (returned c.from_residual-in_err-skip_string-3.ensures.1) (by_on (string) _ c.in_ok-skip_string.ensures (by_on (string) _ c.in_ok-skip_string-2.ensures (by_on (pass Item.Int 4) _ c.in_ok-skip.ensures (by_on (pass Item.Int 4) _ c.in_ok-skip-2.ensures (by_on (pass Item.Uint 4) _ c.in_ok-skip-3.ensures (by_no (string) _ c.in_err-skip_string-3.ensures))))))

pub returns-in_err-skip-4 : goal.returns-in_err-skip-4
unfolding product_block
returns-in_err-skip-4 c = rw (returned c.from_residual-in_err-skip-4.ensures.1) (by_on (string) _ c.in_ok-skip_string.ensures (by_on (string) _ c.in_ok-skip_string-2.ensures (by_on (pass Item.Int 4) _ c.in_ok-skip.ensures (by_on (pass Item.Int 4) _ c.in_ok-skip-2.ensures (by_on (pass Item.Uint 4) _ c.in_ok-skip-3.ensures (by_on (string) _ c.in_ok-skip_string-3.ensures (by_no (pass Item.Float 4) _ c.in_err-skip-4.ensures)))))))

pub returns-in_err-skip-5 : goal.returns-in_err-skip-5
unfolding product_block
returns-in_err-skip-5 c = rw (returned c.from_residual-in_err-skip-5.ensures.1) (by_on (string) _ c.in_ok-skip_string.ensures (by_on (string) _ c.in_ok-skip_string-2.ensures (by_on (pass Item.Int 4) _ c.in_ok-skip.ensures (by_on (pass Item.Int 4) _ c.in_ok-skip-2.ensures (by_on (pass Item.Uint 4) _ c.in_ok-skip-3.ensures (by_on (string) _ c.in_ok-skip_string-3.ensures (by_on (pass Item.Float 4) _ c.in_ok-skip-4.ensures (by_no (pass Item.Float 4) _ c.in_err-skip-5.ensures))))))))

pub returns-in_err-skip-6 : goal.returns-in_err-skip-6
unfolding product_block
returns-in_err-skip-6 c = rw (returned c.from_residual-in_err-skip-6.ensures.1) (by_on (string) _ c.in_ok-skip_string.ensures (by_on (string) _ c.in_ok-skip_string-2.ensures (by_on (pass Item.Int 4) _ c.in_ok-skip.ensures (by_on (pass Item.Int 4) _ c.in_ok-skip-2.ensures (by_on (pass Item.Uint 4) _ c.in_ok-skip-3.ensures (by_on (string) _ c.in_ok-skip_string-3.ensures (by_on (pass Item.Float 4) _ c.in_ok-skip-4.ensures (by_on (pass Item.Float 4) _ c.in_ok-skip-5.ensures (by_no (pass Item.Float 4) _ c.in_err-skip-6.ensures)))))))))

pub returns-in_err-skip-7 : goal.returns-in_err-skip-7
unfolding product_block
returns-in_err-skip-7 c = rw (returned c.from_residual-in_err-skip-7.ensures.1) (by_on (string) _ c.in_ok-skip_string.ensures (by_on (string) _ c.in_ok-skip_string-2.ensures (by_on (pass Item.Int 4) _ c.in_ok-skip.ensures (by_on (pass Item.Int 4) _ c.in_ok-skip-2.ensures (by_on (pass Item.Uint 4) _ c.in_ok-skip-3.ensures (by_on (string) _ c.in_ok-skip_string-3.ensures (by_on (pass Item.Float 4) _ c.in_ok-skip-4.ensures (by_on (pass Item.Float 4) _ c.in_ok-skip-5.ensures (by_on (pass Item.Float 4) _ c.in_ok-skip-6.ensures (by_no (pass Item.Uint 4) _ c.in_err-skip-7.ensures))))))))))

pub returns-in_err-skip-8 : goal.returns-in_err-skip-8
unfolding product_block
returns-in_err-skip-8 c = rw (returned c.from_residual-in_err-skip-8.ensures.1) (by_on (string) _ c.in_ok-skip_string.ensures (by_on (string) _ c.in_ok-skip_string-2.ensures (by_on (pass Item.Int 4) _ c.in_ok-skip.ensures (by_on (pass Item.Int 4) _ c.in_ok-skip-2.ensures (by_on (pass Item.Uint 4) _ c.in_ok-skip-3.ensures (by_on (string) _ c.in_ok-skip_string-3.ensures (by_on (pass Item.Float 4) _ c.in_ok-skip-4.ensures (by_on (pass Item.Float 4) _ c.in_ok-skip-5.ensures (by_on (pass Item.Float 4) _ c.in_ok-skip-6.ensures (by_on (pass Item.Uint 4) _ c.in_ok-skip-7.ensures (by_no (pass Item.Uint 4) _ c.in_err-skip-8.ensures)))))))))))

pub returns-in_err-skip-9 : goal.returns-in_err-skip-9
unfolding product_block
returns-in_err-skip-9 c = rw (returned c.from_residual-in_err-skip-9.ensures.1) (by_on (string) _ c.in_ok-skip_string.ensures (by_on (string) _ c.in_ok-skip_string-2.ensures (by_on (pass Item.Int 4) _ c.in_ok-skip.ensures (by_on (pass Item.Int 4) _ c.in_ok-skip-2.ensures (by_on (pass Item.Uint 4) _ c.in_ok-skip-3.ensures (by_on (string) _ c.in_ok-skip_string-3.ensures (by_on (pass Item.Float 4) _ c.in_ok-skip-4.ensures (by_on (pass Item.Float 4) _ c.in_ok-skip-5.ensures (by_on (pass Item.Float 4) _ c.in_ok-skip-6.ensures (by_on (pass Item.Uint 4) _ c.in_ok-skip-7.ensures (by_on (pass Item.Uint 4) _ c.in_ok-skip-8.ensures (by_no (pass Item.Float 4) _ c.in_err-skip-9.ensures))))))))))))

pub returns-in_err-skip-10 : goal.returns-in_err-skip-10
unfolding product_block
returns-in_err-skip-10 c = rw (returned c.from_residual-in_err-skip-10.ensures.1) (by_on (string) _ c.in_ok-skip_string.ensures (by_on (string) _ c.in_ok-skip_string-2.ensures (by_on (pass Item.Int 4) _ c.in_ok-skip.ensures (by_on (pass Item.Int 4) _ c.in_ok-skip-2.ensures (by_on (pass Item.Uint 4) _ c.in_ok-skip-3.ensures (by_on (string) _ c.in_ok-skip_string-3.ensures (by_on (pass Item.Float 4) _ c.in_ok-skip-4.ensures (by_on (pass Item.Float 4) _ c.in_ok-skip-5.ensures (by_on (pass Item.Float 4) _ c.in_ok-skip-6.ensures (by_on (pass Item.Uint 4) _ c.in_ok-skip-7.ensures (by_on (pass Item.Uint 4) _ c.in_ok-skip-8.ensures (by_on (pass Item.Float 4) _ c.in_ok-skip-9.ensures (by_no (pass Item.Int 4) _ c.in_err-skip-10.ensures)))))))))))))

pub returns-in_err-skip-11 : goal.returns-in_err-skip-11
unfolding product_block
returns-in_err-skip-11 c = rw (returned c.from_residual-in_err-skip-11.ensures.1) (by_on (string) _ c.in_ok-skip_string.ensures (by_on (string) _ c.in_ok-skip_string-2.ensures (by_on (pass Item.Int 4) _ c.in_ok-skip.ensures (by_on (pass Item.Int 4) _ c.in_ok-skip-2.ensures (by_on (pass Item.Uint 4) _ c.in_ok-skip-3.ensures (by_on (string) _ c.in_ok-skip_string-3.ensures (by_on (pass Item.Float 4) _ c.in_ok-skip-4.ensures (by_on (pass Item.Float 4) _ c.in_ok-skip-5.ensures (by_on (pass Item.Float 4) _ c.in_ok-skip-6.ensures (by_on (pass Item.Uint 4) _ c.in_ok-skip-7.ensures (by_on (pass Item.Uint 4) _ c.in_ok-skip-8.ensures (by_on (pass Item.Float 4) _ c.in_ok-skip-9.ensures (by_on (pass Item.Int 4) _ c.in_ok-skip-10.ensures (by_no (pass Item.Int 4) _ c.in_err-skip-11.ensures))))))))))))))

pub returns-in_err-skip-12 : goal.returns-in_err-skip-12
unfolding product_block
returns-in_err-skip-12 c = rw (returned c.from_residual-in_err-skip-12.ensures.1) (by_on (string) _ c.in_ok-skip_string.ensures (by_on (string) _ c.in_ok-skip_string-2.ensures (by_on (pass Item.Int 4) _ c.in_ok-skip.ensures (by_on (pass Item.Int 4) _ c.in_ok-skip-2.ensures (by_on (pass Item.Uint 4) _ c.in_ok-skip-3.ensures (by_on (string) _ c.in_ok-skip_string-3.ensures (by_on (pass Item.Float 4) _ c.in_ok-skip-4.ensures (by_on (pass Item.Float 4) _ c.in_ok-skip-5.ensures (by_on (pass Item.Float 4) _ c.in_ok-skip-6.ensures (by_on (pass Item.Uint 4) _ c.in_ok-skip-7.ensures (by_on (pass Item.Uint 4) _ c.in_ok-skip-8.ensures (by_on (pass Item.Float 4) _ c.in_ok-skip-9.ensures (by_on (pass Item.Int 4) _ c.in_ok-skip-10.ensures (by_on (pass Item.Int 4) _ c.in_ok-skip-11.ensures (by_no (pass Item.Int 4) _ c.in_err-skip-12.ensures)))))))))))))))

pub returns-in_err-skip-13 : goal.returns-in_err-skip-13
unfolding product_block
returns-in_err-skip-13 c = rw (returned c.from_residual-in_err-skip-13.ensures.1) (by_on (string) _ c.in_ok-skip_string.ensures (by_on (string) _ c.in_ok-skip_string-2.ensures (by_on (pass Item.Int 4) _ c.in_ok-skip.ensures (by_on (pass Item.Int 4) _ c.in_ok-skip-2.ensures (by_on (pass Item.Uint 4) _ c.in_ok-skip-3.ensures (by_on (string) _ c.in_ok-skip_string-3.ensures (by_on (pass Item.Float 4) _ c.in_ok-skip-4.ensures (by_on (pass Item.Float 4) _ c.in_ok-skip-5.ensures (by_on (pass Item.Float 4) _ c.in_ok-skip-6.ensures (by_on (pass Item.Uint 4) _ c.in_ok-skip-7.ensures (by_on (pass Item.Uint 4) _ c.in_ok-skip-8.ensures (by_on (pass Item.Float 4) _ c.in_ok-skip-9.ensures (by_on (pass Item.Int 4) _ c.in_ok-skip-10.ensures (by_on (pass Item.Int 4) _ c.in_ok-skip-11.ensures (by_on (pass Item.Int 4) _ c.in_ok-skip-12.ensures (by_no (pass Item.Int 4) _ c.in_err-skip-13.ensures))))))))))))))))

pub returns-in_err-skip-14 : goal.returns-in_err-skip-14
unfolding product_block
returns-in_err-skip-14 c = rw (returned c.from_residual-in_err-skip-14.ensures.1) (by_on (string) _ c.in_ok-skip_string.ensures (by_on (string) _ c.in_ok-skip_string-2.ensures (by_on (pass Item.Int 4) _ c.in_ok-skip.ensures (by_on (pass Item.Int 4) _ c.in_ok-skip-2.ensures (by_on (pass Item.Uint 4) _ c.in_ok-skip-3.ensures (by_on (string) _ c.in_ok-skip_string-3.ensures (by_on (pass Item.Float 4) _ c.in_ok-skip-4.ensures (by_on (pass Item.Float 4) _ c.in_ok-skip-5.ensures (by_on (pass Item.Float 4) _ c.in_ok-skip-6.ensures (by_on (pass Item.Uint 4) _ c.in_ok-skip-7.ensures (by_on (pass Item.Uint 4) _ c.in_ok-skip-8.ensures (by_on (pass Item.Float 4) _ c.in_ok-skip-9.ensures (by_on (pass Item.Int 4) _ c.in_ok-skip-10.ensures (by_on (pass Item.Int 4) _ c.in_ok-skip-11.ensures (by_on (pass Item.Int 4) _ c.in_ok-skip-12.ensures (by_on (pass Item.Int 4) _ c.in_ok-skip-13.ensures (by_no (pass Item.Int 4) _ c.in_err-skip-14.ensures)))))))))))))))))

pub returns-in_err-skip-15 : goal.returns-in_err-skip-15
unfolding product_block
returns-in_err-skip-15 c = rw (returned c.from_residual-in_err-skip-15.ensures.1) (by_on (string) _ c.in_ok-skip_string.ensures (by_on (string) _ c.in_ok-skip_string-2.ensures (by_on (pass Item.Int 4) _ c.in_ok-skip.ensures (by_on (pass Item.Int 4) _ c.in_ok-skip-2.ensures (by_on (pass Item.Uint 4) _ c.in_ok-skip-3.ensures (by_on (string) _ c.in_ok-skip_string-3.ensures (by_on (pass Item.Float 4) _ c.in_ok-skip-4.ensures (by_on (pass Item.Float 4) _ c.in_ok-skip-5.ensures (by_on (pass Item.Float 4) _ c.in_ok-skip-6.ensures (by_on (pass Item.Uint 4) _ c.in_ok-skip-7.ensures (by_on (pass Item.Uint 4) _ c.in_ok-skip-8.ensures (by_on (pass Item.Float 4) _ c.in_ok-skip-9.ensures (by_on (pass Item.Int 4) _ c.in_ok-skip-10.ensures (by_on (pass Item.Int 4) _ c.in_ok-skip-11.ensures (by_on (pass Item.Int 4) _ c.in_ok-skip-12.ensures (by_on (pass Item.Int 4) _ c.in_ok-skip-13.ensures (by_on (pass Item.Int 4) _ c.in_ok-skip-14.ensures (by_no (pass Item.Int 4) _ c.in_err-skip-15.ensures))))))))))))))))))

pub returns : goal.returns
unfolding product_block
returns c = by_on (string) _ c.in_ok-skip_string.ensures (by_on (string) _ c.in_ok-skip_string-2.ensures (by_on (pass Item.Int 4) _ c.in_ok-skip.ensures (by_on (pass Item.Int 4) _ c.in_ok-skip-2.ensures (by_on (pass Item.Uint 4) _ c.in_ok-skip-3.ensures (by_on (string) _ c.in_ok-skip_string-3.ensures (by_on (pass Item.Float 4) _ c.in_ok-skip-4.ensures (by_on (pass Item.Float 4) _ c.in_ok-skip-5.ensures (by_on (pass Item.Float 4) _ c.in_ok-skip-6.ensures (by_on (pass Item.Uint 4) _ c.in_ok-skip-7.ensures (by_on (pass Item.Uint 4) _ c.in_ok-skip-8.ensures (by_on (pass Item.Float 4) _ c.in_ok-skip-9.ensures (by_on (pass Item.Int 4) _ c.in_ok-skip-10.ensures (by_on (pass Item.Int 4) _ c.in_ok-skip-11.ensures (by_on (pass Item.Int 4) _ c.in_ok-skip-12.ensures (by_on (pass Item.Int 4) _ c.in_ok-skip-13.ensures (by_on (pass Item.Int 4) _ c.in_ok-skip-14.ensures (by_on (pass Item.Int 4) _ c.in_ok-skip-15.ensures (end_given (counted parameter) c.skip_parameters.ensures))))))))))))))))))
