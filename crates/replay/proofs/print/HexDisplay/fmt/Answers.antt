use Rattle.std.proofs.Common.{◌≡◌, ℕ, ◌-◌, ◌^◌, Some, false, [], arith}
use Rattle.std.proofs.lemmas.Grind.{common_steps}
use Rattle.std.specs.Fmt.{digits, padded_integral, format_spec, char_count, styled_digits_output}
use Rattle.replay.specs.Printed.{hex_text}
use Rattle.replay.proofs.print.HexDisplay.fmt.Goals as goal

-- zeros in front, and no fill
padded_is : (n width : ℕ) → padded_integral (format_spec 32 0 4 width (2 ^ 64 - 1)) false [] (digits 16 false n) ≡ hex_text n width
unfolding padded_integral char_count
padded_is n width = grind (arith, common_steps)

pub returns-clause-writes : goal.returns-clause-writes
returns-clause-writes g c =
    let e : styled_digits_output c.in_radix.result c.laid_out.result ≡ Some (hex_text c.args.self.now.n c.args.self.now.width)
    = rw (c.laid_out.ensures, c.in_radix.ensures, padded_is c.args.self.now.n c.args.self.now.width) in
    rw e at c.write.ensures.writes
