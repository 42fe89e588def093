use Rattle.std.proofs.Common.{◌≡◌, ℕ, ◌-◌, ◌/◌, ◌^◌, ◌%◌, Bool, true, false, nat_lt, [], refl, arith, ltb-true, ltb-false}
use Rattle.std.proofs.lemmas.Fmt.{decimal_digit, decimal_step}
use Rattle.std.specs.Fmt.{decimal, padded_integral, format_spec, char_count, styled_decimal}
use Rattle.show.specs.Dates.{two_of}
use Rattle.show.proofs.dates.TwoDisplay.fmt.Goals as goal

two_is : (n : ℕ) → padded_integral (format_spec 32 0 4 2 (2 ^ 64 - 1)) false [] (decimal (n % 100)) ≡ two_of n
unfolding padded_integral char_count
two_is n = go (nat_lt (n % 100) 10) refl
  where
    go : (b : Bool) → nat_lt (n % 100) 10 ≡ b → padded_integral (format_spec 32 0 4 2 (2 ^ 64 - 1)) false [] (decimal (n % 100)) ≡ two_of n
    go true e =
        let high : n / 10 % 10 ≡ 0 = omega (arith, ltb-true _ _ e) in
        let low : n % 100 ≡ n % 10 = omega (arith, ltb-true _ _ e) in
        rw (decimal_digit (n % 100) (ltb-true _ _ e), high, low) refl
    go false e =
        let high : n % 100 / 10 ≡ n / 10 % 10 = omega arith in
        let low : n % 100 % 10 ≡ n % 10 = omega arith in
        rw (decimal_step (n % 100) (ltb-false _ _ e) (omega arith), decimal_digit (n % 100 / 10) (omega arith), high, low) refl

pub returns-clause-writes : goal.returns-clause-writes
returns-clause-writes g c =
    let e : styled_decimal c.laid_out.result (c.args.self.now.0 % 100) ≡ two_of c.args.self.now.0
    = rw (c.laid_out.ensures, two_is c.args.self.now.0) refl in
    rw e at c.write.ensures.writes
