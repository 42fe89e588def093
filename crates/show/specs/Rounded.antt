-- The decimals of a float: its bits without the sign as whole numbers of thousandths or millionths. Assumes nothing.
use Rattle.std.specs.Prelude.{ℕ, ◌+◌, ◌-◌, ◌*◌, ◌/◌, ◌%◌, ◌^◌, cond, ◌==◌, nat_lt}
use Rattle.show.specs.declared.floats.Size.{Size}
use Rattle.show.specs.declared.floats.Size.TheVariants.{Units, Large, Infinite}

-- the whole number nearest to n / 2^s, the greater where two are as near, for s from 1 on: n in halves of 2^s, one more, by two
unfoldable pub rounded : ℕ → ℕ → ℕ
rounded n s = (n / 2 ^ (s - 1) + 1) / 2

-- an f32 below 2^23 in millionths: fraction x 2^-149 where the exponent is 0, else (2^23 + fraction) x 2^(exponent - 150)
unfoldable pub millionths : ℕ → ℕ
millionths rest =
    cond (rest / 2 ^ 23 == 0)
    (rounded (rest % 2 ^ 23 * 1000000) 149)
    (rounded ((rest % 2 ^ 23 + 2 ^ 23) * 1000000) (150 - rest / 2 ^ 23))

-- an f64 in thousandths: fraction x 2^-1074 where the exponent is 0, else (2^52 + fraction) x 2^(exponent - 1075)
unfoldable pub thousandths : ℕ → Size
thousandths rest =
    cond (rest / 2 ^ 52 == 0)
    (Units (rounded (rest % 2 ^ 52 * 1000) 1074))
    (cond (rest / 2 ^ 52 == 2047)
    Infinite
    (cond (nat_lt (rest / 2 ^ 52) 1075)
    (Units (rounded ((rest % 2 ^ 52 + 2 ^ 52) * 1000) (1075 - rest / 2 ^ 52)))
    (Large (rest % 2 ^ 52 + 2 ^ 52) (rest / 2 ^ 52 - 1075))))
