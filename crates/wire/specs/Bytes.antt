-- Big-endian numbers in a list of bytes (bytes.rs). A byte past the end counts 0; where that is a refusal, the caller's
-- definition says so.
use Rattle.std.specs.Prelude.{ℕ, ◌+◌, ◌*◌, List, cond, length, get_or, ℤ, pos, ◌-ℤ◌, ltb, leb, Option, Some, None}

-- the unsigned number that two, or four, bytes from place i make, the most significant first
unfoldable pub u16_at : List ℕ → ℕ → ℕ
u16_at s i = get_or s i 0 * 256 + get_or s (i + 1) 0

unfoldable pub u32_at : List ℕ → ℕ → ℕ
u32_at s i = u16_at s i * 65536 + u16_at s (i + 2)

-- two's complement: a number below half is itself, and one from half on stands for itself less two halves
unfoldable pub signed : ℕ → ℕ → ℤ
signed half n = cond (ltb n half) (pos n) (pos n -ℤ pos (half + half))

unfoldable pub i16_at : List ℕ → ℕ → ℤ
i16_at s i = signed 32768 (u16_at s i)

unfoldable pub i32_at : List ℕ → ℕ → ℤ
i32_at s i = signed 2147483648 (u32_at s i)

-- a where n bytes from place i on are there, else b
unfoldable pub if_inside : {A : Type 0} → List ℕ → ℕ → ℕ → A → A → A
if_inside s i n a b = cond (leb (i + n) (length s)) a b

abbrev pub read_u16 : List ℕ → ℕ → Option ℕ
read_u16 s i = if_inside s i 2 (Some (u16_at s i)) None

abbrev pub read_i16 : List ℕ → ℕ → Option ℤ
read_i16 s i = if_inside s i 2 (Some (i16_at s i)) None

abbrev pub read_i32 : List ℕ → ℕ → Option ℤ
read_i32 s i = if_inside s i 4 (Some (i32_at s i)) None
