-- A report of the library, and the picture that it names. Assumes nothing.
use Rattle.std.specs.Prelude.{ℕ, ◌*◌, cond, ◌||◌, List, nat_lt, slice_index}

-- radials x bins; 0 where one of them is over the 4096 that there is room for
abbrev pub cells_of : List ℕ → ℕ
cells_of ints = cond (nat_lt 4096 (slice_index ints 7) || nat_lt 4096 (slice_index ints 8)) 0 (slice_index ints 7 * slice_index ints 8)
