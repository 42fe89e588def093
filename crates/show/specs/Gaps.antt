-- Radials that are marked as gaps: those of a mark other than 0. Assumes nothing.
use Rattle.std.specs.Prelude.{ℕ, ◌+◌, Bool, cond, not, List, [], ◌∷◌, ◌==◌, slice_index}

-- 1 for the mark of a gap
abbrev pub one_if : ℕ → ℕ
one_if mark = cond (mark == 0) 0 1

-- how many are marked
unfoldable pub marked : List ℕ → ℕ
marked [] = 0
marked (mark ∷ marks) = one_if mark + marked marks

-- a radial is marked; past the marks' end none is
abbrev pub gap_at : List ℕ → ℕ → Bool
gap_at marks radial = not (slice_index marks radial == 0)
