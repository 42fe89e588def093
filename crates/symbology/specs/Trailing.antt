-- check_trailing: "after zero bytes are trimmed, nothing, 0x03 or CR CR LF 0x03", else 11 with the trimmed length.
use Rattle.std.specs.Prelude.{ℕ, Bool, not, ◌||◌, List, [], ◌∷◌, length}
use Rattle.wire.specs.Refusal.{kind, nat}
use Rattle.wire.specs.Result.{Result, accepted, refuse}
use Rattle.wire.specs.Text.{same, is_zero, trim_end}

-- nothing, 0x03, or CR CR LF 0x03
abbrev pub ending : List ℕ → Bool
ending t = same t [] || same t (3 ∷ []) || same t (13 ∷ 13 ∷ 10 ∷ 3 ∷ [])

unfoldable pub trailing : List ℕ → Result (Unit {0})
trailing s = refuse (not (ending (trim_end is_zero s))) (kind 11 (nat (length (trim_end is_zero s)) ∷ [])) (accepted tt)
