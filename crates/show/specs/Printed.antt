-- What was printed. Assumes nothing.
use Rattle.std.specs.Prelude.{◌≡◌, ℕ, List, IsOk}
use Rattle.show.specs.declared.text.Text.{Text}

-- these bytes, and all of them
abbrev pub IsPrinted : Text → List ℕ → Type 0
IsPrinted text bytes = IsOk text.room × (text.bytes.items ≡ bytes)
