-- What is printed, and the failure after which nothing more is taken. Assumes nothing.
use Rattle.std.specs.Prelude.{◌≡◌, ℕ, ◌-◌, false, List, [], ◌∷◌, ◌++◌, length, replicate, decimal, Option, Some, None, Result, Ok, Err, MatchOption, IfNone}
use Rattle.std.specs.Fmt.{digits}
use Rattle.std.specs.List.{flat_map}
use Rattle.std.specs.declared.io.Error.{Error}
use Rattle.replay.specs.declared.text.Text.{Text}

-- the failure that is kept: the first one
abbrev pub kept : Option Error → Result (Unit {0}) Error → Option Error
kept (Some e) done = Some e
kept None (Ok x) = None
kept None (Err e) = Some e

-- new holds the bytes behind those that old holds; after a failure it is old
abbrev pub Says : Text → List ℕ → Text → Type 0
Says old bytes new = MatchOption old.failure (IfNone new.failure (new.bytes.items ≡ old.bytes.items ++ bytes)) (λ e. new ≡ old)

-- a number in hexadecimal, with zeros in front up to a width
abbrev pub hex_text : ℕ → ℕ → List ℕ
hex_text n width = replicate (width - length (digits 16 false n)) 48 ++ digits 16 false n

-- values one after another; `-` for none
abbrev pub row_text : {A : Type 0} → (A → List ℕ) → List A → List ℕ
row_text text [] = 45 ∷ []
row_text text (x ∷ xs) = flat_map text (x ∷ xs)

-- numbers with a comma between two; `-` for none
abbrev pub commas_text : List ℕ → List ℕ
commas_text [] = 45 ∷ []
commas_text (n ∷ ns) = decimal n ++ flat_map (λ m. 44 ∷ decimal m) ns
