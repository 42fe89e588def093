-- What M-104 asks of totals, beside their definition: two plans over one picture, and one plan over two pictures that differ in one cell.
use Rattle.std.specs.Prelude.{ℕ, ◌+◌, ◌*◌, ◌<◌, true, List, [], ◌∷◌, ◌++◌, ◌≡◌, get_or, set}
use Rattle.scale.specs.Scaling.{valid}
use Rattle.scale.specs.declared.scaling.PrecipScale.{PrecipScale}
use Rattle.symbology.specs.declared.figures.Figures.{Figures}
use Rattle.fields.specs.declared.plan.Record.{Record}
use Rattle.fields.specs.declared.plan.Record.TheVariants.{Strip}
use Rattle.fields.specs.Plan.{entries_of}
use Rattle.fields.specs.Totals.{items}

-- the records of a plan
abbrev pub records_of : List ℕ → List Record
records_of plan = items (entries_of plan)

-- ---- two plans

-- The second is the first with a strip cut in two, after its first `one` gates.
pub record Cut (plan plan' : List ℕ) : Type 0 where
  pub before : List Record
  pub after : List Record
  pub radial : ℕ
  pub gate : ℕ
  pub one : ℕ
  pub two : ℕ
  pub weight : ℕ
  pub whole : records_of plan ≡ before ++ (Strip radial gate (one + two) weight ∷ after)
  pub parts : records_of plan' ≡ before ++ (Strip radial gate one weight ∷ Strip radial (gate + one) two weight ∷ after)

-- strips alone
pub data Strips : List Record → Type 0 where
  none : Strips []
  more : {r g c w : ℕ} {ms : List Record} → Strips ms → Strips (Strip r g c w ∷ ms)

-- The second is the first with a strip moved behind others of its field.
pub record Moved (plan plan' : List ℕ) : Type 0 where
  pub before : List Record
  pub others : List Record
  pub after : List Record
  pub strips : Strips others
  pub radial : ℕ
  pub gate : ℕ
  pub count : ℕ
  pub weight : ℕ
  pub was : records_of plan ≡ before ++ (Strip radial gate count weight ∷ (others ++ after))
  pub is : records_of plan' ≡ before ++ (others ++ (Strip radial gate count weight ∷ after))

-- ---- two pictures

-- The codes' are the codes but for the cell at a radial and a gate, where the code `from` is now `to`; both are valid.
pub record OneCell (scale : PrecipScale) (f f' : Figures) (codes codes' : List ℕ) (radial gate from to : ℕ) : Type 0 where
  pub bins : f'.n_bins ≡ f.n_bins
  pub in_radials : radial < f.n_radials
  pub in_row : gate < f.n_bins
  pub was : get_or codes (radial * f.n_bins + gate) 0 ≡ from
  pub is : codes' ≡ set codes (radial * f.n_bins + gate) to
  pub valid_from : valid scale.floor scale.ceiling from ≡ true
  pub valid_to : valid scale.floor scale.ceiling to ≡ true
