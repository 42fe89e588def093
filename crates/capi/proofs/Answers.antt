-- From the answer of a lower function to what an entry leaves. Assumes nothing.
use Rattle.std.proofs.Common.{◌≡◌, ◌≤◌, ℕ, List, length, take, drop, sym, ap, ◌∙◌, subst, append-nil, eq-eqb}
use lib.Seq.{drop-length, length-take-le}
use lib.Ieee.{Float}
use Rattle.wire.specs.Refusal.{Refusal}
use Rattle.wire.specs.Result.{accepted, refused}
use Rattle.wire.proofs.Results.{clash, one_value, through, stopped}
use Rattle.wire.specs.Products.{codes}
use Rattle.scale.specs.Pdb.{threshold_place, thresholds}
use Rattle.scale.specs.declared.pdb.Thresholds.{Thresholds}
use Rattle.capi.specs.declared.report.Report.{Report}
use Rattle.capi.specs.Report.{said, over, Leaves}
use Rattle.capi.specs.Entries.{threshold_said}

-- a report is what is said
pub by_report : {R R' : Report} {n : ℕ} {ints ints' : List ℕ} {floats floats' : List Float}
    → R ≡ R' → Leaves (said R) n ints ints' floats floats' → Leaves (said R') n ints ints' floats floats'
by_report {n = n} {ints = ints} {ints' = ints'} {floats = floats} {floats' = floats'} e l =
    subst (λ x. Leaves (said x) n ints ints' floats floats') e l

-- ---- the thresholds

pub threshold_good : (file : List ℕ) (block n : ℕ) → n ≡ 32 → threshold_said file block n ≡ said (threshold_place file block)
unfolding threshold_said
threshold_good file block n h = simp (eq-eqb n 32 h)

-- what was copied are the 32 bytes of the place
pub copied : (file : List ℕ) (block n : ℕ) {copy : Thresholds} → n ≡ 32 → accepted copy ≡ thresholds file block
    → (k : ℕ) × (threshold_said file block n ≡ said (accepted k)) × (copy.bytes ≡ take 32 (drop k file))
unfolding thresholds
copied file block n {copy} h e =
    through (threshold_place file block) _ copy (sym e) λ k p q. (k, threshold_good file block n h ∙ ap said p, ap (λ (t : Thresholds). t.bytes) (sym (one_value q)))

pub not_copied : (file : List ℕ) (block n : ℕ) {x : Refusal} → n ≡ 32 → refused x ≡ thresholds file block → threshold_said file block n ≡ said (refused x)
unfolding thresholds
not_copied file block n {x} h e =
    threshold_good file block n h ∙ ap said (stopped (threshold_place file block) _ x (sym e) (λ p. p) λ k p q. clash _ x (sym q))

-- a list that is as long as the buffer
pub over_all : {A : Type 0} (xs old : List A) → length xs ≡ length old → over xs old ≡ xs
over_all xs old h = rw (h, drop-length old, append-nil)

-- ---- the known codes

pub codes_fit : (table xs : List ℕ) → 26 ≤ length table → xs ≡ codes → length (take 26 table) ≡ length xs
unfolding codes
codes_fit table xs h e = rw e (length-take-le 26 table h)
