-- The sum of the runs, run by run. Assumes nothing.
use Rattle.std.proofs.Common.{◌≡◌, ℕ, ◌+◌, ◌*◌, ◌<◌, ◌≤◌, List, length, get_or, drop, add-one, arith, drop_of_length-le, drop-cons}
use native.Mathlib.Nat.{add_assoc, add-zero}
use Rattle.symbology.specs.Rows.{run_of}
use Rattle.symbology.specs.Runs.{sum_runs}

-- what is summed before place i, and what is left, is the whole
pub record Summed (runs : List ℕ) (sum i : ℕ) : Type 0 where
  pub few : sum ≤ i * 15
  pub known : sum + sum_runs (drop i runs) ≡ sum_runs runs

module _ {runs : List ℕ} {sum i : ℕ} (inv : Summed runs sum i) where
  pub summed_turn : {n : ℕ} → i < length runs → (n ≡ run_of (get_or runs i 0)) × (n ≤ 15) → Summed runs (sum + n) (i + 1)
  unfolding sum_runs
  summed_turn {n} h e =
      record {
        few = omega (arith, inv.few, e.1);
        known = rw (e.0, add-one, add_assoc) (rw (drop-cons runs i 0 h) at inv.known);
      }

  pub summed_end : length runs ≤ i → sum ≡ sum_runs runs
  unfolding sum_runs
  summed_end h = rw (drop_of_length-le runs h, add-zero) at inv.known
