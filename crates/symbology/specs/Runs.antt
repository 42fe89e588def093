-- An AF1F row in document 01's own words: prefixes of the run lengths.
use Rattle.std.specs.Prelude.{◌≡◌, ℕ, suc, ◌+◌, ◌<◌, ◌≤◌, ◌↔◌, List, [], ◌∷◌, length, take, slice_index}
use Rattle.wire.specs.Refusal.{kind, nat}
use Rattle.wire.specs.Result.{accepted, refused}
use Rattle.symbology.specs.Rows.{run_of, colour_of, reach, row_af1f}

-- the sum of the run lengths
unfoldable pub sum_runs : List ℕ → ℕ
sum_runs [] = 0
sum_runs (b ∷ bytes) = run_of b + sum_runs bytes

-- some prefix of the run lengths sums to n
abbrev pub PrefixSum : List ℕ → ℕ → Type 0
PrefixSum runs n = (k : ℕ) × ((k ≤ length runs) × (sum_runs (take k runs) ≡ n))

pub record RowOfRuns (bins radial : ℕ) (runs : List ℕ) : Type 0 where
  -- a row exactly if some prefix of its run lengths sums to n_bins
  pub row : ((codes : List ℕ) × (row_af1f bins radial runs ≡ accepted codes)) ↔ PrefixSum runs bins
  -- a cell has its covering run's colour
  pub colours : (codes : List ℕ) → row_af1f bins radial runs ≡ accepted codes
      → (length codes ≡ bins)
      × ((k i : ℕ) → k < length runs → i < bins → sum_runs (take k runs) ≤ i → i < sum_runs (take (suc k) runs) → slice_index codes i ≡ colour_of (slice_index runs k))
  -- else 22
  pub stopped : ¬ (PrefixSum runs bins) → row_af1f bins radial runs ≡ refused (kind 22 (nat radial ∷ nat (reach bins runs) ∷ nat bins ∷ []))
  -- the figure that 22 carries is the greatest prefix sum not over bins
  pub reached : PrefixSum runs (reach bins runs)
  pub not_over : reach bins runs ≤ bins
  pub greatest : (k : ℕ) → sum_runs (take k runs) ≤ bins → sum_runs (take k runs) ≤ reach bins runs
