-- The run lengths of AF1F, at the byte that a loop reads. Assumes nothing.
use Rattle.std.proofs.Common.{◌≡◌, ℕ, zero, suc, ◌+◌, ◌-◌, ◌*◌, ◌<◌, ◌≤◌, cond, leb, List, [], ◌∷◌, length, get_or, take, drop, zero-add, add-one, arith, length-drop, drop-drop, drop_of_length-le, drop-cons, le-leb, sym}
use native.Mathlib.Nat.{sub-zero}
use borrow.Author.Tests.{lt-leb}
use Rattle.symbology.specs.Rows.{run_of, reach}
use Rattle.symbology.specs.Runs.{sum_runs}

-- what is left at i: the element there, and what is left after it
pub left_cons : (s : List ℕ) (i : ℕ) → i < length s → drop i s ≡ get_or s i 0 ∷ drop (i + 1) s
left_cons s i h = rw (add-one, drop-cons s i 0)

-- the invariant of `rle_reach`: the runs before i cover gate cells, and what is left from there gives the whole's answer
pub record Reached (s : List ℕ) (n i gate : ℕ) : Type 0 where
  pub place : i ≤ length s
  pub within : gate ≤ n
  pub known : gate + reach (n - gate) (drop i s) ≡ reach n s

pub reached_first : (s : List ℕ) (n : ℕ) → Reached s n 0 0
reached_first s n = record { place = omega arith; within = omega arith; known = rw (zero-add, sub-zero) }

module _ {s : List ℕ} {n i gate : ℕ} (inv : Reached s n i gate) where
  pub reached_end : length s ≤ i → gate ≡ reach n s
  unfolding reach
  reached_end h = omega (arith, rw (drop_of_length-le s h) at inv.known)

  module _ {run : ℕ} (inside : i < length s) (is : run ≡ run_of (get_or s i 0)) where
    here : gate + cond (leb run (n - gate)) (run + reach (n - gate - run) (drop (i + 1) s)) 0 ≡ reach n s
    unfolding reach
    here = rw is (rw (left_cons s i inside) at inv.known)

    pub reached_over : n - gate < run → gate ≡ reach n s
    reached_over h = omega (arith, simp (lt-leb _ _ h) at here)

    pub reached_turn : run ≤ n - gate → Reached s n (i + 1) (gate + run)
    reached_turn h =
        let e : n - (gate + run) ≡ n - gate - run = omega arith in
        record {
          place = omega arith;
          within = omega arith;
          known = rw e (omega (arith, simp (le-leb _ _ h) at here));
        }

-- ---- blocks of runs

-- runs whose sum is not over n are passed as a whole
reach_past : (k n : ℕ) (s : List ℕ) → k ≤ length s → sum_runs (take k s) ≤ n → reach n s ≡ sum_runs (take k s) + reach (n - sum_runs (take k s)) (drop k s)
unfolding reach sum_runs
reach_past zero n s h l = rw (zero-add, sub-zero)
reach_past (suc k) n [] h l = absurd (omega arith)
reach_past (suc k) n (b ∷ s) h l =
    let m : ℕ = sum_runs (take k s) in
    let e : n - (run_of b + m) ≡ n - run_of b - m = omega arith in
    rw (le-leb (run_of b) n (omega arith), e, reach_past k (n - run_of b) s (omega arith) (omega arith)) (omega arith)

module _ {s : List ℕ} {n i gate : ℕ} (inv : Reached s n i gate) where
  -- a block of 16
  pub reached_block : {sum : ℕ} → i + 16 ≤ length s → sum ≡ sum_runs (take 16 (drop i s)) → sum ≤ n - gate → Reached s n (i + 16) (gate + sum)
  reached_block {sum} inside is h =
      let e : n - (gate + sum) ≡ n - gate - sum = omega arith in
      let p : reach (n - gate) (drop i s) ≡ sum + reach (n - gate - sum) (drop 16 (drop i s)) =
      rw is (reach_past 16 (n - gate) (drop i s) (omega (arith, length-drop i s)) (rw (sym is) h)) in
      record {
        place = omega arith;
        within = omega (arith, inv.within);
        known = rw (e, sym (drop-drop 16 i s)) (omega (arith, inv.known, p));
      }

-- the loop that adds up a block: what is left makes the whole's sum of this one
pub record Summed (s : List ℕ) (i sum : ℕ) : Type 0 where
  pub known : sum + sum_runs (drop i s) ≡ sum_runs s
  pub small : sum ≤ 15 * i

pub block_first : (s : List ℕ) → Summed s 0 0
block_first s = record { known = rw zero-add; small = omega arith }

module _ {s : List ℕ} {i sum : ℕ} (inv : Summed s i sum) where
  pub block_next : {run : ℕ} → i < length s → run ≡ run_of (get_or s i 0) → run ≤ 15 → Summed s (i + 1) (sum + run)
  unfolding sum_runs
  block_next inside is few =
      record {
        known = rw is (omega (arith, rw (left_cons s i inside) at inv.known));
        small = omega (arith, inv.small);
      }

  pub block_end : length s ≤ i → sum ≡ sum_runs s
  unfolding sum_runs
  block_end h = omega (arith, rw (drop_of_length-le s h) at inv.known)
