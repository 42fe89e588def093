-- An AF1F row in document 01's words: `reach` is the greatest sum of a prefix of the run lengths that is not over n_bins, and a cell has
-- the colour of the run that covers it. Assumes nothing.
use Rattle.std.proofs.Common.{◌≡◌, ℕ, zero, suc, ◌+◌, ◌-◌, ◌<◌, ◌≤◌, Bool, true, false, cond, leb, List, [], ◌∷◌, ◌++◌, length, get_or, take, replicate, refl, ap, ◌∙◌, le_of_suc-le-suc, not-suc-le-zero, arith, get_or-take, get_or-append-add, eq-eqb, ne_eqb, leb-false, leb-true}
use lib.ListN.{length-replicate, get_or-replicate, get_or-append}
use Rattle.wire.specs.Result.{accepted}
use Rattle.symbology.specs.Rows.{run_of, colour_of, reach, cells, row_af1f, row_of, codes_of}
use Rattle.symbology.specs.Runs.{sum_runs, PrefixSum, RowOfRuns}
use Rattle.symbology.specs.Places.{Enough}
use Rattle.symbology.specs.declared.figures.Packet.TheVariants.{PacketAf1f}
use Rattle.symbology.proofs.FullRow.{row_made, full_row}

record Greatest (n g : ℕ) (runs : List ℕ) : Type 0 where
  reached : PrefixSum runs g
  not_over : g ≤ n
  greatest : (k : ℕ) → sum_runs (take k runs) ≤ n → sum_runs (take k runs) ≤ g

reach_greatest : (n : ℕ) (runs : List ℕ) → Greatest n (reach n runs) runs
unfolding reach sum_runs
reach_greatest n [] = record { reached = (0, (omega arith, refl)); not_over = omega arith; greatest = elim [ zero ↦ λ h. omega arith | suc k ↦ λ h. omega arith ] }
reach_greatest n (b ∷ runs) = go (leb (run_of b) n) refl (reach_greatest (n - run_of b) runs)
  where
    go : (t : Bool) → leb (run_of b) n ≡ t → Greatest (n - run_of b) (reach (n - run_of b) runs) runs
        → Greatest n (cond t (run_of b + reach (n - run_of b) runs) 0) (b ∷ runs)
    go true e rest =
        let fits = leb-true (run_of b) n e in
        let (k, (h, sum)) = rest.reached in
        record {
          reached = (suc k, (omega arith, ap (λ (x : ℕ). run_of b + x) sum));
          not_over = omega (arith, rest.not_over);
          greatest = elim [ zero ↦ λ h. omega arith | suc k ↦ λ h. omega (arith, rest.greatest k (omega arith)) ];
        }
    go false e rest =
        let over = leb-false (run_of b) n e in
        record { reached = (0, (omega arith, refl)); not_over = omega arith; greatest = elim [ zero ↦ λ h. omega arith | suc k ↦ λ h. absurd (omega arith) ] }

-- the cell at i is covered by run k where the runs before it end at or before i, and it ends after
covering : (runs : List ℕ) (k i : ℕ) → k < length runs → sum_runs (take k runs) ≤ i → i < sum_runs (take (suc k) runs) → get_or (cells runs) i 0 ≡ colour_of (get_or runs k 0)
unfolding sum_runs cells
covering [] k i inside h l = absurd (not-suc-le-zero inside)
covering (b ∷ runs) zero i inside h l =
    let lt : i < run_of b = omega arith in
    get_or-append (replicate (run_of b) (colour_of b)) (cells runs) 0 i (rw length-replicate lt) ∙ get_or-replicate (run_of b) i (colour_of b) 0 lt
covering (b ∷ runs) (suc k) i inside h l =
    let j : i ≡ length (replicate (run_of b) (colour_of b)) + (i - run_of b) = omega (arith, length-replicate (run_of b) (colour_of b)) in
    ap (λ (n : ℕ). get_or (replicate (run_of b) (colour_of b) ++ cells runs) n 0) j
    ∙ get_or-append-add (replicate (run_of b) (colour_of b)) (cells runs) (i - run_of b) 0
    ∙ covering runs k (i - run_of b) (le_of_suc-le-suc inside) (omega arith) (omega arith)

pub row_of_runs : (bins radial : ℕ) (runs : List ℕ) → RowOfRuns bins radial runs
unfolding row_af1f row_of codes_of Enough
row_of_runs bins radial runs =
    record {
      row = (λ (codes, e). rw (row_made PacketAf1f bins radial runs codes e).0 at g.reached, back);
      colours = λ codes e. let f = full_row PacketAf1f bins radial runs codes tt e in (
        f.2,
        λ k i inside lt h l. ap (λ (c : List ℕ). get_or c i 0) f.1 ∙ get_or-take bins (cells runs) i 0 lt ∙ covering runs k i inside h l,
      );
      stopped = λ none. let short : ¬ (reach bins runs ≡ bins) = λ e. none (rw e at g.reached) in simp (ne_eqb (reach bins runs) bins short);
      reached = g.reached;
      not_over = g.not_over;
      greatest = g.greatest;
    }
  where
    g : Greatest bins (reach bins runs) runs
    g = reach_greatest bins runs

    back : PrefixSum runs bins → (codes : List ℕ) × (row_af1f bins radial runs ≡ accepted codes)
    back (k, (h, sum)) =
        let full : reach bins runs ≡ bins = omega (arith, g.not_over, g.greatest k (omega arith)) in
        (take bins (cells runs), simp (eq-eqb (reach bins runs) bins full))
