-- What M-101 asks, from the sweep reading to two runs of the code. Assumes nothing.
use Prim.Native.Nat.{ℕ, ◌*◌, ◌≤◌, ◌<◌}
use Rattle.std.specs.Prelude as Std
use mathlib.Core.List.{List, ◌++◌, map}
use mathlib.Core.Path.{◌≡◌, sym, ap, ◌∙◌, subst}
use lib.ListN.{length, get_or, take, drop, get_or-append}
use lib.Seq.{take_at}
use Rattle.wire.specs.Result.{Result, accepted, answer, then, lent}
use Rattle.wire.proofs.Results.{through}
use Rattle.scale.specs.declared.physical.Scheme.{Scheme}
use Rattle.sweep.specs.declared.sweep.Sweep.{Sweep}
use Rattle.symbology.specs.Words.{Bytes, DamageInWords}
use Rattle.sweep.specs.Sweep.{Accepted, Buffers, read_into, Ran, SweepAnswer}
use Rattle.sweep.specs.GapSweep.{GapSweep, gap_sweep_of, GapBuffers, gaps_into, MarkedRan, GapRan}
use Rattle.sweep.specs.Demand3.{row_at}
use Rattle.sweep.specs.WithGaps.{GapRows, GapKept, NoneMarked, SamePicture, AsOrdinary, SameRoom, GapRuns, SameFront, OrdinaryRuns}
use Rattle.sweep.proofs.RowLaws.{row_front}
use Rattle.sweep.proofs.Parts.{sizes}
use Rattle.sweep.proofs.Reading.{given_in, front_is}
use Rattle.sweep.proofs.AsOrdinary.{as_ordinary}
use Rattle.sweep.proofs.TwoRuns.{Left, left, answer_is}
use Rattle.sweep.proofs.GapDamage.{gap_damage}
use Rattle.sweep.proofs.GapParts.{GapSizes, gap_sweep_sizes}

module _ (scheme : Scheme) (file : List ℕ) (clock : ℕ) (b b' : List ℕ) (old new : Buffers) (old' new' : GapBuffers) (said' : SweepAnswer) (p : Accepted)
    (ran : Ran scheme file clock b old new (Std.Ok p.sweep)) (ran' : GapRan scheme file clock b' old' new' said') (same : SameRoom old old')
    (acc : read_into scheme file clock b old ≡ accepted p) (small : Bytes b') (d : DamageInWords b p.sweep.figures b') (room : p.sweep.figures.n_radials ≤ length old'.marks) where
  kept : GapKept scheme file clock b b' (length old.azimuths) (length old.codes) (length old.physical) (length old'.marks) p
  kept = gap_damage scheme file clock b b' _ _ _ _ p acc small d room

  gave : gaps_into scheme file clock b' old' ≡ accepted kept.second
  gave = rw (same.azimuths, same.codes, same.physical) kept.gives

  sized : GapSizes kept.second
  sized = gap_sweep_sizes scheme file clock b' _ _ _ _ kept.second gave

  -- the figures are the first's
  radials : kept.second.sweep.figures.n_radials ≡ p.sweep.figures.n_radials
  radials = ap (λ (s : Sweep). s.figures.n_radials) kept.sweep

  cells : kept.second.sweep.figures.n_radials * kept.second.sweep.figures.n_bins ≡ p.sweep.figures.n_radials * p.sweep.figures.n_bins
  cells = ap (λ (s : Sweep). s.figures.n_radials * s.figures.n_bins) kept.sweep

  first : Left p.sweep.figures p new
  first = left scheme file clock b old new _ p ran acc

  codes_at : (r : ℕ) → r < p.sweep.figures.n_radials → row_at p.sweep.figures.n_bins r new'.codes ≡ row_at p.sweep.figures.n_bins r kept.second.codes
  codes_at r lt = ap (row_at p.sweep.figures.n_bins r) (ran'.codes ∙ ap (λ x. lent x (λ q. q.codes) old'.codes) gave) ∙ (row_front _ p.sweep.figures.n_radials r kept.second.codes _ (sized.codes ∙ cells) lt)

  physical_at : (r : ℕ) → r < p.sweep.figures.n_radials → row_at p.sweep.figures.n_bins r new'.physical ≡ row_at p.sweep.figures.n_bins r kept.second.physical
  physical_at r lt = ap (row_at p.sweep.figures.n_bins r) (ran'.physical ∙ ap (λ x. lent x (λ q. q.physical) old'.physical) gave) ∙ (row_front _ p.sweep.figures.n_radials r kept.second.physical _ (sized.physical ∙ cells) lt)

  marks_at : (r : ℕ) → r < p.sweep.figures.n_radials → get_or new'.marks r 0 ≡ get_or kept.second.marks r 0
  marks_at r lt = ap (λ l. get_or l r 0) (ran'.marks ∙ ap (λ x. lent x (λ q. q.marks) old'.marks) gave) ∙ get_or-append kept.second.marks _ 0 r (subst (λ k. r < k) (sym (sized.marks ∙ radials)) lt)

  rows : GapRows scheme file p.sweep.figures b b' new.codes new'.codes new.physical new'.physical new'.marks
  rows =
      let k = kept.rows in
      record {
        gap = λ r lt. (λ e. (k.gap r lt).0 (sym (marks_at r lt) ∙ e), λ w. marks_at r lt ∙ (k.gap r lt).1 w);
        whole = λ r lt n. marks_at r lt ∙ k.whole r lt (λ e. n (marks_at r lt ∙ e));
        gap_row = λ r lt e. let w = k.gap_row r lt (sym (marks_at r lt) ∙ e) in (codes_at r lt ∙ w.0, physical_at r lt ∙ w.1);
        unchanged = λ r lt u. let w = k.unchanged r lt u in (codes_at r lt ∙ w.0 ∙ sym (first.codes r lt), physical_at r lt ∙ w.1 ∙ sym (first.physical r lt));
        made = λ r lt m. k.made r lt m ∙ ap accepted (sym (codes_at r lt));
        header = k.header;
        header_is = k.header_is;
        values = λ r lt m. physical_at r lt ∙ k.values r lt m ∙ ap (map _) (sym (codes_at r lt));
      }

  runs : GapRuns scheme file b b' p.sweep new new' said'
  runs =
      record {
        answer = answer_is said' _ (ran'.answered ∙ ap (λ x. then x λ q. accepted q.sweep) gave ∙ ap accepted kept.sweep);
        azimuths =
            ap (take p.sweep.figures.n_radials) (ran'.azimuths ∙ ap (λ x. lent x (λ q. q.azimuths) old'.azimuths) gave ∙ ap (λ l. l ++ drop (length l) old'.azimuths) kept.azimuths)
            ∙ (take_at p.azimuths (drop (length p.azimuths) old'.azimuths) _ (sizes scheme file clock b _ _ _ p acc).azimuths)
            ∙ sym first.azimuths;
        rows = rows;
      }

pub two_gap_runs : (scheme : Scheme) (file : List ℕ) (clock : ℕ) (b b' : List ℕ) (s : Sweep) (old new : Buffers) (old' new' : GapBuffers) (said' : SweepAnswer)
    → Ran scheme file clock b old new (Std.Ok s) → GapRan scheme file clock b' old' new' said' → SameRoom old old'
    → Bytes b' → DamageInWords b s.figures b' → s.figures.n_radials ≤ length old'.marks → GapRuns scheme file b b' s new new' said'
two_gap_runs scheme file clock b b' s old new old' new' said' ran ran' same small d room =
    through (read_into scheme file clock b old) _ s (sym ran.answered) λ p acc e.
    let is : p.sweep ≡ s = cc in
    subst (λ (s : Sweep). GapRuns scheme file b b' s new new' said') is
    (runs scheme file clock b b' old new old' new' said' p (subst (λ (s : Sweep). Ran scheme file clock b old new (Std.Ok s)) (sym is) ran) ran' same acc small (rw (← is) at d) (rw (← is) at room))

-- ---- the same picture in the buffers of two runs, the second one that leaves marks

pub same_front : (scheme : Scheme) (file : List ℕ) (clock : ℕ) (b : List ℕ) (old new : Buffers) {said : SweepAnswer} (p : Accepted) → Ran scheme file clock b old new said
    → read_into scheme file clock b old ≡ accepted p → (old' new' : GapBuffers) {R : Result GapSweep} {said' : SweepAnswer} → MarkedRan R old' new' said'
    → (g : GapSweep) → R ≡ accepted g → SamePicture g p → SameFront p.sweep.figures new new'
same_front scheme file clock b old new p ran acc old' new' ran' g acc' k =
    let z = sizes scheme file clock b _ _ _ p acc in
    record {
      azimuths =
          front_is _ g.azimuths old'.azimuths (ran'.azimuths ∙ ap (λ x. lent x (λ q. q.azimuths) old'.azimuths) acc') (ap length k.azimuths ∙ z.azimuths)
          ∙ k.azimuths ∙ sym (front_is _ p.azimuths old.azimuths (ran.azimuths ∙ ap (λ x. lent x (λ q. q.azimuths) old.azimuths) acc) z.azimuths);
      codes =
          front_is _ g.codes old'.codes (ran'.codes ∙ ap (λ x. lent x (λ q. q.codes) old'.codes) acc') (ap length k.codes ∙ z.codes)
          ∙ k.codes ∙ sym (front_is _ p.codes old.codes (ran.codes ∙ ap (λ x. lent x (λ q. q.codes) old.codes) acc) z.codes);
      physical =
          front_is _ g.physical old'.physical (ran'.physical ∙ ap (λ x. lent x (λ q. q.physical) old'.physical) acc') (ap length k.physical ∙ z.physical)
          ∙ k.physical ∙ sym (front_is _ p.physical old.physical (ran.physical ∙ ap (λ x. lent x (λ q. q.physical) old.physical) acc) z.physical);
    }

-- ---- the same body with gaps and without

module _ (scheme : Scheme) (file : List ℕ) (clock : ℕ) (b : List ℕ) (old new : Buffers) (old' new' : GapBuffers) (said said' : SweepAnswer)
    (ran : Ran scheme file clock b old new said) (ran' : GapRan scheme file clock b old' new' said') (same : SameRoom old old')
    (room : (s : Sweep) → said ≡ Std.Ok s → s.figures.n_radials ≤ length old'.marks) where
  -- what the two answers say of the readings
  ordinary_accepts : (p : Accepted) → read_into scheme file clock b old ≡ accepted p → said ≡ Std.Ok p.sweep
  ordinary_accepts p acc = answer_is said _ (ran.answered ∙ ap (λ x. then x λ q. accepted q.sweep) acc)

  gap_accepts : (g : GapSweep) → gaps_into scheme file clock b old' ≡ accepted g → said' ≡ Std.Ok g.sweep
  gap_accepts g acc = answer_is said' _ (ran'.answered ∙ ap (λ x. then x λ q. accepted q.sweep) acc)

  ordinary_gave : (s : Sweep) → said ≡ Std.Ok s → (p : Accepted) × (read_into scheme file clock b old ≡ accepted p) × (p.sweep ≡ s)
  ordinary_gave s e = given_in (λ (p : Accepted). p.sweep) (read_into scheme file clock b old) (sym (ap answer e) ∙ ran.answered)

  gap_gave : (s : Sweep) → said' ≡ Std.Ok s → (g : GapSweep) × (gaps_into scheme file clock b old' ≡ accepted g) × (g.sweep ≡ s)
  gap_gave s e = given_in (λ (g : GapSweep). g.sweep) (gaps_into scheme file clock b old') (sym (ap answer e) ∙ ran'.answered)

  -- with the first's buffer lengths
  again : gaps_into scheme file clock b old' ≡ gap_sweep_of scheme file clock b (length old.azimuths) (length old.codes) (length old.physical) (length old'.marks)
  again = rw (same.azimuths, same.codes, same.physical)

  law : AsOrdinary scheme file clock b (length old.azimuths) (length old.codes) (length old.physical) (length old'.marks)
  law = as_ordinary scheme file clock b _ _ _ _ (λ p acc. room p.sweep (ordinary_accepts p acc))

  -- the marks that are left
  marks_left : (g : GapSweep) → gaps_into scheme file clock b old' ≡ accepted g → (r : ℕ) → r < g.sweep.figures.n_radials → get_or new'.marks r 0 ≡ get_or g.marks r 0
  marks_left g acc r lt =
      let long = (gap_sweep_sizes scheme file clock b _ _ _ _ g acc).marks in
      ap (λ l. get_or l r 0) (ran'.marks ∙ ap (λ x. lent x (λ q. q.marks) old'.marks) acc) ∙ get_or-append g.marks _ 0 r (subst (λ k. r < k) (sym long) lt)

  -- none marked among them
  none_left : (s : Sweep) → NoneMarked s.figures new'.marks → (g : GapSweep) → gaps_into scheme file clock b old' ≡ accepted g → g.sweep ≡ s → NoneMarked g.sweep.figures g.marks
  none_left s none g acc is r lt = sym (marks_left g acc r lt) ∙ none r (subst (λ (t : Sweep). r < t.figures.n_radials) is lt)

  pub ordinary_runs : OrdinaryRuns said said' new new'
  ordinary_runs =
      record {
        exactly = (
          λ (s, e, none).
              let (g, acc, is) = gap_gave s e in
              let (p, accp) = law.exactly.0 (g, sym again ∙ acc, none_left s none g acc is) in
              (p.sweep, ordinary_accepts p accp),
          λ (s, e).
              let (p, acc, is) = ordinary_gave s e in
              let (g, accg, none) = law.exactly.1 (p, acc) in
              let accg' = again ∙ accg in
              (g.sweep, gap_accepts g accg', λ r lt. marks_left g accg' r lt ∙ none r lt),
        );
        equal = λ s s' e e' none.
            let (p, acc, is) = ordinary_gave s e in
            let (g, accg, is') = gap_gave s' e' in
            let k = law.equal g (sym again ∙ accg) (none_left s' none g accg is') p acc in
            (sym is' ∙ k.sweep ∙ is, subst (λ (t : Sweep). SameFront t.figures new new') is (same_front scheme file clock b old new p ran acc old' new' ran' g accg k));
      }
