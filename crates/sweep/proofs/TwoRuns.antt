-- Demand 3, from the sweep reading to two runs of the code. Assumes nothing.
use Prim.Native.Nat.{ℕ, ◌<◌}
use Rattle.std.specs.Prelude as Std
use mathlib.Core.List.{List, map}
use mathlib.Core.Logic.{◌↔◌}
use mathlib.Core.Path.{◌≡◌, sym, ap, ◌∙◌, subst}
use lib.ListN.{length, take, drop}
use lib.Seq.{take_at}
use Rattle.wire.specs.Refusal.{Refusal}
use Rattle.wire.specs.Result.{Result, accepted, answer, refused, then}
use Rattle.scale.specs.declared.physical.Scheme.{Scheme}
use Rattle.symbology.specs.declared.figures.Figures.{Figures}
use Rattle.symbology.specs.Words.{Bytes, DamageInWords}
use Rattle.sweep.specs.declared.sweep.Sweep.{Sweep}
use Rattle.sweep.specs.Sweep.{Accepted, sweep_of, Buffers, read_into, Ran, SweepAnswer}
use Rattle.sweep.specs.Demand3.{row_at, RowsKept, Kept, SameLengths, TwoRuns}
use Rattle.sweep.proofs.RowLaws.{row_front}
use Rattle.wire.proofs.Results.{clash, through}
use Rattle.sweep.proofs.Parts.{sizes}
use Rattle.sweep.proofs.Demand3.{passed_on, demand3}

-- what a run left in the first places, where the sweep reading accepted with p
pub record Left (f : Figures) (p : Accepted) (new : Buffers) : Type 0 where
  pub azimuths : take f.n_radials new.azimuths ≡ p.azimuths
  pub codes : (r : ℕ) → r < f.n_radials → row_at f.n_bins r new.codes ≡ row_at f.n_bins r p.codes
  pub physical : (r : ℕ) → r < f.n_radials → row_at f.n_bins r new.physical ≡ row_at f.n_bins r p.physical

pub left : (scheme : Scheme) (file : List ℕ) (clock : ℕ) (b : List ℕ) (old new : Buffers) (said : SweepAnswer) (p : Accepted) → Ran scheme file clock b old new said
    → read_into scheme file clock b old ≡ accepted p → Left p.sweep.figures p new
left scheme file clock b old new said p ran e =
    let z = sizes scheme file clock b _ _ _ p e in
    let n = p.sweep.figures.n_radials in
    let bins = p.sweep.figures.n_bins in
    record {
      azimuths = rw (ran.azimuths, e) (take_at p.azimuths (drop (length p.azimuths) old.azimuths) n z.azimuths);
      codes = λ r lt. rw (ran.codes, e) (row_front bins n r p.codes (drop (length p.codes) old.codes) z.codes lt);
      physical = λ r lt. rw (ran.physical, e) (row_front bins n r p.physical (drop (length p.physical) old.physical) z.physical lt);
    }

-- the rows that are kept are kept in the buffers
rows_left : (scheme : Scheme) (file : List ℕ) (f : Figures) (b b' : List ℕ) (p p' : Accepted) (new new' : Buffers) → Left f p new → Left f p' new'
    → RowsKept scheme file f b b' p.codes p'.codes p.physical p'.physical
    → RowsKept scheme file f b b' new.codes new'.codes new.physical new'.physical
rows_left scheme file f b b' p p' new new' l l' k =
    record {
      unchanged = λ r lt u. (l'.codes r lt ∙ (k.unchanged r lt u).0 ∙ sym (l.codes r lt), l'.physical r lt ∙ (k.unchanged r lt u).1 ∙ sym (l.physical r lt));
      changed = λ r lt c. k.changed r lt c ∙ ap accepted (sym (l'.codes r lt));
      header = k.header;
      header_is = k.header_is;
      values = λ r lt c. l'.physical r lt ∙ k.values r lt c ∙ ap (map _) (sym (l'.codes r lt));
    }

-- an answer that says that s is accepted
pub answer_is : (said : SweepAnswer) (s : Sweep) → answer said ≡ accepted s → said ≡ Std.Ok s
answer_is (Std.Ok t) s e = let q : t ≡ s = cc in ap Std.Ok q
answer_is (Std.Err x) s e = clash s _ e

-- an answer that only hands a result on is refused as it is
handed_on : {A B : Type 0} (r : Result A) (said : Result B) (h : A → B) → said ≡ then r (λ a. accepted (h a)) → (x : Refusal) → (r ≡ refused x) ↔ (said ≡ refused x)
handed_on {A = A} r said h is x = (λ e. is ∙ rw e, λ e. by r (sym is ∙ e))
  where
    by : (r : Result A) → then r (λ a. accepted (h a)) ≡ refused x → r ≡ refused x
    by (accepted a) k = clash (h a) x (sym k)
    by (refused y) k = cc

pub two_runs : (scheme : Scheme) (file : List ℕ) (clock : ℕ) (b b' : List ℕ) (s : Sweep) (old new old' new' : Buffers) (said' : SweepAnswer)
    → Ran scheme file clock b old new (Std.Ok s) → Ran scheme file clock b' old' new' said' → SameLengths old old'
    → Bytes b' → DamageInWords b s.figures b' → TwoRuns scheme file b b' s new new' said'
two_runs scheme file clock b b' s old new old' new' said' ran ran' same small d =
    through (read_into scheme file clock b old) _ s (sym ran.answered) λ p acc e.
    let is : p.sweep ≡ s = cc in
    subst (λ (s : Sweep). TwoRuns scheme file b b' s new new' said') is (from p acc (rw (← is) at d))
  where
    -- the second, with the first's buffer lengths
    again : read_into scheme file clock b' old' ≡ sweep_of scheme file clock b' (length old.azimuths) (length old.codes) (length old.physical)
    again = rw (same.azimuths, same.codes, same.physical)

    from : (p : Accepted) → read_into scheme file clock b old ≡ accepted p → DamageInWords b p.sweep.figures b' → TwoRuns scheme file b b' p.sweep new new' said'
    from p acc d =
        let k = demand3 scheme file clock b b' _ _ _ p acc small d in
        record {
          refusal = passed_on _ b b' _ _ (handed_on _ _ (λ p. p.sweep) (ran'.answered ∙ rw again)) k.refusal;
          otherwise = λ every. kept (k.otherwise every);
        }
      where
        kept : Kept scheme file clock b b' (length old.azimuths) (length old.codes) (length old.physical) p
            → (said' ≡ Std.Ok p.sweep)
            × (take p.sweep.figures.n_radials new'.azimuths ≡ take p.sweep.figures.n_radials new.azimuths)
            × RowsKept scheme file p.sweep.figures b b' new.codes new'.codes new.physical new'.physical
        kept k =
            let l = left scheme file clock b old new _ p ran acc in
            let l' = subst (λ (t : Sweep). Left t.figures k.second new') k.sweep (left scheme file clock b' old' new' said' k.second ran' (again ∙ k.gives)) in
            (answer_is said' _ (ran'.answered ∙ rw (again, k.gives, k.sweep)), l'.azimuths ∙ k.azimuths ∙ sym l.azimuths, rows_left scheme file _ b b' p k.second new new' l l' k.rows)
