-- Demand 3, from the symbology to the sweep reading. Assumes nothing.
use Prim.Native.Nat.{ℕ, ◌+◌, ◌<◌}
use mathlib.Core.List.{List, [], map}
use mathlib.Core.Logic.Dec
use mathlib.Core.Logic.{◌↔◌}
use mathlib.Core.Path.{◌≡◌, refl, sym, ap, ◌∙◌, subst}
use lib.ListN.{get_or}
use lib.Ieee.{Float}
use Rattle.wire.specs.Refusal.{Refusal}
use Rattle.wire.specs.Result.{Result, accepted, refused}
use Rattle.wire.specs.Reading.{Given, run}
use Rattle.head.specs.Header.{message_header}
use Rattle.scale.specs.Physical.{physical_of}
use Rattle.scale.specs.declared.physical.Scheme.{Scheme}
use Rattle.symbology.specs.declared.figures.Figures.{Figures}
use Rattle.symbology.specs.Answers.{joined, picture_of}
use Rattle.symbology.specs.Rows.{row_of}
use Rattle.symbology.specs.Symbology as Symbology
use Rattle.symbology.specs.Symbology.{symbology}
use Rattle.symbology.specs.Words.{Bytes, data_of, ChangedIn, DamageInWords}
use Rattle.sweep.specs.Sweep.{Accepted, sweep_of}
use Rattle.sweep.specs.Demand3.{row_at, Refuses, AllMake, Kept, Demand3}
use Rattle.symbology.proofs.RowPlaces.{row_here}
use Rattle.sweep.proofs.RowLaws.{row_values}
use Rattle.wire.proofs.Results.{clash}
use Rattle.sweep.proofs.Parts.{block_start, with_codes, Parts, parts}
use Rattle.sweep.proofs.Lowest.{makes?}
use Rattle.sweep.proofs.InWords.{ContainedInWords, contained_in_words}

-- an answer that is refused just where a result is, and as it is
pub passed_on : {A B : Type 0} (f : Figures) (b b' : List ℕ) (result : Result A) (answer : Result B)
    → ((x : Refusal) → (result ≡ refused x) ↔ (answer ≡ refused x)) → Refuses f b b' result → Refuses f b b' answer
passed_on f b b' result answer same k =
    record {
      exactly = (λ (x, e). k.exactly.0 (x, (same x).1 e), λ w. let e = k.exactly.1 w in (e.0, (same e.0).0 e.1));
      one_is_lowest = λ x e. k.one_is_lowest x ((same x).1 e);
      lowest = λ r l. let e = k.lowest r l in (e.0, (same e.0).0 e.1, e.2, e.3);
    }

-- ---- the second body

module _ (scheme : Scheme) (file : List ℕ) (clock : ℕ) (b b' : List ℕ) (na nc np : ℕ) (p : Accepted) (q : Parts scheme file clock na nc np b p) where
  second_refused : (x : Refusal) → run symbology b' 0 ≡ refused x → sweep_of scheme file clock b' na nc np ≡ refused x
  unfolding sweep_of picture_of
  second_refused x e = rw (q.head_is, e)

  second_accepted : (g : Given Symbology.Sweep) → run symbology b' 0 ≡ accepted g → g.value ≡ q.body.value
      → sweep_of scheme file clock b' na nc np ≡ accepted (with_codes (physical_of scheme file q.head.block) p (joined g.rows))
  unfolding sweep_of picture_of
  second_accepted g e s = rw (q.head_is, e, s, q.figures, q.azimuths) (q.finishes (joined g.rows))

  module _ (c : ContainedInWords p.sweep.figures b b' q.body) where
    -- where symbology accepts the second body, every changed radial's data make a row
    all_make : (g : Given Symbology.Sweep) → run symbology b' 0 ≡ accepted g → AllMake p.sweep.figures b b'
    all_make g e r lt h =
        (Dec.not-not (makes? _ _ _)).0 λ none.
        let bad = c.refusal.exactly.1 (r, lt, h, none) in
        clash g bad.0 (sym bad.1 ∙ e)

    -- the sweep reading refuses the second body just where symbology does
    refused← : (x : Refusal) → sweep_of scheme file clock b' na nc np ≡ refused x → (z : Result (Given Symbology.Sweep)) → run symbology b' 0 ≡ z
        → run symbology b' 0 ≡ refused x
    refused← x e (refused y) h = let w = sym (second_refused y h) ∙ e in let same : y ≡ x = cc in h ∙ ap refused same
    refused← x e (accepted g) h = let o = c.otherwise (all_make g h) in clash _ x (sym e ∙ second_accepted o.0 o.1 o.2)

    refusal : Refuses p.sweep.figures b b' (sweep_of scheme file clock b' na nc np)
    refusal = passed_on _ b b' _ _ (λ x. (second_refused x, λ e. refused← x e (run symbology b' 0) refl)) c.refusal

    kept : (g : Given Symbology.Sweep) → run symbology b' 0 ≡ accepted g → g.value ≡ q.body.value
        → ((r : ℕ) → r < p.sweep.figures.n_radials → ¬ (ChangedIn p.sweep.figures.packet b b' r) → get_or g.rows r [] ≡ get_or q.body.rows r [])
        → ((r : ℕ) → r < p.sweep.figures.n_radials → ChangedIn p.sweep.figures.packet b b' r
        → row_of p.sweep.figures.packet p.sweep.figures.n_bins r (data_of p.sweep.figures.packet b r b') ≡ accepted (get_or g.rows r []))
        → Kept scheme file clock b b' na nc np p
    kept g acc v unchanged changed =
        record {
          second = with_codes (physical_of scheme file q.head.block) p (joined g.rows);
          gives = second_accepted g acc v;
          sweep = refl;
          azimuths = refl;
          rows = record {
            unchanged = λ r lt u. (
              same r lt u,
              row_values value bins r (joined g.rows)
                  ∙ ap (map value) (same r lt u)
                  ∙ sym (row_values value bins r p.codes)
                  ∙ ap (row_at bins r) (sym q.physical),
            );
            changed = λ r lt h. changed r lt h ∙ ap accepted (sym (now r lt));
            header = start.0;
            header_is = start.1;
            values = λ r lt h. rw (← start.2) (row_values value bins r (joined g.rows));
          };
        }
      where
        bins : ℕ
        bins = p.sweep.figures.n_bins

        value : ℕ → Float
        value = physical_of scheme file q.head.block

        start : (header : ℕ) × (message_header file ≡ accepted header) × (q.head.block ≡ header + 18)
        start = let s = block_start scheme file clock q.head q.head_is in (s.0, s.1, s.2)

        now : (r : ℕ) → r < p.sweep.figures.n_radials → row_at bins r (joined g.rows) ≡ get_or g.rows r []
        now = row_here b' g acc p.sweep.figures (ap (λ (a : Symbology.Sweep). a.figures) v ∙ q.figures)

        first : (r : ℕ) → r < p.sweep.figures.n_radials → row_at bins r p.codes ≡ get_or q.body.rows r []
        first = rw q.codes at (row_here b q.body q.body_is p.sweep.figures q.figures)

        same : (r : ℕ) → r < p.sweep.figures.n_radials → ¬ (ChangedIn p.sweep.figures.packet b b' r) → row_at bins r (joined g.rows) ≡ row_at bins r p.codes
        same r lt u = now r lt ∙ unchanged r lt u ∙ sym (first r lt)

    otherwise : AllMake p.sweep.figures b b' → Kept scheme file clock b b' na nc np p
    otherwise every = let o = c.otherwise every in kept o.0 o.1 o.2 o.3 o.4

pub demand3 : (scheme : Scheme) (file : List ℕ) (clock : ℕ) (b b' : List ℕ) (na nc np : ℕ) (p : Accepted) → sweep_of scheme file clock b na nc np ≡ accepted p
    → Bytes b' → DamageInWords b p.sweep.figures b' → Demand3 scheme file clock b b' na nc np p
demand3 scheme file clock b b' na nc np p acc small d =
    let q = parts scheme file clock na nc np b p acc in
    let c = subst (λ (f : Figures). DamageInWords b f b' → ContainedInWords f b b' q.body) q.figures (contained_in_words b b' q.body q.body_is small) d in
    record { refusal = refusal scheme file clock b b' na nc np p q c; otherwise = otherwise scheme file clock b b' na nc np p q c }
