-- Symbology's law that damage stays in its row, in document 01's words. Assumes nothing.
use Prim.Native.Nat.{ℕ, ◌+◌, ◌<◌}
use native.Mathlib.Omega.{arith}
use native.Mathlib.Nat.{zero-add}
use mathlib.Core.List.{List, []}
use mathlib.Core.Bool.{Bool, true, false, not}
use mathlib.Core.Logic.Iff
use mathlib.Core.Logic.{◌↔◌}
use mathlib.Core.Path.{◌≡◌, refl, sym, ap, ◌∙◌}
use lib.ListN.{length, get_or, take, length-take, length-drop}
use lib.Dec.{eqb}
use Rattle.wire.specs.Refusal.{Refusal}
use Rattle.wire.specs.Result.{Result, accepted, refused, refuse}
use Rattle.wire.specs.Reading.{Given, run}
use Rattle.wire.specs.Text.{all}
use Rattle.symbology.specs.declared.figures.Packet.{Packet}
use Rattle.symbology.specs.declared.figures.Packet.TheVariants.{Packet16, PacketAf1f, Packet28}
use Rattle.symbology.specs.declared.figures.Figures.{Figures}
use Rattle.symbology.specs.Rows.{row_of, row16, row_af1f, row28, reach, cells, words, is_level}
use Rattle.symbology.specs.Symbology.{Sweep, symbology}
use Rattle.symbology.specs.Damage.{Changed, MakesRow, Contained, row_in, data_in, radial_at, radial_count}
use Rattle.symbology.specs.Places.{Enough, Placed}
use Rattle.symbology.specs.Words.{Bytes, data_place, data_of, ChangedIn, DamageInWords}
use Rattle.wire.proofs.Results.{clash}
use Rattle.symbology.proofs.Containment.{damage_contained, data_length}
use Rattle.symbology.proofs.Placement.{placed}
use Rattle.symbology.proofs.Words.{data_in_words, changed_in_words, damage_in_words}
use Rattle.symbology.proofs.Widths.{bits_slice}
use Rattle.symbology.proofs.Runs.{row_of_runs}
use Rattle.symbology.proofs.Levels.{row_of_levels}
use Rattle.symbology.proofs.FirstBad.{first_bad, levels_are}
use Rattle.sweep.specs.InWords.{RowInWords}
use Rattle.sweep.specs.Demand3.{LowestBad, Names, Refuses, AllMake}
use Rattle.sweep.proofs.Lowest.{lowest_bad}

-- data that are enough make a row exactly in those words
row_in_words : (packet : Packet) (bins r : ℕ) (bytes : List ℕ) → Enough packet bins (length bytes) → Bytes bytes
    → ((codes : List ℕ) × (row_of packet bins r bytes ≡ accepted codes)) ↔ RowInWords packet bins bytes
unfolding row_of row16 RowInWords Enough
row_in_words Packet16 bins r bytes enough small = (λ w. tt, λ w. (take bins bytes, refl))
row_in_words PacketAf1f bins r bytes enough small = (row_of_runs bins r bytes).row
row_in_words Packet28 bins r bytes enough small = (row_of_levels bins r bytes enough small).row

-- a refusal of a radial's data names it
refuses : {A : Type 0} (t : Bool) (y : Refusal) (a : A) (x : Refusal) → refuse t y (accepted a) ≡ refused x → x ≡ y
refuses true y a x h = cc
refuses false y a x h = clash a x (sym h)

names : (packet : Packet) (bins r : ℕ) (bytes : List ℕ) (x : Refusal) → row_of packet bins r bytes ≡ refused x → Names packet bins r bytes x
unfolding row_of row16 row_af1f row28 Names
names Packet16 bins r bytes x h = clash _ x (sym h)
names PacketAf1f bins r bytes x h = refuses (not (eqb (reach bins bytes) bins)) _ (take bins (cells bytes)) x h
names Packet28 bins r bytes x h =
    let e : x ≡ first_bad r 0 (words bytes) = refuses (not (all is_level (words bytes))) _ (words bytes) x (sym (levels_are r 0 (words bytes)) ∙ h) in
    rw zero-add at e

-- What symbology gives of b', where it gave g of b, whose figures are f.
pub record ContainedInWords (f : Figures) (b b' : List ℕ) (g : Given Sweep) : Type 0 where
  pub refusal : Refuses f b b' (run symbology b' 0)
  pub otherwise : AllMake f b b'
      → (g' : Given Sweep) × (run symbology b' 0 ≡ accepted g') × (g'.value ≡ g.value)
      × ((r : ℕ) → r < f.n_radials → ¬ (ChangedIn f.packet b b' r) → get_or g'.rows r [] ≡ get_or g.rows r [])
      × ((r : ℕ) → r < f.n_radials → ChangedIn f.packet b b' r → row_of f.packet f.n_bins r (data_of f.packet b r b') ≡ accepted (get_or g'.rows r []))

-- one radial
module _ (f : Figures) (b b' : List ℕ) (q : Placed b f) (r : ℕ) (lt : r < f.n_radials) where
  pub radial_changed : Changed symbology b b' r ↔ ChangedIn f.packet b b' r
  radial_changed = changed_in_words b f q r lt b'

  pub row_is : row_in (radial_at symbology b r) b' ≡ row_of f.packet f.n_bins r (data_of f.packet b r b')
  unfolding row_in data_in
  row_is = rw (q.rows r lt) (ap (row_of f.packet f.n_bins r) (data_in_words b f q r lt b'))

module _ (f : Figures) (b b' : List ℕ) (q : Placed b f) (long : length b' ≡ length b) (small : Bytes b') (r : ℕ) (lt : r < f.n_radials) where
  -- its data in the second body are as many
  second_count : length (data_of f.packet b r b') ≡ (radial_at symbology b r).count
  unfolding data_in
  second_count =
      ap length (sym (data_in_words b f q r lt b'))
      ∙ simp (length-drop, length-take, long) (simp (length-drop, length-take) at (data_length symbology b r))

  second_bytes : Bytes (data_of f.packet b r b')
  unfolding data_of
  second_bytes = let d = data_place f.packet b r in bits_slice 8 d.0 (d.0 + d.1) b' small

  pub radial_makes : MakesRow symbology b b' r ↔ RowInWords f.packet f.n_bins (data_of f.packet b r b')
  radial_makes = rw (row_is f b b' q r lt) (row_in_words f.packet f.n_bins r (data_of f.packet b r b') (rw second_count (q.enough r lt)) second_bytes)

module _ (f : Figures) (b b' : List ℕ) (g : Given Sweep) (q : Placed b f) (long : length b' ≡ length b) (small : Bytes b') (c : Contained symbology b b' g) where
  changed : (r : ℕ) → r < f.n_radials → Changed symbology b b' r ↔ ChangedIn f.packet b b' r
  changed = radial_changed f b b' q

  makes : (r : ℕ) → r < f.n_radials → MakesRow symbology b b' r ↔ RowInWords f.packet f.n_bins (data_of f.packet b r b')
  makes = radial_makes f b b' q long small

  some_bad : ((r : ℕ) × (r < radial_count symbology b) × Changed symbology b b' r × ¬ (MakesRow symbology b b' r))
      ↔ ((r : ℕ) × (r < f.n_radials) × ChangedIn f.packet b b' r × ¬ (RowInWords f.packet f.n_bins (data_of f.packet b r b')))
  some_bad = (
    λ (r, lt, h, k). let l : r < f.n_radials = rw q.count at lt in (r, l, (changed r l).0 h, λ m. k ((makes r l).1 m)),
    λ (r, lt, h, k). (r, rw q.count lt, (changed r lt).1 h, λ m. k ((makes r lt).0 m)),
  )

  lowest : (r : ℕ) → LowestBad f b b' r → (z : Result (List ℕ)) → row_of f.packet f.n_bins r (data_of f.packet b r b') ≡ z
      → (x : Refusal) × (run symbology b' 0 ≡ refused x)
      × (row_of f.packet f.n_bins r (data_of f.packet b r b') ≡ refused x)
      × Names f.packet f.n_bins r (data_of f.packet b r b') x
  lowest r l (accepted codes) e = absurd (l.no_row ((makes r l.inside).0 (codes, row_is f b b' q r l.inside ∙ e)))
  lowest r l (refused x) e = (
    x,
    c.lowest r x (rw q.count l.inside) ((changed r l.inside).1 l.changed) (row_is f b b' q r l.inside ∙ e) lower,
    e,
    names _ _ r _ x e,
  )
    where
      lower : (j : ℕ) → j < r → Changed symbology b b' j → MakesRow symbology b b' j
      lower j k h = let i : j < f.n_radials = omega (arith, l.inside) in (makes j i).1 (l.lower j k ((changed j i).0 h))

  in_words : ContainedInWords f b b' g
  in_words =
      record {
        refusal = record {
          exactly = Iff.trans c.exactly some_bad;
          one_is_lowest = λ x e. lowest_bad f b b' (some_bad.0 (c.exactly.0 (x, e)));
          lowest = λ r l. lowest r l _ refl;
        };
        otherwise = λ every.
            let o = c.otherwise (λ r lt h. let l : r < f.n_radials = rw q.count at lt in (makes r l).1 (every r l ((changed r l).0 h))) in (
              o.0,
              o.1,
              o.2,
              (λ r lt u. o.5 r (rw q.count lt) (λ h. u ((changed r lt).0 h))),
              λ r lt h. sym (row_is f b b' q r lt) ∙ o.6 r (rw q.count lt) ((changed r lt).1 h),
            );
      }

-- b is an accepted body, b' a second body of bytes that differs from it just in data bytes of radials and in unread bytes
pub contained_in_words : (b b' : List ℕ) (g : Given Sweep) → run symbology b 0 ≡ accepted g → Bytes b' → DamageInWords b g.value.figures b'
    → ContainedInWords g.value.figures b b' g
contained_in_words b b' g acc small d =
    in_words g.value.figures b b' g (placed b g acc) d.same_length small (damage_contained symbology b b' g acc ((damage_in_words b b' g acc).1 d))
