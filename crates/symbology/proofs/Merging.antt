-- The walk over the radials of two bodies that writes the rows of both. Assumes nothing.
use Rattle.std.proofs.Common.{◌≡◌, ℕ, zero, suc, ◌+◌, ◌-◌, ◌*◌, ◌<◌, ◌≤◌, true, List, [], ◌∷◌, ◌++◌, map, length, drop, set, sym, refl, ap, ◌∙◌, ap₂, suc-mul, add_comm, zero-mul, add-one, arith, length-append, length-drop, length-take-le}
use lib.ListN.{length-map}
use lib.Ieee.{Float}
use borrow.Rule.Slice.PartMut.{put_mid, mid_of}
use Rattle.wire.specs.Result.{Result, accepted}
use Rattle.wire.specs.Reading.{run, Given}
use Rattle.wire.proofs.Parts.{Laid, laid_first, laid_end, laid_put, laid_set}
use Rattle.wire.proofs.Results.{one_value}
use Rattle.symbology.specs.Answers.{joined, shown, mark_of}
use Rattle.symbology.specs.Walk.{in_mode, cells_of, any_radial, any_walk, Accepted, first_row, row_in, centre_in}
use Rattle.symbology.specs.Merge.{either, merge_rows}
use Rattle.symbology.specs.Pairs.{next_in}
use Rattle.symbology.specs.declared.figures.Packet.{Packet}
use Rattle.symbology.proofs.Writing.{Turn, turn, none, lengths}

-- the codes of rows
abbrev pub codes_in : ℕ → List (List ℕ) → List ℕ
codes_in bins rows = joined (map (shown bins) rows)

-- one of two rows of a length has that length
pub either_long : (bins : ℕ) (x y : List ℕ) → length (shown bins x) ≡ bins → length (shown bins y) ≡ bins → length (shown bins (either x y)) ≡ bins
unfolding either
either_long bins [] y a b = b
either_long bins (zero ∷ c) y a b = a
either_long bins (suc m ∷ c) y a b = b

module _ (packet : Packet) (radials bins : ℕ) (s t : List ℕ) where
  abbrev Walk : List ℕ → ℕ → ℕ → ℕ → Result (Given (List Float))
  Walk u n r p = run (in_mode true (any_walk packet radials bins n r)) u p

  -- as many rows, and bins codes to each
  pub merged_lengths : (n r p q : ℕ) (a b : Given (List Float)) → Walk s n r p ≡ accepted a → Walk t n r q ≡ accepted b
      → (length (merge_rows a.rows b.rows) ≡ n) × (length (codes_in bins (merge_rows a.rows b.rows)) ≡ n * bins)
  unfolding merge_rows joined cells_of
  merged_lengths zero r p q a b e k =
      let h = ap (λ (g : Given (List Float)). g.rows) (none true packet radials bins s r p a e) in
      (rw h refl, rw h (sym (zero-mul bins)))
  merged_lengths (suc n) r p q a b e k =
      let x = turn true packet radials bins s n r p a e in
      let y = turn true packet radials bins t n r q b k in
      let i = merged_lengths n (suc r) x.first.next y.first.next x.rest y.rest x.rest_is y.rest_is in
      rw (x.whole, y.whole) (
        ap suc i.0,
        length-append (shown bins (either x.codes y.codes)) (codes_in bins (merge_rows x.rest.rows y.rest.rows)) ∙ rw (either_long bins x.codes y.codes x.long y.long, i.1, suc-mul) (add_comm _ _),
      )

  -- The invariant: radial r stands at i and at j, and its row belongs at `cell`; what is left, laid from there, is the whole.
  pub record Merging (a b : Given (List Float)) (az₀ : List Float) (codes₀ marks₀ : List ℕ) (az : List Float) (codes marks : List ℕ) (i j cell r : ℕ) : Type 0 where
    pub first : Given (List Float)
    pub first_is : Walk s (radials - r) r i ≡ accepted first
    pub second : Given (List Float)
    pub second_is : Walk t (radials - r) r j ≡ accepted second
    pub centres : Laid (a.value ++ drop (length a.value) az₀) (length az₀) az first.value r
    pub rows : Laid (codes_in bins (merge_rows a.rows b.rows) ++ drop (length (codes_in bins (merge_rows a.rows b.rows))) codes₀) (length codes₀) codes (codes_in bins (merge_rows first.rows second.rows)) cell
    pub marks_laid : Laid (map mark_of (merge_rows a.rows b.rows) ++ drop (length (map mark_of (merge_rows a.rows b.rows))) marks₀) (length marks₀) marks (map mark_of (merge_rows first.rows second.rows)) r

  pub merging_first : (i j : ℕ) (az : List Float) (codes marks : List ℕ) (a : Accepted (Walk s radials 0 i)) (b : Accepted (Walk t radials 0 j))
      → radials ≤ length az → radials * bins ≤ length codes → radials ≤ length marks → Merging a.0 b.0 az codes marks az codes marks i j 0 0
  merging_first i j az codes marks a b h k l =
      let e : radials - 0 ≡ radials = omega arith in
      let m = lengths true packet radials bins s radials 0 i a.0 a.1 in
      let n = merged_lengths radials 0 i j a.0 b.0 a.1 b.1 in
      let o : length (map mark_of (merge_rows a.0.rows b.0.rows)) ≡ radials = length-map (merge_rows a.0.rows b.0.rows) mark_of ∙ n.0 in
      record {
        first = a.0;
        first_is = rw e a.1;
        second = b.0;
        second_is = rw e b.1;
        centres = laid_first _ az _ refl (rw m.0 h);
        rows = laid_first _ codes _ refl (rw n.1 k);
        marks_laid = laid_first _ marks _ refl (rw o l);
      }

  module _ {a b : Given (List Float)} {az₀ : List Float} {codes₀ marks₀ : List ℕ} {az : List Float} {codes marks : List ℕ} {i j cell r : ℕ}
      (inv : Merging a b az₀ codes₀ marks₀ az codes marks i j cell r) where
    module _ (more : r < radials) where
      one : radials - r ≡ suc (radials - suc r)
      one = omega arith

      x : Turn true packet radials bins s (radials - suc r) r i inv.first
      x = turn true packet radials bins s (radials - suc r) r i inv.first (rw one at inv.first_is)

      y : Turn true packet radials bins t (radials - suc r) r j inv.second
      y = turn true packet radials bins t (radials - suc r) r j inv.second (rw one at inv.second_is)

      pub merging_both : Accepted (run (in_mode true (any_radial packet radials bins r)) s i) × Accepted (run (in_mode true (any_radial packet radials bins r)) t j)
      merging_both = ((x.first, x.first_is), (y.first, y.first_is))

      long : length (shown bins (either x.codes y.codes)) ≡ bins
      unfolding cells_of
      long = either_long bins x.codes y.codes x.long y.long

      -- the rows that are left: this one, and the rest
      rows_are : merge_rows inv.first.rows inv.second.rows ≡ either x.codes y.codes ∷ merge_rows x.rest.rows y.rest.rows
      unfolding merge_rows
      rows_are = ap₂ merge_rows x.whole y.whole

      codes_are : codes_in bins (merge_rows inv.first.rows inv.second.rows) ≡ shown bins (either x.codes y.codes) ++ codes_in bins (merge_rows x.rest.rows y.rest.rows)
      unfolding joined
      codes_are = ap (codes_in bins) rows_are

      pub merging_room : (r < length az) × (cell + bins ≤ length codes) × (r < length marks)
      merging_room =
          let p : length inv.first.value ≡ suc (length x.rest.value) = ap length x.value_is in
          let q : length (codes_in bins (merge_rows inv.first.rows inv.second.rows)) ≡ bins + length (codes_in bins (merge_rows x.rest.rows y.rest.rows)) =
          ap length codes_are ∙ length-append (shown bins (either x.codes y.codes)) _ ∙ ap (λ (k : ℕ). k + length (codes_in bins (merge_rows x.rest.rows y.rest.rows))) long in
          let m : length (map mark_of (merge_rows inv.first.rows inv.second.rows)) ≡ suc (length (map mark_of (merge_rows x.rest.rows y.rest.rows))) = ap (λ (l : List (List ℕ)). length (map mark_of l)) rows_are in
          (omega (arith, inv.centres.long, inv.centres.room, p), omega (arith, inv.rows.long, inv.rows.room, q), omega (arith, inv.marks_laid.long, inv.marks_laid.room, m))

      -- the part that is lent has a row's length
      pub merging_part : length (mid_of cell (cell + bins - cell) codes) ≡ bins
      merging_part =
          let e : cell + bins - cell ≡ bins = omega arith in
          rw e (length-take-le bins (drop cell codes) (omega (arith, merging_room.1, length-drop cell codes)))

      pub merging_next : {c : Float} {i' j' mark : ℕ} {row : List ℕ} → accepted (c, i') ≡ centre_in (run (in_mode true (any_radial packet radials bins r)) s i)
          → accepted j' ≡ next_in (run (in_mode true (any_radial packet radials bins r)) t j)
          → mark ≡ mark_of (either (row_in (run (in_mode true (any_radial packet radials bins r)) s i)) (row_in (run (in_mode true (any_radial packet radials bins r)) t j)))
          → row ≡ shown bins (either (row_in (run (in_mode true (any_radial packet radials bins r)) s i)) (row_in (run (in_mode true (any_radial packet radials bins r)) t j)))
          → Merging a b az₀ codes₀ marks₀ (set az r c) (put_mid cell (cell + bins - cell) codes row) (set marks r mark) i' j' (cell + bins) (r + 1)
      merging_next {c} {i'} {j'} {mark} {row} e k m w =
          let pe : ◌≡◌ {A = Float × ℕ} (c, i') (x.first.value, x.first.next) = one_value (e ∙ ap centre_in x.first_is) in
          let ca : c ≡ x.first.value = ap (λ z. z.0) pe in
          let ci : i' ≡ x.first.next = ap (λ z. z.1) pe in
          let cj : j' ≡ y.first.next = one_value (k ∙ ap next_in y.first_is) in
          let rx : row_in (run (in_mode true (any_radial packet radials bins r)) s i) ≡ x.codes = ap row_in x.first_is ∙ ap first_row x.rows_are in
          let ry : row_in (run (in_mode true (any_radial packet radials bins r)) t j) ≡ y.codes = ap row_in y.first_is ∙ ap first_row y.rows_are in
          let mk : mark ≡ mark_of (either x.codes y.codes) = m ∙ ap₂ (λ (p q : List ℕ). mark_of (either p q)) rx ry in
          let ro : row ≡ shown bins (either x.codes y.codes) = w ∙ ap₂ (λ (p q : List ℕ). shown bins (either p q)) rx ry in
          let n : radials - (r + 1) ≡ radials - suc r = omega arith in
          record {
            first = x.rest;
            first_is = rw (n, add-one r, ci) x.rest_is;
            second = y.rest;
            second_is = rw (n, add-one r, cj) y.rest_is;
            centres = laid_set x.first.value x.rest.value c (rw x.value_is at inv.centres) ca;
            rows = laid_put (shown bins (either x.codes y.codes)) (codes_in bins (merge_rows x.rest.rows y.rest.rows)) row bins (rw codes_are at inv.rows) long ro;
            marks_laid = laid_set (mark_of (either x.codes y.codes)) (map mark_of (merge_rows x.rest.rows y.rest.rows)) mark (rw rows_are at inv.marks_laid) mk;
          }

    module _ (over : radials ≤ r) where
      zero_left : radials - r ≡ 0
      zero_left = omega arith

      none_left : inv.first ≡ record { value = []; next = i; rows = [] }
      none_left = none true packet radials bins s r i inv.first (rw zero_left at inv.first_is)

      rows_none : merge_rows inv.first.rows inv.second.rows ≡ []
      unfolding merge_rows
      rows_none = ap (λ (g : Given (List Float)). merge_rows g.rows inv.second.rows) none_left

      pub merging_centres : az ≡ a.value ++ drop (length a.value) az₀
      merging_centres = laid_end (rw (ap (λ (g : Given (List Float)). g.value) none_left) at inv.centres)

      pub merging_rows : codes ≡ codes_in bins (merge_rows a.rows b.rows) ++ drop (length (codes_in bins (merge_rows a.rows b.rows))) codes₀
      unfolding joined
      merging_rows = laid_end (rw (ap (codes_in bins) rows_none) at inv.rows)

      pub merging_marks : marks ≡ map mark_of (merge_rows a.rows b.rows) ++ drop (length (map mark_of (merge_rows a.rows b.rows))) marks₀
      merging_marks = laid_end (rw (ap (map mark_of) rows_none) at inv.marks_laid)
