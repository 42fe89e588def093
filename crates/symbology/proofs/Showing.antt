-- The walk that writes rows and gaps: one row, one radial, and the marks of all. Assumes nothing.
use Rattle.std.proofs.Common.{◌≡◌, ℕ, zero, suc, ◌+◌, ◌-◌, ◌<◌, ◌≤◌, Bool, true, false, List, ◌++◌, map, length, take, drop, set, replicate, sym, refl, ap, ◌∙◌, add-one, arith}
use lib.ListN.{length-map}
use lib.Ieee.{Float}
use Rattle.wire.specs.Refusal.{Refusal}
use Rattle.wire.specs.Result.{Result, accepted, refused, then}
use Rattle.wire.specs.Reading.{marked, run, Given}
use Rattle.wire.proofs.Parts.{Laid, laid_first, laid_end, laid_set}
use Rattle.wire.proofs.Results.{clash}
use Rattle.symbology.specs.Answers.{mark_of, shown}
use Rattle.symbology.specs.Places.{Enough}
use Rattle.symbology.specs.Rows.{row_of, codes_of, FullRow}
use Rattle.symbology.specs.Walk.{in_mode, kept_of, cells_of, marks_in, Ready, cells_from, mark_from, mark_in, put_mark, any_radial, any_walk, Accepted, first_row, row_in, centre_in}
use Rattle.symbology.proofs.FullRow.{full_row}
use Rattle.symbology.proofs.Walking.{Found}
use Rattle.symbology.proofs.Writing.{row_ready, row_written, centre_written, gap_radial, gap_enough, Turn, turn, none}
use Rattle.symbology.specs.declared.figures.Packet.{Packet}

-- ---- one row

abbrev pub Tested : Result (List ℕ) → Result (Unit {0})
Tested c = then (kept_of false c) (λ _. accepted tt)

module _ (packet : Packet) (bins r : ℕ) (bytes : List ℕ) where
  -- the data make a row
  pub row_there : accepted tt ≡ Tested (row_of packet bins r bytes) → (codes : List ℕ) × (row_of packet bins r bytes ≡ accepted codes)
  unfolding kept_of
  row_there h = by (row_of packet bins r bytes) refl h
    where
      by : (c : Result (List ℕ)) → row_of packet bins r bytes ≡ c → accepted tt ≡ Tested c → (codes : List ℕ) × (row_of packet bins r bytes ≡ accepted codes)
      by (accepted codes) e k = (codes, e)
      by (refused x) e k = clash tt x (sym k)

  module _ (enough : Enough packet bins (length bytes)) (h : accepted tt ≡ Tested (row_of packet bins r bytes)) where
    pub full_there : FullRow packet bins bytes
    full_there = let w = row_there h in (full_row packet bins r bytes w.0 enough w.1).0

    pub row_shown : {row : List ℕ} → row ≡ codes_of packet bins bytes
        → (0 ≡ mark_of (marked (row_of packet bins r bytes))) × (row ≡ shown bins (marked (row_of packet bins r bytes)))
    unfolding shown
    row_shown e =
        let w = row_there h in
        let z = ap marked w.1 in
        (sym (ap mark_of z), e ∙ sym (full_row packet bins r bytes w.0 enough w.1).1 ∙ sym (ap (shown bins) z))

  -- they make none
  pub gap_shown : {x : Refusal} {row : List ℕ} → refused x ≡ Tested (row_of packet bins r bytes) → row ≡ replicate bins 0
      → (1 ≡ mark_of (marked (row_of packet bins r bytes))) × (row ≡ shown bins (marked (row_of packet bins r bytes)))
  unfolding kept_of shown
  gap_shown {x} {row} h e = by (row_of packet bins r bytes) h
    where
      by : (c : Result (List ℕ)) → refused x ≡ Tested c → (1 ≡ mark_of (marked c)) × (row ≡ shown bins (marked c))
      by (accepted codes) k = clash tt x k
      by (refused y) k = (refl, e)

-- ---- one radial

module _ (packet : Packet) (radials bins r : ℕ) (s : List ℕ) (p : ℕ) {a : Float} {from to : ℕ} (f : Found packet radials bins r s p a from to) where
  pub cells_ready : (m : Bool) → Accepted (run (in_mode m (any_radial packet radials bins r)) s p) → Ready m packet bins (take (to - from) (drop from s))
  unfolding in_mode Ready
  cells_ready true acc = gap_enough packet radials bins r s p f
  cells_ready false acc = row_ready packet radials bins r s p f acc

  pub cells_centre : (m : Bool) → Accepted (run (in_mode m (any_radial packet radials bins r)) s p) → accepted (a, to) ≡ centre_in (run (in_mode m (any_radial packet radials bins r)) s p)
  cells_centre true acc = sym (ap centre_in (gap_radial packet radials bins r s p f))
  cells_centre false acc = (unfold in_mode in centre_written packet radials bins r s p f acc)

  pub cells_mark : (m : Bool) {mark : ℕ} → Accepted (run (in_mode m (any_radial packet radials bins r)) s p)
      → mark ≡ mark_from m packet bins r (take (to - from) (drop from s)) → mark ≡ mark_in m (row_in (run (in_mode m (any_radial packet radials bins r)) s p))
  unfolding mark_from mark_in
  cells_mark true acc e = e ∙ sym (ap (λ x. mark_of (row_in x)) (gap_radial packet radials bins r s p f))
  cells_mark false acc e = e

  pub cells_written : (m : Bool) {row : List ℕ} → Accepted (run (in_mode m (any_radial packet radials bins r)) s p)
      → row ≡ cells_from m packet bins r (take (to - from) (drop from s)) → row ≡ cells_of m bins (row_in (run (in_mode m (any_radial packet radials bins r)) s p))
  unfolding cells_from cells_of
  cells_written true acc e = e ∙ sym (ap (λ x. shown bins (row_in x)) (gap_radial packet radials bins r s p f))
  cells_written false acc e = (unfold in_mode in row_written packet radials bins r s p f acc e)

-- ---- the marks of all radials

module _ (packet : Packet) (radials bins : ℕ) (s : List ℕ) where
  pub row_count : (n r p : ℕ) (g : Given (List Float)) → run (in_mode true (any_walk packet radials bins n r)) s p ≡ accepted g → length g.rows ≡ n
  row_count zero r p g e = ap (λ x. length x.rows) (none true packet radials bins s r p g e)
  row_count (suc n) r p g e = let t = turn true packet radials bins s n r p g e in ap length t.whole ∙ ap suc (row_count n (suc r) t.first.next t.rest t.rest_is)

  -- The invariant: radial r stands at `at`; the marks that are left, laid from place r on, are the whole.
  pub record Marking (g : Given (List Float)) (marks₀ marks : List ℕ) (at r : ℕ) : Type 0 where
    pub rest : Given (List Float)
    pub rest_is : run (in_mode true (any_walk packet radials bins (radials - r) r)) s at ≡ accepted rest
    pub laid : Laid (map mark_of g.rows ++ drop (length (map mark_of g.rows)) marks₀) (length marks₀) marks (map mark_of rest.rows) r

  pub marking_first : (start : ℕ) (marks : List ℕ) (acc : Accepted (run (in_mode true (any_walk packet radials bins radials 0)) s start)) → radials ≤ length marks
      → Marking acc.0 marks marks start 0
  marking_first start marks acc h =
      let e : radials - 0 ≡ radials = omega arith in
      let l : length (map mark_of acc.0.rows) ≡ radials = length-map acc.0.rows mark_of ∙ row_count radials 0 start acc.0 acc.1 in
      record { rest = acc.0; rest_is = rw e acc.1; laid = laid_first (map mark_of acc.0.rows) marks _ refl (rw l h) }

  module _ {g : Given (List Float)} {marks₀ marks : List ℕ} {at r : ℕ} (inv : Marking g marks₀ marks at r) where
    module _ (more : r < radials) where
      this : Turn true packet radials bins s (radials - suc r) r at inv.rest
      this = let e : radials - r ≡ suc (radials - suc r) = omega arith in turn true packet radials bins s (radials - suc r) r at inv.rest (rw e at inv.rest_is)

      pub marking_room : r < length marks
      marking_room =
          let a : length (map mark_of inv.rest.rows) ≡ suc (length (map mark_of this.rest.rows)) = ap (λ (x : List (List ℕ)). length (map mark_of x)) this.whole in
          omega (arith, inv.laid.long, inv.laid.room, a)

      pub marking_next : {a : Float} {next mark : ℕ} → accepted (a, next) ≡ centre_in (run (in_mode true (any_radial packet radials bins r)) s at)
          → mark ≡ mark_of (row_in (run (in_mode true (any_radial packet radials bins r)) s at)) → Marking g marks₀ (set marks r mark) next (r + 1)
      marking_next {a} {next} {mark} e k =
          let t = this in
          let c = e ∙ ap centre_in t.first_is in
          let pe : ◌≡◌ {A = Float × ℕ} (a, next) (t.first.value, t.first.next) = cc in
          let cn : next ≡ t.first.next = ap (λ x. x.1) pe in
          let mk : mark ≡ mark_of t.codes = k ∙ ap (λ x. mark_of (row_in x)) t.first_is ∙ ap (λ x. mark_of (first_row x)) t.rows_are in
          let n : radials - (r + 1) ≡ radials - suc r = omega arith in
          record {
            rest = t.rest;
            rest_is = rw (n, add-one r, cn) t.rest_is;
            laid = laid_set (mark_of t.codes) (map mark_of t.rest.rows) mark (rw t.whole at inv.laid) mk;
          }

    pub marking_end : radials ≤ r → marks ≡ map mark_of g.rows ++ drop (length (map mark_of g.rows)) marks₀
    marking_end h =
        let e : radials - r ≡ 0 = omega arith in
        laid_end (rw (ap (λ (x : Given (List Float)). map mark_of x.rows) (none true packet radials bins s r at inv.rest (rw e at inv.rest_is))) at inv.laid)

-- with gaps or without
true_false : {A : Type 0} → true ≡ false → A
true_false h = absurd (let z : ◌≡◌ {A = ℕ} 0 1 = cc in omega arith)

module _ (packet : Packet) (radials bins : ℕ) (s : List ℕ) where
  pub record MarkingIn (m : Bool) (g : Given (List Float)) (marks₀ marks : List ℕ) (at r : ℕ) : Type 0 where
    pub shown : m ≡ true → Marking packet radials bins s g marks₀ marks at r
    pub kept : m ≡ false → marks ≡ marks₀

  pub marks_first : (m : Bool) (start : ℕ) (marks : List ℕ) (acc : Accepted (run (in_mode m (any_walk packet radials bins radials 0)) s start)) → (m ≡ true → radials ≤ length marks)
      → MarkingIn m acc.0 marks marks start 0
  marks_first true start marks acc h = record { shown = λ e. marking_first packet radials bins s start marks acc (h refl); kept = λ e. true_false e }
  marks_first false start marks acc h = record { shown = λ e. true_false (sym e); kept = λ e. refl }

  pub marks_long : (m : Bool) {g : Given (List Float)} {marks₀ marks : List ℕ} {at r : ℕ} → MarkingIn m g marks₀ marks at r → length marks ≡ length marks₀
  marks_long true inv = (inv.shown refl).laid.long
  marks_long false inv = ap length (inv.kept refl)

  pub marks_room : (m : Bool) {g : Given (List Float)} {marks₀ marks : List ℕ} {at r : ℕ} → MarkingIn m g marks₀ marks at r → r < radials → m ≡ true → r < length marks
  marks_room m inv more e = marking_room packet radials bins s (inv.shown e) more

  pub marks_next : (m : Bool) {g : Given (List Float)} {marks₀ marks marks' : List ℕ} {at r : ℕ} {a : Float} {next mark : ℕ} → MarkingIn m g marks₀ marks at r → r < radials
      → accepted (a, next) ≡ centre_in (run (in_mode m (any_radial packet radials bins r)) s at)
      → mark ≡ mark_in m (row_in (run (in_mode m (any_radial packet radials bins r)) s at)) → marks' ≡ put_mark m marks r mark → MarkingIn m g marks₀ marks' next (r + 1)
  unfolding mark_in put_mark
  marks_next true inv more e k is = record { shown = λ h. rw is (marking_next packet radials bins s (inv.shown refl) more e k); kept = λ h. true_false h }
  marks_next false inv more e k is = record { shown = λ h. true_false (sym h); kept = λ h. is ∙ inv.kept refl }

  pub marks_end : (m : Bool) {g : Given (List Float)} {marks₀ marks : List ℕ} {at r : ℕ} → MarkingIn m g marks₀ marks at r → radials ≤ r
      → marks ≡ marks_in m g.rows ++ drop (length (marks_in m g.rows)) marks₀
  unfolding marks_in
  marks_end true inv h = marking_end packet radials bins s (inv.shown refl) h
  marks_end false inv h = inv.kept refl
