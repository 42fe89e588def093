-- The walk that writes: one radial, and the invariant over all. Assumes nothing.
use Rattle.std.proofs.Common.{◌≡◌, ℕ, zero, suc, ◌+◌, ◌-◌, ◌*◌, ◌<◌, ◌≤◌, Bool, true, false, List, [], ◌∷◌, ◌++◌, length, take, drop, set, sym, refl, ap, ◌∙◌, append-nil, suc-mul, add_comm, zero-mul, add-one, arith, length-append, length-drop, length-take, length-take-le}
use lib.ListN.{length-replicate}
use lib.Ieee.{Float}
use borrow.Rule.Slice.PartMut.{put_mid, mid_of}
use Rattle.wire.specs.Refusal.{Refusal}
use Rattle.wire.specs.Result.{answer, Result, accepted, refused}
use Rattle.wire.specs.Reading.{marked, ◌>>=◌, ◌>>◌, radial_data, more, after_row, run, Given, passed, walk}
use Rattle.wire.proofs.Runs.{run_passed, plain_passed}
use Rattle.wire.proofs.Results.{one_value}
use Rattle.symbology.proofs.Modes.{mode_give, mode_plain, mode_radial, mode_parts}
use Rattle.wire.proofs.Parts.{Laid, laid_first, laid_end, laid_put, laid_set}
use Rattle.symbology.specs.Answers.{joined, shown}
use Rattle.symbology.specs.Places.{Enough}
use Rattle.symbology.specs.Rows.{row_of, codes_of, FullRow}
use Rattle.std.specs.Prelude as Std
use Rattle.std.specs.Prelude.{IsOk}
use Rattle.wire.specs.declared.error.Level3DecodeError.{Level3DecodeError}
use Rattle.symbology.specs.declared.spans.Place.{Place}
use Rattle.symbology.specs.Walk.{in_mode, kept_of, cells_of, codes_in, Span, any_frame, any_radial, any_walk, placed, Accepted, first_row, row_in, centre_in}
use Rattle.symbology.proofs.FullRow.{full_row}
use Rattle.symbology.proofs.Frames.{plain_frame}
use Rattle.symbology.proofs.Walking.{Found, data_is, spanned}
use Rattle.symbology.specs.declared.figures.Packet.{Packet}

-- ---- one radial

module _ (packet : Packet) (radials bins r : ℕ) (s : List ℕ) (p : ℕ) {a : Float} {from to : ℕ} (f : Found packet radials bins r s p a from to) where
  run_radial : run (any_radial packet radials bins r) s p ≡ after_row (row_of packet bins r (take (to - from) (drop from s))) (accepted (record { value = a; next = to; rows = [] }))
  unfolding any_radial radial_data run ◌>>=◌ ◌>>◌
  run_radial =
      run_passed _ (any_frame packet radials bins r) (plain_frame packet radials bins r) s p f.frame_is
      ∙ rw (data_is packet radials bins r s p f, f.to_is) refl

  -- What the run of an accepted radial is.
  pub record Made (g : Given Float) : Type 0 where
    pub codes : List ℕ
    pub row_is : row_of packet bins r (take (to - from) (drop from s)) ≡ accepted codes
    pub given_is : g ≡ record { value = a; next = to; rows = codes ∷ [] }

  made : (g : Given Float) → run (any_radial packet radials bins r) s p ≡ accepted g → Made g
  unfolding after_row more
  made g e = go (row_of packet bins r (take (to - from) (drop from s))) refl (sym run_radial ∙ e)
    where
      go : (c : Result (List ℕ)) → row_of packet bins r (take (to - from) (drop from s)) ≡ c → after_row c (accepted (record { value = a; next = to; rows = [] })) ≡ accepted g → Made g
      go (accepted codes) h k = record { codes = codes; row_is = h; given_is = cc }
      go (refused x) h k = let z : ◌≡◌ {A = ℕ} 0 1 = cc in absurd (omega arith)

  data_long : length (take (to - from) (drop from s)) ≡ f.size
  data_long = simp (length-take, length-drop) (omega (arith, f.to_is, f.inside))

  full : (g : Given Float) (m : Made g) → (FullRow packet bins (take (to - from) (drop from s))) × (m.codes ≡ codes_of packet bins (take (to - from) (drop from s))) × (length m.codes ≡ bins)
  full g m = full_row packet bins r _ m.codes (rw data_long f.enough) m.row_is

  module _ (acc : Accepted (run (any_radial packet radials bins r) s p)) where
    -- the data make a row, and what is written is it
    pub row_ready : FullRow packet bins (take (to - from) (drop from s))
    row_ready = (full acc.0 (made acc.0 acc.1)).0

    pub row_written : {row : List ℕ} → row ≡ codes_of packet bins (take (to - from) (drop from s)) → row ≡ row_in (run (any_radial packet radials bins r) s p)
    row_written e =
        let m = made acc.0 acc.1 in
        e ∙ sym (full acc.0 m).1 ∙ sym (ap row_in (acc.1 ∙ ap accepted m.given_is))

    pub centre_written : accepted (a, to) ≡ centre_in (run (any_radial packet radials bins r) s p)
    centre_written = let m = made acc.0 acc.1 in sym (ap centre_in (acc.1 ∙ ap accepted m.given_is))

-- ---- with gaps

pub shown_long : (bins : ℕ) (c : Result (List ℕ)) → ((codes : List ℕ) → c ≡ accepted codes → length codes ≡ bins) → length (shown bins (marked c)) ≡ bins
unfolding shown
shown_long bins (accepted codes) h = h codes refl
shown_long bins (refused x) h = length-replicate bins 0

module _ (packet : Packet) (radials bins r : ℕ) (s : List ℕ) (p : ℕ) {a : Float} {from to : ℕ} (f : Found packet radials bins r s p a from to) where
  -- what a radial whose frame passed gives, a gap or not
  pub gap_radial : run (in_mode true (any_radial packet radials bins r)) s p ≡ accepted (record { value = a; next = to; rows = marked (row_of packet bins r (take (to - from) (drop from s))) ∷ [] })
  unfolding any_radial radial_data run ◌>>=◌ ◌>>◌ kept_of after_row more
  gap_radial =
      ap (λ t. run t s p) (mode_radial true _ _ _ (any_frame packet radials bins r) (plain_frame packet radials bins r))
      ∙ run_passed _ (any_frame packet radials bins r) (plain_frame packet radials bins r) s p f.frame_is
      ∙ rw (data_is packet radials bins r s p f, f.to_is) refl

  -- its data are enough for a row
  pub gap_enough : Enough packet bins (length (take (to - from) (drop from s)))
  gap_enough = rw (data_long packet radials bins r s p f) f.enough

  pub kept_row : (m : Bool) (g : Given Float) → run (in_mode m (any_radial packet radials bins r)) s p ≡ accepted g
      → (row : List ℕ) × ((g.rows ≡ row ∷ []) × (length (cells_of m bins row) ≡ bins))
  unfolding in_mode cells_of
  kept_row false g e =
      let m = made packet radials bins r s p f g e in
      (m.codes, (ap (λ x. x.rows) m.given_is, (full packet radials bins r s p f g m).2))
  kept_row true g e =
      let is = one_value (sym e ∙ gap_radial) in
      (marked (row_of packet bins r (take (to - from) (drop from s))), (ap (λ x. x.rows) is, shown_long bins (row_of packet bins r (take (to - from) (drop from s))) (λ codes h. (full_row packet bins r (take (to - from) (drop from s)) codes gap_enough h).2)))

-- the codes of the rows
codes_none : (m : Bool) (bins : ℕ) → codes_in m bins [] ≡ []
unfolding codes_in joined
codes_none true bins = refl
codes_none false bins = refl

codes_more : (m : Bool) (bins : ℕ) (row : List ℕ) (rows : List (List ℕ)) → codes_in m bins (row ∷ rows) ≡ cells_of m bins row ++ codes_in m bins rows
unfolding codes_in cells_of joined
codes_more true bins row rows = refl
codes_more false bins row rows = refl

-- a radial that is accepted has a frame
pub frame_there : {A : Type 0} (m : Bool) (packet : Packet) (radials bins r : ℕ) (s : List ℕ) (p : ℕ) {x : Refusal} → Accepted (run (in_mode m (any_radial packet radials bins r)) s p)
    → refused x ≡ placed (walk (any_frame packet radials bins r) s p) → A
unfolding any_radial
frame_there m packet radials bins r s p {x} acc e =
    let a = mode_parts m _ (any_frame packet radials bins r) s p acc.1 in
    let b = plain_passed (any_frame packet radials bins r) (plain_frame packet radials bins r) s p (ap (λ t. run t s p) (sym (mode_plain m (any_frame packet radials bins r) (plain_frame packet radials bins r))) ∙ a.first_is) in
    let c = e ∙ sym (ap placed b.0) in
    absurd (let z : ◌≡◌ {A = ℕ} 0 1 = cc in omega arith)

-- so the code's answer is its place
pub frame_ok : (m : Bool) (packet : Packet) (radials bins r : ℕ) (s : List ℕ) (p : ℕ) (a : Std.Result Place Level3DecodeError)
    → Accepted (run (in_mode m (any_radial packet radials bins r)) s p) → answer a ≡ placed (walk (any_frame packet radials bins r) s p) → IsOk a
frame_ok m packet radials bins r s p (Std.Ok place) acc e = refl
frame_ok m packet radials bins r s p (Std.Err x) acc e = frame_there m packet radials bins r s p acc e

-- a frame that passed is a place that was found
found_at : (packet : Packet) (radials bins r : ℕ) (s : List ℕ) (p : ℕ) (sp : Span) (q : ℕ) → passed sp q ≡ walk (any_frame packet radials bins r) s p
    → Found packet radials bins r s p sp.centre q (q + sp.size)
found_at packet radials bins r s p sp q e =
    let g = spanned packet radials bins r s p sp q e in
    record { size = sp.size; to_is = refl; frame_is = e; inside = g.inside; enough = g.enough }

-- ---- all radials

module _ (m : Bool) (packet : Packet) (radials bins : ℕ) (s : List ℕ) where
  -- the next radial of an accepted walk, and the rest
  pub record Turn (k r p : ℕ) (g : Given (List Float)) : Type 0 where
    pub first : Given Float
    pub rest : Given (List Float)
    pub codes : List ℕ
    pub first_is : run (in_mode m (any_radial packet radials bins r)) s p ≡ accepted first
    pub rest_is : run (in_mode m (any_walk packet radials bins k (suc r))) s first.next ≡ accepted rest
    pub rows_are : first.rows ≡ codes ∷ []
    pub long : length (cells_of m bins codes) ≡ bins
    pub value_is : g.value ≡ first.value ∷ rest.value
    pub whole : g.rows ≡ codes ∷ rest.rows

  one_row : (r p : ℕ) (g : Given Float) → run (in_mode m (any_radial packet radials bins r)) s p ≡ accepted g → (row : List ℕ) × ((g.rows ≡ row ∷ []) × (length (cells_of m bins row) ≡ bins))
  unfolding any_radial
  one_row r p g e =
      let a = mode_parts m _ (any_frame packet radials bins r) s p e in
      let b = plain_passed (any_frame packet radials bins r) (plain_frame packet radials bins r) s p (ap (λ t. run t s p) (sym (mode_plain m (any_frame packet radials bins r) (plain_frame packet radials bins r))) ∙ a.first_is) in
      kept_row packet radials bins r s p (found_at packet radials bins r s p a.first.value a.first.next b.0) m g e

  pub turn : (k r p : ℕ) (g : Given (List Float)) → run (in_mode m (any_walk packet radials bins (suc k) r)) s p ≡ accepted g → Turn k r p g
  unfolding any_walk run
  turn k r p g e =
      let a = mode_parts m _ (any_radial packet radials bins r) s p e in
      let b = mode_parts m _ (any_walk packet radials bins k (suc r)) s _ a.second_is in
      let o = one_row r p a.first a.first_is in
      last a.first a.second b.first b.second o.0 a.first_is b.first_is o.1.0 o.1.1 a.whole b.whole (sym (ap (λ t. run {W = ⊥} t s b.first.next) (mode_give m (a.first.value ∷ b.first.value))) ∙ b.second_is)
    where
      last : (f : Given Float) (w l n : Given (List Float)) (codes : List ℕ) → run (in_mode m (any_radial packet radials bins r)) s p ≡ accepted f
          → run (in_mode m (any_walk packet radials bins k (suc r))) s f.next ≡ accepted l → f.rows ≡ codes ∷ [] → length (cells_of m bins codes) ≡ bins
          → g ≡ record { value = w.value; next = w.next; rows = f.rows ++ w.rows }
          → w ≡ record { value = n.value; next = n.next; rows = l.rows ++ n.rows }
          → ◌≡◌ {A = Result (Given (List Float))} (accepted (record { value = f.value ∷ l.value; next = l.next; rows = [] })) (accepted n) → Turn k r p g
      last f w l n codes h₁ h₂ h₃ h₄ h₅ h₆ h₇ =
          let i : ◌≡◌ {A = Given (List Float)} (record { value = f.value ∷ l.value; next = l.next; rows = [] }) n = cc in
          let v : w.value ≡ f.value ∷ l.value = ap (λ x. x.value) h₆ ∙ sym (ap (λ x. x.value) i) in
          let u : w.rows ≡ l.rows = ap (λ x. x.rows) h₆ ∙ ap (λ x. l.rows ++ x) (sym (ap (λ x. x.rows) i)) ∙ append-nil l.rows in
          record {
            first = f;
            rest = l;
            codes = codes;
            first_is = h₁;
            rest_is = h₂;
            rows_are = h₃;
            long = h₄;
            value_is = ap (λ x. x.value) h₅ ∙ v;
            whole = ap (λ x. x.rows) h₅ ∙ rw (h₃, u) refl;
          }

  pub none : (r p : ℕ) (g : Given (List Float)) → run (in_mode m (any_walk packet radials bins 0 r)) s p ≡ accepted g → g ≡ record { value = []; next = p; rows = [] }
  unfolding any_walk run
  none r p g e = sym (one_value (sym (ap (λ t. run {W = ⊥} t s p) (mode_give m [])) ∙ e))

  -- as many centres as radials, and bins codes to each
  pub lengths : (n r p : ℕ) (g : Given (List Float)) → run (in_mode m (any_walk packet radials bins n r)) s p ≡ accepted g → (length g.value ≡ n) × (length (codes_in m bins g.rows) ≡ n * bins)
  lengths zero r p g e =
      let h = none r p g e in
      (ap (λ x. length x.value) h, ap (λ x. length (codes_in m bins x.rows)) h ∙ ap length (codes_none m bins) ∙ sym (zero-mul bins))
  lengths (suc n) r p g e =
      let t = turn n r p g e in
      let i = lengths n (suc r) t.first.next t.rest t.rest_is in (
        ap length t.value_is ∙ ap suc i.0,
        ap (λ x. length (codes_in m bins x)) t.whole ∙ ap length (codes_more m bins t.codes t.rest.rows) ∙ length-append (cells_of m bins t.codes) (codes_in m bins t.rest.rows) ∙ rw (t.long, i.1, suc-mul) (add_comm _ _),
      )

  -- The invariant: radial r stands at `at`, and its row belongs at `cell`; what is left, laid from there, is the whole.
  pub record Written (g : Given (List Float)) (az₀ : List Float) (codes₀ : List ℕ) (az : List Float) (codes : List ℕ) (at cell r : ℕ) : Type 0 where
    pub number : r ≤ radials
    pub rest : Given (List Float)
    pub rest_is : run (in_mode m (any_walk packet radials bins (radials - r) r)) s at ≡ accepted rest
    pub centres : Laid (g.value ++ drop (length g.value) az₀) (length az₀) az rest.value r
    pub rows : Laid (codes_in m bins g.rows ++ drop (length (codes_in m bins g.rows)) codes₀) (length codes₀) codes (codes_in m bins rest.rows) cell

  pub written_first : (start : ℕ) (az : List Float) (codes : List ℕ) (acc : Accepted (run (in_mode m (any_walk packet radials bins radials 0)) s start))
      → radials ≤ length az → radials * bins ≤ length codes → Written acc.0 az codes az codes start 0 0
  written_first start az codes acc h k =
      let e : radials - 0 ≡ radials = omega arith in
      let l = lengths radials 0 start acc.0 acc.1 in
      record {
        number = omega arith;
        rest = acc.0;
        rest_is = rw e acc.1;
        centres = laid_first _ az _ refl (rw l.0 h);
        rows = laid_first _ codes _ refl (rw l.1 k);
      }

  module _ {g : Given (List Float)} {az₀ : List Float} {codes₀ : List ℕ} {az : List Float} {codes : List ℕ} {at cell r : ℕ}
      (inv : Written g az₀ codes₀ az codes at cell r) where
    module _ (more : r < radials) where
      pub here : Turn (radials - suc r) r at inv.rest
      here = let e : radials - r ≡ suc (radials - suc r) = omega arith in turn (radials - suc r) r at inv.rest (rw e at inv.rest_is)

      -- this radial is accepted, and there is room for it
      pub written_radial : Accepted (run (in_mode m (any_radial packet radials bins r)) s at)
      written_radial = (here.first, here.first_is)

      pub written_room : (r < length az) × (cell + bins ≤ length codes)
      written_room =
          let t = here in
          let a : length inv.rest.value ≡ suc (length t.rest.value) = ap length t.value_is in
          let b : length (codes_in m bins inv.rest.rows) ≡ bins + length (codes_in m bins t.rest.rows) =
          ap (λ x. length (codes_in m bins x)) t.whole ∙ ap length (codes_more m bins t.codes t.rest.rows) ∙ length-append (cells_of m bins t.codes) _ ∙ ap (λ x. x + length (codes_in m bins t.rest.rows)) t.long in
          (omega (arith, inv.centres.long, inv.centres.room), omega (arith, inv.rows.long, inv.rows.room))

      -- the part that is lent has a row's length
      pub written_part : length (mid_of cell (cell + bins - cell) codes) ≡ bins
      written_part =
          let e : cell + bins - cell ≡ bins = omega arith in
          rw e (length-take-le bins (drop cell codes) (omega (arith, written_room.1, length-drop cell codes)))

      pub written_next : {a : Float} {next : ℕ} {row : List ℕ} → accepted (a, next) ≡ centre_in (run (in_mode m (any_radial packet radials bins r)) s at)
          → row ≡ cells_of m bins (row_in (run (in_mode m (any_radial packet radials bins r)) s at))
          → Written g az₀ codes₀ (set az r a) (put_mid cell (cell + bins - cell) codes row) next (cell + bins) (r + 1)
      written_next {a} {next} {row} e k =
          let t = here in
          let c = e ∙ ap centre_in t.first_is in
          let pe : ◌≡◌ {A = Float × ℕ} (a, next) (t.first.value, t.first.next) = cc in
          let ca : a ≡ t.first.value = ap (λ x. x.0) pe in
          let cn : next ≡ t.first.next = ap (λ x. x.1) pe in
          let ro : row ≡ cells_of m bins t.codes = k ∙ ap (λ x. cells_of m bins (row_in x)) t.first_is ∙ ap (λ x. cells_of m bins (first_row x)) t.rows_are in
          let n : radials - (r + 1) ≡ radials - suc r = omega arith in
          record {
            number = omega arith;
            rest = t.rest;
            rest_is = rw (n, add-one r, cn) t.rest_is;
            centres = laid_set t.first.value t.rest.value a (rw t.value_is at inv.centres) ca;
            rows = laid_put (cells_of m bins t.codes) (codes_in m bins t.rest.rows) row bins (rw (codes_more m bins t.codes t.rest.rows) at (rw t.whole at inv.rows)) t.long ro;
          }

    pub none_left : radials ≤ r → inv.rest ≡ record { value = []; next = at; rows = [] }
    none_left h = let e : radials - r ≡ 0 = omega arith in none r at inv.rest (rw e at inv.rest_is)

    pub written_centres : radials ≤ r → az ≡ g.value ++ drop (length g.value) az₀
    written_centres h = laid_end (rw (ap (λ x. x.value) (none_left h)) at inv.centres)

    pub written_rows : radials ≤ r → codes ≡ codes_in m bins g.rows ++ drop (length (codes_in m bins g.rows)) codes₀
    written_rows h = laid_end (rw (ap (λ x. codes_in m bins x.rows) (none_left h) ∙ codes_none m bins) at inv.rows)
