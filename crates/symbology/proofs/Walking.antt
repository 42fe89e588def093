-- The walk over the radials, one for all packets: what the code's answers say of it. Assumes nothing.
use Rattle.std.proofs.Common.{Some, ◌≡◌, ℕ, suc, ◌+◌, ◌-◌, ◌*◌, ◌<◌, ◌≤◌, Bool, true, false, ◌||◌, eqb, ltb, List, [], ◌∷◌, length, take, drop, sym, refl, ap, ◌∙◌, add-one, arith, ltb-false, eqb-true}
use lib.Seq.{slice}
use lib.Ieee.{Float}
use Rattle.wire.specs.Bytes.{u16_at}
use Rattle.wire.specs.Refusal.{Refusal}
use Rattle.wire.specs.Result.{Result, accepted, answer, refused, then}
use Rattle.wire.specs.Reading.{give, ◌>>=◌, ◌>>◌, radial_data, Ended, passed, halted, onward, past_row, walk}
use Rattle.wire.proofs.Readings.{walk_give, then_passed, part_slice, parts, past_test}
use Rattle.symbology.proofs.Modes.{mode_give, mode_radial, mode_walk_then, mode_walk_halted}
use Rattle.symbology.proofs.Frames.{plain_frame}
use Rattle.symbology.specs.Rows.{row_of}
use Rattle.symbology.specs.Places.{Enough}
use Rattle.symbology.specs.Symbology.{covered, count_wrong}
use Rattle.symbology.specs.Walk.{in_mode, kept_of, Span, expected_of, beam_span, xdr_radial_span, any_frame, any_radial, any_walk, placed, position, ends_at, walk_from}
use Rattle.symbology.proofs.Beams.{beam_is}
use Rattle.symbology.proofs.XdrFrames.{framed}
use Rattle.symbology.specs.declared.figures.Packet.{Packet}
use Rattle.symbology.specs.declared.figures.Packet.TheVariants.{Packet16, PacketAf1f, Packet28}
use Rattle.symbology.specs.declared.spans.Place.{Place}
use Rattle.std.specs.Prelude as Std
use Rattle.wire.specs.declared.error.Level3DecodeError.{Level3DecodeError}

-- ---- a frame that passed

-- What it shows: the data are inside, and enough for the row.
pub record Spanned (packet : Packet) (bins : ℕ) (s : List ℕ) (sp : Span) (q : ℕ) : Type 0 where
  pub inside : q + sp.size ≤ length s
  pub enough : Enough packet bins sp.size

or_false : (a b : Bool) → a || b ≡ false → (a ≡ false) × (b ≡ false)
or_false true b h = let z : ◌≡◌ {A = ℕ} 0 1 = cc in absurd (omega arith)
or_false false b h = (refl, h)

-- the data of a radial that passes its tests are inside the body, and enough for its row: packets 16 and AF1F
pub count_right : (packet : Packet) (bins count room : ℕ) → (packet ≡ Packet28 → ⊥) → count_wrong packet bins count room ≡ false
    → (covered packet count ≤ room) × Enough packet bins (covered packet count)
unfolding count_wrong covered Enough
count_right Packet16 bins count room old h = let k = or_false _ _ h in (ltb-false _ _ k.1, ltb-false _ _ k.0)
count_right PacketAf1f bins count room old h = (ltb-false _ _ h, tt)
count_right Packet28 bins count room old h = absurd (old refl)

module _ (packet : Packet) (old : packet ≡ Packet28 → ⊥) (radials bins r : ℕ) (s : List ℕ) (p : ℕ) where
  beam_spanned : (sp : Span) (q : ℕ) → passed sp q ≡ walk (beam_span packet radials bins r) s p → Spanned packet bins s sp q
  beam_spanned sp q e =
      let h₁ = past_test (ltb (length s - p) 6) _ _ _ (e ∙ beam_is packet radials bins r s p) in
      let h₂ = past_test (eqb (u16_at s (p + 4)) 0 || ltb 100 (u16_at s (p + 4))) _ _ _ h₁.1 in
      let h₃ = past_test (count_wrong packet bins (u16_at s p) (length s - (p + 6))) _ _ _ h₂.1 in
      let six : 6 ≤ length s - p = ltb-false _ _ h₁.0 in
      let c = count_right packet bins _ _ old h₃.0 in
      last six c.0 c.1 h₃.1
    where
      last : {sp' : Span} → 6 ≤ length s - p → sp'.size ≤ length s - (p + 6) → Enough packet bins sp'.size → passed sp q ≡ passed sp' (p + 6) → Spanned packet bins s sp q
      last {sp'} six h k l =
          let a : q ≡ p + 6 = cc in
          let b : sp ≡ sp' = cc in
          rw (b, a) (record { inside = omega arith; enough = k })

module _ (radials bins r : ℕ) (s : List ℕ) (p : ℕ) where
  xdr_radial_spanned : (sp : Span) (q : ℕ) → passed sp q ≡ walk (xdr_radial_span radials bins r) s p → Spanned Packet28 bins s sp q
  unfolding xdr_radial_span Enough
  xdr_radial_spanned sp q e =
      let a = parts _ _ s p e in
      let f = framed radials r (expected_of (Some bins)) s p a.value a.middle a.first in
      last f.bins_are f.room f.inside (a.second ∙ walk_give _ s _)
    where
      last : {n m : ℕ} {centre : Float} → n ≡ bins → n * 4 ≤ length s - m → m ≤ length s → passed sp q ≡ passed (record { centre = centre; size = n * 4 }) m
          → Spanned Packet28 bins s sp q
      last {n} {m} {centre} h k l e =
          let a : q ≡ m = cc in
          let b : sp ≡ record { centre = centre; size = n * 4 } = cc in
          rw (b, a) (record { inside = omega arith; enough = ap (λ x. x * 4) h })

pub no28 : Packet16 ≡ Packet28 → ⊥
no28 h = let z : ◌≡◌ {A = ℕ} 0 1 = cc in omega arith

pub no28' : PacketAf1f ≡ Packet28 → ⊥
no28' h = let z : ◌≡◌ {A = ℕ} 0 1 = cc in omega arith

pub spanned : (packet : Packet) (radials bins r : ℕ) (s : List ℕ) (p : ℕ) (sp : Span) (q : ℕ) → passed sp q ≡ walk (any_frame packet radials bins r) s p → Spanned packet bins s sp q
unfolding any_frame
spanned Packet16 radials bins r s p = beam_spanned Packet16 no28 radials bins r s p
spanned PacketAf1f radials bins r s p = beam_spanned PacketAf1f no28' radials bins r s p
spanned Packet28 radials bins r s p = xdr_radial_spanned radials bins r s p

abbrev fine : Result (Unit {0})
fine = accepted tt

-- the place that the code is given
pub record Found (packet : Packet) (radials bins r : ℕ) (s : List ℕ) (p : ℕ) (a : Float) (from to : ℕ) : Type 0 where
  pub size : ℕ
  pub to_is : to ≡ from + size
  pub frame_is : passed (record { centre = a; size = size }) from ≡ walk (any_frame packet radials bins r) s p
  pub inside : to ≤ length s
  pub enough : Enough packet bins size

module _ (packet : Packet) (radials bins r : ℕ) (s : List ℕ) (p : ℕ) where
  pub found : {place : Place} → accepted place ≡ placed (walk (any_frame packet radials bins r) s p) → Found packet radials bins r s p place.centre place.from place.to
  found {place} e = go (walk (any_frame packet radials bins r) s p) refl e
    where
      go : (w : Ended Span) → walk (any_frame packet radials bins r) s p ≡ w → accepted place ≡ placed w
          → Found packet radials bins r s p place.centre place.from place.to
      go (passed sp q) h k =
          let l : ◌≡◌ {A = Place} place (record { centre = sp.centre; from = q; to = q + sp.size }) = cc in
          let x : place.centre ≡ sp.centre = ap (λ y. y.centre) l in
          let f : place.from ≡ q = ap (λ y. y.from) l in
          let t : place.to ≡ q + sp.size = ap (λ y. y.to) l in
          let g = spanned packet radials bins r s p sp q (sym h) in
          record {
            size = sp.size;
            to_is = rw f t;
            frame_is = rw (x, f) (sym h);
            inside = rw t g.inside;
            enough = g.enough;
          }
      go (halted x q) h k = let z : ◌≡◌ {A = ℕ} 0 1 = cc in absurd (omega arith)

  -- a radial whose frame is refused, and one whose frame passed
  pub radial_refused : (m : Bool) {x : Refusal} → refused x ≡ placed (walk (any_frame packet radials bins r) s p) → refused x ≡ position (walk (in_mode m (any_radial packet radials bins r)) s p)
  unfolding any_radial
  radial_refused m {x} e = go (walk (any_frame packet radials bins r) s p) refl e
    where
      go : (w : Ended Span) → walk (any_frame packet radials bins r) s p ≡ w → refused x ≡ placed w → refused x ≡ position (walk (in_mode m (any_radial packet radials bins r)) s p)
      go (passed sp q) h k = let z : ◌≡◌ {A = ℕ} 0 1 = cc in absurd (omega arith)
      go (halted y q) h k = let l : x ≡ y = cc in ap refused l ∙ ap position (mode_walk_halted _ _ (any_frame packet radials bins r) (plain_frame packet radials bins r) s p (sym h))

  module _ {a : Float} {from to : ℕ} (f : Found packet radials bins r s p a from to) where
    pub data_is : take (to - from) (drop from s) ≡ slice from (from + f.size) s
    data_is = let h : from ≤ to = omega (arith, f.to_is) in part_slice s from to h ∙ ap (λ k. slice from k s) f.to_is

    after_frame : (m : Bool) → walk (in_mode m (any_radial packet radials bins r)) s p ≡ past_row (kept_of m (row_of packet bins r (slice from (from + f.size) s))) (from + f.size) (passed a (from + f.size))
    unfolding any_radial radial_data walk ◌>>=◌ ◌>>◌
    after_frame m =
        ap (λ t. walk t s p) (mode_radial m _ _ _ (any_frame packet radials bins r) (plain_frame packet radials bins r))
        ∙ then_passed _ (any_frame packet radials bins r) s p f.frame_is

    -- the row is tested on its own
    pub radial_row : (m : Bool) {c : Result (Unit {0})} → c ≡ then (kept_of m (row_of packet bins r (take (to - from) (drop from s)))) (λ _. accepted tt)
        → then c (λ _. accepted to) ≡ position (walk (in_mode m (any_radial packet radials bins r)) s p)
    radial_row m {c} e = rw (e, data_is, after_frame m, f.to_is) (go (kept_of m (row_of packet bins r (slice from (from + f.size) s))))
      where
        go : (c : Result (List ℕ)) → then (then c (λ _. fine)) (λ _. accepted (from + f.size)) ≡ position (past_row c (from + f.size) (passed a (from + f.size)))
        go (accepted codes) = refl
        go (refused x) = refl

-- ---- n radials

module _ (m : Bool) (packet : Packet) (radials bins : ℕ) (s : List ℕ) where
  walk_suc : (k r p : ℕ) → position (walk (in_mode m (any_walk packet radials bins (suc k) r)) s p)
      ≡ then (position (walk (in_mode m (any_radial packet radials bins r)) s p)) (λ q. position (walk (in_mode m (any_walk packet radials bins k (suc r))) s q))
  unfolding any_walk walk
  walk_suc k r p =
      ap position (mode_walk_then m (λ a. any_walk packet radials bins k (suc r) >>= λ rest. give (a ∷ rest)) (any_radial packet radials bins r) s p)
      ∙ go (walk (in_mode m (any_radial packet radials bins r)) s p)
    where
      onto : (a : Float) (q : ℕ) → position (walk {W = ⊥} (in_mode m (any_walk packet radials bins k (suc r) >>= λ rest. give (a ∷ rest))) s q) ≡ position (walk (in_mode m (any_walk packet radials bins k (suc r))) s q)
      onto a q = ap position (mode_walk_then m (λ rest. give (a ∷ rest)) (any_walk packet radials bins k (suc r)) s q) ∙ same (walk (in_mode m (any_walk packet radials bins k (suc r))) s q)
        where
          same : (w : Ended (List Float)) → position (onward w (λ rest q. walk {W = ⊥} (in_mode m (give (a ∷ rest))) s q)) ≡ position w
          same (passed l q) = ap (λ t. position (walk {W = ⊥} t s q)) (mode_give m (a ∷ l))
          same (halted x q) = refl

      go : (w : Ended Float) → position (onward w (λ a q. walk {W = ⊥} (in_mode m (any_walk packet radials bins k (suc r) >>= λ rest. give (a ∷ rest))) s q))
          ≡ then (position w) (λ q. position (walk (in_mode m (any_walk packet radials bins k (suc r))) s q))
      go (passed a q) = onto a q
      go (halted x q) = refl

  -- The checking walk: what is left of it says what the whole says.
  pub record Checked (whole : Result ℕ) (r at : ℕ) : Type 0 where
    pub number : r ≤ radials
    pub left : walk_from m packet radials bins s r at ≡ whole

  pub checked_from : (r at : ℕ) → r ≤ radials → Checked (walk_from m packet radials bins s r at) r at
  checked_from r at h = record { number = h; left = refl }

  pub checked_first : (start : ℕ) → Checked (position (walk (in_mode m (any_walk packet radials bins radials 0)) s start)) 0 start
  checked_first start = let e : radials - 0 ≡ radials = omega arith in record { number = omega arith; left = rw e refl }

  module _ {whole : Result ℕ} {r at : ℕ} (inv : Checked whole r at) where
    -- one radial, refused or not
    pub checked_turn : {c : Result ℕ} → r < radials → c ≡ position (walk (in_mode m (any_radial packet radials bins r)) s at)
        → then c (λ q. walk_from m packet radials bins s (r + 1) q) ≡ whole
    checked_turn {c} h k =
        let e : radials - r ≡ suc (radials - suc r) = omega arith in
        rw (k, add-one r)
        (sym (walk_suc (radials - suc r) r at) ∙ ap (λ k. position (walk (in_mode m (any_walk packet radials bins k r)) s at)) (sym e) ∙ inv.left)

    pub checked_next : {q : ℕ} → r < radials → accepted q ≡ position (walk (in_mode m (any_radial packet radials bins r)) s at) → Checked whole (r + 1) q
    checked_next h k = record { number = omega arith; left = checked_turn h k }

    -- a stretch of radials, the last of which was refused or not
    module _ {c : Result ℕ} (n : ℕ) (e : then c (λ q. walk_from m packet radials bins s n q) ≡ walk_from m packet radials bins s r at) where
      pub checked_stretch : {q : ℕ} → n ≤ radials → c ≡ accepted q → Checked whole n q
      checked_stretch h k = record { number = h; left = rw k at e ∙ inv.left }

      pub checked_stop : {x : Refusal} → c ≡ refused x → refused x ≡ whole
      checked_stop k = rw k at e ∙ inv.left

    pub checked_all : radials ≤ r → walk_from m packet radials bins s radials at ≡ whole
    checked_all h = let e : r ≡ radials = omega (arith, inv.number) in rw e at inv.left

    pub checked_end : radials ≤ r → accepted at ≡ whole
    unfolding any_walk walk
    checked_end h =
        let e : radials - r ≡ 0 = omega arith in
        sym (ap (λ t. position (walk {W = ⊥} t s at)) (mode_give m [])) ∙ sym (ap (λ k. position (walk (in_mode m (any_walk packet radials bins k r)) s at)) e) ∙ inv.left

-- a radial that ended where it was guessed to end
pub ends_there : (next : Std.Result ℕ Level3DecodeError) (p : ℕ) → ends_at next p ≡ true → answer next ≡ accepted p
ends_there (Std.Ok q) p h = ap accepted (eqb-true q p h)
ends_there (Std.Err x) p h = let z : ◌≡◌ {A = ℕ} 0 1 = cc in absurd (omega arith)
