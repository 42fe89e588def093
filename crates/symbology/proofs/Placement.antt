-- The places of an accepted body's data and of its unread bytes. Assumes nothing.
use Rattle.std.proofs.Common.{◌≡◌, ℕ, zero, suc, ◌+◌, ◌<◌, ◌≤◌, Bool, true, false, cond, eqb, ◌≢◌, ◌⊎◌, ◌↔◌, List, [], ◌∷◌, ◌++◌, length, get_or, sym, refl, ap, ◌∙◌, inl, inr, ⊎_elim, append_assoc, append-nil, le_of_suc-le-suc, not-suc-le-zero, arith, ltb-false}
use mathlib.Core.Logic.Iff
use lib.ListN.{length-map, get_or-map}
use Rattle.wire.specs.Bytes.{u16_at, signed}
use Rattle.wire.specs.Refusal.{kind, whole}
use Rattle.wire.specs.Result.{accepted}
use Rattle.wire.specs.Reading.{stop, Given, run, Frame, frames, Piece, as_number, as_unread, as_data, pieces, gaps, ◌>>=◌, ◌>>◌, remaining, u16, unread, radial_data}
use Rattle.wire.proofs.Gaps.{all_whole, gaps_accepted}
use Rattle.symbology.specs.declared.figures.Packet.{Packet}
use Rattle.symbology.specs.declared.figures.Packet.TheVariants.{Packet16, PacketAf1f, Packet28}
use Rattle.symbology.specs.Rows.{row_of}
use Rattle.symbology.specs.Damage.{radial_count, radial_at, no_frame}
use Rattle.symbology.specs.Symbology.{Sweep, covered, frame, radial, radial_walk, first_bin, packet_header, radial_packet, generic_packet, packet_of, symbology}
use Rattle.symbology.specs.Places.{place, frame_at, UnreadByte, UnreadIn, marks, body_items, mark, Enough, Placed}
use Rattle.symbology.proofs.Path.{Ends, Reached, reached, then, after, tested, weaken, span, table, table_length, table_at}
use Rattle.symbology.proofs.Walking.{count_right, no28, no28'}
use Rattle.symbology.proofs.Marks.{RowFn, row_fn, Rows28, Generic, generic, level_row}

-- ---- packets 16 and AF1F

module _ (packet : Packet) (bins : ℕ) (s : List ℕ) where
  -- radial r: its frame, the place of the next, three numbers and its data
  record Beamed (r e : ℕ) (fs : List Frame) (ps : List Piece) : Type 0 where
    one : fs ≡ frame_at packet bins s r ∷ []
    end : e ≡ place packet s (suc r)
    inside : e ≤ length s
    bits : ps ≡ as_number 2 ∷ as_number 2 ∷ as_number 2 ∷ as_data (covered packet (u16_at s (place packet s r))) ∷ []
    enough : Enough packet bins (frame_at packet bins s r).count

  -- n radials from radial r on: nothing of them is unread
  record Walked (n r e : ℕ) (fs : List Frame) (ps : List Piece) : Type 0 where
    all : fs ≡ table (frame_at packet bins s) n r
    end : e ≡ place packet s (r + n)
    inside : e ≤ length s
    bits : (p i : ℕ) → UnreadIn ps p i → ⊥
    enough : (k : ℕ) → k < n → Enough packet bins (frame_at packet bins s (r + k)).count

module _ (packet : Packet) (radials bins : ℕ) (s : List ℕ) (old : packet ≢ Packet28) where
  at_beam : (r : ℕ) → Ends (radial packet radials bins r) s (place packet s r) (λ a. Beamed packet bins s r)
  unfolding radial frame ◌>>◌ ◌>>=◌ remaining u16 radial_data Ends frame_at place
  at_beam r =
      let p = place packet s r in
      let c = covered packet (u16_at s p) in
      then _ (frame packet radials bins r) s _ _
      (tested _ _ _ s _ _ λ h19.
      tested _ _ _ s _ _ λ h20.
      tested _ _ _ s _ _ λ h21.
      let k = count_right packet bins _ _ old h21 in (
        k.0,
        record {
          one = ap (λ (q : ℕ). record { start = q; count = c; row = row_of packet bins r } ∷ []) (omega arith);
          end = omega arith;
          inside = omega (arith, ltb-false _ _ h19, k.0);
          bits = refl;
          enough = k.1;
        },
      ))

  at_beams : (n r : ℕ) → place packet s r ≤ length s → Ends (radial_walk packet radials bins n r) s (place packet s r) (λ a. Walked packet bins s n r)
  unfolding radial_walk Ends table UnreadIn
  at_beams zero r from =
      record { all = refl; end = ap (place packet s) (omega arith); inside = from; bits = λ p i u. u; enough = λ k lt. absurd (not-suc-le-zero lt) }
  at_beams (suc n) r from =
      after _ _ s _ _ _ (at_beam r) λ a e fs ps h.
      rw (h.one, h.end, h.bits)
      (after _ _ s _ _ _ (at_beams n (suc r) (rw (← h.end) h.inside)) λ l e' fs' ps' w.
      record {
        all = simp append-nil (ap (λ (x : List Frame). frame_at packet bins s r ∷ x) w.all);
        end = w.end ∙ ap (place packet s) (omega arith);
        inside = w.inside;
        bits = λ p i u. w.bits _ i (simp append-nil at u);
        enough = enough h.enough w.enough;
      })
    where
      enough : Enough packet bins (frame_at packet bins s r).count → ((k : ℕ) → k < n → Enough packet bins (frame_at packet bins s (suc r + k)).count)
          → (k : ℕ) → k < suc n → Enough packet bins (frame_at packet bins s (r + k)).count
      enough h t zero lt = let z : r + 0 ≡ r = omega arith in rw z h
      enough h t (suc k) lt = let z : r + suc k ≡ suc r + k = omega arith in rw z (t k (le_of_suc-le-suc lt))

-- bytes 18-19
first : Packet → List Piece
first Packet16 = as_number 2 ∷ []
first PacketAf1f = as_unread 2 ∷ []
first Packet28 = []

-- the accepted path from byte 18 on
record Old (s : List ℕ) (packet : Packet) (a : Sweep) (e : ℕ) (fs : List Frame) (ps : List Piece) : Type 0 where
  is : a.figures.packet ≡ packet
  beams : List Piece
  bits : ps ≡ first packet ++ (as_number 2 ∷ as_unread 4 ∷ as_number 2 ∷ as_number 2 ∷ beams)
  walked : Walked packet a.figures.n_bins s a.figures.n_radials 0 e fs beams

at_first : (packet : Packet) (s : List ℕ) → packet ≢ Packet28 → Ends (first_bin packet) s 18 (λ a e fs ps. (fs ≡ []) × (e ≡ 20) × (ps ≡ first packet))
unfolding first_bin Ends ◌>>◌ ◌>>=◌ unread u16 first
at_first Packet16 s old = (refl, refl, refl)
at_first PacketAf1f s old = (refl, refl, refl)
at_first Packet28 s old = absurd (old refl)

at_packet : (packet : Packet) (s : List ℕ) → packet ≢ Packet28 → Ends (radial_packet packet) s 18 (Old s packet)
unfolding radial_packet packet_header Ends ◌>>◌ ◌>>=◌ remaining u16 unread place
at_packet packet s old =
    then _ (packet_header packet) s 18 _
    (tested _ _ _ s _ _ λ h12.
    after _ (first_bin packet) s 18 _ _ (at_first packet s old) λ a e fs ps h.
    rw (h.0, h.1, h.2)
    (tested _ _ _ s _ _ λ h15.
    tested _ _ _ s _ _ λ h16.
    tested _ _ _ s _ _ λ h17.
    tested _ _ _ s _ _ λ h18.
    let radials = u16_at s 28 in
    let bins = u16_at s 20 in
    after _ (radial_walk packet radials bins radials 0) s 30 _ _ (at_beams packet radials bins s old radials 0 (omega (arith, ltb-false _ _ h12))) λ l e' fs' ps' w.
    record { is = refl; beams = ps' ++ []; bits = append_assoc (first packet) _ _; walked = simp append-nil w }))

-- ---- the body

-- bytes 0-17, and what follows them
head : List Piece → List Piece
head ps = as_number 2 ∷ as_number 2 ∷ as_unread 12 ∷ as_number 2 ∷ ps

record Body (s : List ℕ) (a : Sweep) (e : ℕ) (fs : List Frame) (ps : List Piece) : Type 0 where
  later : List Piece
  bits : ps ≡ head later
  one_of : Old s Packet16 a e fs later ⊎ (Old s PacketAf1f a e fs later ⊎ Generic s a e fs later)

at_code : (s : List ℕ) (code : ℕ) → Ends (packet_of code) s 18 (λ a e fs ps. Body s a e fs (head ps))
unfolding packet_of Ends
at_code s code = by (eqb code 16) (eqb code 0xAF1F) (eqb code 28)
  where
    by : (c₁ c₂ c₃ : Bool)
        → Ends (cond c₁ (radial_packet Packet16) (cond c₂ (radial_packet PacketAf1f) (cond c₃ generic_packet (stop (kind 14 (whole (signed 32768 code) ∷ [])))))) s 18
        (λ a e fs ps. Body s a e fs (head ps))
    by true c₂ c₃ =
        weaken (radial_packet Packet16) s 18 (Old s Packet16) _ (λ a e fs ps h. record { later = ps; bits = refl; one_of = inl h })
        (at_packet Packet16 s no28)
    by false true c₃ =
        weaken (radial_packet PacketAf1f) s 18 (Old s PacketAf1f) _ (λ a e fs ps h. record { later = ps; bits = refl; one_of = inr (inl h) })
        (at_packet PacketAf1f s no28')
    by false false true = weaken generic_packet s 18 (Generic s) _ (λ a e fs ps h. record { later = ps; bits = refl; one_of = inr (inr h) }) (generic s)
    by false false false = tt

at_body : (s : List ℕ) → Ends symbology s 0 (Body s)
unfolding symbology Ends ◌>>◌ ◌>>=◌ remaining u16 unread head
at_body s = tested _ _ _ s _ _ λ h12. tested _ _ _ s _ _ λ h13. at_code s _

-- ---- the places

-- the unread bytes of packets 16 and AF1F
old_unread : (packet : Packet) (beams : List Piece) (e i : ℕ) → packet ≢ Packet28 → ((p : ℕ) → UnreadIn beams p i → ⊥)
    → (radials : ℕ) (b : List ℕ) → e ≡ place packet b radials
    → (UnreadIn (head (first packet ++ (as_number 2 ∷ as_unread 4 ∷ as_number 2 ∷ as_number 2 ∷ beams))) 0 i ⊎ (e ≤ i)) ↔ UnreadByte packet radials b i
unfolding UnreadIn UnreadByte head first
old_unread Packet16 beams e i old none radials b h =
    rw h (
      ⊎_elim (⊎_elim inl (⊎_elim (λ u. inr (inl u)) (λ u. absurd (none _ u)))) (λ u. inr (inr u)),
      ⊎_elim (λ u. inl (inl u)) (⊎_elim (λ u. inl (inr (inl u))) inr),
    )
old_unread PacketAf1f beams e i old none radials b h =
    rw h (
      ⊎_elim (⊎_elim inl (⊎_elim (λ u. inr (inl u)) (⊎_elim (λ u. inr (inr (inl u))) (λ u. absurd (none _ u))))) (λ u. inr (inr (inr u))),
      ⊎_elim (λ u. inl (inl u)) (⊎_elim (λ u. inl (inr (inl u))) (⊎_elim (λ u. inl (inr (inr (inl u)))) inr)),
    )
old_unread Packet28 beams e i old none radials b h = absurd (old refl)

module _ (b : List ℕ) (a : Sweep) (r : Reached symbology b 0 (Body b) a) where
  old_placed : (packet : Packet) → packet ≢ Packet28 → Old b packet a r.past (frames symbology b 0) r.holds.later → Placed b a.figures
  unfolding radial_count radial_at frame_at
  old_placed packet old o =
      let bins = a.figures.n_bins in
      let radials = a.figures.n_radials in
      let w = o.walked in
      let f : (k : ℕ) → k < radials → radial_at symbology b k ≡ frame_at packet bins b k =
      λ k lt. rw w.all (let z : 0 + k ≡ k = omega arith in table_at _ _ 0 k no_frame lt ∙ ap (frame_at packet bins b) z) in
      record {
        count = rw w.all (table_length _ _ 0);
        rows = λ k lt. rw o.is (ap (λ (x : Frame). x.row) (f k lt));
        enough = λ k lt. let z : 0 + k ≡ k = omega arith in rw (o.is, f k lt) (rw z at (w.enough k lt));
        frames = λ n k lt. rw o.is (f k lt);
        inside = λ n. let z : 0 + radials ≡ radials = omega arith in rw o.is (rw (w.end, z) at w.inside);
        unread = λ n i. rw o.is (Iff.trans (rw (r.holds.bits, o.bits) at (r.unread i)) (old_unread packet o.beams r.past i old (λ p. w.bits p i) radials b (w.end ∙ ap (place packet b) (omega arith))));
        items = λ n. absurd (old (sym o.is ∙ n));
        inside28 = λ n. absurd (old (sym o.is ∙ n));
        unread28 = λ n. absurd (old (sym o.is ∙ n));
        data28 = λ n. absurd (old (sym o.is ∙ n));
      }

  new_placed : Generic b a r.past (frames symbology b 0) r.holds.later → Placed b a.figures
  unfolding radial_count radial_at Generic Rows28 Enough row_of
  new_placed o =
      let bins = a.figures.n_bins in
      let radials = a.figures.n_radials in
      let f : (k : ℕ) → k < radials → row_fn (radial_at symbology b k) ≡ level_row bins k =
      λ k lt. sym (get_or-map row_fn (frames symbology b 0) k no_frame) ∙ ap (λ (l : List RowFn). get_or l k (row_fn no_frame)) o.0.1 ∙ table_at _ _ 0 k _ lt ∙ ap (level_row bins) (omega arith) in
      let all : pieces symbology b 0 ≡ marks b = r.holds.bits ∙ ap head o.1 ∙ (unfold marks body_items mark head in refl) in
      record {
        count = sym (length-map (frames symbology b 0) row_fn) ∙ ap length o.0.1 ∙ table_length _ _ 0;
        rows = λ k lt. rw o.0.0 (ap (λ (x : RowFn). x.1) (f k lt));
        enough = λ k lt. rw o.0.0 (ap (λ (x : RowFn). x.0) (f k lt));
        frames = λ n. absurd (n o.0.0);
        inside = λ n. absurd (n o.0.0);
        unread = λ n. absurd (n o.0.0);
        items = λ n. all;
        inside28 = λ n. o.3;
        unread28 = λ n i lt. (
          λ u. ⊎_elim inl (λ v. inr ((o.2 i lt).0 v)) (rw all at ((r.unread i).0 u)),
          λ u. (r.unread i).1 (rw all (⊎_elim inl (λ v. inr ((o.2 i lt).1 v)) u)),
        );
        data28 = λ n k lt. rw (← all, r.spans) (unfold no_frame in get_or-map span (frames symbology b 0) k no_frame);
      }

  by_packet : Old b Packet16 a r.past (frames symbology b 0) r.holds.later
      ⊎ (Old b PacketAf1f a r.past (frames symbology b 0) r.holds.later ⊎ Generic b a r.past (frames symbology b 0) r.holds.later) → Placed b a.figures
  by_packet (inl o) = old_placed Packet16 no28 o
  by_packet (inr (inl o)) = old_placed PacketAf1f no28' o
  by_packet (inr (inr o)) = new_placed o

-- of a body that is accepted with gaps, and so of one that is accepted
pub gap_placed : (b : List ℕ) (g : Given Sweep) → run (gaps symbology) b 0 ≡ accepted g → Placed b g.value.figures
gap_placed b g acc =
    let r = reached symbology b 0 (Body b) g (at_body b) acc in
    by_packet b g.value r r.holds.one_of

pub placed : (b : List ℕ) (g : Given Sweep) → run symbology b 0 ≡ accepted g → Placed b g.value.figures
unfolding all_whole
placed b g acc = gap_placed b (all_whole g) (gaps_accepted symbology b 0 g acc)
