-- The clear scan's answer, with gaps and without; that two clear scans which agree on the bytes that are read give equal answers; and that
-- for damage none has data bytes, and the unread bytes are all but these. Assumes nothing.
use Rattle.std.proofs.Common.{◌≡◌, ℕ, ◌+◌, ◌*◌, ◌<◌, ◌≤◌, Bool, true, false, not, eqb, ◌≢◌, ◌⊎◌, ◌↔◌, List, [], ◌∷◌, length, get_or, sym, refl, ◌∙◌, inl, inr, ⊎_elim, arith, le-ltb, eqb-true}
use native.Mathlib.Decide.{dec_lt, ℕ_discrete}
use lib.Ieee.{Float}
use borrow.Author.Tests.{eqb-false}
use Rattle.wire.specs.Bytes.{u16_at}
use Rattle.wire.specs.Refusal.{Refusal, kind, nat}
use Rattle.wire.specs.Result.{Result, accepted, refused, refuse, then}
use Rattle.wire.specs.Reading.{run, Given, outcome, walk}
use Rattle.wire.proofs.Results.{then_by}
use Rattle.symbology.specs.Answers.{Picture, picture_of, gap_picture_of, joined}
use Rattle.symbology.specs.Clear.{code_of, ClearScan, empty_picture, clear_answer, unmarked, FirstBinByte, ReadByte, Agrees}
use Rattle.symbology.specs.Symbology.{Sweep, Header, over_body, counts, packet_header, block_header, radial_packet, symbology}
use Rattle.symbology.specs.Walk.{in_mode, any_walk, first_of}
use Rattle.symbology.specs.Places.{place, UnreadByte}
use Rattle.symbology.specs.Words.{IsUnread, DamageInWords}
use Rattle.symbology.specs.declared.figures.Packet.{Packet}
use Rattle.symbology.specs.declared.figures.Packet.TheVariants.{Packet16, PacketAf1f, Packet28}
use Rattle.symbology.specs.declared.figures.Figures.{Figures}
use Rattle.symbology.proofs.Modes.{mode_give}
use Rattle.symbology.proofs.Beams.{header_counts, counts_empty, counts_first, counts_whole}
use Rattle.symbology.proofs.Bodies.{block_code, body_16, body_af1f, radial_header_refused, radial_run}

-- no radials need no bytes
none_over : (packet : Packet) (bins room : ℕ) → over_body packet 0 bins room ≡ false
unfolding over_body
none_over Packet16 bins room = le-ltb room (0 * (6 + bins)) (omega arith)
none_over PacketAf1f bins room = refl
none_over Packet28 bins room = refl

-- what the reading gives beside the figures: nothing, and it ends at byte 30
abbrev nothing : Packet → ℕ → ℕ → Given Sweep
nothing packet bins range = record { value = record { figures = (empty_picture packet bins range).figures; azimuths = [] }; next = 30; rows = [] }

abbrev clear_read : Packet → List ℕ → Result (Given Sweep)
clear_read packet b =
    refuse (eqb (u16_at b 20) 0) (kind 15 (nat 0 ∷ nat (u16_at b 20) ∷ []))
    (refuse (not (eqb (first_of packet b) 0)) (kind 17 (nat (first_of packet b) ∷ []))
    (accepted (nothing packet (u16_at b 20) (u16_at b 26))))

module _ (packet : Packet) (b : List ℕ) (c : ClearScan packet b) where
  coded : accepted (code_of packet) ≡ outcome (walk block_header b 0)
  coded = block_code b (omega (arith, c.long)) (sym c.divider) (sym c.block) refl refl (sym c.code)

  module _ (m : Bool) where
    packet_run : (p : Packet) → packet ≡ p → run (in_mode m symbology) b 0 ≡ run (in_mode m (radial_packet packet)) b 18
    packet_run Packet16 e = rw e (body_16 m b coded (rw e refl))
    packet_run PacketAf1f e = rw e (body_af1f m b coded (rw e (λ z. omega (arith, z))) (rw e refl))
    packet_run Packet28 e = absurd (c.old e)

    refused_is : {x : Refusal} → refused x ≡ outcome (walk (packet_header packet) b 18) → run (in_mode m symbology) b 0 ≡ refused x
    refused_is e = packet_run packet refl ∙ sym (radial_header_refused packet b c.old m e)

    whole_is : {bins range : ℕ} → accepted (record { radials = 0; bins = bins; range = range }) ≡ outcome (walk (packet_header packet) b 18)
        → run (in_mode m symbology) b 0 ≡ accepted (nothing packet bins range)
    unfolding any_walk run
    whole_is e = rw (packet_run packet refl, radial_run packet b c.old e m, mode_give {W = ⊥} {A = List Float} m []) refl

    clear_read_lem : run (in_mode m symbology) b 0 ≡ clear_read packet b
    clear_read_lem = by (eqb (u16_at b 20) 0) (eqb (first_of packet b) 0) refl refl
      where
        none : 0 ≡ u16_at b 28
        none = sym c.no_radials_lem

        cells : 0 ≡ 0 * u16_at b 20
        cells = omega arith

        counted : {r : Result Header} → r ≡ outcome (walk (counts packet (first_of packet b)) b 20) → r ≡ outcome (walk (packet_header packet) b 18)
        counted e = header_counts packet b c.old c.long e

        by : (e f : Bool) → eqb (u16_at b 20) 0 ≡ e → eqb (first_of packet b) 0 ≡ f
            → run (in_mode m symbology) b 0
            ≡ refuse e (kind 15 (nat 0 ∷ nat (u16_at b 20) ∷ []))
            (refuse (not f) (kind 17 (nat (first_of packet b) ∷ [])) (accepted (nothing packet (u16_at b 20) (u16_at b 26))))
        by true f h k = refused_is (counted (counts_empty packet (first_of packet b) b none refl (eqb-true _ _ h)))
        by false false h k = refused_is (counted (counts_first packet (first_of packet b) b none refl (eqb-false _ _ h) cells (omega arith) (eqb-false _ _ k)))
        by false true h k =
            whole_is (counted (counts_whole packet (first_of packet b) b none refl (eqb-false _ _ h) cells (omega arith) (eqb-true _ _ k) refl refl (none_over packet _ _) refl))

  -- what is made of a reading of no rows
  made : {A : Type 0} (e f : Bool) (x y : Refusal) (g : Given Sweep) (make : Given Sweep → A)
      → then (refuse e x (refuse f y (accepted g))) (λ r. accepted (make r)) ≡ refuse e x (refuse f y (accepted (make g)))
  made true f x y g make = refl
  made false true x y g make = refl
  made false false x y g make = refl

  pub clear_is : picture_of b ≡ clear_answer packet b
  unfolding picture_of in_mode joined
  clear_is = rw (clear_read_lem false) (made (eqb (u16_at b 20) 0) (not (eqb (first_of packet b) 0)) _ _ _ _)

  pub clear_with_gaps : gap_picture_of b ≡ then (clear_answer packet b) λ p. accepted (unmarked p)
  unfolding gap_picture_of in_mode joined
  clear_with_gaps =
      rw (clear_read_lem true) (made (eqb (u16_at b 20) 0) (not (eqb (first_of packet b) 0)) _ _ _ _)
      ∙ sym (unmarked_is (eqb (u16_at b 20) 0) (not (eqb (first_of packet b) 0)) _ _ _)
    where
      unmarked_is : (e f : Bool) (x y : Refusal) (p : Picture) → then (refuse e x (refuse f y (accepted p))) (λ q. accepted (unmarked q)) ≡ refuse e x (refuse f y (accepted (unmarked p)))
      unmarked_is true f x y p = refl
      unmarked_is false true x y p = refl
      unmarked_is false false x y p = refl

-- ---- two bodies

half_same : (b b' : List ℕ) (i : ℕ) → get_or b' i 0 ≡ get_or b i 0 → get_or b' (i + 1) 0 ≡ get_or b (i + 1) 0 → u16_at b' i ≡ u16_at b i
unfolding u16_at
half_same b b' i e f = rw (e, f) refl

first_same : (packet : Packet) (b b' : List ℕ) → ((i : ℕ) → FirstBinByte packet i → get_or b' i 0 ≡ get_or b i 0) → first_of packet b' ≡ first_of packet b
first_same Packet16 b b' h = half_same b b' 18 (h 18 (omega arith, omega arith)) (h 19 (omega arith, omega arith))
first_same PacketAf1f b b' h = refl
first_same Packet28 b b' h = refl

module _ (packet : Packet) (b b' : List ℕ) (c : ClearScan packet b) (a : Agrees packet b b') where
  at_0 : u16_at b' 0 ≡ u16_at b 0
  at_0 = half_same b b' 0 (a.read 0 (inl (omega arith))) (a.read 1 (inl (omega arith)))

  at_2 : u16_at b' 2 ≡ u16_at b 2
  at_2 = half_same b b' 2 (a.read 2 (inl (omega arith))) (a.read 3 (inl (omega arith)))

  at_16 : u16_at b' 16 ≡ u16_at b 16
  at_16 = half_same b b' 16 (a.read 16 (inr (inl (omega arith, omega arith)))) (a.read 17 (inr (inl (omega arith, omega arith))))

  at_20 : u16_at b' 20 ≡ u16_at b 20
  at_20 = half_same b b' 20 (a.read 20 (inr (inr (inr (inl (omega arith, omega arith)))))) (a.read 21 (inr (inr (inr (inl (omega arith, omega arith))))))

  last_four : (i : ℕ) → 26 ≤ i → i < 30 → get_or b' i 0 ≡ get_or b i 0
  last_four i h k = a.read i (inr (inr (inr (inr (h, k)))))

  at_26 : u16_at b' 26 ≡ u16_at b 26
  at_26 = half_same b b' 26 (last_four 26 (omega arith) (omega arith)) (last_four 27 (omega arith) (omega arith))

  at_28 : u16_at b' 28 ≡ u16_at b 28
  at_28 = half_same b b' 28 (last_four 28 (omega arith) (omega arith)) (last_four 29 (omega arith) (omega arith))

  -- the second is a clear scan too
  pub clear_too : ClearScan packet b'
  clear_too =
      record {
        old = c.old;
        long = a.long;
        divider = at_0 ∙ c.divider;
        block = at_2 ∙ c.block;
        code = at_16 ∙ c.code;
        no_radials_lem = at_28 ∙ c.no_radials_lem;
      }

  pub answers_alike : clear_answer packet b' ≡ clear_answer packet b
  answers_alike = rw (at_20, at_26, first_same packet b b' (λ i h. a.read i (inr (inr (inl h))))) refl

  -- and gives the same answer, with gaps and without
  pub clear_alike : picture_of b' ≡ picture_of b
  clear_alike = clear_is packet b' clear_too ∙ answers_alike ∙ sym (clear_is packet b c)

  pub clear_gaps_alike : gap_picture_of b' ≡ gap_picture_of b
  clear_gaps_alike = clear_with_gaps packet b' clear_too ∙ then_by _ answers_alike ∙ sym (clear_with_gaps packet b c)

-- ---- damage, in demand 3's words

-- a byte that is in none of the places that are read
elsewhere : (packet : Packet) (i : ℕ) → ¬ (i < 4) → ¬ ((16 ≤ i) × (i < 18)) → ¬ (FirstBinByte packet i) → ¬ ((20 ≤ i) × (i < 22)) → ¬ ((26 ≤ i) × (i < 30))
    → ¬ (ReadByte packet i)
elsewhere packet i a b c d e = ⊎_elim a (⊎_elim b (⊎_elim c (⊎_elim d e)))

module _ (b : List ℕ) (i : ℕ) where
  unread_elsewhere : (packet : Packet) → packet ≢ Packet28 → IsUnread packet 0 b i → ¬ (ReadByte packet i)
  unfolding IsUnread UnreadByte place
  unread_elsewhere Packet16 old (inl u) = elsewhere Packet16 i (λ h. omega arith) (λ h. omega arith) (λ h. omega arith) (λ h. omega arith) (λ h. omega arith)
  unread_elsewhere Packet16 old (inr (inl u)) = elsewhere Packet16 i (λ h. omega arith) (λ h. omega arith) (λ h. omega arith) (λ h. omega arith) (λ h. omega arith)
  unread_elsewhere Packet16 old (inr (inr u)) = elsewhere Packet16 i (λ h. omega arith) (λ h. omega arith) (λ h. omega arith) (λ h. omega arith) (λ h. omega arith)
  unread_elsewhere PacketAf1f old (inl u) = elsewhere PacketAf1f i (λ h. omega arith) (λ h. omega arith) (λ h. h) (λ h. omega arith) (λ h. omega arith)
  unread_elsewhere PacketAf1f old (inr (inl u)) = elsewhere PacketAf1f i (λ h. omega arith) (λ h. omega arith) (λ h. h) (λ h. omega arith) (λ h. omega arith)
  unread_elsewhere PacketAf1f old (inr (inr (inl u))) = elsewhere PacketAf1f i (λ h. omega arith) (λ h. omega arith) (λ h. h) (λ h. omega arith) (λ h. omega arith)
  unread_elsewhere PacketAf1f old (inr (inr (inr u))) = elsewhere PacketAf1f i (λ h. omega arith) (λ h. omega arith) (λ h. h) (λ h. omega arith) (λ h. omega arith)
  unread_elsewhere Packet28 old u = absurd (old refl)

  -- from byte 20 on, once it is not one of 20-21
  late : (packet : Packet) → ¬ (ReadByte packet i) → 20 ≤ i → ((22 ≤ i) × (i < 26)) ⊎ (30 ≤ i)
  late packet n from = by (dec_lt i 26)
    where
      after : 22 ≤ i
      after = let h : ¬ (i < 22) = λ k. n (inr (inr (inr (inl (from, k))))) in omega (arith, h)

      by : Dec (i < 26) → ((22 ≤ i) × (i < 26)) ⊎ (30 ≤ i)
      by (yes k) = inl (after, k)
      by (no k) = let h : ¬ (i < 30) = λ l. n (inr (inr (inr (inr (omega (arith, k), l))))) in inr (omega (arith, h))

  elsewhere_unread : (packet : Packet) → packet ≢ Packet28 → ¬ (ReadByte packet i) → IsUnread packet 0 b i
  unfolding IsUnread UnreadByte place
  elsewhere_unread packet old n = by packet old n (dec_lt i 16) (dec_lt i 20)
    where
      first : (p : Packet) → ¬ (ReadByte p i) → 4 ≤ i
      first p m = let h : ¬ (i < 4) = λ k. m (inl k) in omega (arith, h)

      next : (p : Packet) → ¬ (ReadByte p i) → ¬ (i < 16) → 18 ≤ i
      next p m k = let h : ¬ (i < 18) = λ l. m (inr (inl (omega (arith, k), l))) in omega (arith, h)

      by : (p : Packet) → p ≢ Packet28 → ¬ (ReadByte p i) → Dec (i < 16) → Dec (i < 20) → IsUnread p 0 b i
      by Packet16 o m (yes k) d = inl (first Packet16 m, k)
      by Packet16 o m (no k) (yes l) = absurd (m (inr (inr (inl (next Packet16 m k, l)))))
      by Packet16 o m (no k) (no l) = inr (late Packet16 m (omega (arith, l)))
      by PacketAf1f o m (yes k) d = inl (first PacketAf1f m, k)
      by PacketAf1f o m (no k) (yes l) = inr (inl (next PacketAf1f m k, l))
      by PacketAf1f o m (no k) (no l) = inr (inr (late PacketAf1f m (omega (arith, l))))
      by Packet28 o m d e = absurd (o refl)

-- Of a clear scan a byte is unread exactly if it is none of those that are read; so all from byte 30 on is.
pub clear_unread : (packet : Packet) → packet ≢ Packet28 → (b : List ℕ) (i : ℕ) → IsUnread packet 0 b i ↔ ¬ (ReadByte packet i)
clear_unread packet old b i = (unread_elsewhere b i packet old, elsewhere_unread b i packet old)

pub unread_from_30 : (packet : Packet) → packet ≢ Packet28 → (b : List ℕ) (i : ℕ) → 30 ≤ i → IsUnread packet 0 b i
unread_from_30 packet old b i h = elsewhere_unread b i packet old (elsewhere packet i (λ k. omega arith) (λ k. omega arith) (late_first packet) (λ k. omega arith) (λ k. omega arith))
  where
    late_first : (p : Packet) → ¬ (FirstBinByte p i)
    late_first Packet16 k = omega arith
    late_first PacketAf1f k = k
    late_first Packet28 k = k

-- Damage to an accepted one leaves the bytes that are read, and nothing else is asked of a body of its length: it has no data bytes.
module _ (packet : Packet) (b b' : List ℕ) (c : ClearScan packet b) (f : Figures) (is : f.packet ≡ packet) (none : f.n_radials ≡ 0) where
  pub clear_damage : DamageInWords b f b' ↔ ((length b' ≡ length b) × Agrees packet b b')
  clear_damage = (
    λ d. (d.same_length, record { long = omega (arith, c.long, d.same_length); read = λ i r. agree d i r (ℕ_discrete (get_or b i 0) (get_or b' i 0)) }),
    λ a. record { same_length = a.0; only = λ i lt ne. inl (rw (is, none) (elsewhere_unread b i packet c.old (λ r. ne (sym (a.1.read i r))))) },
  )
    where
      inside : (i : ℕ) → ReadByte packet i → i < length b
      inside i r = by (dec_lt i 30)
        where
          by : Dec (i < 30) → i < length b
          by (yes k) = omega (arith, c.long, k)
          by (no k) = absurd (unread_elsewhere b i packet c.old (unread_from_30 packet c.old b i (omega (arith, k))) r)

      agree : DamageInWords b f b' → (i : ℕ) → ReadByte packet i → Dec (get_or b i 0 ≡ get_or b' i 0) → get_or b' i 0 ≡ get_or b i 0
      agree d i r (yes e) = sym e
      agree d i r (no ne) =
          absurd (⊎_elim (λ u. unread_elsewhere b i packet c.old (rw (is, none) at u) r) (λ w. omega (arith, none, w.1)) (d.only i (inside i r) ne))
