-- Packets 16 and AF1F: a radial's six bytes and the packet header, a law for each answer of the code. Assumes nothing.
use Rattle.std.proofs.Common.{◌≡◌, ℕ, ◌+◌, ◌-◌, ◌*◌, ◌<◌, ◌≤◌, Bool, true, false, cond, not, ◌||◌, eqb, ltb, List, [], ◌∷◌, length, sym, refl, ap, ◌∙◌, arith, le-ltb, lt-ltb, eq-eqb, ne_eqb}
use lib.Ieee.{Float}
use Rattle.wire.specs.Bytes.{u16_at}
use Rattle.wire.specs.Refusal.{kind, nat, float}
use Rattle.wire.specs.Result.{Result, accepted, refused}
use Rattle.wire.specs.Reading.{◌>>=◌, ◌>>◌, remaining, u16, unread, Ended, passed, halted, outcome, walk}
use Rattle.wire.proofs.Readings.{walk_checks, walk_checks_then, then_passed}
use Rattle.symbology.specs.Centre.{centre, width_degrees}
use Rattle.symbology.specs.Symbology.{counts, Header, covered, count_wrong, frame, first_bin, over_body, packet_header}
use Rattle.symbology.specs.Walk.{beam_span, placed, first_of}
use Rattle.symbology.specs.declared.figures.Packet.{Packet}
use Rattle.symbology.specs.declared.figures.Packet.TheVariants.{Packet16, PacketAf1f, Packet28}

-- ---- a radial's six bytes

module _ (packet : Packet) (radials bins r : ℕ) (s : List ℕ) (p : ℕ) where
  pub beam_is : walk (beam_span packet radials bins r) s p
      ≡ cond (ltb (length s - p) 6) (halted (kind 19 (nat r ∷ nat radials ∷ [])) p)
      (cond (eqb (u16_at s (p + 4)) 0 || ltb 100 (u16_at s (p + 4))) (halted (kind 20 (nat r ∷ float (width_degrees (u16_at s (p + 4))) ∷ [])) (p + 6))
      (cond (count_wrong packet bins (u16_at s p) (length s - (p + 6))) (halted (kind 21 (nat r ∷ nat (u16_at s p) ∷ nat bins ∷ [])) (p + 6))
      (passed (record { centre = centre (u16_at s (p + 2)) (u16_at s (p + 4)); size = covered packet (u16_at s p) }) (p + 6))))
  unfolding beam_span frame remaining u16 walk ◌>>=◌ ◌>>◌
  beam_is =
      let e : p + 2 + 2 ≡ p + 4 = omega arith in
      let f : p + 2 + 2 + 2 ≡ p + 6 = omega arith in
      rw (← e, ← f) (walk_checks_then _ _ _ _ s _ (walk_checks_then _ _ _ _ s _ (walk_checks_then _ _ _ _ s _ refl)))

  module _ {have : ℕ} (left : have ≡ length s - p) where
    pub beam_cut : have < 6 → refused (kind 19 (nat r ∷ nat radials ∷ [])) ≡ placed (walk (beam_span packet radials bins r) s p)
    beam_cut h = rw (beam_is, ← left) (simp (lt-ltb _ _ h))

    module _ (six : 6 ≤ have) {count width : ℕ} (c : count ≡ u16_at s p) (w : width ≡ u16_at s (p + 4)) {wide : Bool}
        (wd : wide ≡ eqb width 0 || ltb 100 width) where
      rest : have - 6 ≡ length s - (p + 6)
      rest = omega arith

      pub beam_wide : {x : Float} → wide ≡ true → x ≡ width_degrees width
          → refused (kind 20 (nat r ∷ float x ∷ [])) ≡ placed (walk (beam_span packet radials bins r) s p)
      beam_wide h k = rw (beam_is, ← left, ← w, ← wd) (simp (le-ltb _ _ six, h, k))

      module _ (narrow : wide ≡ false) {wrong : Bool} (wr : wrong ≡ count_wrong packet bins count (have - 6)) where
        pub beam_wrong : wrong ≡ true → refused (kind 21 (nat r ∷ nat count ∷ nat bins ∷ [])) ≡ placed (walk (beam_span packet radials bins r) s p)
        beam_wrong h = rw (beam_is, ← left, ← w, ← c, ← wd, ← rest, ← wr) (simp (le-ltb _ _ six, narrow, h))

        pub beam_whole : {start n : ℕ} {a : Float} → wrong ≡ false → start ≡ u16_at s (p + 2) → a ≡ centre start width → n ≡ covered packet count
            → accepted (record { centre = a; from = p + 6; to = p + 6 + n }) ≡ placed (walk (beam_span packet radials bins r) s p)
        beam_whole h st k m = rw (beam_is, ← left, ← w, ← c, ← wd, ← rest, ← wr, ← st) (simp (le-ltb _ _ six, narrow, h, k, m))

-- ---- the packet header

first_is : (packet : Packet) (s : List ℕ) → (packet ≡ Packet28 → ⊥) → passed (first_of packet s) 20 ≡ walk (first_bin packet) s 18
unfolding first_bin walk u16 unread ◌>>◌ ◌>>=◌
first_is Packet16 s old = refl
first_is PacketAf1f s old = refl
first_is Packet28 s old = absurd (old refl)

module _ (packet : Packet) (first : ℕ) (s : List ℕ) where
  abbrev Checked : Ended Header
  Checked =
      cond (eqb (u16_at s 20) 0) (halted (kind 15 (nat (u16_at s 28) ∷ nat (u16_at s 20) ∷ [])) 30)
      (cond (ltb 4000000 (u16_at s 28 * u16_at s 20)) (halted (kind 16 (nat (u16_at s 28) ∷ nat (u16_at s 20) ∷ nat (u16_at s 28 * u16_at s 20) ∷ nat 4000000 ∷ [])) 30)
      (cond (not (eqb first 0)) (halted (kind 17 (nat first ∷ [])) 30)
      (cond (over_body packet (u16_at s 28) (u16_at s 20) (length s - 30))
      (halted (kind 18 (nat (u16_at s 28) ∷ nat (u16_at s 20) ∷ nat (u16_at s 28 * (6 + u16_at s 20)) ∷ nat (length s - 30) ∷ [])) 30)
      (passed (record { radials = u16_at s 28; bins = u16_at s 20; range = u16_at s 26 }) 30))))

  pub checked_is : walk (counts packet first) s 20 ≡ Checked
  unfolding remaining u16 unread walk ◌>>=◌ ◌>>◌
  checked_is = walk_checks _ _ _ s 30 (walk_checks _ _ _ s 30 (walk_checks _ _ _ s 30 (walk_checks _ _ _ s 30 refl)))

  module _ {radials bins : ℕ} (re : radials ≡ u16_at s 28) (be : bins ≡ u16_at s 20) where
    pub counts_empty : bins ≡ 0 → refused (kind 15 (nat radials ∷ nat bins ∷ [])) ≡ outcome (walk (counts packet first) s 20)
    counts_empty h = rw (checked_is, ← re, ← be) (simp (eq-eqb _ _ h))

    module _ (some : bins ≡ 0 → ⊥) {cells : ℕ} (ce : cells ≡ radials * bins) where
      pub counts_large : 4000000 < cells
          → refused (kind 16 (nat radials ∷ nat bins ∷ nat cells ∷ nat 4000000 ∷ [])) ≡ outcome (walk (counts packet first) s 20)
      counts_large h = rw (checked_is, ← re, ← be, ← ce) (simp (ne_eqb _ _ some, lt-ltb _ _ h))

      module _ (small : cells ≤ 4000000) where
        pub counts_first : (first ≡ 0 → ⊥) → refused (kind 17 (nat first ∷ [])) ≡ outcome (walk (counts packet first) s 20)
        counts_first h = rw (checked_is, ← re, ← be, ← ce) (simp (ne_eqb _ _ some, le-ltb _ _ small, ne_eqb _ _ h))

        module _ (zero : first ≡ 0) {room : ℕ} (ro : room ≡ length s - 30) {over : Bool} (ov : over ≡ over_body packet radials bins room) where
          pub counts_over : {needed : ℕ} → over ≡ true → needed ≡ radials * (6 + bins)
              → refused (kind 18 (nat radials ∷ nat bins ∷ nat needed ∷ nat room ∷ [])) ≡ outcome (walk (counts packet first) s 20)
          counts_over h k = rw (checked_is, ← re, ← be, ← ce, ← ro, ← ov) (simp (ne_eqb _ _ some, le-ltb _ _ small, eq-eqb _ _ zero, h, k))

          pub counts_whole : {range : ℕ} → over ≡ false → range ≡ u16_at s 26
              → accepted (record { radials = radials; bins = bins; range = range }) ≡ outcome (walk (counts packet first) s 20)
          counts_whole h k = rw (checked_is, ← re, ← be, ← ce, ← ro, ← ov) (simp (ne_eqb _ _ some, le-ltb _ _ small, eq-eqb _ _ zero, h, k))

module _ (packet : Packet) (s : List ℕ) where
  pub header_is : (packet ≡ Packet28 → ⊥)
      → walk (packet_header packet) s 18 ≡ cond (ltb (length s - 18) 12) (halted (kind 12 (nat (18 + (length s - 18)) ∷ [])) 18) (Checked packet (first_of packet s) s)
  unfolding packet_header remaining walk ◌>>=◌ ◌>>◌
  header_is old = walk_checks _ _ _ s 18 (then_passed (counts packet) (first_bin packet) s 18 (first_is packet s old) ∙ checked_is packet (first_of packet s) s)

module _ (packet : Packet) (s : List ℕ) (old : packet ≡ Packet28 → ⊥) where
  pub header_cut : 18 ≤ length s → length s < 30 → refused (kind 12 (nat (length s) ∷ [])) ≡ outcome (walk (packet_header packet) s 18)
  header_cut h k =
      let e : 18 + (length s - 18) ≡ length s = omega arith in
      let t : length s - 18 < 12 = omega arith in
      rw (header_is packet s old) (simp (lt-ltb _ _ t, e))

  module _ (thirty : 30 ≤ length s) where
    answer : outcome (walk (packet_header packet) s 18) ≡ outcome (Checked packet (first_of packet s) s)
    answer = let t : 12 ≤ length s - 18 = omega arith in rw (header_is packet s old) (simp (le-ltb _ _ t))

    pub header_counts : {r : Result Header} → r ≡ outcome (walk (counts packet (first_of packet s)) s 20) → r ≡ outcome (walk (packet_header packet) s 18)
    header_counts e = e ∙ ap outcome (checked_is packet (first_of packet s) s) ∙ sym answer
