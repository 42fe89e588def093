-- The body: its header and its packets, a law for each answer of the code. Assumes nothing.
use Rattle.std.proofs.Common.{◌≡◌, ℕ, zero, suc, ◌+◌, ◌-◌, ◌*◌, ◌<◌, ◌≤◌, Bool, true, false, cond, not, ◌&&◌, ◌||◌, eqb, ltb, List, [], ◌∷◌, length, get_or, take, drop, ℤ, pos, sym, refl, ap, ◌∙◌, ap₂, arith, w8, Fits, ltb-false, ltb-true, le-ltb, lt-ltb, ne_eqb}
use mathlib.Core.Path.{fun_ext}
use lib.Seq.{slice, take-length}
use lib.Signed.{lt_z}
use Rattle.wire.specs.Bytes.{u16_at, u32_at, i32_at, signed}
use Rattle.wire.specs.Refusal.{Refusal, kind, nat, whole, item}
use Rattle.wire.specs.Result.{Result, accepted, refused}
use Rattle.wire.specs.Reading.{Read, Flat, gaps, give, left, number, half, ◌>>=◌, ◌>>◌, remaining, u16, u32, unread, refuse_if, run, Given, Ended, passed, halted, outcome, walk}
use Rattle.wire.specs.declared.error.XdrItem.TheVariants as Item
use Rattle.wire.proofs.Readings.{part_slice, past_test, walk_checks}
use Rattle.wire.proofs.Runs.{then_then, Plain, plain_then, plain_by, plain_give, plain_check, plain_remaining, plain_u16, plain_unread, shifted, run_within}
use Rattle.symbology.proofs.Modes.{mode_stop, mode_passed, mode_halted, mode_checks}
use Rattle.xdr.specs.Xdr.{at_least0}
use Rattle.symbology.specs.Symbology.{Sweep, Header, frame, radial, radial_walk, first_bin, over_body, counts, packet_header, radial_packet, payload, body_short, generic_packet, packet_of, with_code, block_header, symbology}
use Rattle.symbology.specs.Walk.{in_mode, beam_span, any_frame, any_radial, any_walk, first_of, sweep_from, Planned, Plotted, Plots}
use Rattle.symbology.proofs.Beams.{header_is}
use Rattle.symbology.proofs.Levels.{signed_low, signed_high, u32_small}
use Rattle.symbology.proofs.XdrRadials.{sweep_run}
use Rattle.symbology.specs.declared.figures.Figures.{Figures}
use Rattle.std.specs.Prelude as Std
use Rattle.wire.specs.declared.error.Level3DecodeError.{Level3DecodeError}
use Rattle.symbology.specs.declared.figures.Packet.{Packet}
use Rattle.symbology.specs.declared.figures.Packet.TheVariants.{Packet16, PacketAf1f, Packet28}
use Rattle.symbology.specs.declared.figures.Geometry.TheVariants.{RangeScale}
use Rattle.symbology.specs.declared.spans.BodyPlan.{BodyPlan}

-- ---- plans

pub plots_as : (m : Bool) (r : Std.Result BodyPlan Level3DecodeError) (s : List ℕ) {R Q : Result (Given Sweep)} → R ≡ Q → Plots m r s Q → Plots m r s R
plots_as m r s e h = rw e h

-- a plan of a part of the body
plotted : {m : Bool} {f : Figures} {at next from to : ℕ} {body : List ℕ} {R R' : Result (Given Sweep)} (p : Planned m f at next (slice from to body) R) (end : ℕ) → from ≤ to → to ≤ length body
    → R' ≡ accepted (record { value = record { figures = f; azimuths = p.radials.value }; next = end; rows = p.radials.rows }) → Plotted m f from to at body R'
plotted p end o i w =
    record { radials = p.radials; end = end; ordered = o; inside = i; radials_are = p.radials_are; whole = w }

-- ---- packets 16 and AF1F

-- the radials are the one walk's
pub radial_is : (packet : Packet) (radials bins r : ℕ) → (packet ≡ Packet28 → ⊥) → radial packet radials bins r ≡ any_radial packet radials bins r
unfolding radial any_radial any_frame beam_span ◌>>=◌
radial_is Packet16 radials bins r old = sym (then_then _ _ (frame Packet16 radials bins r))
radial_is PacketAf1f radials bins r old = sym (then_then _ _ (frame PacketAf1f radials bins r))
radial_is Packet28 radials bins r old = absurd (old refl)

pub walk_is : (packet : Packet) (radials bins n r : ℕ) → (packet ≡ Packet28 → ⊥) → radial_walk packet radials bins n r ≡ any_walk packet radials bins n r
unfolding radial_walk any_walk
walk_is packet radials bins zero r old = refl
walk_is packet radials bins (suc n) r old =
    ap₂ (λ t u. t >>= λ first. u >>= λ azimuths. give (first ∷ azimuths)) (radial_is packet radials bins r old) (walk_is packet radials bins n (suc r) old)

plain_first : (packet : Packet) → Plain (first_bin packet)
unfolding first_bin
plain_first Packet16 = plain_u16
plain_first PacketAf1f = plain_by _ _ (plain_unread 2) (plain_give 0)
plain_first Packet28 = plain_give 0

pub plain_counts : (packet : Packet) (first : ℕ) → Plain (counts packet first)
plain_counts packet first =
    plain_then _ (λ bins. plain_by _ _ (plain_unread 4) (plain_then _ (λ range. plain_then _ (λ radials.
    plain_by _ _ (plain_check _ _) (plain_by _ _ (plain_check _ _) (plain_by _ _ (plain_check _ _)
    (plain_then _ (λ room. plain_by _ _ (plain_check _ _) (plain_give _)) _ plain_remaining)))) _ plain_u16) _ plain_u16)) _ plain_u16

pub plain_header : (packet : Packet) → Plain (packet_header packet)
unfolding packet_header
plain_header packet = plain_then _ (λ avail. plain_by _ _ (plain_check _ _) (plain_then _ (λ first. plain_counts packet first) _ (plain_first packet))) _ plain_remaining

abbrev figures_of : Packet → Header → Figures
figures_of packet h = record { packet = packet; n_radials = h.radials; n_bins = h.bins; geometry = RangeScale h.range }

pub halt_of : {A : Type 0} (e : Ended A) {x : Refusal} → refused x ≡ outcome e → (q : ℕ) × (halted x q ≡ e)
halt_of (passed b m) h = let z : ◌≡◌ {A = ℕ} 0 1 = cc in absurd (omega arith)
halt_of (halted y m) {x} h = let l : x ≡ y = cc in (m, ap (λ z. halted z m) l)

pub pass_of : {A : Type 0} (e : Ended A) {a : A} → accepted a ≡ outcome e → (q : ℕ) × (passed a q ≡ e)
pass_of (passed b m) {a} h = let l : a ≡ b = cc in (m, ap (λ z. passed z m) l)
pass_of (halted x m) h = let z : ◌≡◌ {A = ℕ} 0 1 = cc in absurd (omega arith)

-- What a header that passed shows: it ends at byte 30, and the picture is no larger than it may be.
record Headed (packet : Packet) (s : List ℕ) (h : Header) : Type 0 where
  ends : passed h 30 ≡ walk (packet_header packet) s 18
  radials_are : h.radials ≡ u16_at s 28
  cells : h.radials * h.bins ≤ 4000000

module _ (packet : Packet) (s : List ℕ) (old : packet ≡ Packet28 → ⊥) where
  headed_by : {h : Header} {q : ℕ} → passed h q ≡ walk (packet_header packet) s 18 → Headed packet s h
  headed_by {h} {q} e =
      let h₁ = past_test (ltb (length s - 18) 12) _ _ _ (e ∙ header_is packet s old) in
      let h₂ = past_test (eqb (u16_at s 20) 0) _ _ _ h₁.1 in
      let h₃ = past_test (ltb 4000000 (u16_at s 28 * u16_at s 20)) _ _ _ h₂.1 in
      let h₄ = past_test (not (eqb (first_of packet s) 0)) _ _ _ h₃.1 in
      let h₅ = past_test (over_body packet (u16_at s 28) (u16_at s 20) (length s - 30)) _ _ _ h₄.1 in
      last (ltb-false _ _ h₃.0) h₅.1
    where
      last : u16_at s 28 * u16_at s 20 ≤ 4000000 → passed h q ≡ passed (record { radials = u16_at s 28; bins = u16_at s 20; range = u16_at s 26 }) 30 → Headed packet s h
      last small l =
          let a : q ≡ 30 = cc in
          let b : h ≡ record { radials = u16_at s 28; bins = u16_at s 20; range = u16_at s 26 } = cc in
          record { ends = ap (passed h) (sym a) ∙ e; radials_are = ap (λ x. x.radials) b; cells = rw b small }

  pub radial_header_refused : (m : Bool) {x : Refusal} → refused x ≡ outcome (walk (packet_header packet) s 18) → refused x ≡ run (in_mode m (radial_packet packet)) s 18
  unfolding radial_packet
  radial_header_refused m e = mode_halted _ _ (packet_header packet) (plain_header packet) s 18 (halt_of _ e).1

  module _ {h : Header} (e : accepted h ≡ outcome (walk (packet_header packet) s 18)) where
    headed : Headed packet s h
    headed = headed_by (pass_of _ e).1

    pub radial_small : ((i : ℕ) → Fits w8 (get_or s i 0)) → (h.radials ≤ 100000) × (h.radials * h.bins ≤ 4000000)
    unfolding u16_at
    radial_small bytes = (omega (arith, headed.radials_are, bytes 28, bytes 29), headed.cells)

    pub radial_run : (m : Bool) → run (in_mode m (radial_packet packet)) s 18 ≡ sweep_from (figures_of packet h) (run (in_mode m (any_walk packet h.radials h.bins h.radials 0)) s 30)
    unfolding radial_packet
    radial_run m =
        mode_passed _ _ (packet_header packet) (plain_header packet) s 18 headed.ends
        ∙ ap (λ t. run {W = Unit {0}} (in_mode m (t >>= λ azimuths. give (record { figures = figures_of packet h; azimuths = azimuths }))) s 30) (walk_is packet h.radials h.bins h.radials 0 old)
        ∙ sweep_run (Unit {0}) m (figures_of packet h) (any_walk packet h.radials h.bins h.radials 0) s 30

    -- the part that holds the radials is the whole body
    pub radial_plotted : {m : Bool} {f : Figures} {at next : ℕ}
        → Planned m f at next s (sweep_from (figures_of packet h) (run (in_mode m (any_walk packet h.radials h.bins h.radials 0)) s 30))
        → Plotted m f 0 (length s) at s (run (in_mode m (radial_packet packet)) s 18)
    radial_plotted {m} {f} {at} {next} p =
        let q : Planned m f at next (slice 0 (length s) s) (sweep_from (figures_of packet h) (run (in_mode m (any_walk packet h.radials h.bins h.radials 0)) s 30)) =
        rw (take-length s) p in
        plotted q q.radials.next (omega arith) (omega arith) (radial_run m ∙ q.whole)

-- ---- packet 28

-- a length that is not below 0 is the number itself
length_is : (n room : ℕ) → n < 4294967296 → body_short (signed 2147483648 n) room ≡ false → at_least0 (signed 2147483648 n) ≡ n
unfolding body_short
length_is n room small h = go (ltb n 2147483648) refl
  where
    go : (b : Bool) → ltb n 2147483648 ≡ b → at_least0 (signed 2147483648 n) ≡ n
    go true e = ap at_least0 (signed_low 2147483648 n (ltb-true _ _ e))
    go false e =
        let k : true ≡ false = rw (signed_high 2147483648 4294967295 n refl (ltb-false _ _ e) small) at h in
        let z : ◌≡◌ {A = ℕ} 0 1 = cc in
        absurd (omega arith)

inside_is : (size : ℤ) (room : ℕ) → body_short size room ≡ false → at_least0 size ≤ room
unfolding body_short
inside_is size room h = go (lt_z size (pos 0)) h
  where
    go : (b : Bool) → b || ltb room (at_least0 size) ≡ false → at_least0 size ≤ room
    go true k = let z : ◌≡◌ {A = ℕ} 0 1 = cc in absurd (omega arith)
    go false k = ltb-false _ _ k

-- a payload that passed 12 and 23 ends inside the body
pub payload_inside : (s : List ℕ) → ((i : ℕ) → get_or s i 0 < 256) → 24 ≤ length s
    → body_short (signed 2147483648 (u32_at s 20)) (length s - 24) ≡ false → 24 + u32_at s 20 ≤ length s
payload_inside s bytes long h =
    let e = length_is (u32_at s 20) (length s - 24) (u32_small s 20 bytes) h in
    let k = inside_is (signed 2147483648 (u32_at s 20)) (length s - 24) h in
    omega (arith, e, k)

module _ (s : List ℕ) where
  generic_is : (m : Bool) → run (in_mode m generic_packet) s 18
      ≡ cond (ltb (length s - 18) 6) (refused (kind 12 (nat (18 + (length s - 18)) ∷ [])))
      (cond (body_short (i32_at s 20) (length s - 24)) (refused (kind 23 (item Item.PacketBody ∷ nat (length s - 24) ∷ nat (at_least0 (i32_at s 20)) ∷ [])))
      (shifted 24 (run (in_mode m payload) (slice 24 (24 + u32_at s 20) s) 0)))
  unfolding generic_packet remaining unread u32 run ◌>>=◌ ◌>>◌ i32_at in_mode gaps
  generic_is true = mode_checks true _ _ _ s 18 (mode_checks true _ _ _ s 24 (run_within tt (gaps payload) s 24 (u32_at s 20)))
  generic_is false = mode_checks false _ _ _ s 18 (mode_checks false _ _ _ s 24 (run_within tt payload s 24 (u32_at s 20)))

  pub generic_cut : (m : Bool) → 18 ≤ length s → length s < 24 → refused (kind 12 (nat (length s) ∷ [])) ≡ run (in_mode m generic_packet) s 18
  generic_cut m h k =
      let e : 18 + (length s - 18) ≡ length s = omega arith in
      let t : length s - 18 < 6 = omega arith in
      rw (generic_is m) (simp (lt-ltb _ _ t, e))

  module _ (long : 24 ≤ length s) {size : ℤ} {need : ℕ} (si : size ≡ i32_at s 20) (ne : need ≡ at_least0 size) {short : Bool} (sh : short ≡ body_short size (length s - 24)) where
    pub generic_short : (m : Bool) → short ≡ true → refused (kind 23 (item Item.PacketBody ∷ nat (length s - 24) ∷ nat need ∷ [])) ≡ run (in_mode m generic_packet) s 18
    generic_short m h = let t : 6 ≤ length s - 18 = omega arith in rw (generic_is m, ← si, ← ne, ← sh) (simp (le-ltb _ _ t, h))

    module _ (enough : short ≡ false) where
      pub generic_inside : 24 + need ≤ length s
      generic_inside = let k : need ≤ length s - 24 = rw ne (inside_is size (length s - 24) (sym sh ∙ enough)) in omega (arith, long, k)

      module _ (bytes : (i : ℕ) → Fits w8 (get_or s i 0)) where
        need_is : need ≡ u32_at s 20
        unfolding i32_at
        need_is =
            ne ∙ ap at_least0 si
            ∙ length_is (u32_at s 20) (length s - 24) (u32_small s 20 (λ i. omega (arith, bytes i))) (ap (λ z. body_short z (length s - 24)) (sym si) ∙ sym sh ∙ enough)

        generic_run : (m : Bool) → run (in_mode m generic_packet) s 18 ≡ shifted 24 (run (in_mode m payload) (slice 24 (24 + need) s) 0)
        generic_run m = let t : 6 ≤ length s - 18 = omega arith in rw (generic_is m, need_is, ← si, ← sh) (simp (le-ltb _ _ t, enough))

        -- the part as the code has it
        part_is : take (24 + need - 24) (drop 24 s) ≡ slice 24 (24 + need) s
        part_is = part_slice s 24 (24 + need) (omega arith)

        pub generic_refused : (m : Bool) {x : Refusal} → refused x ≡ run (in_mode m payload) (take (24 + need - 24) (drop 24 s)) 0 → refused x ≡ run (in_mode m generic_packet) s 18
        unfolding shifted
        generic_refused m h = ap (shifted 24) (h ∙ ap (λ l. run (in_mode m payload) l 0) part_is) ∙ sym (generic_run m)

        pub generic_plotted : (m : Bool) {f : Figures} {at next : ℕ} → Planned m f at next (take (24 + need - 24) (drop 24 s)) (run (in_mode m payload) (take (24 + need - 24) (drop 24 s)) 0)
            → Plotted m f 24 (24 + need) at s (run (in_mode m generic_packet) s 18)
        unfolding shifted
        generic_plotted m {f} {at} {next} p =
            let q : Planned m f at next (slice 24 (24 + need) s) (run (in_mode m payload) (slice 24 (24 + need) s) 0) = rw part_is at p in
            plotted q (24 + q.radials.next) (omega arith) generic_inside (generic_run m ∙ ap (shifted 24) q.whole)

-- ---- the body

module _ (s : List ℕ) where
  abbrev Coded : Ended ℕ
  Coded =
      cond (not (eqb (u16_at s 0) 65535 && eqb (u16_at s 2) 1)) (halted (kind 13 (whole (signed 32768 (u16_at s 0)) ∷ whole (signed 32768 (u16_at s 2)) ∷ [])) 4)
      (passed (u16_at s 16) 18)

  block_is : walk block_header s 0 ≡ cond (ltb (length s) 18) (halted (kind 12 (nat (length s) ∷ [])) 0) Coded
  unfolding remaining unread u16 walk ◌>>=◌ ◌>>◌
  block_is =
      let e : length s - 0 ≡ length s = omega arith in
      walk_checks _ _ _ s 0 (walk_checks _ _ _ s 4 refl) ∙ ap (λ (n : ℕ). cond (ltb n 18) (halted (kind 12 (nat n ∷ [])) 0) Coded) e

  pub block_cut : length s < 18 → refused (kind 12 (nat (length s) ∷ [])) ≡ outcome (walk block_header s 0)
  block_cut h = rw block_is (simp (lt-ltb _ _ h))

  module _ (long : 18 ≤ length s) {divider block : ℕ} (de : divider ≡ u16_at s 0) (be : block ≡ u16_at s 2) {header : Bool} (he : header ≡ (eqb divider 65535 && eqb block 1)) where
    pub block_other : {d b : ℤ} → not header ≡ true → d ≡ signed 32768 divider → b ≡ signed 32768 block → refused (kind 13 (whole d ∷ whole b ∷ [])) ≡ outcome (walk block_header s 0)
    block_other h k l = rw (block_is, ← de, ← be, ← he) (simp (le-ltb _ _ long, h, k, l))

    pub block_code : {code : ℕ} → not header ≡ false → code ≡ u16_at s 16 → accepted code ≡ outcome (walk block_header s 0)
    block_code h k = rw (block_is, ← de, ← be, ← he) (simp (le-ltb _ _ long, h, k))

  pub code_at : {code : ℕ} → accepted code ≡ outcome (walk block_header s 0) → (18 ≤ length s) × (passed code 18 ≡ walk block_header s 0)
  code_at {code} e =
      let k = pass_of _ e in
      let h₁ = past_test (ltb (length s) 18) _ _ _ (k.1 ∙ block_is) in
      let h₂ = past_test (not (eqb (u16_at s 0) 65535 && eqb (u16_at s 2) 1)) _ _ _ h₁.1 in
      last k.0 (ltb-false _ _ h₁.0) h₂.1 k.1
    where
      last : (q : ℕ) → 18 ≤ length s → passed code q ≡ passed (u16_at s 16) 18 → passed code q ≡ walk block_header s 0 → (18 ≤ length s) × (passed code 18 ≡ walk block_header s 0)
      last q long h k = let n : q ≡ 18 = cc in (long, ap (passed code) (sym n) ∙ k)

-- a reading that goes on by the code is the block header, and what follows it
check_then : {W A B : Type 0} (b : Bool) (x : Refusal) (f : Unit {0} → Flat A) (g : A → Read W B) (k : Unit {0} → Read W B) → f tt >>= g ≡ k tt
    → (refuse_if b x >>= f) >>= g ≡ refuse_if b x >>= k
unfolding refuse_if ◌>>=◌
check_then true x f g k h = refl
check_then false x f g k h = h

pub block_then : {W A : Type 0} (next : ℕ → Read W A) → block_header >>= next ≡ with_code next
unfolding remaining u16 unread ◌>>=◌ ◌>>◌
block_then next =
    ap left (fun_ext (λ n. check_then _ _ _ next _ (ap (number half) (fun_ext (λ divider. ap (number half) (fun_ext (λ block. check_then _ _ _ next _ refl)))))))

pub plain_block : Plain block_header
plain_block =
    plain_then _ (λ n. plain_by _ _ (plain_check _ _) (plain_then _ (λ divider. plain_then _ (λ block. plain_by _ _ (plain_check _ _) (plain_by _ _ (plain_unread 12)
    (plain_then _ (λ code. plain_give _) _ plain_u16))) _ plain_u16) _ plain_u16)) _ plain_remaining

module _ (m : Bool) (s : List ℕ) where
  body_is : run (in_mode m symbology) s 0 ≡ run (in_mode m (block_header >>= packet_of)) s 0
  unfolding symbology
  body_is = ap (λ (t : Read (Unit {0}) Sweep). run (in_mode m t) s 0) (sym (block_then packet_of))

  pub body_refused : {x : Refusal} → refused x ≡ outcome (walk block_header s 0) → refused x ≡ run (in_mode m symbology) s 0
  body_refused e = mode_halted m packet_of block_header plain_block s 0 (halt_of _ e).1 ∙ sym body_is

  module _ {code : ℕ} (e : accepted code ≡ outcome (walk block_header s 0)) where
    pub body_packet : run (in_mode m symbology) s 0 ≡ run (in_mode m (packet_of code)) s 18
    body_packet = body_is ∙ mode_passed m packet_of block_header plain_block s 0 (code_at s e).1

    pub body_16 : code ≡ 16 → run (in_mode m symbology) s 0 ≡ run (in_mode m (radial_packet Packet16)) s 18
    unfolding packet_of
    body_16 h = body_packet ∙ rw h refl

    module _ (no16 : code ≡ 16 → ⊥) where
      pub body_af1f : code ≡ 44831 → run (in_mode m symbology) s 0 ≡ run (in_mode m (radial_packet PacketAf1f)) s 18
      unfolding packet_of
      body_af1f h = body_packet ∙ rw h refl

      module _ (noAf1f : code ≡ 44831 → ⊥) where
        pub body_28 : code ≡ 28 → run (in_mode m symbology) s 0 ≡ run (in_mode m generic_packet) s 18
        unfolding packet_of
        body_28 h = body_packet ∙ rw h refl

        pub body_unknown : {c : ℤ} → (code ≡ 28 → ⊥) → c ≡ signed 32768 code → refused (kind 14 (whole c ∷ [])) ≡ run (in_mode m symbology) s 0
        unfolding packet_of run
        body_unknown h k = rw (body_packet) (simp (ne_eqb _ _ no16, ne_eqb _ _ noAf1f, ne_eqb _ _ h, mode_stop, k))
