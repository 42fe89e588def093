-- When an original is accepted. Assumes nothing.
use Prim.Native.Nat.{ℕ, ◌+◌, ◌-◌, ◌*◌, ◌≤◌}
use native.Mathlib.Omega.{arith}
use mathlib.Core.List.{List, [], ◌∷◌}
use mathlib.Core.Bool.{Bool, true, false, cond}
use mathlib.Core.Path.{◌≡◌, refl, sym, ap, ◌∙◌}
use lib.ListN.{length, replicate, length-replicate}
use lib.Dec.{ltb, eqb}
use borrow.Author.Tests.{ltb-false, eqb-true, eqb-false}
use Rattle.wire.specs.Bytes.{u16_at, u32_at, signed}
use Rattle.wire.specs.Refusal.{kind, whole}
use Rattle.wire.specs.Result.{accepted}
use Rattle.wire.specs.Reading.{stop, run, Given, Ended, passed, halted, outcome, walk}
use Rattle.wire.proofs.Gaps.{all_whole, gaps_accepted}
use Rattle.wire.proofs.Readings.{past_test}
use Rattle.wire.proofs.Results as Results
use Rattle.wire.proofs.Results.{clash, one_value, through}
use Rattle.wire.proofs.Runs.{run_parts, plain_passed}
use Rattle.symbology.specs.Answers.{Picture, picture_of, figures_in}
use Rattle.symbology.specs.Symbology.{Sweep, Header, over_body, packet_header, radial_packet, generic_packet, packet_of, block_header, symbology}
use Rattle.symbology.specs.Walk.{in_mode}
use Rattle.symbology.specs.declared.figures.Figures.{Figures}
use Rattle.symbology.specs.declared.figures.Packet.{Packet}
use Rattle.symbology.specs.declared.figures.Packet.TheVariants.{Packet16, PacketAf1f, Packet28}
use Rattle.symbology.specs.declared.figures.Geometry.TheVariants.{RangeScale}
use Rattle.symbology.proofs.Beams.{header_is, counts_whole}
use Rattle.symbology.proofs.Bodies.{code_at, body_refused, body_packet, plain_header}
use Rattle.symbology.proofs.Marks.{Generic, generic, Rows28}
use Rattle.symbology.proofs.Path.{reached}
use Rattle.symbology.proofs.Walking.{no28'}
use Rattle.export.specs.Export.{export_head, count_for, packet16_body, body_of, export_of, exportable}
use Rattle.export.specs.RoundTrip.{Exactly, Wanted}
use Rattle.export.proofs.Original.{head_at, head_whole}
use Rattle.export.proofs.RoundTrip.{shown, original_picture, body_size}
use Rattle.export.proofs.Entry.{fits, beams, rows}

-- ---- what symbology's acceptance shows

abbrev figures_by : Packet → Header → Figures
figures_by packet h = record { packet = packet; n_radials = h.radials; n_bins = h.bins; geometry = RangeScale h.range }

record Packed (packet : Packet) (s : List ℕ) (f : Figures) : Type 0 where
  header : Header
  figures : f ≡ figures_by packet header
  ends : ℕ
  passes : passed header ends ≡ walk (packet_header packet) s 18

packed : (packet : Packet) (s : List ℕ) (g : Given Sweep) → run (radial_packet packet) s 18 ≡ accepted g → Packed packet s g.value.figures
unfolding radial_packet run
packed packet s g e =
    let a = run_parts _ (packet_header packet) s 18 e in
    let b = run_parts _ _ s _ a.second_is in
    let c = plain_passed (packet_header packet) (plain_header packet) s 18 a.first_is in
    let v : g.value.figures ≡ figures_by packet a.first.value =
    ap (λ (x : Given Sweep). x.value.figures) a.whole ∙ ap (λ (x : Given Sweep). x.value.figures) b.whole ∙ sym (ap (λ (x : Given Sweep). x.value.figures) (one_value b.second_is)) in
    record { header = a.first.value; figures = v; ends = a.first.next; passes = c.0 }

-- the code of a body that is accepted as AF1F, and what stands after it
code_af1f : (s : List ℕ) (code : ℕ) (g : Given Sweep) → run (packet_of code) s 18 ≡ accepted g → g.value.figures.packet ≡ PacketAf1f
    → (code ≡ 44831) × (run (radial_packet PacketAf1f) s 18 ≡ accepted g)
unfolding packet_of run all_whole Generic Rows28
code_af1f s code g e is = by (eqb code 16) (eqb code 0xAF1F) (eqb code 28) refl e
  where
    other : {A : Type 0} (packet : Packet) → (packet ≡ PacketAf1f → ⊥) → g.value.figures.packet ≡ packet → A
    other packet differs k = absurd (differs (sym k ∙ is))

    no16 : Packet16 ≡ PacketAf1f → ⊥
    no16 h = let z : ◌≡◌ {A = ℕ} 0 1 = cc in omega arith

    no28 : Packet28 ≡ PacketAf1f → ⊥
    no28 h = let z : ◌≡◌ {A = ℕ} 0 1 = cc in omega arith

    by : (c₁ c₂ c₃ : Bool) → eqb code 0xAF1F ≡ c₂
        → run (cond c₁ (radial_packet Packet16) (cond c₂ (radial_packet PacketAf1f) (cond c₃ generic_packet (stop (kind 14 (whole (signed 32768 code) ∷ [])))))) s 18 ≡ accepted g
        → (code ≡ 44831) × (run (radial_packet PacketAf1f) s 18 ≡ accepted g)
    by true c₂ c₃ h k = other Packet16 no16 (ap (λ (f : Figures). f.packet) (packed Packet16 s g k).figures)
    by false true c₃ h k = (eqb-true _ _ h, k)
    by false false true h k = other Packet28 no28 (reached generic_packet s 18 (Generic s) (all_whole g) (generic s) (gaps_accepted generic_packet s 18 g k)).holds.0.0
    by false false false h k = clash g _ k

-- What an AF1F body that symbology accepts shows of the header's tests.
record Tested (s : List ℕ) (f : Figures) : Type 0 where
  long : 30 ≤ length s
  coded : accepted 44831 ≡ outcome (walk block_header s 0)
  some : u16_at s 20 ≡ 0 → ⊥
  small : u16_at s 28 * u16_at s 20 ≤ 4000000
  bins : f.n_bins ≡ u16_at s 20
  radials : f.n_radials ≡ u16_at s 28

tested : (s : List ℕ) (g : Given Sweep) → run symbology s 0 ≡ accepted g → g.value.figures.packet ≡ PacketAf1f → Tested s g.value.figures
unfolding in_mode
tested s g e is = by (walk block_header s 0) refl
  where
    last : (h : Header) (q : ℕ) → g.value.figures ≡ figures_by PacketAf1f h → 30 ≤ length s → accepted 44831 ≡ outcome (walk block_header s 0)
        → (u16_at s 20 ≡ 0 → ⊥) → u16_at s 28 * u16_at s 20 ≤ 4000000
        → passed h q ≡ passed (record { radials = u16_at s 28; bins = u16_at s 20; range = u16_at s 26 }) 30 → Tested s g.value.figures
    last h q fs l c e₁ e₂ k =
        let y : h ≡ record { radials = u16_at s 28; bins = u16_at s 20; range = u16_at s 26 } = cc in
        record {
          long = l;
          coded = c;
          some = e₁;
          small = e₂;
          bins = ap (λ (x : Figures). x.n_bins) fs ∙ ap (λ (x : Header). x.bins) y;
          radials = ap (λ (x : Figures). x.n_radials) fs ∙ ap (λ (x : Header). x.radials) y;
        }

    with_code : (code : ℕ) → accepted code ≡ outcome (walk block_header s 0) → Tested s g.value.figures
    with_code code c =
        let p = code_af1f s code g (sym (body_packet false s c) ∙ e) is in
        let k = packed PacketAf1f s g p.1 in
        let h₁ = past_test (ltb (length s - 18) 12) _ _ _ (k.passes ∙ header_is PacketAf1f s no28') in
        let h₂ = past_test (eqb (u16_at s 20) 0) _ _ _ h₁.1 in
        let h₃ = past_test (ltb 4000000 (u16_at s 28 * u16_at s 20)) _ _ _ h₂.1 in
        let h₄ = past_test (over_body PacketAf1f (u16_at s 28) (u16_at s 20) (length s - 30)) _ _ _ h₃.1 in
        let a : 18 ≤ length s = (code_at s c).0 in
        let b : 12 ≤ length s - 18 = ltb-false _ _ h₁.0 in
        last k.header k.ends k.figures (omega (arith, a, b)) (ap accepted (sym p.0) ∙ c) (eqb-false _ _ h₂.0) (ltb-false _ _ h₃.0) h₄.1

    by : (w : Ended ℕ) → walk block_header s 0 ≡ w → Tested s g.value.figures
    by (passed code p) k = with_code code (sym (ap outcome k))
    by (halted x p) k = clash g x (body_refused false s (sym (ap outcome k)) ∙ e)

-- such a body's header is exported where its first bin is 0 and its bins are not 65,535
head_passes : (s : List ℕ) (f : Figures) → Tested s f → u16_at s 18 ≡ 0 → (f.n_bins ≡ 65535 → ⊥) → accepted (head_at s) ≡ outcome (walk export_head s 0)
unfolding over_body
head_passes s f t first short =
    head_whole s t.coded refl t.long {first = u16_at s 18} refl
    (counts_whole PacketAf1f (u16_at s 18) s refl refl t.some refl t.small first refl {over = false} refl refl refl)
    (λ z. short (t.bins ∙ z))

-- ---- exactly

only_if : (b : List ℕ) (room : ℕ) (o : List ℕ) → export_of b room ≡ accepted o → (p : Picture) × Wanted b room p
unfolding export_of
only_if b room o e =
    through (run exportable b 0) _ o e λ g eg e₁.
    Results.passed (ltb room (length (body_of b g))) _ _ o e₁ λ fits e₂.
    let s = shown b g eg in
    let k : length (body_of b g) ≤ room = ltb-false _ _ fits in
    (_, (original_picture b g eg, refl, s.heading.first, s.heading.short, omega (arith, k, body_size b g eg)))

if : (b : List ℕ) (room : ℕ) (p : Picture) → Wanted b room p → (o : List ℕ) × (export_of b room ≡ accepted o)
unfolding picture_of
if b room p w =
    through (run symbology b 0) _ p w.0 λ g eg y.
    let same = one_value y in
    let is : g.value.figures ≡ p.figures = ap (λ (q : Picture). q.figures) same in
    let t = tested b g eg (ap (λ (f : Figures). f.packet) is ∙ w.1) in
    let e = head_passes b g.value.figures t w.2 (λ z. w.3 (sym (ap (λ (f : Figures). f.n_bins) is) ∙ z)) in
    let k : accepted p.figures ≡ figures_in (picture_of b) = sym (ap figures_in w.0) in
    let out = replicate room 0 in
    let l : length out ≡ room = length-replicate room 0 in
    let fit : 30 + u16_at b 28 * (6 + count_for (u16_at b 20)) ≤ length out = rw (l, ← t.bins, ← t.radials, is) w.4 in
    (packet16_body (u32_at b 22) (head_at b) (beams b out e k) (rows b out e k), ap (export_of b) (sym l) ∙ fits b out e k refl fit)

pub exactly : (b : List ℕ) (room : ℕ) → Exactly b room
exactly b room = record { exactly = (λ x. only_if b room x.0 x.1, λ x. if b room x.0 x.1) }
