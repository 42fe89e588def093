-- The written body in M-109's own words and byte numbers. Assumes nothing.
use Prim.Native.Nat.{ℕ, zero, suc, ◌+◌, ◌*◌, ◌/◌, ◌%◌, ◌<◌}
use native.Mathlib.Nat.{div-add-mod', suc-mul, zero-mul, not-suc-le-zero, le_of_suc-le-suc}
use native.Mathlib.Omega.{arith}
use mathlib.Core.List.{List, [], ◌∷◌, ◌++◌, append_assoc}
use mathlib.Core.Path.{◌≡◌, refl, sym, ap, ap₂, ◌∙◌}
use lib.ListN.{length, get_or, replicate, length-replicate}
use lib.Seq.{slice, slice-cons, slice_empty, take_at, get_or-append-add}
use lib.Dec.{ltb}
use Rattle.wire.specs.Bytes.{u16_at, u32_at}
use Rattle.wire.specs.Result.{accepted}
use Rattle.wire.specs.Reading.{run, Given}
use Rattle.wire.proofs.Results as Results
use Rattle.wire.proofs.Results.{one_value, through}
use Rattle.symbology.specs.Places.{place}
use Rattle.symbology.specs.Symbology.{Beam, Header, covered}
use Rattle.symbology.specs.declared.figures.Packet.TheVariants.{PacketAf1f}
use Rattle.export.specs.Export.{Taken, two, count_for, beam_bytes, beams_bytes, head_bytes, packet16_body, body_of, export_walk, exportable, export_of}
use Rattle.export.specs.RoundTrip.{Layout, place16}
use Rattle.export.specs.Steps.{beam_at}
use Rattle.export.proofs.Turns.{turn, Fine, nothing, more_fine, fine}
use Rattle.export.proofs.Written.{beam_long, at_4, at_12, at_20, at_26, at_28}
use Rattle.export.proofs.Original.{Headed}
use Rattle.export.proofs.RoundTrip.{shown}

no_beam : Beam
no_beam = record { count = 0; start = 0; width = 0 }

-- the beams are those that stand in the original, one after the other
beams_at : (radials bins : ℕ) (s : List ℕ) (n r : ℕ) (g : Given (List Beam)) → run (export_walk radials bins n r) s (place PacketAf1f s r) ≡ accepted g
    → (k : ℕ) → k < n → get_or g.value k no_beam ≡ beam_at s (place PacketAf1f s (r + k))
unfolding place covered
beams_at radials bins s zero r g e k lt = absurd (not-suc-le-zero lt)
beams_at radials bins s (suc n) r g e zero lt =
    let t = turn radials bins s n r _ g e in
    let z : r + 0 ≡ r = omega arith in
    ap (λ (l : List Beam). get_or l 0 no_beam) t.value_is ∙ ap (λ m. beam_at s (place PacketAf1f s m)) (sym z)
beams_at radials bins s (suc n) r g e (suc k) lt =
    let t = turn radials bins s n r _ g e in
    let z : suc r + k ≡ r + suc k = omega arith in
    ap (λ (l : List Beam). get_or l (suc k) no_beam) t.value_is ∙ beams_at radials bins s n (suc r) t.rest t.rest_is k (le_of_suc-le-suc lt) ∙ ap (λ m. beam_at s (place PacketAf1f s m)) z

-- a halfword behind a front
half_behind : (front rest : List ℕ) (c q : ℕ) → length front ≡ c → u16_at (front ++ rest) (c + q) ≡ u16_at rest q
unfolding u16_at
half_behind front rest c q e =
    let k : c + q + 1 ≡ length front + (q + 1) = omega arith in
    let l : c + q ≡ length front + q = omega arith in
    ap₂ (λ x y. x * 256 + y)
    (ap (λ (m : ℕ). get_or (front ++ rest) m 0) l ∙ get_or-append-add front rest q 0)
    (ap (λ (m : ℕ). get_or (front ++ rest) m 0) k ∙ get_or-append-add front rest (q + 1) 0)

-- a part behind a front
slice_behind : (front rest : List ℕ) (i j : ℕ) → slice (length front + i) (length front + j) (front ++ rest) ≡ slice i j rest
slice_behind [] rest i j =
    let a : 0 + i ≡ i = omega arith in
    let b : 0 + j ≡ j = omega arith in
    rw (a, b) refl
slice_behind (x ∷ front) rest i j =
    let a : suc (length front) + i ≡ suc (length front + i) = omega arith in
    let b : suc (length front) + j ≡ suc (length front + j) = omega arith in
    rw (a, b) (slice_behind front rest i j)

-- radial k of the written radials
record Six (bins : ℕ) (l : List ℕ) (p : ℕ) (beam : Beam) : Type 0 where
  count : u16_at l p ≡ count_for bins
  start : u16_at l (p + 2) ≡ beam.start
  width : u16_at l (p + 4) ≡ beam.width
  last : slice (p + 6 + bins) (p + 6 + count_for bins) l ≡ replicate (bins % 2) 0

last_here : (bins : ℕ) (beam : Beam) (row rest : List ℕ) → length row ≡ bins
    → slice (0 + 6 + bins) (0 + 6 + count_for bins) (beam_bytes bins beam row ++ rest) ≡ replicate (bins % 2) 0
unfolding beam_bytes
last_here bins beam row rest long =
    let front : List ℕ = two (count_for bins) ++ two beam.start ++ two beam.width ++ row in
    let pad : List ℕ = replicate (bins % 2) 0 in
    let a : 0 + 6 + bins ≡ length front + 0 = omega arith in
    let b : 0 + 6 + count_for bins ≡ length front + bins % 2 = omega arith in
    ap (λ l. slice (0 + 6 + bins) (0 + 6 + count_for bins) (two (count_for bins) ++ two beam.start ++ two beam.width ++ l)) (append_assoc row pad rest)
    ∙ ap₂ (λ x y. slice x y (front ++ (pad ++ rest))) a b
    ∙ slice_behind front (pad ++ rest) 0 (bins % 2)
    ∙ take_at pad rest (bins % 2) (length-replicate (bins % 2) 0)

six_behind : (bins : ℕ) (front rest : List ℕ) (c q : ℕ) (beam : Beam) → length front ≡ c → Six bins rest q beam → Six bins (front ++ rest) (c + q) beam
six_behind bins front rest c q beam e h =
    let a : c + q + 2 ≡ c + (q + 2) = omega arith in
    let b : c + q + 4 ≡ c + (q + 4) = omega arith in
    let i : c + q + 6 + bins ≡ length front + (q + 6 + bins) = omega arith in
    let j : c + q + 6 + count_for bins ≡ length front + (q + 6 + count_for bins) = omega arith in
    record {
      count = half_behind front rest c q e ∙ h.count;
      start = ap (u16_at (front ++ rest)) a ∙ half_behind front rest c (q + 2) e ∙ h.start;
      width = ap (u16_at (front ++ rest)) b ∙ half_behind front rest c (q + 4) e ∙ h.width;
      last = ap₂ (λ x y. slice x y (front ++ rest)) i j ∙ slice_behind front rest (q + 6 + bins) (q + 6 + count_for bins) ∙ h.last;
    }

six_at : {bins : ℕ} {beams : List Beam} {rows : List (List ℕ)} → Fine bins beams rows → (k : ℕ) → k < length beams
    → Six bins (beams_bytes bins beams rows) (k * (6 + count_for bins)) (get_or beams k no_beam)
unfolding beams_bytes beam_bytes u16_at
six_at nothing k lt = absurd (not-suc-le-zero lt)
six_at {bins} (more_fine {beam} {beams} {row} {rows} w l f) zero lt =
    rw (zero-mul (6 + count_for bins)) (record {
      count = div-add-mod' (count_for bins) 256;
      start = div-add-mod' beam.start 256;
      width = div-add-mod' beam.width 256;
      last = last_here bins beam row (beams_bytes bins beams rows) l;
    })
six_at {bins} (more_fine {beam} {beams} {row} {rows} w l f) (suc k) lt =
    let e : suc k * (6 + count_for bins) ≡ 6 + count_for bins + k * (6 + count_for bins) = suc-mul k (6 + count_for bins) ∙ omega arith in
    rw e (six_behind bins (beam_bytes bins beam row) (beams_bytes bins beams rows) (6 + count_for bins) (k * (6 + count_for bins)) (get_or beams k no_beam) (beam_long bins beam row l) (six_at f k (le_of_suc-le-suc lt)))

-- the four bytes of a word
four_bytes : (a b c d : ℕ) → a < 256 → b < 256 → c < 256 → d < 256 → let n = (a * 256 + b) * 65536 + (c * 256 + d) in
    (n / 65536 / 256 ≡ a) × (n / 65536 % 256 ≡ b) × (n % 65536 / 256 ≡ c) × (n % 65536 % 256 ≡ d)
four_bytes a b c d h i j k = (omega arith, omega arith, omega arith, omega arith)

-- four places of a list
slice_4 : (l : List ℕ) → 26 < suc (length l) → slice 22 26 l ≡ get_or l 22 0 ∷ get_or l 23 0 ∷ get_or l 24 0 ∷ get_or l 25 0 ∷ []
slice_4 l h =
    slice-cons 22 26 l 0 (omega arith) (omega arith)
    ∙ ap (λ x. get_or l 22 0 ∷ x) (slice-cons 23 26 l 0 (omega arith) (omega arith)
    ∙ ap (λ x. get_or l 23 0 ∷ x) (slice-cons 24 26 l 0 (omega arith) (omega arith)
    ∙ ap (λ x. get_or l 24 0 ∷ x) (slice-cons 25 26 l 0 (omega arith) (omega arith) ∙ ap (λ x. get_or l 25 0 ∷ x) (slice_empty 26 l))))

module _ (b : List ℕ) (g : Given Taken) (acc : run exportable b 0 ≡ accepted g) where
  abbrev h : Header
  h = g.value.head

  heading : Headed b h
  heading = (shown b g acc).heading

  bins_are : h.bins ≡ u16_at b 20
  bins_are = ap (λ (x : Header). x.bins) heading.is

  radials_are : h.radials ≡ u16_at b 28
  radials_are = ap (λ (x : Header). x.radials) heading.is

  rows_fine : Fine h.bins g.value.beams g.rows × (length g.value.beams ≡ h.radials)
  rows_fine =
      let s = shown b g acc in
      let f = fine h.radials h.bins b h.radials 0 30 s.radials s.radials_are in
      (rw (s.beams_are, s.rows_are) at f.0, rw s.beams_are at f.1)

  beam_is : (r : ℕ) → r < h.radials → get_or g.value.beams r no_beam ≡ beam_at b (place PacketAf1f b r)
  unfolding place
  beam_is r lt =
      let s = shown b g acc in
      let z : 0 + r ≡ r = omega arith in
      ap (λ (l : List Beam). get_or l r no_beam) (sym s.beams_are) ∙ beams_at h.radials h.bins b h.radials 0 s.radials s.radials_are r lt ∙ ap (λ m. beam_at b (place PacketAf1f b m)) z

  six_here : (r : ℕ) → r < u16_at b 28 → Six (u16_at b 20) (body_of b g) (place16 b r) (beam_at b (place PacketAf1f b r))
  unfolding body_of packet16_body
  six_here r lt =
      let less : r < h.radials = rw radials_are lt in
      let f = rows_fine in
      let rest = beams_bytes h.bins g.value.beams g.rows in
      let k = six_behind h.bins (head_bytes (30 + length rest) (u32_at b 22) h) rest 30 (r * (6 + count_for h.bins)) (get_or g.value.beams r no_beam) (unfold head_bytes in refl) (six_at f.0 r (rw f.1 less)) in
      by bins_are (beam_is r less) k
    where
      by : {n m : ℕ} {o : List ℕ} {x y : Beam} → n ≡ m → x ≡ y → Six n o (30 + r * (6 + count_for n)) x → Six m o (30 + r * (6 + count_for m)) y
      by e i q = rw (← e, ← i) q

  kept_as : (kept : ℕ) → kept ≡ u32_at b 22 → ((i : ℕ) → get_or b i 0 < 256) → slice 22 26 (packet16_body kept h g.value.beams g.rows) ≡ slice 22 26 b
  unfolding packet16_body head_bytes u32_at u16_at
  kept_as kept e bytes =
      let f = four_bytes (get_or b 22 0) (get_or b 23 0) (get_or b 24 0) (get_or b 25 0) (bytes 22) (bytes 23) (bytes 24) (bytes 25) in
      let k : (kept / 65536 / 256 ≡ get_or b 22 0) × (kept / 65536 % 256 ≡ get_or b 23 0) × (kept % 65536 / 256 ≡ get_or b 24 0) × (kept % 65536 % 256 ≡ get_or b 25 0) = rw e f in
      slice_4 (packet16_body kept h g.value.beams g.rows) (omega arith) ∙ rw (k.0, k.1, k.2, k.3) (sym (slice_4 b (omega (arith, heading.long))))

  laid_out : Layout b (body_of b g)
  unfolding body_of
  laid_out =
      let f = rows_fine in
      let some = heading.some in
      let small = heading.small in
      record {
        whole = at_4 (u32_at b 22) h f.0 f.1 some small;
        layers = unfold packet16_body head_bytes u16_at in refl;
        divider = unfold packet16_body head_bytes u16_at in refl;
        layer = at_12 (u32_at b 22) h f.0 f.1 some small;
        first = unfold packet16_body head_bytes u16_at in refl;
        bins = sym (at_20 (u32_at b 22) h f.0 f.1 some small) ∙ bins_are;
        radials = sym (at_28 (u32_at b 22) h f.0 f.1 some small) ∙ radials_are;
        range = sym (at_26 (u32_at b 22) h f.0 f.1 some small) ∙ ap (λ (x : Header). x.range) heading.is;
        kept = kept_as (u32_at b 22) refl;
        starts = λ r lt. (six_here r lt).start;
        widths = λ r lt. (six_here r lt).width;
        counts = λ r lt. (six_here r lt).count;
        last = λ r lt. (six_here r lt).last;
      }

pub layout : (b : List ℕ) (room : ℕ) (o : List ℕ) → export_of b room ≡ accepted o → Layout b o
unfolding export_of
layout b room o e =
    through (run exportable b 0) _ o e λ g eg e₁.
    Results.passed (ltb room (length (body_of b g))) _ _ o e₁ λ fits e₂.
    rw (← (one_value e₂)) (laid_out b g eg)
