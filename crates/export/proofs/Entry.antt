-- The entry: a law for each answer of the code. Assumes nothing.
use Prim.Native.Nat.{ℕ, ◌+◌, ◌-◌, ◌*◌, ◌%◌, ◌≤◌, ◌<◌}
use native.Mathlib.Omega.{arith}
use mathlib.Core.List.{List, [], ◌∷◌, ◌++◌, map, append_assoc, append-nil}
use mathlib.Core.Path.{◌≡◌, refl, sym, ap, ◌∙◌}
use lib.ListN.{length, get_or, take, drop, length-append, length-drop, drop_of_length-le}
use lib.Seq.{take_at, drop_at, drop-drop, take_all}
use native.Mathlib.Nat.{mul-add, mul-le-mul, mul-le-mul_left}
use borrow.Rule.Slice.PartMut.{put_mid}
use lib.Dec.{ltb}
use mir.Syntax.{w8}
use mir.Val.{Fits}
use borrow.Author.Tests.{lt-ltb, le-ltb}
use Rattle.wire.specs.Bytes.{u16_at, u32_at}
use Rattle.wire.specs.Refusal.{Refusal, kind, buffer}
use Rattle.wire.specs.Result.{Result, accepted, refused, refuse, then, lent}
use Rattle.wire.specs.Reading.{run, Given, outcome, walk}
use Rattle.wire.specs.declared.error.Buffer.TheVariants as Buffer
use Rattle.wire.proofs.Results.{clash}
use Rattle.wire.proofs.Runs.{run_halted}
use Rattle.symbology.specs.Answers.{picture_of, figures_in, joined}
use Rattle.symbology.specs.Symbology.{Sweep, Beam, Header}
use Rattle.symbology.specs.Walk.{sweep_from, Accepted}
use Rattle.symbology.specs.declared.figures.Figures.{Figures}
use Rattle.symbology.specs.declared.figures.Packet.TheVariants.{PacketAf1f}
use Rattle.symbology.proofs.Bodies.{halt_of, pass_of}
use Rattle.export.specs.Export.{Taken, export_head, export_walk, exportable, count_for, beams_bytes, head_bytes, packet16_body, body_of, export_of, length_in}
use Rattle.export.proofs.Turns.{centre_of, mapped, fine}
use Rattle.export.proofs.Written.{figures_of, beams_long}
use Rattle.export.proofs.Original.{Headed, headed, plain_head, radials_of, export_run, symbology_run}

-- what a call answers and leaves
abbrev pub Leaves : Result ℕ → List ℕ → List ℕ → List ℕ → Type 0
Leaves r s out₀ out = (r ≡ length_in (export_of s (length out₀))) × (out ≡ lent (export_of s (length out₀)) (λ o. o) out₀)

leaves_refused : {x : Refusal} (s out : List ℕ) → export_of s (length out) ≡ refused x → Leaves (refused x) s out out
leaves_refused s out e = rw e (refl, refl)

module _ (s out : List ℕ) where
  pub header_refused : {x : Refusal} → refused x ≡ outcome (walk export_head s 0) → Leaves (refused x) s out out
  unfolding export_of exportable
  header_refused {x} e =
      leaves_refused s out (ap (λ r. then r (λ (g : Given Taken). refuse (ltb (length out) (length (body_of s g))) (kind 36 (buffer Buffer.Output ∷ [])) (accepted (body_of s g))))
      (sym (run_halted _ export_head plain_head s 0 (halt_of _ e).1)))

  module _ {h : Header} (e : accepted h ≡ outcome (walk export_head s 0)) where
    heading : Headed s h
    heading = headed s (pass_of _ e).1

    -- what is counted in a halfword
    pub header_small : ((i : ℕ) → Fits w8 (get_or s i 0)) → (h.radials < 65536) × (h.bins < 65535)
    unfolding u16_at
    header_small bytes =
        let k = heading in
        let a : h.radials ≡ u16_at s 28 = ap (λ (x : Header). x.radials) k.is in
        let b : h.bins ≡ u16_at s 20 = ap (λ (x : Header). x.bins) k.is in
        let c : h.bins ≡ 65535 → ⊥ = k.short in
        (omega (arith, bytes 28, bytes 29), omega (arith, bytes 20, bytes 21, c))

    exported : (r : Result (Given (List Beam))) → radials_of s heading ≡ r → run exportable s 0 ≡ mapped (λ beams. record { head = h; beams = beams }) r
    exported r k = export_run s heading ∙ ap (mapped (λ beams. record { head = h; beams = beams })) k

    pictured : (r : Result (Given (List Beam))) → radials_of s heading ≡ r
        → picture_of s ≡ then (sweep_from (figures_of PacketAf1f h) (mapped (map centre_of) r)) (λ (g : Given Sweep). accepted (record { figures = g.value.figures; azimuths = g.value.azimuths; codes = joined g.rows }))
    unfolding picture_of
    pictured r k = ap (λ x. then x (λ (g : Given Sweep). accepted (record { figures = g.value.figures; azimuths = g.value.azimuths; codes = joined g.rows })))
        (symbology_run s heading ∙ ap (λ x. sweep_from (figures_of PacketAf1f h) (mapped (map centre_of) x)) k)

    pub radials_refused : {x : Refusal} → refused x ≡ figures_in (picture_of s) → Leaves (refused x) s out out
    unfolding export_of mapped
    radials_refused {x} k = go (radials_of s heading) refl
      where
        go : (r : Result (Given (List Beam))) → radials_of s heading ≡ r → Leaves (refused x) s out out
        go (accepted l) i = clash _ x (k ∙ ap figures_in (pictured (accepted l) i))
        go (refused y) i =
            let j = k ∙ ap figures_in (pictured (refused y) i) in
            let z : x ≡ y = cc in
            leaves_refused s out (ap (λ r. then r (λ (g : Given Taken). refuse (ltb (length out) (length (body_of s g))) (kind 36 (buffer Buffer.Output ∷ [])) (accepted (body_of s g)))) (exported (refused y) i) ∙ ap refused (sym z))

    module _ {f : Figures} (k : accepted f ≡ figures_in (picture_of s)) where
      pub radials_accepted : Accepted (run (export_walk h.radials h.bins h.radials 0) s 30)
      unfolding mapped
      radials_accepted = go (radials_of s heading) refl
        where
          go : (r : Result (Given (List Beam))) → radials_of s heading ≡ r → Accepted (run (export_walk h.radials h.bins h.radials 0) s 30)
          go (accepted l) i = (l, i)
          go (refused y) i = clash f y (sym (k ∙ ap figures_in (pictured (refused y) i)))

      abbrev pub beams : List Beam
      beams = radials_accepted.0.value

      abbrev pub rows : List (List ℕ)
      rows = radials_accepted.0.rows

      data_long : length (beams_bytes h.bins beams rows) ≡ h.radials * (6 + count_for h.bins)
      data_long =
          let a = fine h.radials h.bins s h.radials 0 30 radials_accepted.0 radials_accepted.1 in
          beams_long a.0 ∙ ap (λ n. n * (6 + count_for h.bins)) a.1

      whole_long : length (packet16_body (u32_at s 22) h beams rows) ≡ 30 + length (beams_bytes h.bins beams rows)
      unfolding packet16_body head_bytes
      whole_long = omega arith

      answer : export_of s (length out) ≡ refuse (ltb (length out) (length (packet16_body (u32_at s 22) h beams rows))) (kind 36 (buffer Buffer.Output ∷ [])) (accepted (packet16_body (u32_at s 22) h beams rows))
      unfolding export_of mapped body_of
      answer = ap (λ r. then r (λ (g : Given Taken). refuse (ltb (length out) (length (body_of s g))) (kind 36 (buffer Buffer.Output ∷ [])) (accepted (body_of s g)))) (exported (accepted radials_accepted.0) radials_accepted.1)

      head_long : (n : ℕ) → length (head_bytes n (u32_at s 22) h) ≡ 30
      unfolding head_bytes
      head_long n = refl

      module _ {size : ℕ} (se : size ≡ 30 + h.radials * (6 + count_for h.bins)) where
        size_is : size ≡ length (packet16_body (u32_at s 22) h beams rows)
        size_is = se ∙ omega (arith, data_long, whole_long)

        pub no_room : length out < size → Leaves (refused (kind 36 (buffer Buffer.Output ∷ []))) s out out
        no_room lt = leaves_refused s out (answer ∙ simp (lt-ltb _ _ (rw size_is at lt)))

        pub fits : size ≤ length out → export_of s (length out) ≡ accepted (packet16_body (u32_at s 22) h beams rows)
        fits le = answer ∙ simp (le-ltb _ _ (rw size_is at le))

        -- the header in the first 30 places, and the radials after it
        pub entry_written : size ≤ length out → {front back : List ℕ} → front ≡ head_bytes size (u32_at s 22) h
            → back ≡ lent (run (export_walk h.radials h.bins h.radials 0) s 30) (λ g. beams_bytes h.bins g.value g.rows) (drop 30 out)
            → Leaves (accepted size) s out (front ++ back)
        unfolding packet16_body
        entry_written le {front} {back} fe be =
            let acc : export_of s (length out) ≡ accepted (packet16_body (u32_at s 22) h beams rows) = fits le in
            let bk : back ≡ beams_bytes h.bins beams rows ++ drop (length (beams_bytes h.bins beams rows)) (drop 30 out) = be ∙ rw radials_accepted.1 refl in
            let fr : front ≡ head_bytes (30 + length (beams_bytes h.bins beams rows)) (u32_at s 22) h = fe ∙ ap (λ n. head_bytes n (u32_at s 22) h) (size_is ∙ whole_long) in
            let dr : drop (length (beams_bytes h.bins beams rows)) (drop 30 out) ≡ drop (length (packet16_body (u32_at s 22) h beams rows)) out = drop-drop (length (beams_bytes h.bins beams rows)) 30 out ∙ ap (λ n. drop n out) (sym whole_long) in
            rw acc (ap accepted size_is, rw (fr, bk, dr) (sym (append_assoc (head_bytes (30 + length (beams_bytes h.bins beams rows)) (u32_at s 22) h) (beams_bytes h.bins beams rows) (drop (length (packet16_body (u32_at s 22) h beams rows)) out))))

        -- the same as the code leaves it: the rest of the buffer was lent for the radials
        pub entry_done : size ≤ length out → (front back : List ℕ) → front ≡ head_bytes size (u32_at s 22) h
            → back ≡ lent (run (export_walk h.radials h.bins h.radials 0) s 30) (λ g. beams_bytes h.bins g.value g.rows) (take (length (front ++ drop 30 out) - 30) (drop 30 (front ++ drop 30 out)))
            → Leaves (accepted size) s out (put_mid 30 (length (front ++ drop 30 out) - 30) (front ++ drop 30 out) back)
        entry_done le front back fe be =
            let fl : length front ≡ 30 = ap length fe ∙ head_long size in
            let d = drop_at front (drop 30 out) 30 fl in
            let n : length (drop 30 out) ≤ length (front ++ drop 30 out) - 30 = omega (arith, length-append front (drop 30 out)) in
            let p : put_mid 30 (length (front ++ drop 30 out) - 30) (front ++ drop 30 out) back ≡ front ++ back =
            rw (take_at front (drop 30 out) 30 fl, d, drop_of_length-le (drop 30 out) {i = length (front ++ drop 30 out) - 30} n, append-nil back) refl in
            rw p (entry_written le fe (rw (d, take_all (length (front ++ drop 30 out) - 30) (drop 30 out) n) at be))

        pub room_left : size ≤ length out → (front : List ℕ) → front ≡ head_bytes size (u32_at s 22) h → h.radials * (6 + count_for h.bins) ≤ length (take (length (front ++ drop 30 out) - 30) (drop 30 (front ++ drop 30 out)))
        room_left le front fe =
            let fl : length front ≡ 30 = ap length fe ∙ head_long size in
            let d = drop_at front (drop 30 out) 30 fl in
            let n : length (drop 30 out) ≤ length (front ++ drop 30 out) - 30 = omega (arith, length-append front (drop 30 out)) in
            rw (d, take_all (length (front ++ drop 30 out) - 30) (drop 30 out) n) (omega (arith, length-drop 30 out, se))

        pub size_small : h.radials < 65536 → (30 ≤ size) × (size < 4294967296)
        size_small lt =
            let k = heading.small in
            let a : h.radials * (6 + count_for h.bins) ≡ h.radials * 6 + (h.radials * h.bins + h.radials * (h.bins % 2)) = mul-add h.radials 6 (count_for h.bins) ∙ ap (λ n. h.radials * 6 + n) (mul-add h.radials h.bins (h.bins % 2)) in
            let b : h.radials * (h.bins % 2) ≤ h.radials * 1 = mul-le-mul_left h.radials (omega arith) in
            (omega (arith, se), omega (arith, se, a, b, k))

-- the data of all radials fits
pub data_small : (n each : ℕ) → n < 65536 → each ≤ 65542 → n * each ≤ 65535 * 65542
data_small n each h k = let a : n ≤ 65535 = omega arith in mul-le-mul a k
