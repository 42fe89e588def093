-- The written body, read again: its numbers, its radials one by one, its header, the whole. Assumes nothing.
use Prim.Native.Nat.{ℕ, zero, suc, ◌+◌, ◌-◌, ◌*◌, ◌/◌, ◌%◌, ◌≤◌}
use native.Mathlib.Nat.{div-add-mod', mul-le-mul_left, suc-mul, zero-mul, add_comm}
use native.Mathlib.Omega.{arith}
use mathlib.Core.List.{List, [], ◌∷◌, ◌++◌, map, append-nil}
use mathlib.Core.Bool.{true, false}
use mathlib.Core.Path.{◌≡◌, refl, sym, ap, ◌∙◌}
use lib.ListN.{length, take, replicate, length-append, length-replicate}
use lib.Seq.{slice, take_at, drop_at}
use borrow.Author.Tests.{le-ltb}
use Rattle.wire.specs.Bytes.{u16_at, u32_at}
use Rattle.wire.specs.Result.{accepted}
use Rattle.wire.specs.Reading.{Flat, give, ◌>>=◌, ◌>>◌, radial_data, run, more, after_row, outcome, walk}
use Rattle.wire.proofs.Readings.{drop_take}
use Rattle.wire.proofs.Runs.{run_then, and_then, prepend, shifted, run_drop}
use Rattle.symbology.specs.Centre.{centre}
use Rattle.symbology.specs.Rows.{row_of, row16}
use Rattle.symbology.specs.Symbology.{Beam, Header, covered, count_wrong, radial, radial_walk, over_body, block_header, symbology}
use Rattle.symbology.specs.Walk.{in_mode, first_of, sweep_from}
use Rattle.symbology.specs.declared.figures.Figures.{Figures}
use Rattle.symbology.specs.declared.figures.Packet.{Packet}
use Rattle.symbology.specs.declared.figures.Packet.TheVariants.{Packet16}
use Rattle.symbology.specs.declared.figures.Geometry.TheVariants.{RangeScale}
use Rattle.symbology.proofs.Beams.{counts_whole, header_counts}
use Rattle.symbology.proofs.Bodies.{block_code, radial_run, walk_is, body_16}
use Rattle.symbology.proofs.Walking.{no28}
use Rattle.export.specs.Export.{count_for, beam_bytes, beams_bytes, head_bytes, packet16_body}
use Rattle.export.proofs.Turns.{frame_then, centre_of, WidthFine, Fine, nothing, more_fine}

-- ---- numbers

-- a halfword that was written is read again, whatever it is
half_again : (n : ℕ) → n / 256 * 256 + n % 256 ≡ n
half_again n = div-add-mod' n 256

word_again : (n : ℕ) → (n / 65536 / 256 * 256 + n / 65536 % 256) * 65536 + (n % 65536 / 256 * 256 + n % 65536 % 256) ≡ n
word_again n = rw (half_again (n / 65536), half_again (n % 65536)) (div-add-mod' n 65536)

-- ---- a radial

-- its data: the row, and one zero byte where n_bins is odd
abbrev payload : ℕ → List ℕ → List ℕ
payload bins row = row ++ replicate (bins % 2) 0

data_long : (bins : ℕ) (row : List ℕ) → length row ≡ bins → length (payload bins row) ≡ count_for bins
data_long bins row h = length-append row (replicate (bins % 2) 0) ∙ rw (h, length-replicate (bins % 2) (zero)) refl

pub beam_long : (bins : ℕ) (beam : Beam) (row : List ℕ) → length row ≡ bins → length (beam_bytes bins beam row) ≡ 6 + count_for bins
unfolding beam_bytes
beam_long bins beam row h = omega (arith, data_long bins row h)

-- a radial of packet 16 whose six bytes and data are known
radial16 : (radials bins r : ℕ) (s : List ℕ) (p : ℕ) {c st w : ℕ} {d : List ℕ} → u16_at s p ≡ c → u16_at s (p + 2) ≡ st → u16_at s (p + 4) ≡ w
    → 6 ≤ length s - p → WidthFine w → bins ≤ c → c ≤ length s - (p + 6) → slice (p + 6) (p + 6 + c) s ≡ d
    → run (radial Packet16 radials bins r) s p ≡ accepted (record { value = centre st w; next = p + 6 + c; rows = take bins d ∷ [] })
unfolding radial radial_data count_wrong covered row_of row16 run ◌>>=◌ ◌>>◌ after_row more
radial16 radials bins r s p ec es ew six wide enough room ed =
    frame_then Packet16 radials bins r s p _ ∙ rw (ec, es, ew, ed) (simp (le-ltb _ _ six, wide, le-ltb _ _ enough, le-ltb _ _ room))

-- the radial at the front of a list
module _ (radials bins r : ℕ) (beam : Beam) (row rest : List ℕ) (width : WidthFine beam.width) (long : length row ≡ bins) where
  whole_long : length (beam_bytes bins beam row ++ rest) ≡ 6 + count_for bins + length rest
  whole_long = length-append (beam_bytes bins beam row) rest ∙ ap (λ n. n + length rest) (beam_long bins beam row long)

  first_radial : run (radial Packet16 radials bins r) (beam_bytes bins beam row ++ rest) 0
      ≡ accepted (record { value = centre_of beam; next = 6 + count_for bins; rows = row ∷ [] })
  unfolding beam_bytes u16_at
  first_radial =
      let part : slice 6 (6 + count_for bins) (beam_bytes bins beam row ++ rest) ≡ payload bins row =
      drop_take 6 (count_for bins) (beam_bytes bins beam row ++ rest) ∙ take_at (payload bins row) rest (count_for bins) (data_long bins row long) in
      radial16 radials bins r (beam_bytes bins beam row ++ rest) 0 (half_again (count_for bins)) (half_again beam.start) (half_again beam.width)
      (omega (arith, whole_long)) width (omega arith) (omega (arith, whole_long)) part
      ∙ ap (λ (l : List ℕ). accepted (record { value = centre_of beam; next = 6 + count_for bins; rows = l ∷ [] })) (take_at row (replicate (bins % 2) 0) bins long)

-- ---- all radials

-- one reading and then a list of them
run_cons : {A : Type 0} (t : Flat A) (u : Flat (List A)) (s : List ℕ) (p : ℕ) {a : A} {l : List A} {q m : ℕ} {row rows : List (List ℕ)}
    → run t s p ≡ accepted (record { value = a; next = q; rows = row }) → run u s q ≡ accepted (record { value = l; next = m; rows = rows })
    → run {W = ⊥} (t >>= λ first. u >>= λ others. give (first ∷ others)) s p ≡ accepted (record { value = a ∷ l; next = m; rows = row ++ rows })
unfolding and_then prepend run
run_cons t u s p {a} {l} {q} {m} {row} {rows} h k =
    run_then (λ first. u >>= λ others. give (first ∷ others)) t s p
    ∙ ap (λ x. and_then x (λ first q. run {W = ⊥} (u >>= λ others. give (first ∷ others)) s q)) h
    ∙ ap (prepend row) (run_then (λ others. give (a ∷ others)) u s q ∙ ap (λ x. and_then x (λ others q. run {W = ⊥} (give (a ∷ others)) s q)) k)
    ∙ ap (λ (x : List (List ℕ)). accepted (record { value = a ∷ l; next = m; rows = row ++ x })) (append-nil rows)

-- a reading of what stands after a front
run_behind : {A : Type 0} (t : Flat A) (front rest : List ℕ) (c : ℕ) → length front ≡ c → run t (front ++ rest) c ≡ shifted c (run t rest 0)
run_behind t front rest c e =
    let z : c + 0 ≡ c = omega arith in
    ap (λ (m : ℕ). run t (front ++ rest) m) (sym z) ∙ run_drop t (front ++ rest) c 0 ∙ ap (λ (l : List ℕ). shifted c (run t l 0)) (drop_at front rest c e)

pub walk16 : (radials : ℕ) {bins : ℕ} {beams : List Beam} {rows : List (List ℕ)} → Fine bins beams rows → (r : ℕ)
    → run (radial_walk Packet16 radials bins (length beams) r) (beams_bytes bins beams rows) 0
    ≡ accepted (record { value = map centre_of beams; next = length (beams_bytes bins beams rows); rows = rows })
unfolding radial_walk beams_bytes run shifted
walk16 radials nothing r = refl
walk16 radials {bins} (more_fine {beam} {beams} {row} {rows} width long f) r =
    let rest = beams_bytes bins beams rows in
    run_cons (radial Packet16 radials bins r) (radial_walk Packet16 radials bins (length beams) (suc r)) (beam_bytes bins beam row ++ rest) 0
    (first_radial radials bins r beam row rest width long)
    (run_behind (radial_walk Packet16 radials bins (length beams) (suc r)) (beam_bytes bins beam row) rest (6 + count_for bins) (beam_long bins beam row long)
    ∙ ap (shifted (6 + count_for bins)) (walk16 radials f (suc r)))
    ∙ ap (λ (n : ℕ). accepted (record { value = centre_of beam ∷ map centre_of beams; next = n; rows = row ∷ rows })) (sym (whole_long radials bins r beam row rest width long))

-- ---- how long it is

pub beams_long : {bins : ℕ} {beams : List Beam} {rows : List (List ℕ)} → Fine bins beams rows → length (beams_bytes bins beams rows) ≡ length beams * (6 + count_for bins)
unfolding beams_bytes
beams_long {bins} nothing = sym (zero-mul (6 + count_for bins))
beams_long {bins} (more_fine {beam} {beams} {row} {rows} width long f) =
    length-append (beam_bytes bins beam row) (beams_bytes bins beams rows)
    ∙ rw (beam_long bins beam row long, beams_long f, suc-mul) (add_comm (6 + count_for bins) (length beams * (6 + count_for bins)))

-- ---- the whole

abbrev pub figures_of : Packet → Header → Figures
figures_of packet h = record { packet = packet; n_radials = h.radials; n_bins = h.bins; geometry = RangeScale h.range }

module _ (kept : ℕ) (h : Header) {beams : List Beam} {rows : List (List ℕ)} (f : Fine h.bins beams rows) (count : length beams ≡ h.radials)
    (some : h.bins ≡ 0 → ⊥) (small : h.radials * h.bins ≤ 4000000) where
  pub body_long : length (packet16_body kept h beams rows) ≡ 30 + length (beams_bytes h.bins beams rows)
  unfolding packet16_body head_bytes
  body_long = omega arith

  enough : h.radials * (6 + h.bins) ≤ length (packet16_body kept h beams rows) - 30
  enough =
      let a : h.radials * (6 + h.bins) ≤ h.radials * (6 + count_for h.bins) = mul-le-mul_left h.radials (omega arith) in
      let b : length (beams_bytes h.bins beams rows) ≡ h.radials * (6 + count_for h.bins) = beams_long f ∙ ap (λ n. n * (6 + count_for h.bins)) count in
      omega (arith, body_long)

  at_0 : 65535 ≡ u16_at (packet16_body kept h beams rows) 0
  unfolding packet16_body head_bytes u16_at
  at_0 = refl

  at_2 : 1 ≡ u16_at (packet16_body kept h beams rows) 2
  unfolding packet16_body head_bytes u16_at
  at_2 = refl

  at_16 : 16 ≡ u16_at (packet16_body kept h beams rows) 16
  unfolding packet16_body head_bytes u16_at
  at_16 = refl

  at_18 : 0 ≡ u16_at (packet16_body kept h beams rows) 18
  unfolding packet16_body head_bytes u16_at
  at_18 = refl

  pub at_20 : h.bins ≡ u16_at (packet16_body kept h beams rows) 20
  unfolding packet16_body head_bytes u16_at
  at_20 = sym (half_again h.bins)

  pub at_26 : h.range ≡ u16_at (packet16_body kept h beams rows) 26
  unfolding packet16_body head_bytes u16_at
  at_26 = sym (half_again h.range)

  pub at_28 : h.radials ≡ u16_at (packet16_body kept h beams rows) 28
  unfolding packet16_body head_bytes u16_at
  at_28 = sym (half_again h.radials)

  -- bytes 4-7 hold the whole length, 8-9 one layer, 10-11 -1, 12-15 the length less 16
  pub at_4 : u32_at (packet16_body kept h beams rows) 4 ≡ length (packet16_body kept h beams rows)
  unfolding packet16_body head_bytes u16_at u32_at
  at_4 = word_again (30 + length (beams_bytes h.bins beams rows)) ∙ sym body_long

  pub at_12 : u32_at (packet16_body kept h beams rows) 12 ≡ length (packet16_body kept h beams rows) - 16
  unfolding packet16_body head_bytes u16_at u32_at
  at_12 = word_again (30 + length (beams_bytes h.bins beams rows) - 16) ∙ ap (λ n. n - 16) (sym body_long)

  radials_again : run (radial_walk Packet16 h.radials h.bins h.radials 0) (packet16_body kept h beams rows) 30
      ≡ accepted (record { value = map centre_of beams; next = length (packet16_body kept h beams rows); rows = rows })
  unfolding packet16_body shifted
  radials_again =
      run_behind (radial_walk Packet16 h.radials h.bins h.radials 0) (head_bytes (30 + length (beams_bytes h.bins beams rows)) kept h) (beams_bytes h.bins beams rows) 30 (unfold head_bytes in refl)
      ∙ ap (shifted 30) (ap (λ n. run (radial_walk Packet16 h.radials h.bins n 0) (beams_bytes h.bins beams rows) 0) (sym count) ∙ walk16 h.radials f 0)
      ∙ ap (λ (n : ℕ). accepted (record { value = map centre_of beams; next = n; rows = rows })) (sym body_long)

  -- symbology accepts it as packet 16, to its last byte
  pub read_again : run symbology (packet16_body kept h beams rows) 0
      ≡ accepted (record {
        value = record { figures = figures_of Packet16 h; azimuths = map centre_of beams };
        next = length (packet16_body kept h beams rows);
        rows = rows;
      })
  unfolding over_body in_mode
  read_again =
      let o = packet16_body kept h beams rows in
      let thirty : 30 ≤ length o = omega (arith, body_long) in
      let coded : accepted 16 ≡ outcome (walk block_header o 0) = block_code o (omega arith) at_0 at_2 {header = true} refl refl at_16 in
      let header = header_counts Packet16 o no28 thirty (counts_whole Packet16 (first_of Packet16 o) o at_28 at_20 some {cells = h.radials * h.bins} refl small (sym at_18)
      {room = length o - 30} refl {over = false} (sym (le-ltb _ _ enough)) refl at_26) in
      body_16 false o coded refl
      ∙ radial_run Packet16 o no28 header false
      ∙ ap (λ t. sweep_from (figures_of Packet16 h) (run t o 30)) (sym (walk_is Packet16 h.radials h.bins h.radials 0 no28))
      ∙ ap (sweep_from (figures_of Packet16 h)) radials_again
