-- The written radials in the lent buffer: one in its part, and the invariant over all. Assumes nothing.
use Prim.Native.Nat.{ℕ, suc, ◌+◌, ◌-◌, ◌*◌, ◌%◌, ◌≤◌, ◌<◌}
use native.Mathlib.Numerals.{add-one}
use native.Mathlib.Omega.{arith}
use mathlib.Core.List.{List, [], ◌∷◌, ◌++◌, append_assoc, append-nil}
use mathlib.Core.Path.{◌≡◌, refl, sym, ap, ◌∙◌}
use mathlib.Core.Bool.{cond}
use lib.Dec.{eqb}
use lib.ListN.{length, take, drop, replicate, length-append, length-drop, drop_of_length-le}
use lib.Seq.{slice, take_at, drop_at, length-take-le}
use borrow.Author.Tests.{eq-eqb}
use borrow.Rule.Slice.PartMut.{put_mid, mid_of}
use Rattle.wire.specs.Bytes.{u16_at}
use Rattle.wire.specs.Result.{accepted}
use Rattle.wire.specs.Reading.{run, Given}
use Rattle.wire.proofs.Parts.{Laid, laid_first, laid_end, laid_put, part_long}
use Rattle.wire.proofs.Readings.{part_slice}
use Rattle.symbology.specs.Places.{Enough}
use Rattle.symbology.specs.Rows.{reach, cells, row_of, row_af1f, codes_of, FullRow}
use Rattle.symbology.proofs.FullRow.{full_row}
use Rattle.symbology.specs.Symbology.{Beam}
use Rattle.symbology.specs.Walk.{Accepted}
use Rattle.symbology.specs.declared.figures.Packet.TheVariants.{PacketAf1f}
use Rattle.export.specs.Export.{two, count_for, beam_bytes, beams_bytes, export_walk}
use Rattle.export.specs.Steps.{beam_at, data_at}
use Rattle.export.proofs.Turns.{Turn, turn, none, fine}
use Rattle.export.proofs.Written.{beam_long, beams_long}

-- a row that its runs fill is written
pub row_filled : {n l : ℕ} {xs row' : List ℕ} (row : List ℕ) → n ≡ l → row' ≡ cond (eqb n l) xs row → row' ≡ xs
row_filled {n} {l} row e h = h ∙ simp (eq-eqb n l e)

-- ---- one radial: its six bytes, its row, its zero byte

module _ (six row pad d : List ℕ) (n : ℕ) (six_long : length six ≡ 6) (row_long : length row ≡ n) where
  -- the six bytes and the row are there
  two_parts : put_mid 6 (6 + n - 6) (six ++ drop 6 d) row ≡ (six ++ row) ++ drop n (drop 6 d)
  two_parts =
      let e : 6 + n - 6 ≡ n = omega arith in
      rw (e, take_at six (drop 6 d) 6 six_long, drop_at six (drop 6 d) 6 six_long) (sym (append_assoc six row (drop n (drop 6 d))))

  pub three_parts : (m : ℕ) → length d ≤ 6 + n + m → put_mid (6 + n) m (put_mid 6 (6 + n - 6) (six ++ drop 6 d) row) pad ≡ six ++ (row ++ pad)
  three_parts m h =
      let long : length (six ++ row) ≡ 6 + n = length-append six row ∙ rw (six_long, row_long) refl in
      let rest : drop m (drop n (drop 6 d)) ≡ [] = drop_of_length-le (drop n (drop 6 d)) {i = m} (omega (arith, length-drop n (drop 6 d), length-drop 6 d)) in
      rw (two_parts, take_at (six ++ row) (drop n (drop 6 d)) (6 + n) long, drop_at (six ++ row) (drop n (drop 6 d)) (6 + n) long, rest, append-nil pad) (append_assoc six row pad)

-- the row that the code is given to write
module _ (body : List ℕ) (n at : ℕ) {count : ℕ} (ce : count ≡ u16_at body at) (full : FullRow PacketAf1f n (data_at body at)) where
  data_is : take (at + 6 + count * 2 - (at + 6)) (drop (at + 6) body) ≡ data_at body at
  data_is = part_slice body (at + 6) (at + 6 + count * 2) (omega arith) ∙ ap (λ c. slice (at + 6) (at + 6 + c * 2) body) ce

  part_is : (x : List ℕ) → 6 + n ≤ length x → length (take (6 + n - 6) (drop 6 x)) ≡ n
  part_is x h =
      let e : 6 + n - 6 ≡ n = omega arith in
      rw e (length-take-le n (drop 6 x) (omega (arith, length-drop 6 x)))

  pub runs_ready : (x : List ℕ) → 6 + n ≤ length x
      → reach (length (take (6 + n - 6) (drop 6 x))) (take (at + 6 + count * 2 - (at + 6)) (drop (at + 6) body)) ≡ length (take (6 + n - 6) (drop 6 x))
  unfolding FullRow
  runs_ready x h = rw (part_is x h, data_is) full

  row_long : length (codes_of PacketAf1f n (data_at body at)) ≡ n
  unfolding FullRow row_of row_af1f codes_of Enough
  row_long = (full_row PacketAf1f n 0 (data_at body at) (codes_of PacketAf1f n (data_at body at)) tt (rw full (simp (eq-eqb n n refl)))).2

  pub radial_laid : (d six row pad : List ℕ) {start width : ℕ} → length d ≡ 6 + count_for n → start ≡ u16_at body (at + 2) → width ≡ u16_at body (at + 4)
      → six ≡ two (count_for n) ++ two start ++ two width
      → row ≡ take (length (take (6 + n - 6) (drop 6 (six ++ drop 6 d)))) (cells (take (at + 6 + count * 2 - (at + 6)) (drop (at + 6) body)))
      → pad ≡ replicate (length (take (length (put_mid 6 (6 + n - 6) (six ++ drop 6 d) row) - (6 + n)) (drop (6 + n) (put_mid 6 (6 + n - 6) (six ++ drop 6 d) row)))) 0
      → put_mid (6 + n) (length (put_mid 6 (6 + n - 6) (six ++ drop 6 d) row) - (6 + n)) (put_mid 6 (6 + n - 6) (six ++ drop 6 d) row) pad
      ≡ beam_bytes n (beam_at body at) (codes_of PacketAf1f n (data_at body at))
  unfolding codes_of beam_bytes
  radial_laid d six row pad {start} {width} dl se we sx rx px =
      let six_long : length six ≡ 6 = ap length sx in
      let x_long : length (six ++ drop 6 d) ≡ 6 + count_for n = length-append six (drop 6 d) ∙ omega (arith, length-drop 6 d) in
      let row_is : row ≡ codes_of PacketAf1f n (data_at body at) = rx ∙ rw (part_is (six ++ drop 6 d) (omega arith), data_is) refl in
      let rl : length row ≡ n = ap length row_is ∙ row_long in
      let e : 6 + n - 6 ≡ n = omega arith in
      let two_long : length (put_mid 6 (6 + n - 6) (six ++ drop 6 d) row) ≡ 6 + count_for n = part_long (six ++ drop 6 d) row 6 n (omega arith) rl ∙ x_long in
      let m_is : length (put_mid 6 (6 + n - 6) (six ++ drop 6 d) row) - (6 + n) ≡ n % 2 = omega (arith, two_long) in
      let pl : length (take (length (put_mid 6 (6 + n - 6) (six ++ drop 6 d) row) - (6 + n)) (drop (6 + n) (put_mid 6 (6 + n - 6) (six ++ drop 6 d) row))) ≡ n % 2 =
      rw m_is (length-take-le (n % 2) (drop (6 + n) (put_mid 6 (6 + n - 6) (six ++ drop 6 d) row)) (omega (arith, two_long, length-drop (6 + n) (put_mid 6 (6 + n - 6) (six ++ drop 6 d) row)))) in
      let pad_is : pad ≡ replicate (n % 2) 0 = px ∙ ap (λ (k : ℕ). replicate k 0) pl in
      three_parts six row pad d n six_long rl (length (put_mid 6 (6 + n - 6) (six ++ drop 6 d) row) - (6 + n)) (omega (arith, two_long))
      ∙ rw (sx, row_is, pad_is, se, we) refl

-- ---- all radials

module _ (radials bins : ℕ) (s : List ℕ) where
  -- The invariant: radial r stands at `at`, and belongs at `place`; what is left, laid from there, is the whole.
  pub record Laying (g : Given (List Beam)) (out₀ out : List ℕ) (at place r : ℕ) : Type 0 where
    pub number : r ≤ radials
    pub rest : Given (List Beam)
    pub rest_is : run (export_walk radials bins (radials - r) r) s at ≡ accepted rest
    pub laid : Laid (beams_bytes bins g.value g.rows ++ drop (length (beams_bytes bins g.value g.rows)) out₀) (length out₀) out (beams_bytes bins rest.value rest.rows) place

  pub laying_first : (out : List ℕ) (acc : Accepted (run (export_walk radials bins radials 0) s 30)) → radials * (6 + count_for bins) ≤ length out → Laying acc.0 out out 30 0 0
  laying_first out acc h =
      let e : radials - 0 ≡ radials = omega arith in
      let f = fine radials bins s radials 0 30 acc.0 acc.1 in
      let l : length (beams_bytes bins acc.0.value acc.0.rows) ≡ radials * (6 + count_for bins) = beams_long f.0 ∙ ap (λ n. n * (6 + count_for bins)) f.1 in
      record { number = omega arith; rest = acc.0; rest_is = rw e acc.1; laid = laid_first _ out _ refl (rw l h) }

  module _ {g : Given (List Beam)} {out₀ out : List ℕ} {at place r : ℕ} (inv : Laying g out₀ out at place r) where
    module _ (more : r < radials) where
      pub here : Turn radials bins s (radials - suc r) r at inv.rest
      here = let e : radials - r ≡ suc (radials - suc r) = omega arith in turn radials bins s (radials - suc r) r at inv.rest (rw e at inv.rest_is)

      abbrev row : List ℕ
      row = codes_of PacketAf1f bins (data_at s at)

      one_long : length (beam_bytes bins (beam_at s at) row) ≡ 6 + count_for bins
      one_long = beam_long bins (beam_at s at) row here.long

      left_is : beams_bytes bins inv.rest.value inv.rest.rows ≡ beam_bytes bins (beam_at s at) row ++ beams_bytes bins here.rest.value here.rest.rows
      unfolding beams_bytes
      left_is = by here.value_is here.rows_are
        where
          by : {v : List Beam} {w : List (List ℕ)} → v ≡ beam_at s at ∷ here.rest.value → w ≡ row ∷ here.rest.rows
              → beams_bytes bins v w ≡ beam_bytes bins (beam_at s at) row ++ beams_bytes bins here.rest.value here.rest.rows
          by e k = rw (e, k) refl

      pub laying_room : place + (6 + count_for bins) ≤ length out
      laying_room =
          let a = ap length left_is ∙ length-append (beam_bytes bins (beam_at s at) row) _ in
          omega (arith, a, one_long, inv.laid.long, inv.laid.room)

      -- the part that is lent has a radial's length
      pub laying_part : length (mid_of place (place + (6 + count_for bins) - place) out) ≡ 6 + count_for bins
      laying_part =
          let e : place + (6 + count_for bins) - place ≡ 6 + count_for bins = omega arith in
          rw e (length-take-le (6 + count_for bins) (drop place out) (omega (arith, laying_room, length-drop place out)))

      pub laying_next : {next : ℕ} {part : List ℕ} → next ≡ at + 6 + u16_at s at * 2 → part ≡ beam_bytes bins (beam_at s at) row
          → Laying g out₀ (put_mid place (place + (6 + count_for bins) - place) out part) next (place + (6 + count_for bins)) (r + 1)
      laying_next {next} {part} e k =
          let n : radials - (r + 1) ≡ radials - suc r = omega arith in
          record {
            number = omega arith;
            rest = here.rest;
            rest_is = rw (n, add-one r, e) here.rest_is;
            laid = laid_put (beam_bytes bins (beam_at s at) row) (beams_bytes bins here.rest.value here.rest.rows) part (6 + count_for bins) (rw left_is at inv.laid) one_long k;
          }

    pub laying_end : radials ≤ r → out ≡ beams_bytes bins g.value g.rows ++ drop (length (beams_bytes bins g.value g.rows)) out₀
    unfolding beams_bytes
    laying_end h =
        let e : radials - r ≡ 0 = omega arith in
        let z = none radials bins s r at inv.rest (rw e at inv.rest_is) in
        laid_end (rw (ap (λ (x : Given (List Beam)). beams_bytes bins x.value x.rows) z) at inv.laid)
