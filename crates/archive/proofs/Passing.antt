-- What `export_packet16` writes has no surplus. Assumes nothing.
use Prim.Native.Nat.{ℕ, zero, suc, ◌+◌, ◌*◌, ◌%◌, ◌≤◌, ◌<◌}
use native.Mathlib.Nat.{suc-mul, zero-mul}
use native.Mathlib.Omega.{arith}
use mathlib.Core.List.{List}
use mathlib.Core.Bool.{Bool, true, false, not, ◌||◌}
use mathlib.Core.Path.{◌≡◌, refl, sym, ap, ◌∙◌}
use lib.ListN.{length}
use lib.Dec.{eqb, ltb}
use borrow.Author.Tests.{eq-eqb}
use Rattle.wire.specs.Bytes.{u16_at}
use Rattle.wire.specs.Result.{accepted, then}
use Rattle.wire.specs.Reading.{run, Given}
use Rattle.wire.proofs.Results.{one_value, through, passed}
use Rattle.scale.specs.declared.physical.Scheme.{Scheme}
use Rattle.symbology.specs.Answers.{Picture, picture_of}
use Rattle.symbology.specs.Places.{place}
use Rattle.symbology.specs.Symbology.{Header, covered}
use Rattle.symbology.specs.declared.figures.Figures.{Figures}
use Rattle.symbology.specs.declared.figures.Packet.TheVariants.{Packet16}
use Rattle.sweep.specs.Sweep.{sweep_of}
use Rattle.export.specs.Export.{Taken, count_for, exportable, body_of, export_of}
use Rattle.export.proofs.InWords.{layout}
use Rattle.export.proofs.RoundTrip.{shown, body_size, written_picture, round_trip}
use Rattle.archive.specs.Surplus.{surplus_in, surplus_at, rows_exact, end_of, exact}
use Rattle.export.specs.RoundTrip.{IsLegacy, accepted16}
use Rattle.archive.specs.Archive.{Passes}
use Rattle.archive.proofs.InWords.{none_over, end_words}
use Rattle.archive.proofs.Profile.{words, same_where}

-- a packet 16 body of radials of the even count from bins on, and of nothing else
module _ (bins radials : ℕ) (o : List ℕ) (counts : (r : ℕ) → r < radials → u16_at o (30 + r * (6 + count_for bins)) ≡ count_for bins)
    (long : length o ≡ 30 + radials * (6 + count_for bins)) where
  place_is : (r : ℕ) → r ≤ radials → place Packet16 o r ≡ 30 + r * (6 + count_for bins)
  unfolding place covered
  place_is zero h = rw (zero-mul (6 + count_for bins)) refl
  place_is (suc r) h =
      let p : place Packet16 o r ≡ 30 + r * (6 + count_for bins) = place_is r (omega arith) in
      let c : u16_at o (place Packet16 o r) ≡ count_for bins = ap (u16_at o) p ∙ counts r (omega arith) in
      let m : suc r * (6 + count_for bins) ≡ 6 + count_for bins + r * (6 + count_for bins) = suc-mul r (6 + count_for bins) ∙ omega arith in
      rw m (omega (arith, p, c))

  or_so : (x y : Bool) → y ≡ true → not (x || y) ≡ false
  or_so true y h = refl
  or_so false true h = refl
  or_so false false h = sym h

  module _ (f : Figures) (is : f.packet ≡ Packet16) (eb : f.n_bins ≡ bins) (er : f.n_radials ≡ radials) where
    row_exact : (r : ℕ) → r < radials → surplus_at f o r ≡ false
    unfolding surplus_at surplus_in
    row_exact r lt =
        let c : u16_at o (place Packet16 o r) ≡ count_for bins = ap (u16_at o) (place_is r (omega arith)) ∙ counts r lt in
        rw (is, eb) (or_so (eqb (u16_at o (place Packet16 o r)) bins) (eqb (u16_at o (place Packet16 o r)) (bins + bins % 2)) (eq-eqb (u16_at o (place Packet16 o r)) (bins + bins % 2) c))

    body_exact : exact f o ≡ accepted tt
    unfolding exact end_of
    body_exact =
        let rows : rows_exact f o f.n_radials 0 ≡ accepted tt =
        (none_over f o f.n_radials 0).1 (λ k lt. let z : 0 + k ≡ k = omega arith in rw z (row_exact k (omega (arith, er)))) in
        let end : length o ≡ end_of f.packet f.n_radials o = rw (is, er) (long ∙ sym (place_is radials (omega arith))) in
        rw rows ((end_words f o).1 end)

-- a body that passes the tests, whose ordinary answer is that of b, of packet 16
passing : (b o : List ℕ) (p : Picture) → picture_of o ≡ accepted p → exact p.figures o ≡ accepted tt
    → ((scheme : Scheme) (file : List ℕ) (clock na nc np : ℕ) → ¬ (IsLegacy scheme)
    → sweep_of scheme file clock o na nc np ≡ then (sweep_of scheme file clock b na nc np) λ a. accepted (accepted16 a))
    → Passes b o
passing b o p drawn tested swept =
    record {
      none = λ q qs. (words o q qs).0 (ap (λ (x : Picture). exact x.figures o) (one_value (sym qs ∙ drawn)) ∙ tested);
      same = λ scheme file clock na nc np. same_where scheme file clock o na nc np p drawn tested;
      original = λ scheme file clock na nc np other. same_where scheme file clock o na nc np p drawn tested ∙ swept scheme file clock na nc np other;
    }

pub export_passes : (b : List ℕ) (room : ℕ) (o : List ℕ) → export_of b room ≡ accepted o → Passes b o
unfolding export_of
export_passes b room o e =
    through (run exportable b 0) _ o e λ g eg e₁.
    passed (ltb room (length (body_of b g))) _ _ o e₁ λ fits e₂.
    by g eg (one_value e₂)
  where
    by : (g : Given Taken) → run exportable b 0 ≡ accepted g → body_of b g ≡ o → Passes b o
    by g eg same =
        passing b o _ (rw same at (written_picture b g eg))
        (body_exact (u16_at b 20) (u16_at b 28) o (λ r lt. (layout b room o e).counts r lt) long _ refl bins_are radials_are)
        (round_trip b room o e).swept
      where
        bins_are : g.value.head.bins ≡ u16_at b 20
        bins_are = ap (λ (x : Header). x.bins) (shown b g eg).heading.is

        radials_are : g.value.head.radials ≡ u16_at b 28
        radials_are = ap (λ (x : Header). x.radials) (shown b g eg).heading.is

        long : length o ≡ 30 + u16_at b 28 * (6 + count_for (u16_at b 20))
        long = rw (same, bins_are, radials_are) at (body_size b g eg)
