-- No total overflows 64 bits: each is below 2^60, since a strip counts at most 65,535 × 65,535 × 65,535 and there are at most 4,096 of them.
-- Assumes nothing.
use mathlib.Core.Path.{◌≡◌, refl}
use mathlib.Core.Bool.{Bool, true, false, cond, ◌&&◌}
use mathlib.Core.List.{List, [], ◌∷◌, map}
use Prim.Native.Nat.{ℕ, zero, suc, ◌+◌, ◌*◌, ◌-◌, ◌^◌, ◌≤◌, ◌<◌}
use native.Mathlib.Nat.{mul-le-mul, suc-mul}
use native.Mathlib.Omega.{arith}
use lib.Dec.{eqb, leb, ltb}
use lib.ListN.{length, get_or, take, drop, drop_of_length-le}
use lib.Seq.{drop-cons}
use borrow.Author.Tests.{ltb-true, ltb-false}
use Rattle.std.specs.Prelude.{Option}
use Rattle.wire.specs.Bytes.{u16_at}
use Rattle.wire.proofs.Numbers.{half_small}
use Rattle.scale.specs.Scaling.{valid}
use Rattle.symbology.specs.Words.{Bytes}
use Rattle.fields.specs.declared.plan.Entry.{Entry}
use Rattle.fields.specs.declared.plan.Record.{Record}
use Rattle.fields.specs.declared.plan.Record.TheVariants.{Field, Strip, Malformed}
use Rattle.fields.specs.Plan.{record_at, size_of, strips_in, after, entries_in, entries_from, entries_of, strip_count}
use Rattle.fields.specs.Totals.{Grid, counts, sum, most, strip_total, own_total, totals, items}

-- the gates and the weight of a strip are halfwords
abbrev Fits : Record → Type 0
Fits (Field n) = Unit
Fits (Strip r g c w) = (c < 65536) × (w < 65536)
Fits Malformed = Unit

data All : List Entry → Type 0 where
  none : All []
  more : {e : Entry} {es : List Entry} → Fits e.item → All es → All (e ∷ es)

module _ (plan : List ℕ) (small : Bytes plan) where
  choice_fits : (b d : Bool) (n r g c w : ℕ) → c < 65536 → w < 65536 → Fits (cond b (Field n) (cond d (Strip r g c w) Malformed))
  choice_fits true d n r g c w hc hw = tt
  choice_fits false true n r g c w hc hw = (hc, hw)
  choice_fits false false n r g c w hc hw = tt

  record_fits : (at : ℕ) → Fits (record_at plan at)
  unfolding record_at
  record_fits at =
      choice_fits (leb (at + 5) (length plan) && (eqb (get_or plan at 0) 1 && eqb (u16_at plan (at + 1)) 2))
      (leb (at + 11) (length plan) && (eqb (get_or plan at 0) 2 && eqb (u16_at plan (at + 1)) 8)) _ _ _ (u16_at plan (at + 7)) (u16_at plan (at + 9))
      (half_small plan (at + 7) (small (at + 7)) (small (at + 7 + 1))) (half_small plan (at + 9) (small (at + 9)) (small (at + 9 + 1)))

  after_fits : (x : Record) {es : List Entry} → All es → All (after x es)
  after_fits (Field n) h = h
  after_fits (Strip r g c w) h = h
  after_fits Malformed h = All.none

  or_none : (b : Bool) {es : List Entry} → All es → All (cond b [] es)
  or_none true h = All.none
  or_none false h = h

  entries_fit : (steps at : ℕ) → All (entries_in steps plan at)
  unfolding entries_in
  entries_fit zero at = All.none
  entries_fit (suc steps) at =
      or_none (leb (length plan) at)
      (All.more (record_fits at) (after_fits (record_at plan at) (entries_fit steps (at + size_of (record_at plan at)))))

  all_fit : All (entries_of plan)
  unfolding entries_from
  all_fit = entries_fit (length plan - 0) 0

module _ (p : Grid) (small : (i : ℕ) → get_or p.codes i 0 < 65536) where
  counts_small : (floor : ℕ) (c : Option ℕ) (code : ℕ) → code < 65536 → counts floor c code ≤ 65535
  unfolding counts
  counts_small floor c code h = by (valid floor c code)
    where
      by : (b : Bool) → cond b (code - floor) 0 ≤ 65535
      by true = omega arith
      by false = omega arith

  -- over the cells from place k on, so many of them
  part_small : (f : ℕ → ℕ) (most-of-one : ℕ) → ((i : ℕ) → f (get_or p.codes i 0) ≤ most-of-one) → (c k : ℕ)
      → sum (map f (take c (drop k p.codes))) ≤ c * most-of-one
  unfolding sum
  part_small f m h zero k = omega arith
  part_small f m h (suc c) k = by (part_small f m h c (suc k)) (ltb k (length p.codes)) refl
    where
      by : sum (map f (take c (drop (suc k) p.codes))) ≤ c * m → (b : Bool) → ltb k (length p.codes) ≡ b → sum (map f (take (suc c) (drop k p.codes))) ≤ suc c * m
      by l true e = rw (drop-cons p.codes k 0 (ltb-true _ _ e)) (omega (arith, h k, l, suc-mul c m))
      by l false e = rw (drop_of_length-le p.codes (ltb-false _ _ e)) (omega arith)

  strip_small : (r g c w : ℕ) → c < 65536 → w < 65536 → strip_total p r g c w ≤ most
  unfolding strip_total
  strip_small r g c w hc hw =
      let cl : c ≤ 65535 = omega arith in
      let wl : w ≤ 65535 = omega arith in
      let one : (i : ℕ) → w * counts p.floor p.ceiling (get_or p.codes i 0) ≤ 4294836225 =
      λ i. omega (arith, mul-le-mul wl (counts_small p.floor p.ceiling (get_or p.codes i 0) (small i))) in
      let s = part_small (λ code. w * counts p.floor p.ceiling code) 4294836225 one c (r * p.bins + g) in
      omega (arith, s, cl)

  -- the strips of one field, among all that are left
  own_small : {es : List Entry} → All es → own_total p (items es) ≤ strip_count es * most
  unfolding own_total strip_count
  own_small All.none = omega arith
  own_small (All.more {e = e} {es = es} f h) = one e.item f (own_small h)
    where
      one : (x : Record) → Fits x → own_total p (items es) ≤ strip_count es * most → own_total p (x ∷ items es) ≤ (strips_in x + strip_count es) * most
      one (Field n) f l = omega arith
      one (Strip r g c w) f l = omega (arith, l, strip_small r g c w f.0 f.1)
      one Malformed f l = omega (arith, l)

  -- so each total
  each_small : {es : List Entry} → All es → (i : ℕ) → get_or (totals p (items es)) i 0 ≤ strip_count es * most
  unfolding totals strip_count
  each_small All.none i = omega arith
  each_small (All.more {e = e} {es = es} f h) i = one e.item i (own_small h) (each_small h)
    where
      one : (x : Record) (j : ℕ) → own_total p (items es) ≤ strip_count es * most → ((k : ℕ) → get_or (totals p (items es)) k 0 ≤ strip_count es * most)
          → get_or (totals p (x ∷ items es)) j 0 ≤ (strips_in x + strip_count es) * most
      one (Field n) zero l r = omega (arith, l)
      one (Field n) (suc j) l r = omega (arith, r j)
      one (Strip r g c w) j l s = omega (arith, s j)
      one Malformed j l s = omega (arith, s j)

  pub totals_small : (plan : List ℕ) → Bytes plan → strip_count (entries_of plan) ≤ 4096 → (i : ℕ) → get_or (totals p (items (entries_of plan))) i 0 < 2 ^ 60
  totals_small plan bytes few i = omega (arith, each_small (all_fit plan bytes) i, few)
