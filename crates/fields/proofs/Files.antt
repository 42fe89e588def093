-- A plan without malformed records is the file that is written from its records. Assumes nothing.
use mathlib.Core.Path.{◌≡◌, refl, ap, subst, ◌∙◌}
use mathlib.Core.Bool.{Bool, true, false, cond, ◌&&◌}
use mathlib.Core.List.{List, ◌∷◌}
use Prim.Native.Nat.{ℕ, zero, suc, ◌+◌, ◌/◌, ◌%◌, ◌≤◌, ◌<◌}
use native.Mathlib.Nat.{add-zero}
use native.Mathlib.Omega.{arith}
use lib.Dec.{eqb, leb, ltb}
use lib.ListN.{length, get_or, drop, drop_of_length-le}
use lib.Seq.{drop-cons}
use borrow.Author.Tests.{eqb-true, leb-true, ltb-true, ltb-false}
use Rattle.wire.specs.Bytes.{u16_at}
use Rattle.wire.proofs.Numbers.{halves_of}
use Rattle.symbology.specs.Words.{Bytes}
use Rattle.fields.specs.declared.plan.Record.{Record}
use Rattle.fields.specs.declared.plan.Record.TheVariants.{Field, Strip, Malformed}
use Rattle.fields.specs.Plan.{record_at, size_of, after, entries_from, entries_of}
use Rattle.fields.specs.Totals.{items}
use Rattle.fields.specs.Written.{bytes_of, written}
use Rattle.fields.proofs.Back.{Whole}
use Rattle.fields.proofs.Walk.{and_both, entries_next, entries_end}

-- the k numbers from place at + j on, before the rest
abbrev front : ℕ → List ℕ → ℕ → ℕ → List ℕ → List ℕ
front zero l at j rest = rest
front (suc k) l at j rest = get_or l (at + j) 0 ∷ front k l at (j + 1) rest

pieces : (k : ℕ) (l : List ℕ) (at j : ℕ) → at + j + k ≤ length l → drop (at + j) l ≡ front k l at j (drop (at + j + k) l)
pieces zero l at j h = rw add-zero
pieces (suc k) l at j h =
    let lt : at + j < length l = omega arith in
    let e : suc (at + j) ≡ at + (j + 1) = omega arith in
    let e₂ : at + (j + 1) + k ≡ at + j + suc k = omega arith in
    drop-cons l (at + j) 0 lt ∙ ap (λ t. get_or l (at + j) 0 ∷ t) (ap (λ i. drop i l) e ∙ pieces k l at (j + 1) (omega arith) ∙ ap (λ i. front k l at (j + 1) (drop i l)) e₂)

-- a list without malformed records, and what follows its first
pub no_malformed : {rs ys : List Record} {C : Type 0} → Whole rs → rs ≡ Malformed ∷ ys → C
no_malformed Whole.none e = let z : ◌≡◌ {A = ℕ} 0 1 = cc in absurd (omega arith)
no_malformed (Whole.field h) e = let z : ◌≡◌ {A = ℕ} 0 1 = cc in absurd (omega arith)
no_malformed (Whole.strip h) e = let z : ◌≡◌ {A = ℕ} 0 1 = cc in absurd (omega arith)

pub rest_field : {rs ys : List Record} {n : ℕ} → Whole rs → rs ≡ Field n ∷ ys → Whole ys
rest_field Whole.none e = let z : ◌≡◌ {A = ℕ} 0 1 = cc in absurd (omega arith)
rest_field {ys = ys} (Whole.field {rs = rs} h) e = let same : rs ≡ ys = cc in subst Whole same h
rest_field (Whole.strip h) e = let z : ◌≡◌ {A = ℕ} 0 1 = cc in absurd (omega arith)

pub rest_strip : {rs ys : List Record} {r g c w : ℕ} → Whole rs → rs ≡ Strip r g c w ∷ ys → Whole ys
rest_strip Whole.none e = let z : ◌≡◌ {A = ℕ} 0 1 = cc in absurd (omega arith)
rest_strip (Whole.field h) e = let z : ◌≡◌ {A = ℕ} 0 1 = cc in absurd (omega arith)
rest_strip {ys = ys} (Whole.strip {rs = rs} h) e = let same : rs ≡ ys = cc in subst Whole same h

module _ (l : List ℕ) (small : Bytes l) where
  -- a halfword's two bytes
  halves : (i j n : ℕ) → j ≡ i + 1 → u16_at l i ≡ n → (get_or l i 0 ≡ n / 256) × (get_or l j 0 ≡ n % 256)
  halves i j n e h = rw e (halves_of l i (small i) (small (i + 1)) n h)

  read_field : (b d : Bool) (m r g c w n : ℕ) → cond b (Field m) (cond d (Strip r g c w) Malformed) ≡ Field n → (b ≡ true) × (m ≡ n)
  read_field true d m r g c w n h = (refl, cc)
  read_field false true m r g c w n h = let z : ◌≡◌ {A = ℕ} 0 1 = cc in absurd (omega arith)
  read_field false false m r g c w n h = let z : ◌≡◌ {A = ℕ} 0 1 = cc in absurd (omega arith)

  read_strip : (b d : Bool) (m r g c w r' g' c' w' : ℕ) → cond b (Field m) (cond d (Strip r g c w) Malformed) ≡ Strip r' g' c' w'
      → (d ≡ true) × ((r ≡ r') × ((g ≡ g') × ((c ≡ c') × (w ≡ w'))))
  read_strip true d m r g c w r' g' c' w' h = let z : ◌≡◌ {A = ℕ} 0 1 = cc in absurd (omega arith)
  read_strip false true m r g c w r' g' c' w' h = (refl, (cc, (cc, (cc, cc))))
  read_strip false false m r g c w r' g' c' w' h = let z : ◌≡◌ {A = ℕ} 0 1 = cc in absurd (omega arith)

  module _ (at : ℕ) where
    abbrev is_field : Bool
    is_field = leb (at + 5) (length l) && (eqb (get_or l at 0) 1 && eqb (u16_at l (at + 1)) 2)

    abbrev is_strip_lem : Bool
    is_strip_lem = leb (at + 11) (length l) && (eqb (get_or l at 0) 2 && eqb (u16_at l (at + 1)) 8)

    field_bytes : (n : ℕ) → record_at l at ≡ Field n → (drop at l ≡ bytes_of (Field n) (drop (at + 5) l)) × (at + 5 ≤ length l)
    unfolding record_at
    field_bytes n h =
        let q = read_field is_field is_strip_lem (u16_at l (at + 3)) (u16_at l (at + 3)) (u16_at l (at + 5)) (u16_at l (at + 7)) (u16_at l (at + 9)) n h in
        let a = and_both (leb (at + 5) (length l)) q.0 in
        let b = and_both (eqb (get_or l at 0) 1) a.1 in
        let tag : get_or l at 0 ≡ 1 = eqb-true _ _ b.0 in
        let long : at + 5 ≤ length l = leb-true _ _ a.0 in
        let len = halves (at + 1) (at + 2) 2 (omega arith) (eqb-true _ _ b.1) in
        let num = halves (at + 3) (at + 4) n (omega arith) q.1 in
        let p : drop at l ≡ get_or l at 0 ∷ front 4 l at 1 (drop (at + 5) l) = rw add-zero at (pieces 5 l at 0 (omega arith)) in
        (p ∙ rw (tag, len.0, len.1, num.0, num.1), long)

    strip_bytes : (r g c w : ℕ) → record_at l at ≡ Strip r g c w → (drop at l ≡ bytes_of (Strip r g c w) (drop (at + 11) l)) × (at + 11 ≤ length l)
    unfolding record_at
    strip_bytes r g c w h =
        let q = read_strip is_field is_strip_lem (u16_at l (at + 3)) (u16_at l (at + 3)) (u16_at l (at + 5)) (u16_at l (at + 7)) (u16_at l (at + 9)) r g c w h in
        let a = and_both (leb (at + 11) (length l)) q.0 in
        let b = and_both (eqb (get_or l at 0) 2) a.1 in
        let tag : get_or l at 0 ≡ 2 = eqb-true _ _ b.0 in
        let long : at + 11 ≤ length l = leb-true _ _ a.0 in
        let len = halves (at + 1) (at + 2) 8 (omega arith) (eqb-true _ _ b.1) in
        let e₃ = halves (at + 3) (at + 4) r (omega arith) q.1.0 in
        let e₅ = halves (at + 5) (at + 6) g (omega arith) q.1.1.0 in
        let e₇ = halves (at + 7) (at + 8) c (omega arith) q.1.1.1.0 in
        let e₉ = halves (at + 9) (at + 10) w (omega arith) q.1.1.1.1 in
        let p : drop at l ≡ get_or l at 0 ∷ front 10 l at 1 (drop (at + 11) l) = rw add-zero at (pieces 11 l at 0 (omega arith)) in
        (p ∙ rw (tag, len.0, len.1, e₃.0, e₃.1, e₅.0, e₅.1, e₇.0, e₇.1, e₉.0, e₉.1), long)

  -- from a place on, in so many steps
  abbrev Back : ℕ → Type 0
  Back at = Whole (items (entries_from l at)) → drop at l ≡ written (items (entries_from l at))

  one : (at : ℕ) (x : Record) → record_at l at ≡ x → (1 ≤ size_of x → Back (at + size_of x)) → Whole (x ∷ items (after x (entries_from l (at + size_of x))))
      → drop at l ≡ written (x ∷ items (after x (entries_from l (at + size_of x))))
  unfolding written
  one at (Field n) e rec v = (field_bytes at n e).0 ∙ ap (bytes_of (Field n)) (rec (omega arith) (rest_field v refl))
  one at (Strip r g c t) e rec v = (strip_bytes at r g c t e).0 ∙ ap (bytes_of (Strip r g c t)) (rec (omega arith) (rest_strip v refl))
  one at Malformed e rec v = no_malformed v refl

  next : (at : ℕ) (b : Bool) → ltb at (length l) ≡ b → (1 ≤ size_of (record_at l at) → Back (at + size_of (record_at l at))) → Back at
  unfolding written
  next at true e rec w =
      let n = entries_next l at (ltb-true _ _ e) in
      rw n (one at (record_at l at) refl rec (rw n at w))
  next at false e rec w = let z : length l ≤ at = ltb-false _ _ e in rw (entries_end l at z) (drop_of_length-le l z)

  file_from : (k at : ℕ) → length l ≤ at + k → Back at
  unfolding written
  file_from zero at h w = let e : length l ≤ at = omega arith in rw (entries_end l at e) (drop_of_length-le l e)
  file_from (suc k) at h w = next at (ltb at (length l)) refl (λ s. file_from k (at + size_of (record_at l at)) (omega arith)) w

  pub file_of : Whole (items (entries_of l)) → l ≡ written (items (entries_of l))
  file_of w = file_from (length l) 0 (omega arith) w
