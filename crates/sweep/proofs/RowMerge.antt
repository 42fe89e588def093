-- Rows of two receptions beside the rows of the original. Assumes nothing.
use Prim.Native.Nat.{ℕ, zero, suc, ◌+◌, ◌<◌}
use native.Mathlib.Omega.{arith}
use native.Mathlib.Nat.{not-suc-le-zero, le_of_suc-le-suc}
use mathlib.Core.List.{List, [], ◌∷◌, map}
use mathlib.Core.Bool.{Bool, true, false}
use mathlib.Core.Logic.{◌⊎◌, inl, inr, ⊎_elim, ◌≢◌}
use mathlib.Core.Path.{◌≡◌, refl, sym, ap, ap₂, ◌∙◌}
use lib.ListN.{length, get_or}
use Rattle.std.proofs.lemmas.Slice.Eq.{bytes_eq-Decides}
use Rattle.wire.specs.Refusal.{Refusal, kind, nat}
use Rattle.wire.specs.Result.{Result, accepted, refused}
use Rattle.wire.specs.Reading.{marked}
use Rattle.wire.specs.Text.{same}
use Rattle.wire.proofs.Gaps.{whole_row}
use Rattle.wire.proofs.Results.{clash, one_value}
use Rattle.symbology.specs.Merge.{disagree, agreed, either, merge_rows}

-- what a radial's data make
abbrev pub Row : Type 0
Row = Result (List ℕ)

-- ---- one place

-- a row of other codes than o
abbrev pub Unlike : Row → List ℕ → Type 0
Unlike x o = (c : List ℕ) × (x ≡ accepted c) × (c ≢ o)

abbrev pub AnyUnlike : Row → Row → List ℕ → Type 0
AnyUnlike x y o = Unlike x o ⊎ Unlike y o

-- the row o itself is not unlike it, and a gap is no row
self_like : (o : List ℕ) (x : Row) → x ≡ accepted o → Unlike x o → ⊥
self_like o x e (c, is, ne) = ne (one_value (sym is ∙ e))

gap_like : (o : List ℕ) (x : Row) (y : Refusal) → x ≡ refused y → Unlike x o → ⊥
gap_like o x y e (c, is, ne) = clash c y (sym e ∙ is)

record Differs (x y : Row) (o : List ℕ) : Type 0 where
  test : disagree (marked x) (marked y) ≡ true
  one : AnyUnlike x y o

record Alike (x y : Row) (o : List ℕ) : Type 0 where
  test : disagree (marked x) (marked y) ≡ false
  none : AnyUnlike x y o → ⊥
  merged : either (marked x) (marked y) ≡ 0 ∷ o

at_place : (x y : Row) (o : List ℕ) → (x ≡ accepted o) ⊎ (y ≡ accepted o) → Differs x y o ⊎ Alike x y o
unfolding disagree either
at_place (accepted c) (accepted d) o h = by (same c d) refl
  where
    by : (b : Bool) → same c d ≡ b → Differs (accepted c) (accepted d) o ⊎ Alike (accepted c) (accepted d) o
    by true e =
        let q : c ≡ d = (bytes_eq-Decides c d).0 e in
        let r : c ≡ o = ⊎_elim (λ k. one_value k) (λ k. q ∙ one_value k) h in
        inr (record {
          test = rw e refl;
          none = ⊎_elim (self_like o _ (ap accepted r)) (self_like o _ (ap accepted (sym q ∙ r)));
          merged = ap whole_row r;
        })
    by false e =
        let ne : c ≢ d = λ q. let t : true ≡ false = sym ((bytes_eq-Decides d d).1 refl) ∙ rw q at e in let z : ◌≡◌ {A = ℕ} 0 1 = cc in omega arith in
        inl (record {
          test = rw e refl;
          one = ⊎_elim (λ k. inr (d, refl, λ q. ne (one_value k ∙ sym q))) (λ k. inl (c, refl, λ q. ne (q ∙ sym (one_value k)))) h;
        })
at_place (accepted c) (refused y) o h =
    let r : accepted c ≡ accepted o = ⊎_elim (λ k. k) (λ k. clash o y k) h in
    inr (record { test = refl; none = ⊎_elim (self_like o _ r) (gap_like o _ y refl); merged = ap whole_row (one_value r) })
at_place (refused x) (accepted d) o h =
    let r : accepted d ≡ accepted o = ⊎_elim (λ k. clash o x k) (λ k. k) h in
    inr (record { test = refl; none = ⊎_elim (gap_like o _ x refl) (self_like o _ r); merged = ap whole_row (one_value r) })
at_place (refused x) (refused y) o h = ⊎_elim (λ k. clash o x k) (λ k. clash o y k) h

-- ---- all places

pub data Covered : List Row → List Row → List (List ℕ) → Type 0 where
  none : Covered [] [] []
  more : {x y : Row} {o : List ℕ} {xs ys : List Row} {os : List (List ℕ)} → (x ≡ accepted o) ⊎ (y ≡ accepted o) → Covered xs ys os → Covered (x ∷ xs) (y ∷ ys) (o ∷ os)

abbrev pub UnlikeAt : List Row → List Row → List (List ℕ) → ℕ → Type 0
UnlikeAt xs ys os k = AnyUnlike (get_or xs k (accepted [])) (get_or ys k (accepted [])) (get_or os k [])

pub record Agreed (r : ℕ) (xs ys : List Row) (os : List (List ℕ)) : Type 0 where
  pub is : agreed r (map marked xs) (map marked ys) ≡ accepted tt
  pub none : (k : ℕ) → k < length os → UnlikeAt xs ys os k → ⊥
  pub merged : merge_rows (map marked xs) (map marked ys) ≡ map whole_row os

pub record Stopped (r : ℕ) (xs ys : List Row) (os : List (List ℕ)) : Type 0 where
  pub at : ℕ
  pub inside : at < length os
  pub is : agreed r (map marked xs) (map marked ys) ≡ refused (kind 44 (nat (r + at) ∷ []))
  pub here : UnlikeAt xs ys os at
  pub lower : (q : ℕ) → q < at → UnlikeAt xs ys os q → ⊥

module _ {x y : Row} {o : List ℕ} {xs ys : List Row} {os : List (List ℕ)} (r : ℕ) where
  stop_here : Differs x y o → Stopped r (x ∷ xs) (y ∷ ys) (o ∷ os)
  unfolding agreed
  stop_here d =
      let z : r + 0 ≡ r = omega arith in
      record { at = 0; inside = omega arith; is = rw (d.test, z) refl; here = d.one; lower = λ q lt. absurd (not-suc-le-zero lt) }

  module _ (a : Alike x y o) where
    stop_later : Stopped (suc r) xs ys os → Stopped r (x ∷ xs) (y ∷ ys) (o ∷ os)
    unfolding agreed
    stop_later s =
        let z : r + suc s.at ≡ suc r + s.at = omega arith in
        record { at = suc s.at; inside = omega (arith, s.inside); is = rw (a.test, z) s.is; here = s.here; lower = lower }
      where
        lower : (q : ℕ) → q < suc s.at → UnlikeAt (x ∷ xs) (y ∷ ys) (o ∷ os) q → ⊥
        lower zero lt u = a.none u
        lower (suc q) lt u = s.lower q (le_of_suc-le-suc lt) u

    agree_on : Agreed (suc r) xs ys os → Agreed r (x ∷ xs) (y ∷ ys) (o ∷ os)
    unfolding agreed merge_rows
    agree_on g =
        record { is = rw a.test g.is; none = none_at; merged = ap₂ (λ (v : List ℕ) (l : List (List ℕ)). v ∷ l) a.merged g.merged }
      where
        none_at : (k : ℕ) → k < length (o ∷ os) → UnlikeAt (x ∷ xs) (y ∷ ys) (o ∷ os) k → ⊥
        none_at zero lt u = a.none u
        none_at (suc k) lt u = g.none k (le_of_suc-le-suc lt) u

pub outcome : {xs ys : List Row} {os : List (List ℕ)} → Covered xs ys os → (r : ℕ) → Agreed r xs ys os ⊎ Stopped r xs ys os
unfolding agreed merge_rows
outcome none r = inl (record { is = refl; none = λ k lt. absurd (not-suc-le-zero lt); merged = refl })
outcome (more {x} {y} {o} h rest) r =
    ⊎_elim (λ d. inr (stop_here r d)) (λ a. ⊎_elim (λ g. inl (agree_on r a g)) (λ s. inr (stop_later r a s)) (outcome rest (suc r))) (at_place x y o h)
