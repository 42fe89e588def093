-- Laws of the items: what is left is tested, and where they end. Assumes nothing.
use Prim.Native.Nat.{ℕ, ◌+◌, ◌*◌, ◌-◌, ◌≤◌, ◌<◌}
use native.Mathlib.Omega.{arith}
use mathlib.Core.List.{List, [], ◌∷◌}
use mathlib.Core.Bool.{Bool, true, false, cond}
use mathlib.Core.Path.{◌≡◌, refl, ◌∙◌}
use lib.ListN.{length}
use lib.IntN.{ℤ, pos, negsuc, nat_abs}
use lib.Signed.{le_z, non_neg}
use lib.Dec.{T, ltb}
use mir.Syntax.{w32, w64}
use mir.Val.{Fits, SFits}
use borrow.Author.Tests.{lt-ltb, le-ltb, ltb-false, leb-true}
use Rattle.wire.specs.Refusal.{Refusal, kind, nat, item}
use Rattle.wire.specs.Reading.{give, ◌>>=◌, ◌>>◌, remaining, u32, unread, refuse_if, Ended, passed, halted, walk}
use Rattle.wire.specs.declared.error.XdrItem.{XdrItem}
use Rattle.wire.specs.declared.error.XdrItem.TheVariants as Item
use Rattle.wire.proofs.Readings.{parts, parts_by, passed_check}
use Rattle.xdr.specs.Xdr.{short, pass, word, uint, padding, string_body, string, array_count, at_least0}

abbrev pub cut : XdrItem → ℕ → ℕ → Refusal
cut i have need = kind 23 (item i ∷ nat have ∷ nat need ∷ [])

-- ---- a test of what is left

module _ (i : XdrItem) (n : ℕ) (s : List ℕ) (p : ℕ) where
  short_is : walk (short i n) s p ≡ cond (ltb (length s - p) n) (halted (cut i (length s - p) n) p) (passed tt p)
  unfolding short remaining refuse_if walk ◌>>=◌ ◌>>◌
  short_is = go (ltb (length s - p) n)
    where
      go : (b : Bool) → walk (refuse_if b (cut i (length s - p) n)) s p ≡ cond b (halted (cut i (length s - p) n) p) (passed tt p)
      go true = refl
      go false = refl

  pub short_cut : (have : ℕ) → have ≡ length s - p → have < n → halted (cut i have n) p ≡ walk (short i n) s p
  short_cut have e h = rw (short_is, ← e) (simp (lt-ltb _ _ h))

  pub short_passed : (have : ℕ) → have ≡ length s - p → n ≤ have → passed tt p ≡ walk (short i n) s p
  short_passed have e h = rw (short_is, ← e) (simp (le-ltb _ _ h))

  -- what was asked for is there
  pub short_room : (q : ℕ) → passed tt q ≡ walk (short i n) s p → n ≤ length s - p
  short_room q e = go (ltb (length s - p) n) refl (e ∙ short_is)
    where
      go : (b : Bool) → ltb (length s - p) n ≡ b → ◌≡◌ {A = Ended (Unit {0})} (passed tt q) (cond b (halted (cut i (length s - p) n) p) (passed tt p)) → n ≤ length s - p
      go true h k = let z : ◌≡◌ {A = ℕ} 0 1 = cc in absurd (omega arith)
      go false h k = ltb-false _ _ h

  pub short_end : (q : ℕ) → passed tt q ≡ walk (short i n) s p → q ≡ p
  short_end q e = go (ltb (length s - p) n) (e ∙ short_is)
    where
      go : (b : Bool) → ◌≡◌ {A = Ended (Unit {0})} (passed tt q) (cond b (halted (cut i (length s - p) n) p) (passed tt p)) → q ≡ p
      go true k = let z : ◌≡◌ {A = ℕ} 0 1 = cc in absurd (omega arith)
      go false k = cc

-- ---- where items end

module _ (i : XdrItem) (s : List ℕ) (p : ℕ) where
  pub word_end : (v q : ℕ) → passed v q ≡ walk (word i) s p → (q ≡ p + 4) × (q ≤ length s)
  unfolding word u32 walk
  word_end v q e =
      let t = parts_by (short i 4) u32 s p e in
      let k = short_room i 4 s p t.middle t.first in
      let m = short_end i 4 s p t.middle t.first in
      let l : q ≡ t.middle + 4 = cc in
      (omega (arith, m, l), omega (arith, m, l, k))

module _ (s : List ℕ) (p : ℕ) where
  pub uint_end : {v q : ℕ} → passed v q ≡ walk uint s p → (q ≡ p + 4) × (q ≤ length s)
  unfolding uint
  uint_end {v} {q} e = word_end Item.Uint s p v q e

  -- what an array's count says of its place, and that its body is there
  pub array_count_end : (n q : ℕ) → passed n q ≡ walk array_count s p → (q ≡ p + 4) × (n * 4 ≤ length s - q) × (q ≤ length s)
  unfolding array_count walk
  array_count_end n q e =
      let t = parts (λ n. refuse_if (ltb 100000 n) (kind 25 (nat n ∷ nat 100000 ∷ [])) >> (short Item.ArrayBody (n * 4) >> give n)) uint s p e in
      let u = (passed_check (ltb 100000 t.value) _ _ s t.middle t.second).1 in
      let w = parts_by (short Item.ArrayBody (t.value * 4)) (give t.value) s t.middle u in
      let k = short_room Item.ArrayBody (t.value * 4) s t.middle w.middle w.first in
      let m = short_end Item.ArrayBody (t.value * 4) s t.middle w.middle w.first in
      let a : n ≡ t.value = cc in
      let b : q ≡ w.middle = cc in
      let c = uint_end t.first in
      (omega (arith, b, m, c.0), omega (arith, a, b, m, k), omega (arith, b, m, c.1))

  pass_end : (i : XdrItem) (n q : ℕ) → passed tt q ≡ walk (pass i n) s p → (q ≡ p + n) × (n ≤ length s - p)
  unfolding pass unread walk
  pass_end i n q e =
      let t = parts_by (short i n) (unread n) s p e in
      let k = short_room i n s p t.middle t.first in
      let m = short_end i n s p t.middle t.first in
      let l : q ≡ t.middle + n = cc in
      (omega (arith, m, l), k)

-- and a string's, that its body is there
pub string_inside : (s : List ℕ) (p n q : ℕ) → passed n q ≡ walk string s p → (p + 4 ≤ length s) × (n ≤ length s - (p + 4))
unfolding string string_body walk
string_inside s p n q e =
    let t = parts (λ n. refuse_if (ltb 4096 n) (kind 24 (nat n ∷ nat 4096 ∷ [])) >> (string_body n >> give n)) uint s p e in
    let u = (passed_check (ltb 4096 t.value) _ _ s t.middle t.second).1 in
    let w = parts_by (string_body t.value) (give t.value) s t.middle u in
    let b = parts_by (pass Item.StringBody t.value) (pass Item.Padding (padding t.value)) s t.middle w.first in
    let k = pass_end s t.middle Item.StringBody t.value b.middle b.first in
    let a : n ≡ t.value = cc in
    let c = uint_end s p t.first in
    (omega (arith, c.0, c.1), omega (arith, a, c.0, k.1))

-- ---- counts: y is the machine's reading of z

module _ {y z : ℤ} (known : y ≡ z) where
  pub none_below : le_z y (pos 0) ≡ true → 0 ≡ at_least0 z
  none_below t = none z (rw known at t)
    where
      none : (z : ℤ) → le_z z (pos 0) ≡ true → 0 ≡ at_least0 z
      none (pos n) t = omega (arith, leb-true n 0 t)
      none (negsuc n) t = refl

  pub above_fits : SFits w32 z → le_z y (pos 0) ≡ false → (T (non_neg y) × Fits w64 (nat_abs y)) × ((nat_abs y ≡ at_least0 z) × (nat_abs y < 2147483648))
  above_fits f t = rw known (fits z f (rw known at t))
    where
      fits : (z : ℤ) → SFits w32 z → le_z z (pos 0) ≡ false → (T (non_neg z) × Fits w64 (nat_abs z)) × ((nat_abs z ≡ at_least0 z) × (nat_abs z < 2147483648))
      fits (pos n) f t = ((tt, record { fits = omega (arith, f.sfits) }), (refl, f.sfits))
      fits (negsuc n) f t = let z : ◌≡◌ {A = ℕ} 0 1 = cc in absurd (omega arith)
