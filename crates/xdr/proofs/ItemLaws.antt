-- Laws of the items, in the words of a reading that was cut short, that is too long, or that gives its value. Assumes nothing.
use Prim.Native.Nat.{ℕ, zero, suc, ◌+◌, ◌*◌, ◌-◌, ◌≤◌, ◌<◌}
use native.Mathlib.Omega.{arith}
use mathlib.Core.List.{List, [], ◌∷◌}
use mathlib.Core.Bool.{Bool, true, false, cond}
use mathlib.Core.Path.{◌≡◌, refl, sym, ap, ◌∙◌}
use lib.ListN.{length, take, drop}
use lib.IntN.{ℤ, pos}
use lib.Signed.{lt_z}
use lib.Dec.{ltb}
use borrow.Author.Tests.{lt-ltb, le-ltb, ltb-false}
use Rattle.wire.specs.Bytes.{u32_at}
use Rattle.wire.specs.Refusal.{Refusal, kind, nat, item}
use Rattle.wire.specs.Reading.{Read, Flat, give, ◌>>=◌, ◌>>◌, remaining, u32, unread, Ended, passed, halted, onward, walk}
use Rattle.wire.specs.Text.{is_zero, trim_end}
use Rattle.wire.specs.declared.error.XdrItem.{XdrItem}
use Rattle.wire.specs.declared.error.XdrItem.TheVariants as Item
use Rattle.wire.proofs.Readings.{walk_then, walk_check, then_passed, then_halted, part_slice}
use Rattle.xdr.specs.Xdr.{short, pass, word, int, uint, padding, string_body, string, array_count, int_array, pointer, list_head, list_count, further, elements, counted}
use Rattle.xdr.proofs.Items.{uint_end, array_count_end}
use Rattle.xdr.specs.declared.xdr.Part.{Part}
use Rattle.xdr.specs.Cursor.{mapped, done, trimmed_part, string_part, array_part}

abbrev pub on : ℕ → Ended (Unit {0})
on q = passed tt q

abbrev pub cut : XdrItem → ℕ → ℕ → Refusal
cut i have need = kind 23 (item i ∷ nat have ∷ nat need ∷ [])

-- ---- a take, and a word

module _ (i : XdrItem) (n : ℕ) (s : List ℕ) (p : ℕ) where
  pass_is : walk (pass i n) s p ≡ cond (ltb (length s - p) n) (halted (cut i (length s - p) n) p) (passed tt (p + n))
  unfolding pass short remaining unread walk ◌>>=◌ ◌>>◌
  pass_is = walk_check (ltb (length s - p) n) _ _ s p

  pub pass_cut : (have : ℕ) → have ≡ length s - p → have < n → halted (cut i have n) p ≡ walk (pass i n) s p
  pass_cut have e h = rw (pass_is, ← e) (simp (lt-ltb _ _ h))

  pub pass_next : (have : ℕ) → have ≡ length s - p → n ≤ have → passed tt (p + n) ≡ walk (pass i n) s p
  pass_next have e h = rw (pass_is, ← e) (simp (le-ltb _ _ h))

  -- what was passed was there
  pub pass_end : (q : ℕ) → passed tt q ≡ walk (pass i n) s p → (q ≡ p + n) × (n ≤ length s - p)
  pass_end q e = go (ltb (length s - p) n) refl (e ∙ pass_is)
    where
      go : (b : Bool) → ltb (length s - p) n ≡ b → on q ≡ cond b (halted (cut i (length s - p) n) p) (on (p + n)) → (q ≡ p + n) × (n ≤ length s - p)
      go true h k = let z : ◌≡◌ {A = ℕ} 0 1 = cc in absurd (omega arith)
      go false h k = (cc, ltb-false _ _ h)

module _ (i : XdrItem) (s : List ℕ) (p : ℕ) where
  word_is : walk (word i) s p ≡ cond (ltb (length s - p) 4) (halted (cut i (length s - p) 4) p) (passed (u32_at s p) (p + 4))
  unfolding word short remaining u32 walk ◌>>=◌ ◌>>◌
  word_is = walk_check (ltb (length s - p) 4) _ _ s p

  pub word_cut : (have : ℕ) → have ≡ length s - p → have < 4 → halted (cut i have 4) p ≡ walk (word i) s p
  word_cut have e h = rw (word_is, ← e) (simp (lt-ltb _ _ h))

  pub word_value : (have v : ℕ) → have ≡ length s - p → v ≡ u32_at s p → 4 ≤ have → passed v (p + 4) ≡ walk (word i) s p
  word_value have v e k h = rw (word_is, ← e, ← k) (simp (le-ltb _ _ h))

-- a value worked out of the one that was read
pub given : {A B : Type 0} (g : A → B) (t : Flat A) (s : List ℕ) (p : ℕ) {a : A} {b : B} {q : ℕ} → passed a q ≡ walk t s p → b ≡ g a
    → passed b q ≡ walk {W = ⊥} (t >>= λ x. give (g x)) s p
unfolding walk
given g t s p e k = rw k (sym (then_passed {W = ⊥} (λ x. give (g x)) t s p e))

-- ---- strings

-- the part that a string's body occupies
abbrev pub body_part : List ℕ → ℕ → ℕ → Ended (Unit {0}) → Ended Part
body_part s at n = mapped (λ _. trimmed_part s at n)

module _ (s : List ℕ) (p n : ℕ) where
  pub body_cut : {x : Refusal} {q : ℕ} → halted x q ≡ walk (pass Item.StringBody n) s p → halted x q ≡ body_part s p n (walk (string_body n) s p)
  unfolding string_body ◌>>◌
  body_cut e = ap (body_part s p n) (then_halted _ (pass Item.StringBody n) s p e)

  module _ {end : ℕ} (whole : passed tt end ≡ walk (pass Item.StringBody n) s p) where
    body_then : {r : Ended (Unit {0})} → r ≡ walk (pass Item.Padding (padding n)) s end → body_part s p n r ≡ body_part s p n (walk (string_body n) s p)
    unfolding string_body ◌>>◌
    body_then e = ap (body_part s p n) (e ∙ sym (then_passed (λ _. pass Item.Padding (padding n)) (pass Item.StringBody n) s p whole))

    pub body_unpadded : {x : Refusal} {q : ℕ} → halted x q ≡ walk (pass Item.Padding (padding n)) s end → halted x q ≡ body_part s p n (walk (string_body n) s p)
    body_unpadded e = body_then e

    pub body_part_lem : {q len : ℕ} → p ≤ length s → passed tt q ≡ walk (pass Item.Padding (padding n)) s end
        → len ≡ length (trim_end is_zero (take (end - p) (drop p s)))
        → passed (record { start = p; len = len }) q ≡ body_part s p n (walk (string_body n) s p)
    body_part_lem {q} {len} h e k =
        let f : end ≡ p + n = (pass_end Item.StringBody n s p end whole).0 in
        let g : len ≡ length (trim_end is_zero (drop p (take (p + n) s))) =
        k ∙ ap (λ l. length (trim_end is_zero l)) (part_slice s p end (omega arith) ∙ ap (λ m. drop p (take m s)) f) in
        rw g (body_then e)

module _ (s : List ℕ) (p : ℕ) where
  pub string_cut : {x : Refusal} {q : ℕ} → halted x q ≡ walk uint s p → halted x q ≡ string_part s p (walk string s p)
  unfolding string
  string_cut e = ap (string_part s p) (then_halted _ uint s p e)

  pub array_count_cut : {x : Refusal} {q : ℕ} → halted x q ≡ walk uint s p → halted x q ≡ walk array_count s p
  unfolding array_count
  array_count_cut e = then_halted _ uint s p e

  module _ {v q : ℕ} (known : passed v q ≡ walk uint s p) where
    string_is : walk string s p ≡ cond (ltb 4096 v) (halted (kind 24 (nat v ∷ nat 4096 ∷ [])) q) (onward (walk (string_body v) s q) (λ _ r. passed v r))
    unfolding string ◌>>◌ walk
    string_is =
        then_passed _ uint s p known
        ∙ walk_check (ltb 4096 v) _ _ s q
        ∙ ap (cond (ltb 4096 v) (halted (kind 24 (nat v ∷ nat 4096 ∷ [])) q)) (walk_then (λ _. give v) (string_body v) s q)

    pub string_long : 4096 < v → halted (kind 24 (nat v ∷ nat 4096 ∷ [])) q ≡ string_part s p (walk string s p)
    string_long h = rw string_is (simp (lt-ltb _ _ h))

    pub string_body_lem : v ≤ 4096 → body_part s q v (walk (string_body v) s q) ≡ string_part s p (walk string s p)
    string_body_lem h = rw string_is (simp (le-ltb _ _ h) (rw (uint_end s p known).0 (same (walk (string_body v) s (p + 4)))))
      where
        same : (e : Ended (Unit {0})) → body_part s (p + 4) v e ≡ string_part s p (onward e (λ _ r. passed v r))
        same (passed a r) = refl
        same (halted x r) = refl

    -- ---- integer arrays

    count_is : walk array_count s p ≡ cond (ltb 100000 v) (halted (kind 25 (nat v ∷ nat 100000 ∷ [])) q)
        (cond (ltb (length s - q) (v * 4)) (halted (cut Item.ArrayBody (length s - q) (v * 4)) q) (passed v q))
    unfolding array_count short remaining walk ◌>>=◌ ◌>>◌
    count_is =
        then_passed _ uint s p known
        ∙ walk_check (ltb 100000 v) _ _ s q
        ∙ ap (cond (ltb 100000 v) (halted (kind 25 (nat v ∷ nat 100000 ∷ [])) q)) (walk_check (ltb (length s - q) (v * 4)) _ _ s q)

    pub array_count_long : 100000 < v → halted (kind 25 (nat v ∷ nat 100000 ∷ [])) q ≡ walk array_count s p
    array_count_long h = rw count_is (simp (lt-ltb _ _ h))

    module _ (fits : v ≤ 100000) (have : ℕ) (room : have ≡ length s - q) where
      pub array_count_short : have < v * 4 → halted (cut Item.ArrayBody have (v * 4)) q ≡ walk array_count s p
      array_count_short h = rw (count_is, ← room) (simp (le-ltb _ _ fits, lt-ltb _ _ h))

      pub array_count_whole : v * 4 ≤ have → passed v q ≡ walk array_count s p
      array_count_whole h = rw (count_is, ← room) (simp (le-ltb _ _ fits, le-ltb _ _ h))

  pub array_cut : {x : Refusal} {q : ℕ} → halted x q ≡ walk array_count s p → halted x q ≡ array_part p (walk int_array s p)
  unfolding int_array
  array_cut e = ap (array_part p) (then_halted _ array_count s p e)

  pub array_part_lem : {n q : ℕ} → passed n q ≡ walk array_count s p → passed (record { start = q; len = n }) (q + n * 4) ≡ array_part p (walk int_array s p)
  unfolding int_array unread walk ◌>>=◌ ◌>>◌
  array_part_lem {n} {q} e =
      ap (λ k. passed (record { start = k; len = n }) (q + n * 4)) (array_count_end s p n q e).0
      ∙ ap (array_part p) (sym (then_passed (λ n. unread (n * 4) >> give n) array_count s p e))

-- ---- list heads

module _ (s : List ℕ) (p : ℕ) where
  pub head_cut : {x : Refusal} {q : ℕ} → halted x q ≡ walk int s p → halted x q ≡ walk list_head s p
  unfolding list_head
  head_cut e = then_halted _ int s p e

  module _ {n : ℤ} {q : ℕ} (known : passed n q ≡ walk int s p) where
    pub head_unpointed : {x : Refusal} {r : ℕ} → halted x r ≡ walk (pass Item.Int 4) s q → halted x r ≡ walk list_head s p
    unfolding list_head pointer ◌>>◌
    head_unpointed e = sym (then_passed _ int s p known ∙ sym (then_halted _ (pass Item.Int 4) s q e))

    pub head_count : {y : ℤ} {r : ℕ} → y ≡ n → passed tt r ≡ walk (pass Item.Int 4) s q → list_count y r ≡ walk list_head s p
    unfolding list_head pointer ◌>>◌ walk
    head_count {y} {r} k e =
        ap (λ z. list_count z r) k
        ∙ sym (then_passed _ int s p known ∙ then_passed _ (pass Item.Int 4) s q e ∙ walk_check (lt_z (pos 10000) n) _ _ s r)

-- ---- the elements of a list

module _ {A : Type 0} (e : Read ⊥ A) (s : List ℕ) where
  -- the first element, and the others after it
  pub elements_more : (k p : ℕ) → (k ≡ 0 → ⊥) → onward (walk e s p) (λ a q. walk {W = ⊥} (further e (k - 1) >>= λ others. give (a ∷ others)) s q) ≡ walk (elements e k) s p
  unfolding elements ◌>>=◌ walk
  elements_more zero p h = absurd (h refl)
  elements_more (suc k) p h = let f : suc k - 1 ≡ k = omega arith in rw f (sym (walk_then _ e s p))

  -- a list whose head passed is its elements
  pub list_elements : (p : ℕ) {n q : ℕ} → passed n q ≡ walk list_head s p → done (walk (elements e n) s q) ≡ done (walk (counted e) s p)
  unfolding counted
  list_elements p h = ap done (sym (then_passed _ list_head s p h))
