-- Laws of reads one after another, by what each leaves of the cursor. Assumes nothing.
use Prim.Native.Nat.{ℕ, zero, suc, ◌+◌, ◌-◌, ◌<◌}
use native.Mathlib.Nat.{not-suc-le-zero}
use native.Mathlib.Omega.{arith}
use mathlib.Core.List.{List, ◌∷◌}
use mathlib.Core.Bool.{Bool, true, false, cond}
use mathlib.Core.Path.{◌≡◌, refl, sym, ap, ◌∙◌}
use Rattle.std.specs.Prelude as Std
use Rattle.wire.specs.Bytes.{u32_at}
use Rattle.wire.specs.Refusal.{Refusal, refusal_of}
use Rattle.wire.specs.Reading.{Flat, give, ◌>>=◌, ◌>>◌, u32, unread, refuse_if, Ended, passed, halted, onward, walk}
use Rattle.wire.specs.declared.error.Level3DecodeError.{Level3DecodeError}
use Rattle.wire.proofs.Readings.{walk_then, walk_check, then_passed, then_halted}
use Rattle.wire.specs.declared.error.XdrItem.TheVariants as Item
use Rattle.xdr.specs.Xdr.{pass, pointer, list_head, further, elements, counted}
use Rattle.xdr.specs.Cursor.{read_at, done, mapped, Leaves, Tests}
use Rattle.xdr.specs.declared.xdr.XdrCursor.{XdrCursor}

-- a test reads nothing
pub tested : {A : Type 0} (t : Flat A) {r : Std.Result A Level3DecodeError} {c : XdrCursor} → Tests t r c → Leaves (read_at t c) r c c
tested t h = record { answered = h; kept = refl }

-- a reading that gives its value at once
pub given : {A : Type 0} {a b : A} {c : XdrCursor} → b ≡ a → Leaves (read_at (give a) c) (Std.Ok b) c c
unfolding walk
given {c = c} e = record { answered = ap (λ v. passed v c.pos) e; kept = refl }

-- bytes that are passed over
pub passed_over : (n : ℕ) {c : XdrCursor} → Leaves (read_at (unread n) c) (Std.Ok tt) c (record { buf = c.buf; pos = c.pos + n })
unfolding walk unread
passed_over n = record { answered = refl; kept = refl }

-- a number that is read
pub word_read : {v : ℕ} {c : XdrCursor} → v ≡ u32_at c.buf.now c.pos → Leaves (read_at u32 c) (Std.Ok v) c (record { buf = c.buf; pos = c.pos + 4 })
unfolding walk u32
word_read {c = c} e = record { answered = ap (λ v. passed v (c.pos + 4)) e; kept = refl }

-- another value in its place
module _ {A B : Type 0} (f : A → B) {e : Ended A} {c c' : XdrCursor} where
  pub part_no : {x : Level3DecodeError} → Leaves e (Std.Err x) c c' → Leaves (mapped f e) (Std.Err x) c c'
  part_no h = record { answered = ap (mapped f) h.answered; kept = h.kept }

  pub part_on : {a : A} {b : B} → Leaves e (Std.Ok a) c c' → b ≡ f a → Leaves (mapped f e) (Std.Ok b) c c'
  part_on h k = record { answered = ap (λ v. passed v c'.pos) k ∙ ap (mapped f) h.answered; kept = h.kept }

module _ {A B : Type 0} (t : Flat A) (f : A → Flat B) {c c' : XdrCursor} where
  -- what was read is there, and the reading goes on from it
  pub go_on : {a : A} {c'' : XdrCursor} {r : Std.Result B Level3DecodeError} → Leaves (read_at t c) (Std.Ok a) c c' → Leaves (read_at (f a) c') r c' c''
      → Leaves (read_at (t >>= f) c) r c c''
  go_on {a} h k = record {
    answered = k.answered ∙ ap (λ b. walk (f a) b.now c'.pos) h.kept ∙ sym (then_passed f t c.buf.now c.pos h.answered);
    kept = k.kept ∙ h.kept;
  }

  -- a refusal ends it
  pub go_no : {e : Level3DecodeError} → Leaves (read_at t c) (Std.Err e) c c' → Leaves (read_at (t >>= f) c) (Std.Err e) c c'
  go_no h = record { answered = then_halted f t c.buf.now c.pos h.answered; kept = h.kept }

-- the same where the value is not used
module _ {A B : Type 0} (t : Flat A) (u : Flat B) {c c' : XdrCursor} where
  pub by_on : {a : A} {c'' : XdrCursor} {r : Std.Result B Level3DecodeError} → Leaves (read_at t c) (Std.Ok a) c c' → Leaves (read_at u c') r c' c''
      → Leaves (read_at (t >> u) c) r c c''
  unfolding ◌>>◌
  by_on h k = go_on t (λ _. u) h k

  pub by_no : {e : Level3DecodeError} → Leaves (read_at t c) (Std.Err e) c c' → Leaves (read_at (t >> u) c) (Std.Err e) c c'
  unfolding ◌>>◌
  by_no h = go_no t (λ _. u) h

  -- and where it is not known
  pub past_on : {c'' : XdrCursor} {r : Std.Result B Level3DecodeError} → Leaves (done (read_at t c)) (Std.Ok tt) c c' → Leaves (read_at u c') r c' c''
      → Leaves (read_at (t >> u) c) r c c''
  past_on {c''} {r} h k = go (read_at t c) refl h.answered
    where
      go : (e : Ended A) → read_at t c ≡ e → passed tt c'.pos ≡ done e → Leaves (read_at (t >> u) c) r c c''
      go (passed a q) i j = by_on {a = a} (record { answered = ap (passed a) (let z : c'.pos ≡ q = cc in z) ∙ sym i; kept = h.kept }) k
      go (halted x q) i j = let z : ◌≡◌ {A = ℕ} 0 1 = cc in absurd (omega arith)

  pub past_no : {e : Level3DecodeError} → Leaves (done (read_at t c)) (Std.Err e) c c' → Leaves (read_at (t >> u) c) (Std.Err e) c c'
  past_no {e} h = go (read_at t c) refl h.answered
    where
      go : (y : Ended A) → read_at t c ≡ y → halted (refusal_of e) c'.pos ≡ done y → Leaves (read_at (t >> u) c) (Std.Err e) c c'
      go (passed a q) i j = let z : ◌≡◌ {A = ℕ} 0 1 = cc in absurd (omega arith)
      go (halted x q) i j = by_no (record { answered = (let z : ◌≡◌ {A = Ended A} (halted (refusal_of e) c'.pos) (halted x q) = cc in z) ∙ sym i; kept = h.kept })

-- where only the end of a reading is asked for
module _ {A B : Type 0} (t : Flat A) (f : A → Flat B) {c c' : XdrCursor} where
  pub end_on : {a : A} {c'' : XdrCursor} {r : Std.Result (Unit {0}) Level3DecodeError} → Leaves (read_at t c) (Std.Ok a) c c'
      → Leaves (done (read_at (f a) c')) r c' c'' → Leaves (done (read_at (t >>= f) c)) r c c''
  end_on {a} h k = record {
    answered = k.answered ∙ ap done (ap (λ b. walk (f a) b.now c'.pos) h.kept ∙ sym (then_passed f t c.buf.now c.pos h.answered));
    kept = k.kept ∙ h.kept;
  }

  pub end_no : {e : Level3DecodeError} → Leaves (read_at t c) (Std.Err e) c c' → Leaves (done (read_at (t >>= f) c)) (Std.Err e) c c'
  end_no h = record { answered = ap done (then_halted f t c.buf.now c.pos h.answered); kept = h.kept }

-- a value worked out of the one that was read
pub done_given : {A B : Type 0} (t : Flat A) (g : A → B) (s : List ℕ) (p : ℕ) → done (walk {W = ⊥} (t >>= λ a. give (g a)) s p) ≡ done (walk t s p)
unfolding walk
done_given {A} t g s p = ap done (walk_then {W = ⊥} (λ a. give (g a)) t s p) ∙ go (walk t s p)
  where
    go : (r : Ended A) → done (onward r (λ a q. passed (g a) q)) ≡ done r
    go (passed a q) = refl
    go (halted x q) = refl

-- ---- lists

-- what is left of a reading, from c on, is the whole, from c₀ on
abbrev pub Onward : Ended (Unit {0}) → XdrCursor → Ended (Unit {0}) → XdrCursor → Type 0
Onward e c e₀ c₀ = (r : Std.Result (Unit {0}) Level3DecodeError) (c' : XdrCursor) → Leaves e r c c' → Leaves e₀ r c₀ c'

rest_of : {A : Type 0} (e : Flat A) (n : ℕ) (a : A) {c c' : XdrCursor} {r : Std.Result (Unit {0}) Level3DecodeError}
    → Leaves (done (read_at (further e n) c)) r c c' → Leaves (done (read_at (further e n >>= λ rest. give (a ∷ rest)) c)) r c c'
rest_of e n a {c = c} h = record { answered = h.answered ∙ sym (done_given (further e n) (λ rest. a ∷ rest) c.buf.now c.pos); kept = h.kept }

pub further_none : {A : Type 0} (e : Flat A) {c : XdrCursor} {n : ℕ} → n ≡ 0 → Leaves (done (read_at (further e n) c)) (Std.Ok tt) c c
unfolding further walk
further_none e z = rw z (record { answered = refl; kept = refl })

module _ {A : Type 0} (e : Flat A) {c c' : XdrCursor} where
  pub list_no : {x : Level3DecodeError} → Leaves (read_at list_head c) (Std.Err x) c c' → Leaves (done (read_at (counted e) c)) (Std.Err x) c c'
  unfolding counted
  list_no h = end_no list_head (elements e) h

  module _ {n : ℕ} (head : Leaves (read_at list_head c) (Std.Ok n) c c') where
    pub list_none : n ≡ 0 → Leaves (done (read_at (counted e) c)) (Std.Ok tt) c c'
    unfolding counted elements walk
    list_none z = end_on list_head (elements e) head (rw z (record { answered = refl; kept = refl }))

    pub list_stop : {x : Level3DecodeError} {c'' : XdrCursor} → (n ≡ 0 → ⊥) → Leaves (read_at e c') (Std.Err x) c' c'' → Leaves (done (read_at (counted e) c)) (Std.Err x) c c''
    unfolding counted elements
    list_stop {x} {c''} z h = end_on list_head (elements e) head (go n z)
      where
        go : (n : ℕ) → (n ≡ 0 → ⊥) → Leaves (done (read_at (elements e n) c')) (Std.Err x) c' c''
        go zero z = absurd (z refl)
        go (suc k) z = end_no e _ h

    pub list_first : {a : A} {c'' : XdrCursor} → (n ≡ 0 → ⊥) → Leaves (read_at e c') (Std.Ok a) c' c'' → Onward (done (read_at (further e (n - 1)) c'')) c'' (done (read_at (counted e) c)) c
    unfolding counted elements
    list_first {a} {c''} z h r d k = end_on list_head (elements e) head (go n z k)
      where
        go : (n : ℕ) → (n ≡ 0 → ⊥) → Leaves (done (read_at (further e (n - 1)) c'')) r c'' d → Leaves (done (read_at (elements e n) c')) r c' d
        go zero z k = absurd (z refl)
        go (suc m) z k = end_on e _ h (rest_of e m a (let z : suc m - 1 ≡ m = omega arith in rw z at k))

module _ {A : Type 0} (e : Flat A) {c c' : XdrCursor} {n : ℕ} (more : 0 < n) where
  pub further_no : {x : Level3DecodeError} → Leaves (read_at (pass Item.Int 4) c) (Std.Err x) c c' → Leaves (done (read_at (further e n) c)) (Std.Err x) c c'
  unfolding further pointer ◌>>◌
  further_no {x} h = go n more
    where
      go : (n : ℕ) → 0 < n → Leaves (done (read_at (further e n) c)) (Std.Err x) c c'
      go zero z = absurd (not-suc-le-zero z)
      go (suc k) z = end_no (pass Item.Int 4) _ h

  module _ (pointed : Leaves (read_at (pass Item.Int 4) c) (Std.Ok tt) c c') where
    pub further_stop : {x : Level3DecodeError} {c'' : XdrCursor} → Leaves (read_at e c') (Std.Err x) c' c'' → Leaves (done (read_at (further e n) c)) (Std.Err x) c c''
    unfolding further pointer ◌>>◌
    further_stop {x} {c''} h = go n more
      where
        go : (n : ℕ) → 0 < n → Leaves (done (read_at (further e n) c)) (Std.Err x) c c''
        go zero z = absurd (not-suc-le-zero z)
        go (suc k) z = end_on (pass Item.Int 4) _ pointed (end_no e _ h)

    pub further_more : {a : A} {c'' : XdrCursor} → Leaves (read_at e c') (Std.Ok a) c' c'' → Onward (done (read_at (further e (n - 1)) c'')) c'' (done (read_at (further e n) c)) c
    unfolding further pointer ◌>>◌
    further_more {a} {c''} h r d k = go n more k
      where
        go : (n : ℕ) → 0 < n → Leaves (done (read_at (further e (n - 1)) c'')) r c'' d → Leaves (done (read_at (further e n) c)) r c d
        go zero z k = absurd (not-suc-le-zero z)
        go (suc m) z k = end_on (pass Item.Int 4) _ pointed (end_on e _ h (rest_of e m a (let z : suc m - 1 ≡ m = omega arith in rw z at k)))

-- a reading whose value is not kept
pub end_given : {A : Type 0} (t : Flat A) {c c' : XdrCursor} {r : Std.Result (Unit {0}) Level3DecodeError} → Leaves (done (read_at t c)) r c c'
    → Leaves (read_at (t >> give tt) c) r c c'
end_given t {r = Std.Ok a} h = past_on t (give tt) h (given refl)
end_given t {r = Std.Err e} h = past_no t (give tt) h

-- a test that is passed, and one that refuses
module _ {B : Type 0} {b : Bool} (x : Refusal) (u : Flat B) {c : XdrCursor} where
  pub let_on : {c' : XdrCursor} {r : Std.Result B Level3DecodeError} → b ≡ false → Leaves (read_at u c) r c c' → Leaves (read_at (refuse_if b x >> u) c) r c c'
  unfolding ◌>>◌
  let_on h k = record { answered = k.answered ∙ sym (walk_check b x (λ _. u) c.buf.now c.pos ∙ ap (λ b. cond b (halted x c.pos) (read_at u c)) h); kept = k.kept }

  pub let_no : {e : Level3DecodeError} → b ≡ true → refusal_of e ≡ x → Leaves (read_at (refuse_if b x >> u) c) (Std.Err e) c c
  unfolding ◌>>◌
  let_no h k = record {
    answered = ap (λ y. halted y c.pos) k ∙ sym (walk_check b x (λ _. u) c.buf.now c.pos ∙ ap (λ b. cond b (halted x c.pos) (read_at u c)) h);
    kept = refl;
  }
