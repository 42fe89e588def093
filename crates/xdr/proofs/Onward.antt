-- Readings handed on, each from where the one before it ended: a refusal stays as it is. Assumes nothing.
use Prim.Native.Nat.{ℕ, zero, suc, ◌-◌, ◌<◌}
use native.Mathlib.Nat.{not-suc-le-zero}
use native.Mathlib.Omega.{arith}
use mathlib.Core.List.{List, ◌∷◌}
use mathlib.Core.Bool.{Bool, true, false, cond}
use mathlib.Core.Path.{◌≡◌, refl, sym, ap, ◌∙◌}
use Rattle.wire.specs.Refusal.{Refusal}
use Rattle.wire.specs.Reading.{Flat, give, ◌>>=◌, ◌>>◌, refuse_if, Ended, passed, halted, onward, walk}
use Rattle.wire.specs.declared.error.XdrItem.TheVariants as Item
use Rattle.wire.proofs.Readings.{walk_then, walk_check}
use Rattle.xdr.specs.Xdr.{pass, string, parameter, pointer, further}
use Rattle.xdr.specs.Cursor.{done}
use Rattle.xdr.proofs.ItemLaws.{on}
use Rattle.xdr.proofs.Chains.{done_given}

-- a reading that goes on from where another ended, and where it leads
unfoldable pub from : {A : Type 0} → Flat A → List ℕ → Ended (Unit {0}) → Ended A
from t s e = onward e (λ _ p. walk t s p)

unfoldable pub after : {A : Type 0} → Flat A → List ℕ → Ended (Unit {0}) → Ended (Unit {0})
after t s e = done (from t s e)

-- its value, or another after a refusal
abbrev pub value_or : {A : Type 0} → A → Ended A → A
value_or d (passed a p) = a
value_or d (halted x p) = d

module _ {A B C : Type 0} (t : Flat A) (f : A → Flat B) (u : Flat C) (s : List ℕ) where
  -- one reading after another: where it ends does not depend on the value between them
  pub after_then : ((a : A) (q : ℕ) → done (walk (f a) s q) ≡ done (walk u s q)) → (e : Ended (Unit {0})) → after (t >>= f) s e ≡ after u s (after t s e)
  unfolding after from
  after_then same (halted x p) = refl
  after_then same (passed a p) = ap done (walk_then f t s p) ∙ go (walk t s p)
    where
      go : (r : Ended A) → done (onward r (λ a q. walk (f a) s q)) ≡ done (onward (done r) (λ _ q. walk u s q))
      go (passed a q) = same a q
      go (halted x q) = refl

-- a reading that goes on from another's value. After a refusal any value will do
pub from_then : {A B : Type 0} (t : Flat A) (f : A → Flat B) (s : List ℕ) (e : Ended (Unit {0})) (d : A)
    → from (t >>= f) s e ≡ from (f (value_or d (from t s e))) s (after t s e)
unfolding after from
from_then {A} t f s (halted x p) d = refl
from_then {A} t f s (passed a p) d = walk_then f t s p ∙ go (walk t s p)
  where
    go : (r : Ended A) → onward r (λ a q. walk (f a) s q) ≡ onward (done r) (λ _ q. walk (f (value_or d r)) s q)
    go (passed a q) = refl
    go (halted x q) = refl

-- a parameter is two strings
pub parameter_is : (s : List ℕ) (e : Ended (Unit {0})) → after string s (after string s e) ≡ after parameter s e
unfolding parameter ◌>>◌
parameter_is s e = sym (after_then string _ string s (λ a q. done_given string _ s q) e)

-- ---- the elements of a list after the first

module _ {A : Type 0} (e : Flat A) (s : List ℕ) where
  further_rest : (n : ℕ) (a : A) (q : ℕ) → done (walk {W = ⊥} (further e n >>= λ rest. give (a ∷ rest)) s q) ≡ done (walk (further e n) s q)
  further_rest n a q = done_given (further e n) (λ rest. a ∷ rest) s q

  further_suc : (k : ℕ) (st : Ended (Unit {0})) → after (further e (suc k)) s st ≡ after (further e k) s (after e s (after (pass Item.Int 4) s st))
  unfolding further pointer ◌>>◌
  further_suc k st = after_then (pass Item.Int 4) _ _ s (λ a q. refl) st ∙ after_then e _ (further e k) s (further_rest k) _

  -- one element more: a pointer, the element and the rest
  pub further_more : (k : ℕ) (st : Ended (Unit {0})) → 0 < k → after (further e k) s st ≡ after (further e (k - 1)) s (after e s (after (pass Item.Int 4) s st))
  further_more zero st h = absurd (not-suc-le-zero h)
  further_more (suc k) st h = let f : suc k - 1 ≡ k = omega arith in rw f (further_suc k st)

-- ---- a value and where it was read to

module _ {A : Type 0} (t : Flat A) (s : List ℕ) (d : A) {u : Ended (Unit {0})} where
  pub stepped_at : {p : ℕ} {e : Ended A} {v : A} {w : Ended (Unit {0})} → u ≡ passed tt p → e ≡ walk t s p → (v ≡ value_or d e) × (w ≡ done e)
      → (v ≡ value_or d (from t s u)) × (w ≡ after t s u)
  unfolding after from
  stepped_at h k q = rw (h, ← k) q

  pub stepped_halted : {x : Refusal} {p : ℕ} → u ≡ halted x p → (d ≡ value_or d (from t s u)) × (halted x p ≡ after t s u)
  unfolding after from
  stepped_halted h = rw h (refl, refl)

-- ---- a value that is not used, and a test

module _ {A B : Type 0} (t : Flat A) where
  from_by : (u : Flat B) (s : List ℕ) (e : Ended (Unit {0})) → from (t >> u) s e ≡ from u s (after t s e)
  unfolding after from ◌>>◌
  from_by u s (halted x p) = refl
  from_by u s (passed a p) = walk_then (λ _. u) t s p ∙ go (walk t s p)
    where
      go : (r : Ended A) → onward r (λ a q. walk u s q) ≡ onward (done r) (λ _ q. walk u s q)
      go (passed a q) = refl
      go (halted x q) = refl

  pub go_by : (u : Flat B) (s : List ℕ) (e : Ended (Unit {0})) {w : Ended (Unit {0})} {x : Ended B} → w ≡ after t s e → x ≡ from u s w → x ≡ from (t >> u) s e
  go_by u s e h k = k ∙ ap (from u s) h ∙ sym (from_by u s e)

module _ {B : Type 0} (b : Bool) (x : Refusal) (u : Flat B) (s : List ℕ) where
  from_check : (e : Ended (Unit {0})) → from (refuse_if b x >> u) s e ≡ from u s (onward e (λ _ p. cond b (halted x p) (passed tt p)))
  unfolding from ◌>>◌
  from_check (halted y p) = refl
  from_check (passed a p) = walk_check b x (λ _. u) s p ∙ go b
    where
      go : (b : Bool) → cond b (halted x p) (walk u s p) ≡ onward (cond b (halted x p) (on p)) (λ _ q. walk u s q)
      go true = refl
      go false = refl

  pub check_by : (e : Ended (Unit {0})) {w : Ended (Unit {0})} {y : Ended B} → w ≡ onward e (λ _ p. cond b (halted x p) (passed tt p))
      → y ≡ from u s w → y ≡ from (refuse_if b x >> u) s e
  check_by e h k = k ∙ ap (from u s) h ∙ sym (from_check e)

-- the same where the code's test and refusal are known by equations
pub check_as : {B : Type 0} (b : Bool) (x : Refusal) (u : Flat B) (s : List ℕ) (e : Ended (Unit {0})) {c : Bool} {z : Refusal}
    {w : Ended (Unit {0})} {y : Ended B} → c ≡ b → z ≡ x → w ≡ onward e (λ _ p. cond c (halted z p) (passed tt p))
    → y ≡ from u s w → y ≡ from (refuse_if b x >> u) s e
check_as b x u s e {c} {z} p q h k = check_by b x u s e (h ∙ rw (p, q) refl) k

-- the same of a test that others follow, all of them in one
abbrev one : Bool → Refusal → Ended (Unit {0}) → Ended (Unit {0})
one b x e = onward e (λ _ p. cond b (halted x p) (on p))

pub check_next : {B : Type 0} (b : Bool) (x : Refusal) (u : Flat B) (s : List ℕ) (e : Ended (Unit {0})) (others : ℕ → Ended (Unit {0}))
    {w : Ended (Unit {0})} {y : Ended B} → w ≡ onward e (λ _ p. cond b (halted x p) (others p))
    → (w ≡ onward (one b x e) (λ _ p. others p) → y ≡ from u s (one b x e)) → y ≡ from (refuse_if b x >> u) s e
check_next b x u s e others h k = check_by b x u s e refl (k (h ∙ by b e))
  where
    by : (b : Bool) (e : Ended (Unit {0})) → onward e (λ _ p. cond b (halted x p) (others p)) ≡ onward (one b x e) (λ _ p. others p)
    by true (passed a p) = refl
    by false (passed a p) = refl
    by b (halted y p) = refl
