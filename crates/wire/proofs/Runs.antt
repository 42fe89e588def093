-- Runs of readings: one after another, a part of the body read from its own position 0, and the walk beside the run. A plain reading has no
-- radial's data, so that its run is its walk. Assumes nothing.
use Prim.Native.Nat.{ℕ, ◌+◌, ◌-◌, ◌*◌}
use native.Mathlib.Omega.{arith}
use mathlib.Core.List.{List, [], ◌∷◌, ◌++◌}
use mathlib.Core.Bool.{Bool, true, false, cond}
use mathlib.Core.Path.{◌≡◌, refl, sym, ap, ap₂, ◌∙◌, fun_ext}
use lib.ListN.{length, take, drop, length-drop}
use lib.Seq.{slice, get_or-drop, drop-drop}
use Rattle.wire.specs.Bytes.{u16_at, u32_at}
use Rattle.wire.specs.Refusal.{Refusal}
use Rattle.wire.specs.Result.{Result, accepted, refused, then}
use Rattle.wire.specs.Reading.{Read, Flat, give, stop, left, skip, number, data_row, within, Width, half, word, size, value_at, Given, more, after_row, run, Ended, passed, halted, reached, past_row, walk, ◌>>=◌, ◌>>◌, refuse_if, remaining, u16, u32, unread, radial_data}
use Rattle.wire.proofs.Readings.{drop_take, walk_check, then_passed, parts}

-- ---- one reading after another

module _ {W A B C : Type 0} (f : A → Flat B) (g : B → Read W C) where
  -- the order of three readings
  pub then_then : (t : Flat A) → (t >>= f) >>= g ≡ t >>= λ a. f a >>= g
  unfolding ◌>>=◌
  then_then (give a) = refl
  then_then (stop x) = refl
  then_then (left h) = ap left (fun_ext (λ n. then_then (h n)))
  then_then (skip k t) = ap (skip k) (then_then t)
  then_then (number w h) = ap (number w) (fun_ext (λ n. then_then (h n)))
  then_then (data_row k row t) = ap (data_row k row) (then_then t)
  then_then (within w k t) = absurd w

module _ {B : Type 0} where
  -- the rows of what came before
  unfoldable pub prepend : List (List ℕ) → Result (Given B) → Result (Given B)
  prepend rows (accepted g) = accepted (record { value = g.value; next = g.next; rows = rows ++ g.rows })
  prepend rows (refused x) = refused x

  prepend_nil : (r : Result (Given B)) → prepend [] r ≡ r
  unfolding prepend
  prepend_nil (accepted g) = refl
  prepend_nil (refused x) = refl

module _ {A B : Type 0} where
  unfoldable pub and_then : Result (Given A) → (A → ℕ → Result (Given B)) → Result (Given B)
  and_then (accepted g) k = prepend g.rows (k g.value g.next)
  and_then (refused x) k = refused x

  after_row_then : (c : Result (List ℕ)) (r : Result (Given A)) (k : A → ℕ → Result (Given B)) → after_row c (and_then r k) ≡ and_then (after_row c r) k
  unfolding after_row and_then prepend more
  after_row_then (accepted c) (accepted g) k = more_prepend c g.rows (k g.value g.next)
    where
      more_prepend : (c : List ℕ) (rows : List (List ℕ)) (r : Result (Given B)) → more c (prepend rows r) ≡ prepend (c ∷ rows) r
      more_prepend c rows (accepted g) = refl
      more_prepend c rows (refused x) = refl
  after_row_then (accepted c) (refused x) k = refl
  after_row_then (refused x) r k = refl

module _ {W A B : Type 0} (f : A → Read W B) where
  pub run_then : (t : Flat A) (s : List ℕ) (p : ℕ) → run (t >>= f) s p ≡ and_then (run t s p) (λ a q. run (f a) s q)
  unfolding run ◌>>=◌ and_then
  run_then (give a) s p = sym (prepend_nil (run (f a) s p))
  run_then (stop x) s p = refl
  run_then (left g) s p = run_then (g (length s - p)) s p
  run_then (skip k t) s p = run_then t s (p + k)
  run_then (number w g) s p = run_then (g (value_at w s p)) s (p + size w)
  run_then (data_row k row t) s p =
      ap (after_row (row (slice p (p + k) s))) (run_then t s (p + k))
      ∙ after_row_then (row (slice p (p + k) s)) (run t s (p + k)) (λ a q. run (f a) s q)
  run_then (within w k t) s p = absurd w

-- ---- the walk beside the run

-- the value and the position after it
abbrev pub ends_at : {A : Type 0} → Result (Given A) → Result (A × ℕ)
ends_at r = then r λ g. accepted (g.value, g.next)

module _ {W A : Type 0} where
  pub walk_run : (t : Read W A) (s : List ℕ) (p : ℕ) → reached (walk t s p) ≡ ends_at (run t s p)
  unfolding walk run after_row more
  walk_run (give a) s p = refl
  walk_run (stop x) s p = refl
  walk_run (left g) s p = walk_run (g (length s - p)) s p
  walk_run (skip k t) s p = walk_run t s (p + k)
  walk_run (number w g) s p = walk_run (g (value_at w s p)) s (p + size w)
  walk_run (data_row k row t) s p = go (row (slice p (p + k) s)) (walk t s (p + k)) (run t s (p + k)) (walk_run t s (p + k))
    where
      go : (c : Result (List ℕ)) (e : Ended A) (r : Result (Given A)) → reached e ≡ ends_at r → reached (past_row c (p + k) e) ≡ ends_at (after_row c r)
      go (accepted c) e (accepted g) h = h
      go (accepted c) e (refused x) h = h
      go (refused x) e r h = refl
  walk_run (within w k t) s p = walk_run t (take (p + k) s) p

  -- a walk that passed is a run that was accepted, with that value and end; one that halted is a run that was refused
  pub run_of_passed : (t : Read W A) (s : List ℕ) (p : ℕ) {a : A} {q : ℕ} → passed a q ≡ walk t s p → (g : Given A) × ((run t s p ≡ accepted g) × ((g.value ≡ a) × (g.next ≡ q)))
  run_of_passed t s p {a} {q} e = go (run t s p) refl (ap reached e ∙ walk_run t s p)
    where
      go : (r : Result (Given A)) → run t s p ≡ r → accepted (a, q) ≡ ends_at r → (g : Given A) × ((run t s p ≡ accepted g) × ((g.value ≡ a) × (g.next ≡ q)))
      go (accepted g) h k =
          let l : ◌≡◌ {A = A × ℕ} (a, q) (g.value, g.next) = cc in
          (g, (h, (sym (ap (λ x. x.0) l), sym (ap (λ x. x.1) l))))
      go (refused x) h k = let z : ◌≡◌ {A = ℕ} 0 1 = cc in absurd (omega arith)

  pub run_of_halted : (t : Read W A) (s : List ℕ) (p : ℕ) {x : Refusal} {q : ℕ} → halted x q ≡ walk t s p → refused x ≡ run t s p
  run_of_halted t s p {x} {q} e = go (run t s p) refl (ap reached e ∙ walk_run t s p)
    where
      go : (r : Result (Given A)) → run t s p ≡ r → refused x ≡ ends_at r → refused x ≡ run t s p
      go (accepted g) h k = let z : ◌≡◌ {A = ℕ} 0 1 = cc in absurd (omega arith)
      go (refused y) h k = let l : x ≡ y = cc in ap refused l ∙ sym h

-- ---- plain readings

module _ {W A : Type 0} where
  unfoldable pub Plain : Read W A → Type 0
  Plain (give a) = Unit {0}
  Plain (stop x) = Unit {0}
  Plain (left g) = (n : ℕ) → Plain (g n)
  Plain (skip k t) = Plain t
  Plain (number w g) = (n : ℕ) → Plain (g n)
  Plain (data_row k row t) = ⊥
  Plain (within w k t) = Plain t

module _ {W A B : Type 0} (f : A → Read W B) (k : (a : A) → Plain (f a)) where
  pub plain_then : (t : Flat A) → Plain t → Plain (t >>= f)
  unfolding Plain ◌>>=◌
  plain_then (give a) h = k a
  plain_then (stop x) h = tt
  plain_then (left g) h = λ n. plain_then (g n) (h n)
  plain_then (skip n t) h = plain_then t h
  plain_then (number w g) h = λ n. plain_then (g n) (h n)
  plain_then (data_row n row t) h = absurd h
  plain_then (within w n t) h = absurd w

pub plain_by : {A B : Type 0} (t : Flat A) (u : Flat B) → Plain t → Plain u → Plain (t >> u)
unfolding ◌>>◌
plain_by t u h k = plain_then (λ _. u) (λ _. k) t h

pub plain_give : {A : Type 0} (a : A) → Plain {W = ⊥} (give a)
unfolding Plain
plain_give a = tt

pub plain_check : (b : Bool) (x : Refusal) → Plain (refuse_if b x)
unfolding Plain refuse_if
plain_check true x = tt
plain_check false x = tt

pub plain_remaining : Plain remaining
unfolding Plain remaining
plain_remaining n = tt

pub plain_u16 : Plain u16
unfolding Plain u16
plain_u16 n = tt

pub plain_u32 : Plain u32
unfolding Plain u32
plain_u32 n = tt

pub plain_unread : (k : ℕ) → Plain (unread k)
unfolding Plain unread
plain_unread k = tt

-- a walk that has no rows, as a run
abbrev pub no_rows : {A : Type 0} → Ended A → Result (Given A)
no_rows (passed a p) = accepted (record { value = a; next = p; rows = [] })
no_rows (halted x p) = refused x

module _ {W A : Type 0} where
  pub plain_run : (t : Read W A) → Plain t → (s : List ℕ) (p : ℕ) → run t s p ≡ no_rows (walk t s p)
  unfolding Plain run walk
  plain_run (give a) h s p = refl
  plain_run (stop x) h s p = refl
  plain_run (left g) h s p = plain_run (g (length s - p)) (h (length s - p)) s p
  plain_run (skip k t) h s p = plain_run t h s (p + k)
  plain_run (number w g) h s p = plain_run (g (value_at w s p)) (h (value_at w s p)) s (p + size w)
  plain_run (data_row k row t) h s p = absurd h
  plain_run (within w k t) h s p = plain_run t h (take (p + k) s) p

-- a plain reading that passes or halts, and then another: its run goes on at its value and position, or is its refusal
module _ {W A B : Type 0} (f : A → Read W B) (t : Flat A) (plain : Plain t) (s : List ℕ) (p : ℕ) where
  pub run_passed : {a : A} {q : ℕ} → passed a q ≡ walk t s p → run (t >>= f) s p ≡ run (f a) s q
  unfolding and_then
  run_passed e =
      run_then f t s p ∙ ap (λ r. and_then r (λ a q. run (f a) s q)) (plain_run t plain s p ∙ ap no_rows (sym e)) ∙ prepend_nil _

  pub run_halted : {x : Refusal} {q : ℕ} → halted x q ≡ walk t s p → refused x ≡ run (t >>= f) s p
  unfolding and_then
  run_halted e = sym (run_then f t s p ∙ ap (λ r. and_then r (λ a q. run (f a) s q)) (plain_run t plain s p ∙ ap no_rows (sym e)))

-- ---- a run that was accepted: each of its parts was

module _ {W A B : Type 0} (f : A → Read W B) (t : Flat A) (s : List ℕ) (p : ℕ) where
  pub record RunParts (g : Given B) : Type 0 where
    pub first : Given A
    pub second : Given B
    pub first_is : run t s p ≡ accepted first
    pub second_is : run (f first.value) s first.next ≡ accepted second
    pub whole : g ≡ record { value = second.value; next = second.next; rows = first.rows ++ second.rows }

  pub run_parts : {g : Given B} → run (t >>= f) s p ≡ accepted g → RunParts g
  unfolding and_then prepend
  run_parts {g} e = go (run t s p) refl (sym (run_then f t s p) ∙ e)
    where
      last : (g₁ : Given A) (r : Result (Given B)) → run t s p ≡ accepted g₁ → run (f g₁.value) s g₁.next ≡ r → prepend g₁.rows r ≡ accepted g → RunParts g
      last g₁ (accepted g₂) h k l = record { first = g₁; second = g₂; first_is = h; second_is = k; whole = cc }
      last g₁ (refused x) h k l = let z : ◌≡◌ {A = ℕ} 0 1 = cc in absurd (omega arith)

      go : (r : Result (Given A)) → run t s p ≡ r → and_then r (λ a q. run (f a) s q) ≡ accepted g → RunParts g
      go (accepted g₁) h k = last g₁ (run (f g₁.value) s g₁.next) h refl k
      go (refused x) h k = let z : ◌≡◌ {A = ℕ} 0 1 = cc in absurd (omega arith)

-- a plain part passed
pub plain_passed : {A : Type 0} (t : Flat A) → Plain t → (s : List ℕ) (p : ℕ) {g : Given A} → run t s p ≡ accepted g
    → (passed g.value g.next ≡ walk t s p) × (g.rows ≡ [])
plain_passed {A} t plain s p {g} e = go (walk t s p) refl (sym (plain_run t plain s p) ∙ e)
  where
    go : (r : Ended A) → walk t s p ≡ r → no_rows r ≡ accepted g → (passed g.value g.next ≡ walk t s p) × (g.rows ≡ [])
    go (passed a q) h k =
        let l : ◌≡◌ {A = Given A} (record { value = a; next = q; rows = [] }) g = cc in
        (sym (h ∙ ap (λ x. passed x.value x.next) l), sym (ap (λ x. x.rows) l))
    go (halted x q) h k = let z : ◌≡◌ {A = ℕ} 0 1 = cc in absurd (omega arith)

-- ---- a part of the body, read from its own position 0

-- the position after it, in the body
unfoldable pub shifted : {A : Type 0} → ℕ → Result (Given A) → Result (Given A)
shifted c (accepted g) = accepted (record { value = g.value; next = c + g.next; rows = g.rows })
shifted c (refused x) = refused x

half_drop : (s : List ℕ) (c q : ℕ) → u16_at s (c + q) ≡ u16_at (drop c s) q
unfolding u16_at
half_drop s c q =
    let e : c + q + 1 ≡ c + (q + 1) = omega arith in
    ap₂ (λ x y. x * 256 + y) (sym (get_or-drop c s q 0)) (rw e (sym (get_or-drop c s (q + 1) 0)))

value_drop : (w : Width) (s : List ℕ) (c q : ℕ) → value_at w s (c + q) ≡ value_at w (drop c s) q
unfolding u32_at
value_drop half s c q = half_drop s c q
value_drop word s c q =
    let e : c + q + 2 ≡ c + (q + 2) = omega arith in
    cc (half_drop s c q, ap (u16_at s) e, half_drop s c (q + 2))

slice_drop : (s : List ℕ) (c q k : ℕ) → slice (c + q) (c + q + k) s ≡ slice q (q + k) (drop c s)
slice_drop s c q k =
    let e : c + q + k ≡ c + (q + k) = omega arith in
    rw e (sym (drop-drop q c (take (c + (q + k)) s)) ∙ ap (drop q) (drop_take c (q + k) s))

module _ {A : Type 0} where
  shifted_row : (c : ℕ) (r : Result (List ℕ)) (g : Result (Given A)) → shifted c (after_row r g) ≡ after_row r (shifted c g)
  unfolding shifted after_row more
  shifted_row c (accepted r) (accepted g) = refl
  shifted_row c (accepted r) (refused x) = refl
  shifted_row c (refused x) g = refl

module _ {W A : Type 0} where
  pub run_drop : (t : Read W A) (s : List ℕ) (c q : ℕ) → run t s (c + q) ≡ shifted c (run t (drop c s) q)
  unfolding run shifted
  run_drop (give a) s c q = refl
  run_drop (stop x) s c q = refl
  run_drop (left g) s c q =
      let e : length s - (c + q) ≡ length (drop c s) - q = rw (length-drop c s) (omega arith) in
      rw e (run_drop (g (length (drop c s) - q)) s c q)
  run_drop (skip k t) s c q = let e : c + q + k ≡ c + (q + k) = omega arith in rw e (run_drop t s c (q + k))
  run_drop (number w g) s c q =
      let e : c + q + size w ≡ c + (q + size w) = omega arith in
      rw (value_drop w s c q, e) (run_drop (g (value_at w (drop c s) q)) s c (q + size w))
  run_drop (data_row k row t) s c q =
      let e : c + q + k ≡ c + (q + k) = omega arith in
      ap₂ (λ (x : List ℕ) (y : ℕ). after_row (row x) (run t s y)) (slice_drop s c q k) e
      ∙ ap (after_row (row (slice q (q + k) (drop c s)))) (run_drop t s c (q + k))
      ∙ sym (shifted_row c (row (slice q (q + k) (drop c s))) (run t (drop c s) (q + k)))
  run_drop (within w k t) s c q =
      let e : c + q + k ≡ c + (q + k) = omega arith in
      ap (λ (m : ℕ). run t (take m s) (c + q)) e
      ∙ run_drop t (take (c + (q + k)) s) c q
      ∙ ap (λ (l : List ℕ). shifted c (run t l q)) (drop_take c (q + k) s)

  -- the inner part of a body, read as a part
  pub run_within : (w : W) (t : Read W A) (s : List ℕ) (p k : ℕ) → run (within w k t) s p ≡ shifted p (run t (slice p (p + k) s) 0)
  unfolding run
  run_within w t s p k = let e : p + 0 ≡ p = omega arith in ap (λ (m : ℕ). run t (take (p + k) s) m) (sym e) ∙ run_drop t (take (p + k) s) p 0

-- ---- readings that differ in a part

-- the same first part: what passes the one passes the other, if it does after that part
pub same_first : {W A B : Type 0} (f g : A → Read W B) (t : Flat A) (s : List ℕ) (p : ℕ) {b : B} {q : ℕ}
    → ((a : A) (m : ℕ) → passed b q ≡ walk (f a) s m → passed b q ≡ walk (g a) s m) → passed b q ≡ walk (t >>= f) s p → passed b q ≡ walk (t >>= g) s p
same_first f g t s p h e =
    let a = parts f t s p e in
    h _ _ a.second ∙ sym (then_passed g t s p a.first)

-- the same where the value between them is not used
pub same_first_by : {W A B : Type 0} (u v : Read W B) (t : Flat A) (s : List ℕ) (p : ℕ) {b : B} {q : ℕ} → ((m : ℕ) → passed b q ≡ walk u s m → passed b q ≡ walk v s m)
    → passed b q ≡ walk (t >> u) s p → passed b q ≡ walk (t >> v) s p
unfolding ◌>>◌
same_first_by u v t s p h e = same_first (λ _. u) (λ _. v) t s p (λ _. h) e

-- a test that does not hold
pub past_check : {W A : Type 0} (b : Bool) (x : Refusal) (u : Read W A) (s : List ℕ) (p : ℕ) {a : A} {q : ℕ} → b ≡ false → passed a q ≡ walk u s p
    → passed a q ≡ walk (refuse_if b x >> u) s p
unfolding ◌>>◌
past_check b x u s p h e = e ∙ sym (walk_check b x (λ _. u) s p ∙ ap (λ c. cond c (halted x p) (walk u s p)) h)

-- first parts with the same run
pub same_last : {W A B : Type 0} (f : A → Read W B) (t u : Flat A) (s : List ℕ) (p : ℕ) → run t s p ≡ run u s p → run (t >>= f) s p ≡ run (u >>= f) s p
same_last f t u s p e = run_then f t s p ∙ ap (λ r. and_then r (λ a q. run (f a) s q)) e ∙ sym (run_then f u s p)

-- ---- a radial: a plain frame, its data, its value; and then another reading

module _ {W A B C : Type 0} (size : A → ℕ) (row : A → List ℕ → Result (List ℕ)) (value : A → B) (f : B → Read W C) (t : Flat A) (plain : Plain t) (s : List ℕ) (p : ℕ) where
  pub row_passed : {a : A} {q : ℕ} → passed a q ≡ walk t s p
      → run ((t >>= λ a. radial_data (size a) (row a) >> give (value a)) >>= f) s p ≡ after_row (row a (slice q (q + size a) s)) (run (f (value a)) s (q + size a))
  unfolding run ◌>>=◌ ◌>>◌ radial_data
  row_passed e = ap (λ u. run u s p) (then_then _ f t) ∙ run_passed _ t plain s p e

  pub row_halted : {x : Refusal} {q : ℕ} → halted x q ≡ walk t s p → refused x ≡ run ((t >>= λ a. radial_data (size a) (row a) >> give (value a)) >>= f) s p
  row_halted e = run_halted _ t plain s p e ∙ sym (ap (λ u. run u s p) (then_then _ f t))
