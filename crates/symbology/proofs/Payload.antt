-- Packet 28: a component is its head and its radials; the payload is its product block and the list of components. Assumes nothing.
use Rattle.std.proofs.Common.{◌≡◌, ℕ, zero, suc, ◌-◌, ◌<◌, ◌≤◌, Bool, true, false, cond, not, eqb, List, [], ◌∷◌, length, ℤ, pos, negsuc, sym, refl, ap, ◌∙◌, append-nil, arith, ltb-false, ne_eqb}
use mathlib.Core.Path.{fun_ext}
use lib.Signed.{le_z, lt_z}
use lib.Ieee.{Float}
use Rattle.wire.specs.Refusal.{Refusal, kind, nat}
use Rattle.wire.specs.declared.error.Level3DecodeError.{Level3DecodeError}
use Rattle.wire.specs.Result.{Result, accepted, refused, then}
use Rattle.wire.specs.Reading.{Read, Flat, give, ◌>>=◌, ◌>>◌, remaining, refuse_if, run, Given, Ended, passed, halted, onward, reached, walk}
use Rattle.wire.proofs.Readings.{parts, parts_by, passed_check, walk_give}
use Rattle.wire.proofs.Runs.{then_then, prepend, and_then, ends_at, walk_run, run_of_passed, run_of_halted, Plain, plain_then, plain_by, plain_give, plain_check, plain_remaining}
use Rattle.symbology.proofs.Modes.{mode_give, mode_stop, mode_plain, mode_walk_then, mode_walk_passed, mode_walk_halted, mode_run_then, mode_passed, mode_halted, mode_parts}
use Rattle.wire.specs.declared.error.XdrItem.{XdrItem}
use Rattle.xdr.specs.Xdr.{pass, at_least0, pointer, counted, further, elements, list_head}
use Rattle.xdr.proofs.Plains.{plain_pass, plain_int, plain_float, plain_string, plain_parameter, plain_counted, plain_list_head}
use Rattle.symbology.specs.Symbology.{Sweep, product_block, xdr_radials, component_head, component, only, payload}
use Rattle.symbology.specs.declared.generic.Gates28.{Gates28}
use Rattle.symbology.specs.Walk.{in_mode, radials_by, only_whole, listed, position, sweep_from, Planned, Plans}
use Rattle.symbology.specs.declared.figures.Figures.{Figures}
use Rattle.wire.proofs.Results.{one_value}
use Rattle.symbology.specs.declared.spans.Plan.{Plan}
use Rattle.std.specs.Prelude as Std

-- ---- the order of readings

module _ {W A B : Type 0} where
  under : (t : Flat A) {f g : A → Read W B} → ((a : A) → f a ≡ g a) → t >>= f ≡ t >>= g
  under t h = ap (λ k. t >>= k) (fun_ext h)

  give_then : (a : A) (f : A → Read W B) → give a >>= f ≡ f a
  unfolding ◌>>=◌
  give_then a f = refl

by_then : {W A B C : Type 0} (t : Flat A) (u : Flat B) (g : B → Read W C) → (t >> u) >>= g ≡ t >> (u >>= g)
unfolding ◌>>◌
by_then t u g = then_then (λ _. u) g t

-- ---- a component

-- its radials, of the figures that its head gives
abbrev headed : Gates28 → Flat Sweep
headed h = xdr_radials h.radials h.gate_width h.first_gate

pub plain_head : Plain component_head
unfolding component_head
plain_head =
    plain_then _ (λ type. plain_by _ _ (plain_check _ _) (plain_by _ _ plain_string
    (plain_then _ (λ w. plain_then _ (λ f. plain_by _ _ (plain_counted _ plain_parameter)
    (plain_then _ (λ n. plain_by _ _ (plain_check _ _) (plain_by _ _ (plain_check _ _) (plain_give _))) _ plain_int)) _ plain_float) _ plain_float))) _ plain_int

pub plain_pointer : Plain pointer
unfolding pointer
plain_pointer = plain_pass _ _

plain_word : (i : XdrItem) (u : Flat (Unit {0})) → Plain u → Plain (pass i 4 >> u)
plain_word i u h = plain_by (pass i 4) u (plain_pass i 4) h

pub plain_block : Plain product_block
unfolding product_block
plain_block =
    plain_by _ _ plain_string (plain_by _ _ plain_string
    (plain_word _ _ (plain_word _ _ (plain_word _ _ (plain_by _ _ plain_string
    (plain_word _ _ (plain_word _ _ (plain_word _ _ (plain_word _ _ (plain_word _ _ (plain_word _ _
    (plain_word _ _ (plain_word _ _ (plain_word _ _ (plain_word _ _ (plain_word _ _ (plain_word _ _
    (plain_by _ _ (plain_counted _ plain_parameter) (plain_give _)))))))))))))))))))

pub counted_small : (v : ℤ) → le_z v (pos 0) ≡ false → lt_z (pos 100000) v ≡ false → (0 < at_least0 v) × (at_least0 v ≤ 100000)
counted_small (pos zero) h k = let z : ◌≡◌ {A = ℕ} 0 1 = cc in absurd (omega arith)
counted_small (pos (suc n)) h k = (omega arith, ltb-false _ _ k)
counted_small (negsuc n) h k = let z : ◌≡◌ {A = ℕ} 0 1 = cc in absurd (omega arith)

-- a head that passed has one to 100,000 radials
pub head_small : (s : List ℕ) (p : ℕ) {h : Gates28} {q : ℕ} → passed h q ≡ walk component_head s p → (0 < h.radials) × (h.radials ≤ 100000)
unfolding component_head
head_small s p {h} {q} e =
    let a = parts _ _ s p e in
    let b = passed_check _ _ _ s _ a.second in
    let c = parts_by _ _ s _ b.1 in
    let d = parts _ _ s _ c.second in
    let f = parts _ _ s _ d.second in
    let g = parts_by _ _ s _ f.second in
    let i = parts _ _ s _ g.second in
    let j = passed_check _ _ _ s _ i.second in
    let k = passed_check _ _ _ s _ j.1 in
    last i.value (counted_small i.value j.0 k.0) (k.1 ∙ walk_give _ s _)
  where
    last : (v : ℤ) {w f : Float} {m : ℕ} → (0 < at_least0 v) × (at_least0 v ≤ 100000) → passed h q ≡ passed (record { radials = at_least0 v; gate_width = w; first_gate = f }) m
        → (0 < h.radials) × (h.radials ≤ 100000)
    last v {w} {f} {m} x e =
        let b : h ≡ record { radials = at_least0 v; gate_width = w; first_gate = f } = cc in
        rw b x

module _ (m : Bool) (s : List ℕ) (p : ℕ) where
  pub component_refused : {x : Refusal} {q : ℕ} → halted x q ≡ walk component_head s p → refused x ≡ run (in_mode m component) s p
  unfolding component
  component_refused h = mode_halted _ headed component_head plain_head s p h

  pub component_at : {h : Gates28} {q : ℕ} → passed h q ≡ walk component_head s p → run (in_mode m component) s p ≡ run (in_mode m (headed h)) s q
  unfolding component
  component_at h = mode_passed _ headed component_head plain_head s p h

-- ---- plans

refused_run : {W A : Type 0} (t : Read W A) (s : List ℕ) (p : ℕ) {x : Refusal} → refused x ≡ position (walk t s p) → refused x ≡ run t s p
refused_run {W} {A} t s p {x} h = go (walk t s p) refl h
  where
    go : (e : Ended A) → e ≡ walk t s p → refused x ≡ position e → refused x ≡ run t s p
    go (passed a q) k l = let z : ◌≡◌ {A = ℕ} 0 1 = cc in absurd (omega arith)
    go (halted y q) k l = let m : x ≡ y = cc in ap refused m ∙ run_of_halted t s p k

accepted_run : {W A : Type 0} (t : Read W A) (s : List ℕ) (p : ℕ) {n : ℕ} → accepted n ≡ position (walk t s p) → (g : Given A) × ((run t s p ≡ accepted g) × (g.next ≡ n))
accepted_run {W} {A} t s p {n} h = go (walk t s p) refl h
  where
    go : (e : Ended A) → e ≡ walk t s p → accepted n ≡ position e → (g : Given A) × ((run t s p ≡ accepted g) × (g.next ≡ n))
    go (passed a q) k l = let g = run_of_passed t s p k in let m : q ≡ n = cc in (g.0, (g.1.0, g.1.1.1 ∙ m))
    go (halted y q) k l = let z : ◌≡◌ {A = ℕ} 0 1 = cc in absurd (omega arith)

pub plans_as : (m : Bool) (r : Std.Result Plan Level3DecodeError) (s : List ℕ) {R Q : Result (Given Sweep)} → R ≡ Q → Plans m r s Q → Plans m r s R
plans_as m r s e h = rw e h

module _ (m : Bool) (f : Figures) (s : List ℕ) (at : ℕ) where
  pub plan_refused : {x : Refusal} → refused x ≡ position (walk (in_mode m (radials_by f)) s at) → refused x ≡ sweep_from f (run (in_mode m (radials_by f)) s at)
  plan_refused h = ap (sweep_from f) (refused_run (in_mode m (radials_by f)) s at h)

  pub plan_value : {next : ℕ} → accepted next ≡ position (walk (in_mode m (radials_by f)) s at)
      → Planned m f at next s (sweep_from f (run (in_mode m (radials_by f)) s at))
  plan_value h =
      let g = accepted_run (in_mode m (radials_by f)) s at h in
      record { radials = g.0; radials_are = g.1.0; next_is = g.1.1; whole = ap (sweep_from f) g.1.0 }

-- ---- the list of components

-- a refusal stays
run_stops : {W A B : Type 0} (m : Bool) (f : A → Read W B) (t : Flat A) (s : List ℕ) (p : ℕ) {x : Refusal} → refused x ≡ run (in_mode m t) s p → refused x ≡ run (in_mode m (t >>= f)) s p
unfolding and_then
run_stops m f t s p h = ap (λ r. and_then r (λ a q. run (in_mode m (f a)) s q)) h ∙ sym (mode_run_then _ f t s p)

run_goes : {W A B : Type 0} (m : Bool) (f : A → Read W B) (t : Flat A) (s : List ℕ) (p : ℕ) {g : Given A} → run (in_mode m t) s p ≡ accepted g
    → run (in_mode m (t >>= f)) s p ≡ prepend g.rows (run (in_mode m (f g.value)) s g.next)
unfolding and_then
run_goes m f t s p h = mode_run_then _ f t s p ∙ ap (λ r. and_then r (λ a q. run (in_mode m (f a)) s q)) h

-- 28 and 35 look at no data
plain_end : (a : Sweep) → Plain {W = Unit {0}} (give a)
unfolding Plain
plain_end a = tt

plain_one : (l : List Sweep) → Plain (only l)
unfolding Plain only
plain_one [] = tt
plain_one (a ∷ []) = tt
plain_one (a ∷ b ∷ rest) = tt

pub plain_only : (l : List Sweep) → Plain (only_whole l)
unfolding ◌>>◌
plain_only l = plain_then _ (λ sweep. plain_then _ (λ rest. plain_then _ (λ _. plain_end sweep) _ (plain_check _ _)) _ plain_remaining) _ (plain_one l)

module _ (m : Bool) (s : List ℕ) (p : ℕ) where
  pub none_listed : (n : ℕ) → n ≡ 0 → refused (kind 28 (nat 0 ∷ [])) ≡ run (in_mode m (listed n)) s p
  unfolding elements only ◌>>=◌ run
  none_listed n h = rw h (sym (ap (λ t. run {W = Unit {0}} {A = Sweep} t s p) (mode_stop m (kind 28 (nat 0 ∷ [])))))

  first_then : (k : ℕ) → elements component (suc k) >>= only_whole ≡ component >>= λ a. further component k >>= λ rest. only_whole (a ∷ rest)
  unfolding elements
  first_then k = then_then _ _ component ∙ under _ λ a. then_then _ _ (further component k) ∙ under _ λ rest. give_then _ _

  pub first_refused : (n : ℕ) {x : Refusal} → (n ≡ 0 → ⊥) → refused x ≡ run (in_mode m component) s p → refused x ≡ run (in_mode m (listed n)) s p
  first_refused zero h k = absurd (h refl)
  first_refused (suc n) h k = run_stops _ _ component s p k ∙ ap (λ t. run (in_mode m t) s p) (sym (first_then n))

  -- one component, and nothing after it
  checked : (a : Sweep) (x : Refusal) (b : Bool) (q : ℕ)
      → run {W = Unit {0}} (refuse_if b x >> give a) s q ≡ cond b (refused x) (accepted (record { value = a; next = q; rows = [] }))
  unfolding ◌>>◌ run refuse_if
  checked a x true q = refl
  checked a x false q = refl

  whole_run : (a : Sweep) (q : ℕ)
      → run (only_whole (a ∷ [])) s q ≡ cond (not (eqb (length s - q) 0)) (refused (kind 35 (nat (length s - q) ∷ []))) (accepted (record { value = a; next = q; rows = [] }))
  unfolding only ◌>>=◌ run remaining
  whole_run a q = checked a _ _ q

  one_run : {n : ℕ} {g : Given Sweep} → n ≡ 1 → run (in_mode m component) s p ≡ accepted g
      → run (in_mode m (listed n)) s p ≡ prepend g.rows (run (only_whole (g.value ∷ [])) s g.next)
  unfolding further ◌>>=◌
  one_run {n} {g} h k =
      rw h (ap (λ t. run (in_mode m t) s p) (first_then 0) ∙ run_goes _ _ component s p k ∙ ap (λ t. prepend g.rows (run t s g.next)) (mode_plain m (only_whole (g.value ∷ [])) (plain_only _)))

  left_over : {n : ℕ} {g : Given Sweep} → n ≡ 1 → run (in_mode m component) s p ≡ accepted g → (length s - g.next ≡ 0 → ⊥)
      → refused (kind 35 (nat (length s - g.next) ∷ [])) ≡ run (in_mode m (listed n)) s p
  unfolding prepend
  left_over {n} {g} h k l =
      let b : eqb (length s - g.next) 0 ≡ false = ne_eqb _ _ l in
      let e : run (only_whole (g.value ∷ [])) s g.next ≡ refused (kind 35 (nat (length s - g.next) ∷ [])) = whole_run g.value g.next ∙ rw b refl in
      sym (one_run h k ∙ ap (prepend g.rows) e)

  pub no_more : {n : ℕ} {g : Given Sweep} → n ≡ 1 → run (in_mode m component) s p ≡ accepted g → length s - g.next ≡ 0
      → run (in_mode m (listed n)) s p ≡ accepted g
  unfolding prepend
  no_more {n} {g} h k l =
      let e : run (only_whole (g.value ∷ [])) s g.next ≡ accepted (record { value = g.value; next = g.next; rows = [] }) = whole_run g.value g.next ∙ rw l refl in
      one_run h k ∙ ap (prepend g.rows) e ∙ ap (λ rows. accepted (record { value = g.value; next = g.next; rows = rows })) (append-nil g.rows)

-- as many as are asked for
module _ {A : Type 0} (m : Bool) (e : Flat A) (s : List ℕ) where
  more_length : (k : ℕ) (a : A) (q : ℕ) {g : Given (List A)} → ((p : ℕ) (f : Given (List A)) → run (in_mode m (further e k)) s p ≡ accepted f → length f.value ≡ k)
      → run {W = ⊥} (in_mode m (further e k >>= λ rest. give (a ∷ rest))) s q ≡ accepted g → length g.value ≡ suc k
  unfolding run
  more_length k a q {g} ih h =
      let b = mode_parts _ (λ rest. give (a ∷ rest)) (further e k) s q h in
      let c : g.value ≡ b.second.value = ap (λ x. x.value) b.whole in
      let d : b.second.value ≡ a ∷ b.first.value = ap (λ x. x.value) (sym (one_value (sym (ap (λ t. run {W = ⊥} t s b.first.next) (mode_give m (a ∷ b.first.value))) ∙ b.second_is))) in
      rw (c, d) (ap suc (ih q b.first b.first_is))

  further_length : (k p : ℕ) (g : Given (List A)) → run (in_mode m (further e k)) s p ≡ accepted g → length g.value ≡ k
  unfolding further run ◌>>◌
  further_length zero p g h = ap (λ x. length x.value) (sym (one_value (sym (ap (λ t. run {W = ⊥} t s p) (mode_give m [])) ∙ h)))
  further_length (suc k) p g h =
      let a = mode_parts _ (λ _. e >>= λ a. further e k >>= λ rest. give (a ∷ rest)) pointer s p h in
      let b = mode_parts _ (λ a. further e k >>= λ rest. give (a ∷ rest)) e s a.first.next a.second_is in
      let c : g.value ≡ b.second.value = ap (λ x. x.value) a.whole ∙ ap (λ x. x.value) b.whole in
      rw c (more_length k _ _ (further_length k) b.second_is)

-- two components or more
module _ (m : Bool) (s : List ℕ) (p n : ℕ) {g : Given Sweep} (more : 1 < n) (first : run (in_mode m component) s p ≡ accepted g) where
  more_run : run (in_mode m (listed n)) s p ≡ prepend g.rows (run (in_mode m (further component (n - 1) >>= λ rest. only_whole (g.value ∷ rest))) s g.next)
  more_run =
      let e : n ≡ suc (n - 1) = omega (arith, more) in
      ap (λ k. run (in_mode m (elements component k >>= only_whole)) s p) e ∙ ap (λ t. run (in_mode m t) s p) (first_then m s p (n - 1)) ∙ run_goes _ _ component s p first

  further_refused : {x : Refusal} → refused x ≡ position (walk (in_mode m (further component (n - 1))) s g.next) → refused x ≡ run (in_mode m (listed n)) s p
  unfolding prepend
  further_refused {x} h =
      let e = refused_run (in_mode m (further component (n - 1))) s g.next h in
      sym (more_run ∙ ap (prepend g.rows) (sym (run_stops _ (λ rest. only_whole (g.value ∷ rest)) (further component (n - 1)) s g.next e)))

  stops : (rest : List Sweep) (q : ℕ) → length rest ≡ n - 1 → run (only_whole (g.value ∷ rest)) s q ≡ refused (kind 28 (nat n ∷ []))
  unfolding only ◌>>=◌ run
  stops [] q h = let z : n - 1 ≡ 0 = sym h in absurd (omega (arith, more, z))
  stops (b ∷ rest) q h = let z : suc (suc (length rest)) ≡ n = omega (arith, more, h) in rw z refl

  too_many : {q : ℕ} → accepted q ≡ position (walk (in_mode m (further component (n - 1))) s g.next) → refused (kind 28 (nat n ∷ [])) ≡ run (in_mode m (listed n)) s p
  unfolding prepend
  too_many {q} h =
      let a = accepted_run (in_mode m (further component (n - 1))) s g.next h in
      let e : run (in_mode m (further component (n - 1) >>= λ rest. only_whole (g.value ∷ rest))) s g.next ≡ refused (kind 28 (nat n ∷ [])) =
      run_goes _ (λ rest. only_whole (g.value ∷ rest)) (further component (n - 1)) s g.next a.1.0
      ∙ ap (λ t. prepend a.0.rows (run t s a.0.next)) (mode_plain m (only_whole (g.value ∷ a.0.value)) (plain_only _))
      ∙ ap (prepend a.0.rows) (stops a.0.value a.0.next (further_length m component s (n - 1) g.next a.0 a.1.0)) in
      sym (more_run ∙ ap (prepend g.rows) e)

-- ---- from one component to the next

-- where a reading ends, from its run
run_position : {W A : Type 0} (t : Read W A) (s : List ℕ) (p : ℕ) → position (walk t s p) ≡ then (run t s p) λ g. accepted g.next
run_position {W} {A} t s p = go (walk t s p) (run t s p) (walk_run t s p)
  where
    go : (e : Ended A) (r : Result (Given A)) → reached e ≡ ends_at r → position e ≡ then r λ g. accepted g.next
    go (passed a q) (accepted g) h = ap (λ x. then x λ y. accepted y.1) h
    go (passed a q) (refused x) h = let z : ◌≡◌ {A = ℕ} 0 1 = cc in absurd (omega arith)
    go (halted x q) (accepted g) h = let z : ◌≡◌ {A = ℕ} 0 1 = cc in absurd (omega arith)
    go (halted x q) (refused y) h = let l : x ≡ y = cc in ap refused l

module _ {A : Type 0} (m : Bool) (e : Flat A) (s : List ℕ) where
  kept : (k : ℕ) (a : A) (q : ℕ) → position (walk {W = ⊥} (in_mode m (further e k >>= λ rest. give (a ∷ rest))) s q) ≡ position (walk (in_mode m (further e k)) s q)
  unfolding walk
  kept k a q = ap position (mode_walk_then _ (λ rest. give (a ∷ rest)) (further e k) s q) ∙ go (walk (in_mode m (further e k)) s q)
    where
      go : (r : Ended (List A)) → position (onward r (λ rest q. walk {W = ⊥} (in_mode m (give (a ∷ rest))) s q)) ≡ position r
      go (passed b q) = ap (λ t. position (walk {W = ⊥} t s q)) (mode_give m (a ∷ b))
      go (halted x q) = refl

  next_is : (k p : ℕ) (r : Ended A) → r ≡ walk (in_mode m (pointer >> e)) s p → position (walk (in_mode m (further e (suc k))) s p) ≡ then (position r) λ q. position (walk (in_mode m (further e k)) s q)
  unfolding further
  next_is k p r h =
      ap (λ t. position (walk (in_mode m t) s p)) (sym (by_then pointer e _)) ∙ ap position (mode_walk_then _ _ (pointer >> e) s p)
      ∙ ap (λ x. position (onward x λ a q. walk {W = ⊥} (in_mode m (further e k >>= λ rest. give (a ∷ rest))) s q)) (sym h) ∙ go r
    where
      go : (r : Ended A) → position (onward r λ a q. walk {W = ⊥} (in_mode m (further e k >>= λ rest. give (a ∷ rest))) s q) ≡ then (position r) λ q. position (walk (in_mode m (further e k)) s q)
      go (passed a q) = kept k a q
      go (halted x q) = refl

  pub next_refused : (k p : ℕ) {x : Refusal} → 0 < k → refused x ≡ position (walk (in_mode m (pointer >> e)) s p) → refused x ≡ position (walk (in_mode m (further e k)) s p)
  next_refused zero p h l = absurd (omega (arith, h))
  next_refused (suc k) p h l = ap (λ r. then r λ q. position (walk (in_mode m (further e k)) s q)) l ∙ sym (next_is k p _ refl)

  pub next_at : {k n : ℕ} (p : ℕ) {q : ℕ} → n ≡ suc k → accepted q ≡ position (walk (in_mode m (pointer >> e)) s p) → position (walk (in_mode m (further e n)) s p) ≡ position (walk (in_mode m (further e k)) s q)
  next_at {k} p h l = rw h (next_is k p _ refl ∙ ap (λ r. then r λ q. position (walk (in_mode m (further e k)) s q)) (sym l))

  pub next_none : (k p : ℕ) → k ≡ 0 → accepted p ≡ position (walk (in_mode m (further e k)) s p)
  unfolding further walk
  next_none k p h = rw h (sym (ap (λ t. position (walk {W = ⊥} t s p)) (mode_give m [])))

  pub pointer_halted : (p : ℕ) {x : Refusal} {q : ℕ} → halted x q ≡ walk pointer s p → refused x ≡ position (walk (in_mode m (pointer >> e)) s p)
  unfolding ◌>>◌
  pointer_halted p h = ap position (mode_walk_halted _ (λ _. e) pointer plain_pointer s p h)

  pub pointer_passed : (p : ℕ) {a : Unit {0}} {q : ℕ} → passed a q ≡ walk pointer s p → position (walk (in_mode m (pointer >> e)) s p) ≡ position (walk (in_mode m e) s q)
  unfolding ◌>>◌
  pointer_passed p h = ap position (mode_walk_passed _ (λ _. e) pointer plain_pointer s p h)

-- ---- the payload

abbrev listing : Read (Unit {0}) Sweep
listing = counted component >>= only_whole

module _ (m : Bool) (s : List ℕ) (p : ℕ) where
  pub block_halted : {x : Refusal} {q : ℕ} → halted x q ≡ walk product_block s p → refused x ≡ run (in_mode m payload) s p
  unfolding payload ◌>>◌
  block_halted h = mode_halted _ (λ _. listing) product_block plain_block s p h

  block_passed : {a : Unit {0}} {q : ℕ} → passed a q ≡ walk product_block s p → run (in_mode m payload) s p ≡ run (in_mode m listing) s q
  unfolding payload ◌>>◌
  block_passed h = mode_passed _ (λ _. listing) product_block plain_block s p h

  listing_is : (q : ℕ) → run (in_mode m listing) s q ≡ run (in_mode m (list_head >>= listed)) s q
  unfolding counted
  listing_is q = ap (λ t. run (in_mode m t) s q) (then_then (elements component) only_whole list_head)

  pub count_halted : {a : Unit {0}} {q n : ℕ} {x : Refusal} → passed a q ≡ walk product_block s p → halted x n ≡ walk list_head s q → refused x ≡ run (in_mode m payload) s p
  count_halted h k = mode_halted _ listed list_head plain_list_head s _ k ∙ sym (listing_is _) ∙ sym (block_passed h)

  pub count_passed : {a : Unit {0}} {q n k : ℕ} → passed a q ≡ walk product_block s p → passed n k ≡ walk list_head s q → run (in_mode m payload) s p ≡ run (in_mode m (listed n)) s k
  count_passed h k = block_passed h ∙ listing_is _ ∙ mode_passed _ listed list_head plain_list_head s _ k

-- ---- what a component's plan says

module _ (m : Bool) (s : List ℕ) (p : ℕ) where
  pub plan_stops : {x : Refusal} → refused x ≡ run (in_mode m component) s p → refused x ≡ position (walk (in_mode m component) s p)
  plan_stops h = ap (λ y. then y λ g. accepted g.next) h ∙ sym (run_position (in_mode m component) s p)

  pub plan_ends : {f : Figures} {at next : ℕ} → Planned m f at next s (run (in_mode m component) s p) → accepted next ≡ position (walk (in_mode m component) s p)
  plan_ends k = ap accepted (sym k.next_is) ∙ ap (λ y. then y λ g. accepted g.next) (sym k.whole) ∙ sym (run_position (in_mode m component) s p)

-- the list, after its first component
module _ (m : Bool) (s : List ℕ) (p n : ℕ) {f : Figures} {at next : ℕ} (k : Planned m f at next s (run (in_mode m component) s p)) where
  pub alone_left : {rest : ℕ} → n ≡ 1 → rest ≡ length s - next → (rest ≡ 0 → ⊥) → refused (kind 35 (nat rest ∷ [])) ≡ run (in_mode m (listed n)) s p
  alone_left {rest} h l z =
      let e : rest ≡ length s - k.radials.next = rw k.next_is l in
      ap (λ x. refused (kind 35 (nat x ∷ []))) e ∙ left_over m s p h k.whole (λ y. z (e ∙ y))

  pub alone_whole : {rest : ℕ} → n ≡ 1 → rest ≡ length s - next → rest ≡ 0 → Planned m f at next s (run (in_mode m (listed n)) s p)
  alone_whole {rest} h l z =
      let e : length s - k.radials.next ≡ 0 = rw k.next_is (sym l ∙ z) in
      record { radials = k.radials; radials_are = k.radials_are; next_is = k.next_is; whole = no_more m s p h k.whole e }

  pub list_stops : {x : Refusal} → 1 < n → refused x ≡ position (walk (in_mode m (further component (n - 1))) s next) → refused x ≡ run (in_mode m (listed n)) s p
  list_stops h l = further_refused m s p n h k.whole (l ∙ ap (λ q. position (walk (in_mode m (further component (n - 1))) s q)) (sym k.next_is))

  pub list_long : {q : ℕ} → 1 < n → accepted q ≡ position (walk (in_mode m (further component (n - 1))) s next) → refused (kind 28 (nat n ∷ [])) ≡ run (in_mode m (listed n)) s p
  list_long h l = too_many m s p n h k.whole (l ∙ ap (λ q. position (walk (in_mode m (further component (n - 1))) s q)) (sym k.next_is))
