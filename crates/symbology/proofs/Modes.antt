-- Laws of readings with gaps and without, in one: of each law of bytes' Readings and Runs that the proofs of code need, its form under
-- `in_mode`. Assumes nothing.
use Rattle.std.proofs.Common.{◌≡◌, ℕ, ◌+◌, Bool, true, false, cond, List, sym, refl, ap, ◌∙◌}
use mathlib.Core.Path.{fun_ext}
use lib.Seq.{slice}
use Rattle.wire.specs.Refusal.{Refusal}
use Rattle.wire.specs.Result.{Result, accepted, refused}
use Rattle.wire.specs.Reading.{Read, Flat, gaps, give, stop, ◌>>=◌, ◌>>◌, radial_data, refuse_if, after_row, run, Given, passed, halted, onward, walk}
use Rattle.wire.proofs.Readings.{walk_then, then_passed, then_halted}
use Rattle.wire.proofs.Runs.{Plain, and_then, run_then, run_passed, run_halted, row_passed, row_halted, RunParts, run_parts}
use Rattle.wire.proofs.Gaps.{gaps_then, gaps_plain}
use Rattle.symbology.specs.Walk.{in_mode, kept_of}

-- ---- the text

pub mode_then : {W A B : Type 0} (m : Bool) (f : A → Read W B) (t : Flat A) → in_mode m (t >>= f) ≡ in_mode m t >>= λ a. in_mode m (f a)
unfolding in_mode
mode_then true f t = gaps_then f t
mode_then false f t = refl

pub mode_plain : {W A : Type 0} (m : Bool) (t : Read W A) → Plain t → in_mode m t ≡ t
unfolding in_mode
mode_plain true t h = gaps_plain t h
mode_plain false t h = refl

pub mode_give : {W A : Type 0} (m : Bool) (a : A) → in_mode {W = W} m (give a) ≡ give a
unfolding in_mode gaps
mode_give true a = refl
mode_give false a = refl

pub mode_stop : {W A : Type 0} (m : Bool) (x : Refusal) → in_mode {W = W} {A = A} m (stop x) ≡ stop x
unfolding in_mode gaps
mode_stop true x = refl
mode_stop false x = refl

-- a plain reading and then another
pub mode_frame : {W A B : Type 0} (m : Bool) (f : A → Read W B) (t : Flat A) → Plain t → in_mode m (t >>= f) ≡ t >>= λ a. in_mode m (f a)
mode_frame m f t h = mode_then m f t ∙ ap (λ u. u >>= λ a. in_mode m (f a)) (mode_plain m t h)

-- a radial's data and its value
mode_data : {B : Type 0} (m : Bool) (k : ℕ) (row : List ℕ → Result (List ℕ)) (v : B)
    → in_mode {W = ⊥} m (radial_data k row >> give v) ≡ radial_data k (λ bytes. kept_of m (row bytes)) >> give v
unfolding in_mode kept_of gaps radial_data ◌>>◌ ◌>>=◌
mode_data true k row v = refl
mode_data false k row v = refl

pub mode_radial : {A B : Type 0} (m : Bool) (size : A → ℕ) (row : A → List ℕ → Result (List ℕ)) (value : A → B) (t : Flat A) → Plain t
    → in_mode {W = ⊥} m (t >>= λ a. radial_data (size a) (row a) >> give (value a)) ≡ t >>= λ a. radial_data (size a) (λ bytes. kept_of m (row a bytes)) >> give (value a)
mode_radial m size row value t h = mode_frame m _ t h ∙ ap (λ k. t >>= k) (fun_ext (λ a. mode_data m (size a) (row a) (value a)))

-- ---- walks

module _ {W A B : Type 0} (m : Bool) (f : A → Read W B) (t : Flat A) where
  pub mode_walk_then : (s : List ℕ) (p : ℕ) → walk (in_mode m (t >>= f)) s p ≡ onward (walk (in_mode m t) s p) (λ a q. walk (in_mode m (f a)) s q)
  mode_walk_then s p = ap (λ u. walk u s p) (mode_then m f t) ∙ walk_then (λ a. in_mode m (f a)) (in_mode m t) s p

  pub mode_walk_passed : Plain t → (s : List ℕ) (p : ℕ) {a : A} {q : ℕ} → passed a q ≡ walk t s p → walk (in_mode m (t >>= f)) s p ≡ walk (in_mode m (f a)) s q
  mode_walk_passed h s p e = ap (λ u. walk u s p) (mode_frame m f t h) ∙ then_passed (λ a. in_mode m (f a)) t s p e

  pub mode_walk_halted : Plain t → (s : List ℕ) (p : ℕ) {x : Refusal} {q : ℕ} → halted x q ≡ walk t s p → halted x q ≡ walk (in_mode m (t >>= f)) s p
  mode_walk_halted h s p e = then_halted (λ a. in_mode m (f a)) t s p e ∙ ap (λ u. walk u s p) (sym (mode_frame m f t h))

  -- ---- runs

  pub mode_run_then : (s : List ℕ) (p : ℕ) → run (in_mode m (t >>= f)) s p ≡ and_then (run (in_mode m t) s p) (λ a q. run (in_mode m (f a)) s q)
  mode_run_then s p = ap (λ u. run u s p) (mode_then m f t) ∙ run_then (λ a. in_mode m (f a)) (in_mode m t) s p

  pub mode_passed : Plain t → (s : List ℕ) (p : ℕ) {a : A} {q : ℕ} → passed a q ≡ walk t s p → run (in_mode m (t >>= f)) s p ≡ run (in_mode m (f a)) s q
  mode_passed h s p e = ap (λ u. run u s p) (mode_frame m f t h) ∙ run_passed (λ a. in_mode m (f a)) t h s p e

  pub mode_halted : Plain t → (s : List ℕ) (p : ℕ) {x : Refusal} {q : ℕ} → halted x q ≡ walk t s p → refused x ≡ run (in_mode m (t >>= f)) s p
  mode_halted h s p e = run_halted (λ a. in_mode m (f a)) t h s p e ∙ ap (λ u. run u s p) (sym (mode_frame m f t h))

-- each part of what was accepted was
pub mode_parts : {W A B : Type 0} (m : Bool) (f : A → Read W B) (t : Flat A) (s : List ℕ) (p : ℕ) {g : Given B} → run (in_mode m (t >>= f)) s p ≡ accepted g
    → RunParts (λ a. in_mode m (f a)) (in_mode m t) s p g
mode_parts m f t s p e = run_parts (λ a. in_mode m (f a)) (in_mode m t) s p (ap (λ u. run u s p) (sym (mode_then m f t)) ∙ e)

pub mode_same_last : {W A B : Type 0} (m : Bool) (f : A → Read W B) (t u : Flat A) (s : List ℕ) (p : ℕ) → run (in_mode m t) s p ≡ run (in_mode m u) s p
    → run (in_mode m (t >>= f)) s p ≡ run (in_mode m (u >>= f)) s p
mode_same_last m f t u s p e = mode_run_then m f t s p ∙ ap (λ r. and_then r (λ a q. run (in_mode m (f a)) s q)) e ∙ sym (mode_run_then m f u s p)

-- a test
pub mode_checks : {W A : Type 0} (m : Bool) (b : Bool) (x : Refusal) (f : Unit {0} → Read W A) (s : List ℕ) (p : ℕ) {y : Result (Given A)} → run (in_mode m (f tt)) s p ≡ y
    → run (in_mode m (refuse_if b x >>= f)) s p ≡ cond b (refused x) y
unfolding in_mode gaps run refuse_if ◌>>=◌
mode_checks true true x f s p h = refl
mode_checks true false x f s p h = h
mode_checks false true x f s p h = refl
mode_checks false false x f s p h = h

-- a radial, and then another reading
module _ {W A B C : Type 0} (m : Bool) (size : A → ℕ) (row : A → List ℕ → Result (List ℕ)) (value : A → B) (f : B → Read W C) (t : Flat A) (plain : Plain t) (s : List ℕ) (p : ℕ) where
  radial_then : in_mode m ((t >>= λ a. radial_data (size a) (row a) >> give (value a)) >>= f)
      ≡ (t >>= λ a. radial_data (size a) (λ bytes. kept_of m (row a bytes)) >> give (value a)) >>= λ b. in_mode m (f b)
  radial_then = mode_then m f _ ∙ ap (λ u. u >>= λ b. in_mode m (f b)) (mode_radial m size row value t plain)

  pub mode_row_passed : {a : A} {q : ℕ} → passed a q ≡ walk t s p
      → run (in_mode m ((t >>= λ a. radial_data (size a) (row a) >> give (value a)) >>= f)) s p ≡ after_row (kept_of m (row a (slice q (q + size a) s))) (run (in_mode m (f (value a))) s (q + size a))
  mode_row_passed e = ap (λ u. run u s p) radial_then ∙ row_passed size (λ a bytes. kept_of m (row a bytes)) value (λ b. in_mode m (f b)) t plain s p e

  pub mode_row_halted : {x : Refusal} {q : ℕ} → halted x q ≡ walk t s p → refused x ≡ run (in_mode m ((t >>= λ a. radial_data (size a) (row a) >> give (value a)) >>= f)) s p
  mode_row_halted e = row_halted size (λ a bytes. kept_of m (row a bytes)) value (λ b. in_mode m (f b)) t plain s p e ∙ ap (λ u. run u s p) (sym radial_then)
