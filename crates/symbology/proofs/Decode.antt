-- What a plan and the terms say of a body's picture, a law for each answer of the code. Assumes nothing.
use Rattle.std.proofs.Common.{◌≡◌, ℕ, ◌-◌, ◌*◌, ◌≤◌, Bool, true, false, not, ltb, List, [], length, take, drop, sym, refl, ap, ap₂, ◌∙◌, ltb-false}
use lib.Ieee.{Float}
use Rattle.wire.specs.Refusal.{Refusal, kind, refusal_of}
use Rattle.wire.specs.Result.{Result, accepted, answer, refused, refuse, then, lent}
use Rattle.wire.specs.Reading.{run, Given}
use Rattle.wire.proofs.Readings.{part_slice}
use Rattle.wire.specs.declared.error.Level3DecodeError.{Level3DecodeError}
use Rattle.symbology.specs.Symbology.{Sweep, symbology}
use Rattle.symbology.specs.Answers.{step_of, Picture, joined, picture_of, asked, room_in, admit, passing, decode_for, figures_in, Decodes}
use Rattle.symbology.specs.Merge.{usable}
use Rattle.symbology.specs.Walk.{in_mode, any_walk, Plotted, on_terms}
use Rattle.symbology.specs.declared.figures.Figures.{Figures}
use Rattle.symbology.specs.declared.figures.Terms.{Terms}
use Rattle.std.specs.Prelude as Std
use Rattle.std.specs.Result.{result_and}
use Rattle.wire.proofs.Results.{both, one_value, through, passed}

-- the figures of what was read
abbrev pub figures_read : Result (Given Sweep) → Result Figures
figures_read R = then R λ g. accepted g.value.figures

pub plan_figures : {m : Bool} {body : List ℕ} {R : Result (Given Sweep)} {f : Figures} {from to at : ℕ} → Plotted m f from to at body R → accepted f ≡ figures_read R
plan_figures p = sym (ap figures_read p.whole)

-- ---- the terms

pub admit_room : (t : Terms) (na nc : ℕ) (f : Figures) → accepted tt ≡ admit t na nc f → (f.n_radials ≤ na) × (f.n_radials * f.n_bins ≤ nc)
unfolding admit room_in
admit_room t na nc f h =
    passed (not (asked t.packets f.packet)) _ _ tt (sym h) λ _ e₁.
    through (step_of t.packets) _ tt e₁ λ _ _ e₂.
    passed (ltb na f.n_radials) _ _ tt e₂ λ a e₃.
    passed (ltb nc (f.n_radials * f.n_bins)) _ _ tt e₃ λ b _.
    (ltb-false _ _ a, ltb-false _ _ b)

-- a test before two steps
pub refuse_then : {A B : Type 0} (b : Bool) (x : Refusal) (r : Result A) (k : A → Result B) → refuse b x (then r k) ≡ then (refuse b x r) k
refuse_then true x r k = refl
refuse_then false x r k = refl

-- the tests one after the other, by their answers
abbrev fine : Result (Unit {0})
fine = accepted tt

pub use_is : (t : Terms) (f : Figures) → then (refuse (not (asked t.packets f.packet)) (kind 10 []) fine) (λ _. step_of t.packets) ≡ usable t f
unfolding usable
use_is t f = sym (refuse_then (not (asked t.packets f.packet)) (kind 10 []) fine (λ _. step_of t.packets))

pub admit_is : (t : Terms) (na nc : ℕ) (f : Figures) → then (usable t f) (λ _. room_in t na nc f.n_radials (f.n_radials * f.n_bins)) ≡ admit t na nc f
unfolding admit usable
admit_is t na nc f = sym (by (not (asked t.packets f.packet)) (step_of t.packets))
  where
    by : (b : Bool) (c : Result (Unit {0})) → refuse b (kind 10 []) (then c λ _. room_in t na nc f.n_radials (f.n_radials * f.n_bins))
        ≡ then (refuse b (kind 10 []) c) λ _. room_in t na nc f.n_radials (f.n_radials * f.n_bins)
    by true c = refl
    by false c = refl

-- and those of the results, the first refusal of two
pub used : (t : Terms) (f : Figures) (r q : Std.Result (Unit {0}) Level3DecodeError) {x : Std.Result (Unit {0}) Level3DecodeError} → x ≡ result_and r q
    → answer r ≡ refuse (not (asked t.packets f.packet)) (kind 10 []) (accepted tt) → answer q ≡ step_of t.packets → answer x ≡ usable t f
used t f r q is h k = ap answer is ∙ both r q ∙ ap₂ (λ r q. then r λ _. q) h k ∙ use_is t f

pub admitted : (t : Terms) (na nc : ℕ) (f : Figures) (r q : Std.Result (Unit {0}) Level3DecodeError)
    {x : Std.Result (Unit {0}) Level3DecodeError} → x ≡ result_and r q → answer r ≡ usable t f → answer q ≡ room_in t na nc f.n_radials (f.n_radials * f.n_bins)
    → answer x ≡ admit t na nc f
admitted t na nc f r q is h k = ap answer is ∙ both r q ∙ ap₂ (λ r q. then r λ _. q) h k ∙ admit_is t na nc f

-- ---- a plan whose figures are tested

module _ (test : Figures → Result (Unit {0})) (R : Result (Given Sweep)) where
  pub refused_before : {x : Refusal} → refused x ≡ R → refused x ≡ passing test R
  unfolding passing
  refused_before h = rw (← h) refl

  module _ {m : Bool} {body : List ℕ} {f : Figures} {from to at : ℕ} where
    pub not_passed : {x : Refusal} → Plotted m f from to at body R → refused x ≡ test f → refused x ≡ passing test R
    unfolding passing
    not_passed p h = rw (p.whole, ← h) refl

    pub is_passed : Plotted m f from to at body R → accepted tt ≡ test f → Plotted m f from to at body (passing test R)
    unfolding passing
    is_passed p h =
        record {
          radials = p.radials;
          end = p.end;
          ordered = p.ordered;
          inside = p.inside;
          radials_are = p.radials_are;
          whole = rw (p.whole, ← h);
        }

    pub was_passed : Plotted m f from to at body (passing test R) → accepted tt ≡ test f
    unfolding passing
    was_passed p =
        through R (λ g. then (test g.value.figures) λ _. accepted g) _ p.whole λ g _ e.
        through {C = accepted tt ≡ test f} (test g.value.figures) (λ _. accepted g) _ e λ u h same.
        sym h ∙ ap (λ (x : Given Sweep). test x.value.figures) (one_value same)

-- what is made of a reading and then asked of its figures, the same on terms
pub asked_on : {P C : Type 0} (t : Terms) (na nc : ℕ) (make : Given Sweep → P) (figures : P → Figures) → ((g : Given Sweep) → figures (make g) ≡ g.value.figures)
    → (next : P → Result C) (R : Result (Given Sweep))
    → then (then R λ g. accepted (make g)) (λ p. then (admit t na nc (figures p)) λ _. next p) ≡ then (on_terms t na nc R) λ g. next (make g)
unfolding passing
asked_on t na nc make figures same next (accepted g) = rw (same g) (by (admit t na nc g.value.figures))
  where
    by : (z : Result (Unit {0})) → then z (λ _. next (make g)) ≡ then (then z λ _. accepted g) λ g. next (make g)
    by (accepted u) = refl
    by (refused x) = refl
asked_on t na nc make figures same next (refused x) = refl

-- ---- the picture

abbrev drawn : Figures → Given (List Float) → Picture
drawn f g = record { figures = f; azimuths = g.value; codes = joined g.rows }

abbrev pictured : Given Sweep → Picture
pictured g = record { figures = g.value.figures; azimuths = g.value.azimuths; codes = joined g.rows }

same_figures_lem : (R : Result (Given Sweep)) → figures_read R ≡ figures_in (then R λ g. accepted (pictured g))
same_figures_lem (accepted g) = refl
same_figures_lem (refused x) = refl

pub body_figures : (body : List ℕ) → figures_read (run (in_mode false symbology) body 0) ≡ figures_in (picture_of body)
unfolding picture_of in_mode
body_figures body = same_figures_lem (run symbology body 0)

decode_by : (t : Terms) (body : List ℕ) (na nc : ℕ) → decode_for t body na nc ≡ then (on_terms t na nc (run (in_mode false symbology) body 0)) λ g. accepted (pictured g)
unfolding decode_for picture_of in_mode
decode_by t body na nc = asked_on t na nc pictured (λ p. p.figures) (λ g. refl) accepted (run symbology body 0)

pub figures_on_terms : (t : Terms) (body : List ℕ) (na nc : ℕ) → figures_read (on_terms t na nc (run (in_mode false symbology) body 0)) ≡ figures_in (decode_for t body na nc)
figures_on_terms t body na nc = rw (decode_by t body na nc) (same_figures_lem (on_terms t na nc (run (in_mode false symbology) body 0)))

-- the radials, in the part of the body that the code takes
abbrev pub radials_in : Bool → List ℕ → Figures → ℕ → ℕ → ℕ → Result (Given (List Float))
radials_in m body f from to at = run (in_mode m (any_walk f.packet f.n_radials f.n_bins f.n_radials 0)) (take (to - from) (drop from body)) at

pub radials_there : (m : Bool) (body : List ℕ) {f : Figures} {from to at : ℕ} {R : Result (Given Sweep)} (p : Plotted m f from to at body R) → radials_in m body f from to at ≡ accepted p.radials
radials_there m body {f} {from} {to} {at} p = rw (part_slice body from to p.ordered) p.radials_are

-- the figures, and the buffers that held az and cs
answered : {e : ℕ → ℕ → Result Picture} {d : Result Picture} (az : List Float) (cs : List ℕ) {r : Std.Result Figures Level3DecodeError} → d ≡ e (length az) (length cs) → answer r ≡ figures_in d
    → {az' : List Float} {cs' : List ℕ} → az' ≡ lent d (λ p. p.azimuths) az → cs' ≡ lent d (λ p. p.codes) cs → Decodes e az az' cs cs' r
answered az cs e i a c =
    record {
      answered = i ∙ ap figures_in e;
      azimuths = a ∙ ap (λ d. lent d (λ p. p.azimuths) az) e;
      codes = c ∙ ap (λ d. lent d (λ p. p.codes) cs) e;
    }

module _ (t : Terms) (body : List ℕ) (az : List Float) (cs : List ℕ) where
  abbrev Decoded : List Float → List ℕ → Std.Result Figures Level3DecodeError → Type 0
  Decoded az' cs' = Decodes (decode_for t body) az az' cs cs'

  -- the body's reading on the terms, with these buffers
  abbrev R : Result (Given Sweep)
  R = on_terms t (length az) (length cs) (run (in_mode false symbology) body 0)

  pub decode_refused : {x : Level3DecodeError} → refused (refusal_of x) ≡ R → Decoded az cs (Std.Err x)
  decode_refused {x} h =
      let d : refused (refusal_of x) ≡ decode_for t body (length az) (length cs) = rw (decode_by t body (length az) (length cs), ← h) refl in
      answered az cs d refl refl refl

  pub decode_is : {f : Figures} {from to at : ℕ} (p : Plotted false f from to at body R) {az' : List Float} {cs' : List ℕ}
      → az' ≡ lent (radials_in false body f from to at) (λ g. g.value) az → cs' ≡ lent (radials_in false body f from to at) (λ g. joined g.rows) cs
      → Decoded az' cs' (Std.Ok f)
  decode_is {f} p a c =
      let d : accepted (drawn f p.radials) ≡ decode_for t body (length az) (length cs) = rw (decode_by t body (length az) (length cs), p.whole) refl in
      let e = radials_there false body p in
      answered az cs d refl (a ∙ ap (λ r. lent r (λ g. g.value) az) e) (c ∙ ap (λ r. lent r (λ g. joined g.rows) cs) e)
