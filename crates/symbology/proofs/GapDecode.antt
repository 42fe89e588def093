-- What a plan and the terms say of a body's picture with gaps, and of both readings, a law for each answer of the code. Assumes nothing.
use Rattle.std.proofs.Common.{◌≡◌, ℕ, ◌<◌, ◌≤◌, Bool, true, false, ◌&&◌, ltb, List, [], ◌∷◌, map, length, refl, ap, ◌∙◌, arith, ltb-false, ltb-true, le-ltb, lt-ltb}
use lib.Ieee.{Float}
use Rattle.wire.specs.Refusal.{kind, buffer, refusal_of}
use Rattle.wire.specs.Result.{Result, accepted, answer, refused, refuse, then, lent}
use Rattle.wire.specs.Reading.{run, gaps, Given}
use Rattle.wire.specs.declared.error.Buffer.TheVariants as Buffer
use Rattle.wire.specs.declared.error.Level3DecodeError.{Level3DecodeError}
use Rattle.wire.specs.declared.error.Level3DecodeError.TheVariants as Error
use Rattle.symbology.specs.Symbology.{Sweep, symbology}
use Rattle.symbology.specs.Answers.{GapPicture, joined, shown, mark_of, picture_with, gap_picture_of, gaps_on_terms, gap_decode_for, gap_figures_in, DecodesWithGaps}
use Rattle.symbology.specs.Walk.{in_mode, codes_in, marks_in, DecodesIn, Plotted, on_terms}
use Rattle.symbology.proofs.Decode.{radials_in, radials_there, asked_on, decode_refused, decode_is}
use Rattle.symbology.specs.declared.figures.Figures.{Figures}
use Rattle.symbology.specs.declared.figures.Terms.{Terms}
use Rattle.std.specs.Prelude as Std

abbrev drawn : Figures → Given (List Float) → GapPicture
drawn f g = picture_with (record { figures = f; azimuths = g.value }) g.rows

abbrev pictured : Given Sweep → GapPicture
pictured g = picture_with g.value g.rows

abbrev roomy : ℕ → GapPicture → Result GapPicture
roomy nm p = refuse (ltb nm p.picture.figures.n_radials) (kind 36 (buffer Buffer.Marks ∷ [])) (accepted p)

gap_by : (t : Terms) (body : List ℕ) (na nc nm : ℕ)
    → gap_decode_for t body na nc nm ≡ then (on_terms t na nc (run (in_mode true symbology) body 0)) λ g. roomy nm (pictured g)
unfolding gap_decode_for gaps_on_terms gap_picture_of in_mode
gap_by t body na nc nm = asked_on t na nc pictured (λ p. p.picture.figures) (λ g. refl) (roomy nm) (run (gaps symbology) body 0)

-- the figures, and the buffers that held az, cs and ms
pub answered : {e : ℕ → ℕ → ℕ → Result GapPicture} {d : Result GapPicture} (az : List Float) (cs ms : List ℕ) {r : Std.Result Figures Level3DecodeError} → d ≡ e (length az) (length cs) (length ms)
    → answer r ≡ gap_figures_in d → {az' : List Float} {cs' ms' : List ℕ} → az' ≡ lent d (λ p. p.picture.azimuths) az → cs' ≡ lent d (λ p. p.picture.codes) cs
    → ms' ≡ lent d (λ p. p.marks) ms → DecodesWithGaps e az az' cs cs' ms ms' r
answered az cs ms e i a c m =
    record {
      answered = i ∙ ap gap_figures_in e;
      azimuths = a ∙ ap (λ d. lent d (λ p. p.picture.azimuths) az) e;
      codes = c ∙ ap (λ d. lent d (λ p. p.picture.codes) cs) e;
      marks = m ∙ ap (λ d. lent d (λ p. p.marks) ms) e;
    }

module _ (t : Terms) (body : List ℕ) (az : List Float) (cs ms : List ℕ) where
  abbrev Decoded : List Float → List ℕ → List ℕ → Std.Result Figures Level3DecodeError → Type 0
  Decoded az' cs' ms' = DecodesWithGaps (gap_decode_for t body) az az' cs cs' ms ms'

  abbrev D : Result GapPicture
  D = gap_decode_for t body (length az) (length cs) (length ms)

  by : D ≡ then (on_terms t (length az) (length cs) (run (in_mode true symbology) body 0)) λ g. roomy (length ms) (pictured g)
  by = gap_by t body (length az) (length cs) (length ms)

  pub gap_refused : {x : Level3DecodeError} → refused (refusal_of x) ≡ on_terms t (length az) (length cs) (run (in_mode true symbology) body 0) → Decoded az cs ms (Std.Err x)
  gap_refused {x} h = let d : refused (refusal_of x) ≡ D = rw (by, ← h) refl in answered az cs ms d refl refl refl refl

  module _ {f : Figures} {from to at : ℕ} (p : Plotted true f from to at body (on_terms t (length az) (length cs) (run (in_mode true symbology) body 0))) where
    pub gap_no_marks : length ms < f.n_radials → Decoded az cs ms (Std.Err (Error.BufferTooShort Buffer.Marks))
    gap_no_marks l =
        let d : refused (kind 36 (buffer Buffer.Marks ∷ [])) ≡ D = rw (by, p.whole, lt-ltb (length ms) f.n_radials l) refl in
        answered az cs ms d refl refl refl refl

    pub gap_is : {az' : List Float} {cs' ms' : List ℕ} → f.n_radials ≤ length ms
        → az' ≡ lent (radials_in true body f from to at) (λ g. g.value) az → cs' ≡ lent (radials_in true body f from to at) (λ g. codes_in true f.n_bins g.rows) cs
        → ms' ≡ lent (radials_in true body f from to at) (λ g. map mark_of g.rows) ms → Decoded az' cs' ms' (Std.Ok f)
    unfolding codes_in
    gap_is l a c m =
        let d : accepted (drawn f p.radials) ≡ D = rw (by, p.whole, le-ltb (length ms) f.n_radials l) refl in
        let e = radials_there true body p in
        answered az cs ms d refl (a ∙ ap (λ r. lent r (λ g. g.value) az) e)
        (c ∙ ap (λ r. lent r (λ g. joined (map (shown f.n_bins) g.rows)) cs) e)
        (m ∙ ap (λ r. lent r (λ g. map mark_of g.rows) ms) e)

-- ---- with gaps or without

module _ (t : Terms) (body : List ℕ) (az : List Float) (cs ms : List ℕ) where
  -- the body's reading on the terms, with these buffers
  abbrev R : Bool → Result (Given Sweep)
  R m = on_terms t (length az) (length cs) (run (in_mode m symbology) body 0)

  pub in_refused : (m : Bool) (x : Level3DecodeError) → refused (refusal_of x) ≡ R m → DecodesIn m t body az az cs cs ms ms (Std.Err x)
  unfolding DecodesIn
  in_refused true x h = gap_refused t body az cs ms h
  in_refused false x h = decode_refused t body az cs h

  pub in_no_marks : (m : Bool) {f : Figures} {from to at : ℕ} (p : Plotted m f from to at body (R m))
      → (m && ltb (length ms) f.n_radials) ≡ true → DecodesIn m t body az az cs cs ms ms (Std.Err (Error.BufferTooShort Buffer.Marks))
  unfolding DecodesIn
  in_no_marks true {f} p l = gap_no_marks t body az cs ms p (ltb-true (length ms) f.n_radials l)
  in_no_marks false p l = absurd (let z : ◌≡◌ {A = ℕ} 0 1 = cc in omega arith)

  pub in_is : (m : Bool) {f : Figures} {from to at : ℕ} (p : Plotted m f from to at body (R m))
      → (m && ltb (length ms) f.n_radials) ≡ false → {az' : List Float} {cs' ms' : List ℕ}
      → az' ≡ lent (radials_in m body f from to at) (λ g. g.value) az → cs' ≡ lent (radials_in m body f from to at) (λ g. codes_in m f.n_bins g.rows) cs
      → ms' ≡ lent (radials_in m body f from to at) (λ g. marks_in m g.rows) ms → DecodesIn m t body az az' cs cs' ms ms' (Std.Ok f)
  unfolding DecodesIn codes_in marks_in
  in_is true {f} p l a c m = gap_is t body az cs ms p (ltb-false (length ms) f.n_radials l) a c m
  in_is false p l a c m = decode_is t body az cs p a c

pub marks_room : (m : Bool) (n k : ℕ) → (m && ltb n k) ≡ false → m ≡ true → k ≤ n
marks_room m n k h e = ltb-false n k (rw e at h)
