-- An accepted sweep: the head, the body and the picture that it came from, and how many places it fills. Assumes nothing.
use Prim.Native.Nat.{ℕ, ◌+◌, ◌*◌, ◌≤◌}
use mathlib.Core.List.{List, map}
use mathlib.Core.Bool.{true, not}
use mathlib.Core.Path.{◌≡◌, refl, sym, ap, ◌∙◌, subst}
use lib.ListN.{length, length-map}
use lib.Ieee.{Float}
use lib.Dec.{ltb}
use borrow.Author.Tests.{not-false, ltb-false}
use Rattle.wire.specs.Result.{accepted}
use Rattle.wire.specs.Reading.{Given, run}
use Rattle.head.specs.Header.{token, message_header, scan_time}
use Rattle.head.specs.Pdb.{pdb_fields}
use Rattle.scale.specs.Physical.{scale_fields, declared_scale, physical_of}
use Rattle.scale.specs.declared.physical.Scheme.{Scheme}
use Rattle.symbology.specs.declared.figures.Figures.{Figures}
use Rattle.symbology.specs.Answers.{joined, Picture, picture_of}
use Rattle.symbology.specs.Symbology as Symbology
use Rattle.symbology.specs.Symbology.{symbology}
use Rattle.sweep.specs.declared.plan.Head.{Head}
use Rattle.sweep.specs.Sweep.{head_of, allowed, room_for, Accepted, finish, sweep_of}
use Rattle.wire.proofs.Results.{one_value, through, passed}
use Rattle.symbology.proofs.RowPlaces.{codes_long}
use Rattle.symbology.proofs.Centres.{centred}

-- the block starts at message header + 18, and the scale fields are read from there
pub block_start : (scheme : Scheme) (file : List ℕ) (clock : ℕ) (h : Head) → head_of scheme file clock ≡ accepted h
    → (header : ℕ) × (message_header file ≡ accepted header) × (h.block ≡ header + 18) × (scale_fields scheme file h.block ≡ accepted h.scaling)
unfolding head_of
block_start scheme file clock h e =
    through (token file) _ h e λ at _ e₁.
    through (message_header file) _ h e₁ λ header is e₂.
    through (pdb_fields file (header + 18)) _ h e₂ λ fields _ e₃.
    through (scan_time fields.scan_days fields.scan_seconds clock) _ h e₃ λ time _ e₄.
    through (scale_fields scheme file (header + 18)) _ h e₄ λ scaling es e₅.
    let y = sym (one_value e₅) in
    let b : h.block ≡ header + 18 = ap (λ (x : Head). x.block) y in
    (header, is, b, rw b (es ∙ ap (λ (x : Head). accepted x.scaling) (sym y)))

-- a picture with other codes
abbrev pub picture : Accepted → List ℕ → Picture
picture p codes = record { figures = p.sweep.figures; azimuths = p.azimuths; codes = codes }

-- what is accepted with those codes
abbrev pub with_codes : (ℕ → Float) → Accepted → List ℕ → Accepted
with_codes value p codes = record { sweep = p.sweep; azimuths = p.azimuths; codes = codes; physical = map value codes }

module _ (scheme : Scheme) (file : List ℕ) (clock : ℕ) (na nc np : ℕ) where
  -- what was read where the body b gave p
  pub record Parts (b : List ℕ) (p : Accepted) : Type 0 where
    pub head : Head
    pub head_is : head_of scheme file clock ≡ accepted head
    pub body : Given Symbology.Sweep
    pub body_is : run symbology b 0 ≡ accepted body
    pub figures : body.value.figures ≡ p.sweep.figures
    pub azimuths : body.value.azimuths ≡ p.azimuths
    pub codes : joined body.rows ≡ p.codes
    pub physical : p.physical ≡ map (physical_of scheme file head.block) p.codes
    -- the scheme works on the packet, and its scale is declared
    pub declares : declared_scale head.scaling ≡ accepted p.sweep.declared
    pub works : allowed scheme p.sweep.figures.packet ≡ true
    -- what stands after the symbology looks at no code
    pub finishes : (l : List ℕ) → finish scheme file na nc np head (picture p l) ≡ accepted (with_codes (physical_of scheme file head.block) p l)

  pub parts : (b : List ℕ) (p : Accepted) → sweep_of scheme file clock b na nc np ≡ accepted p → Parts b p
  unfolding sweep_of picture_of finish
  parts b p acc =
      through (head_of scheme file clock) _ p acc λ h eh e₁.
      through (picture_of b) _ p e₁ λ q eq e₂.
      through (run symbology b 0) _ q eq λ g eg e₃.
      passed (not (allowed scheme q.figures.packet)) _ _ p e₂ λ t e₄.
      through (declared_scale h.scaling) _ p e₄ λ declared ed e₅.
      through (room_for na nc np q.figures) _ p e₅ λ u eu e₆.
      subst (Parts b) (one_value e₆)
      (record {
        head = h;
        head_is = eh;
        body = g;
        body_is = eg;
        figures = cc;
        azimuths = cc;
        codes = cc;
        physical = refl;
        declares = ed;
        works = not-false _ t;
        finishes = λ l. rw (t, ed, eu);
      })

-- the codes of an accepted sweep had room
pub codes_fit : (scheme : Scheme) (file : List ℕ) (clock : ℕ) (b : List ℕ) (na nc np : ℕ) (p : Accepted) → sweep_of scheme file clock b na nc np ≡ accepted p
    → p.sweep.figures.n_radials * p.sweep.figures.n_bins ≤ nc
unfolding sweep_of finish room_for
codes_fit scheme file clock b na nc np p acc =
    through (head_of scheme file clock) _ p acc λ h eh e₁.
    through (picture_of b) _ p e₁ λ q eq e₂.
    passed (not (allowed scheme q.figures.packet)) _ _ p e₂ λ t e₃.
    through (declared_scale h.scaling) _ p e₃ λ declared ed e₄.
    through (room_for na nc np q.figures) _ p e₄ λ u eu e₅.
    passed (ltb na q.figures.n_radials) _ _ u eu λ _ e₆.
    passed (ltb nc (q.figures.n_radials * q.figures.n_bins)) _ _ u e₆ λ c _.
    subst (λ (x : Accepted). x.sweep.figures.n_radials * x.sweep.figures.n_bins ≤ nc) (one_value e₅) (ltb-false _ _ c)

-- how many places an accepted sweep fills
pub record Sizes (p : Accepted) : Type 0 where
  pub azimuths : length p.azimuths ≡ p.sweep.figures.n_radials
  pub codes : length p.codes ≡ p.sweep.figures.n_radials * p.sweep.figures.n_bins
  pub physical : length p.physical ≡ p.sweep.figures.n_radials * p.sweep.figures.n_bins

pub sizes : (scheme : Scheme) (file : List ℕ) (clock : ℕ) (b : List ℕ) (na nc np : ℕ) (p : Accepted) → sweep_of scheme file clock b na nc np ≡ accepted p → Sizes p
sizes scheme file clock b na nc np p acc =
    let q = parts scheme file clock na nc np b p acc in
    let long : length p.codes ≡ p.sweep.figures.n_radials * p.sweep.figures.n_bins =
    ap length (sym q.codes) ∙ codes_long b q.body q.body_is p.sweep.figures q.figures in
    record {
      azimuths = ap length (sym q.azimuths) ∙ centred b q.body q.body_is ∙ ap (λ (f : Figures). f.n_radials) q.figures;
      codes = long;
      physical = ap length q.physical ∙ length-map p.codes _ ∙ long;
    }
