-- The sweep reading where the buffer of physical values may be shorter than that of the codes, by that on a buffer as long. Assumes nothing.
use Rattle.std.proofs.Common.{◌≡◌, ℕ, zero, suc, ◌*◌, ◌≤◌, min, Bool, true, false, leb, List, [], ◌∷◌, map, length, take, sym, refl, ap, ◌∙◌, arith, length-take, take_all, le-ltb, leb-false, leb-true}
use native.Mathlib.Nat.{min-eq_left, min-eq_right, min-le_left, min-le_right}
use lib.Ieee.{Float, nan}
use lib.ListN.{length-map}
use lib.Seq.{take-length, take-append-le}
use Rattle.wire.specs.Refusal.{Refusal}
use Rattle.wire.specs.declared.error.Level3DecodeError.{Level3DecodeError}
use Rattle.wire.specs.Result.{Result, accepted, answer, refused, then, lent}
use Rattle.scale.specs.Physical.{physical_of, fill_of}
use Rattle.scale.specs.declared.scaling.DeclaredLinearScale.{DeclaredLinearScale}
use Rattle.std.specs.Prelude.{Option, Ok, Err}
use Rattle.scale.specs.declared.physical.Scheme.{Scheme}
use Rattle.symbology.specs.Answers.{decode_for}
use Rattle.symbology.specs.declared.figures.Figures.{Figures}
use Rattle.symbology.specs.declared.figures.Terms.{Terms}
use Rattle.sweep.specs.declared.plan.Head.{Head}
use Rattle.sweep.specs.declared.sweep.Sweep.{Sweep}
use Rattle.sweep.specs.Sweep.{Accepted, sweep_of, sweep_in, SweepAnswer, sweep_with, buffers, Ran}
use Rattle.show.specs.InPart.{ReadInPart}
use Rattle.sweep.proofs.Parts.{block_start, parts, sizes}
use Rattle.sweep.proofs.Reading as reading

-- ---- lists

map_take : {A B : Type 0} (f : A → B) (n : ℕ) (l : List A) → map f (take n l) ≡ take n (map f l)
map_take f zero l = refl
map_take f (suc n) [] = refl
map_take f (suc n) (x ∷ l) = ap (λ r. f x ∷ r) (map_take f n l)

take_least : {A : Type 0} (l : List A) (k : ℕ) → take (min (length l) k) l ≡ take k l
take_least l k = go (leb k (length l)) refl
  where
    go : (b : Bool) → leb k (length l) ≡ b → take (min (length l) k) l ≡ take k l
    go true e = ap (λ n. take n l) (min-eq_right (leb-true k (length l) e))
    go false e =
        let h : length l ≤ k = omega (arith, leb-false k (length l) e) in
        ap (λ n. take n l) (min-eq_left h) ∙ take-length l ∙ sym (take_all k l h)

-- ---- a sweep that was read

refused_sweep : (z : Result Accepted) {x : Refusal} → refused x ≡ sweep_in z → z ≡ refused x
refused_sweep (accepted q) e = let z : ◌≡◌ {A = ℕ} 0 1 = cc in absurd (omega arith)
refused_sweep (refused y) e = ap refused (same (sym e))
  where
    same : {x y : Refusal} → ◌≡◌ {A = Result Sweep} (refused x) (refused y) → x ≡ y
    same h = cc

accepted_sweep : (z : Result Accepted) {s : Sweep} → accepted s ≡ sweep_in z → (q : Accepted) × (z ≡ accepted q) × (q.sweep ≡ s)
accepted_sweep (accepted q) {s} e = let same : ◌≡◌ {A = Sweep} q.sweep s = cc in (q, refl, same)
accepted_sweep (refused x) e = let z : ◌≡◌ {A = ℕ} 0 1 = cc in absurd (omega arith)

-- a buffer of physical values as long as that of the codes
abbrev pub full : List ℕ → List Float
full cs = map (λ _. nan) cs

module _ (scheme : Scheme) (file : List ℕ) (clock : ℕ) (body : List ℕ) (az : List Float) (cs : List ℕ) (ph : List Float) where
  abbrev S : ℕ → Result Accepted
  S = sweep_of scheme file clock body (length az) (length cs)

  same : S (length (full cs)) ≡ S (length cs)
  same = ap S (length-map cs (λ _. nan))

  -- what the code says and leaves
  abbrev Reads : SweepAnswer → List Float → List ℕ → List Float → Type 0
  Reads r az' cs' ph' = ReadInPart scheme file clock body (buffers az cs ph) (buffers az' cs' ph') r

  -- the same of the long buffer
  abbrev Told : SweepAnswer → List Float → List ℕ → List Float → Type 0
  Told r az' cs' ph' = Ran scheme file clock body (buffers az cs (full cs)) (buffers az' cs' ph') r

  reads : {r : SweepAnswer} {az' ph' values : List Float} {cs' : List ℕ} → Told r az' cs' values → ph' ≡ lent (S (length cs)) (λ p. take (length ph) p.physical) ph
      → Reads r az' cs' ph'
  reads t v =
      record {
        answered = t.answered ∙ ap sweep_in same;
        azimuths = t.azimuths ∙ ap (λ d. lent d (λ p. p.azimuths) az) same;
        codes = t.codes ∙ ap (λ d. lent d (λ p. p.codes) cs) same;
        physical = v;
      }

  -- a refusal there is one here, and writes nothing
  pub refuses : {x : Level3DecodeError} {az' values : List Float} {cs' : List ℕ} → Told (Err x) az' cs' values → Reads (Err x) az' cs' ph
  refuses t = reads t (sym (ap (λ d. lent d (λ p. take (length ph) p.physical) ph) (sym same ∙ refused_sweep _ t.answered)))

-- ---- after symbology's entry has accepted

module _ {scheme : Scheme} {file : List ℕ} {clock : ℕ} {body : List ℕ} {az : List Float} {cs : List ℕ} (ph : List Float) {h : Head} {d : Result (Option DeclaredLinearScale)} {t : Terms} {f : Figures}
    (w : reading.Decoded scheme file clock body az cs (full cs) h d t f) {cs' : List ℕ} (c : cs' ≡ lent (decode_for t body (length az) (length cs)) (λ p. p.codes) cs) where
  abbrev Z : Result Accepted
  Z = sweep_of scheme file clock body (length az) (length cs) (length (full cs))

  -- the answer on the long buffer, and the sweep that it is of
  on_full : (accepted (record { token = h.token; fields = h.fields; time = h.time; declared = (reading.drawn_here w).admitted.declared; figures = f }) ≡ sweep_in Z)
      × (cs' ≡ lent Z (λ p. p.codes) cs)
  on_full = let t : Ran scheme file clock body (buffers az cs (full cs)) (buffers _ cs' _) (Ok (record { token = h.token; fields = h.fields; time = h.time; declared = (reading.drawn_here w).admitted.declared; figures = f })) =
      reading.read w c (ap (λ y. sweep_with h y f) (sym (reading.drawn_here w).admitted.declares)) refl refl in (t.answered, t.codes)

  found : (q : Accepted) × (Z ≡ accepted q) × (q.sweep ≡ record { token = h.token; fields = h.fields; time = h.time; declared = (reading.drawn_here w).admitted.declared; figures = f })
  found = accepted_sweep Z on_full.0

  abbrev q : Accepted
  q = found.0

  many : length q.codes ≡ f.n_radials * f.n_bins
  many =
      (sizes scheme file clock body (length az) (length cs) (length (full cs)) q found.1).codes
      ∙ ap (λ (s : Sweep). s.figures.n_radials * s.figures.n_bins) found.2

  valued : q.physical ≡ map (physical_of scheme file h.block) q.codes
  valued =
      let p = parts scheme file clock (length az) (length cs) (length (full cs)) body q found.1 in
      let same : ◌≡◌ {A = Head} p.head h = cc in
      p.physical ∙ ap (λ (x : Head). map (physical_of scheme file x.block) q.codes) same

  -- the values of the first n cells, as many as there are and as there is room for
  module _ {n : ℕ} (least : n ≡ min (f.n_radials * f.n_bins) (length ph)) where
    front : take n cs' ≡ take n q.codes
    front =
        let room : n ≤ length q.codes = rw (many, least) (min-le_left _ _) in
        ap (take n) (on_full.1 ∙ ap (λ d. lent d (λ p. p.codes) cs) found.1) ∙ take-append-le n q.codes _ room

    cells : take n q.physical ≡ take (length ph) q.physical
    cells =
        let long : length q.physical ≡ f.n_radials * f.n_bins = ap length valued ∙ length-map q.codes _ ∙ many in
        ap (λ k. take k q.physical) (least ∙ ap (λ k. min k (length ph)) (sym long)) ∙ take_least q.physical (length ph)

    filled : fill_of scheme file h.block (take n cs') (length ph) ≡ accepted (take (length ph) q.physical)
    unfolding fill_of
    filled =
        let room : length (take n q.codes) ≤ length ph = simp length-take (omega (arith, least, min-le_right (f.n_radials * f.n_bins) (length ph))) in
        rw (front, (block_start scheme file clock h (sym w.head_is)).3, le-ltb (length ph) (length (take n q.codes)) room)
        (ap accepted (map_take _ n q.codes ∙ ap (take n) (sym valued) ∙ cells))

    -- an answer of the code that can't be
    pub fill_accepts : {C : Type 0} {x : Refusal} → ◌≡◌ {A = Result (Unit {0})} (refused x) (then (fill_of scheme file h.block (take n cs') (length ph)) λ _. accepted tt) → C
    fill_accepts {C} {x} e =
        let e' : ◌≡◌ {A = Result (Unit {0})} (refused x) (accepted tt) = e ∙ ap {B = Result (Unit {0})} (λ r. then r λ _. accepted tt) filled in
        let z : ◌≡◌ {A = ℕ} 0 1 = cc in
        absurd (omega arith)

    pub read : {r : SweepAnswer} {az' ph' : List Float} → answer r ≡ sweep_with h d f
        → az' ≡ lent (decode_for t body (length az) (length cs)) (λ p. p.azimuths) az
        → ph' ≡ lent (fill_of scheme file h.block (take n cs') (length ph)) (λ values. values) ph
        → Reads scheme file clock body az cs ph r az' cs' ph'
    read is a v =
        reads scheme file clock body az cs ph (reading.read w c is a refl)
        (v ∙ ap (λ r. lent r (λ values. values) ph) filled
        ∙ sym (ap (λ d. lent d (λ p. take (length ph) p.physical) ph) (sym (same scheme file clock body az cs ph) ∙ found.1)))
