-- The sweep reading by way of symbology's entry, a law for each answer of the code. Assumes nothing.
use Prim.Native.Nat.{ℕ, ◌*◌, ◌≤◌}
use Rattle.std.specs.Prelude.{Option, Some}
use Rattle.std.specs.Prelude as Std
use mathlib.Core.List.{List, [], ◌∷◌, map, ◌++◌}
use mathlib.Core.Bool.{Bool, true, false, not}
use mathlib.Core.Path.{◌≡◌, refl, sym, ap, subst, ◌∙◌}
use lib.Dec.{ltb}
use lib.ListN.{length, take, drop}
use lib.Seq.{take-append_seam}
use Rattle.wire.specs.declared.error.Level3DecodeError.{Level3DecodeError}
use lib.Ieee.{Float, le}
use borrow.Author.Tests.{le-ltb, ltb-false}
use Rattle.wire.specs.Float.{f32}
use Rattle.wire.specs.Refusal.{Refusal, kind, float, refusal_of}
use Rattle.wire.specs.Result.{Result, accepted, answer, refused, refuse, then, lent}
use Rattle.scale.specs.Pdb.{value_scaling_linear_hw, value_scaling_float, precip_family_scale, threshold_place}
use Rattle.scale.specs.Physical.{scale_fields, declared_scale, physical_of, fill_of}
use Rattle.scale.specs.declared.scaling.DeclaredLinearScale.{DeclaredLinearScale}
use Rattle.scale.specs.declared.physical.Scaling.{Scaling}
use Rattle.scale.specs.declared.physical.Scheme.{Scheme}
use Rattle.symbology.specs.Answers.{Picture, picture_of, asked, step_of, room_in, admit, decode_for, figures_in, Decodes}
use Rattle.symbology.specs.Symbology.{symbology}
use Rattle.wire.specs.Reading.{run}
use Rattle.symbology.specs.declared.figures.Figures.{Figures}
use Rattle.symbology.specs.declared.figures.Packet.{Packet}
use Rattle.symbology.specs.declared.figures.Packet.TheVariants.{Packet16, PacketAf1f, Packet28}
use Rattle.symbology.specs.declared.figures.Packets.TheVariants as Packets
use Rattle.symbology.specs.declared.figures.Terms.{Terms}
use Rattle.sweep.specs.declared.plan.Head.{Head}
use Rattle.sweep.specs.declared.sweep.Sweep.{Sweep}
use Rattle.wire.proofs.Results.{clash, one_value, one_refusal, through, passed}
use Rattle.sweep.proofs.Parts.{block_start}
use Rattle.symbology.proofs.RowPlaces.{codes_long}
use Rattle.sweep.specs.Sweep.{head_of, allowed, room_for, Accepted, finish, sweep_of, sweep_in, sweep_with, buffers, Ran, packets_for, terms_for, SweepAnswer}

-- ---- what is asked of a body on the terms of a scheme

-- the packets of a scheme, for each group of schemes
module _ (step : Float) where
  radial_halfword : (packet : Packet) → asked (Packets.Radial step) packet ≡ allowed Scheme.Halfword packet
  unfolding asked allowed
  radial_halfword Packet16 = refl
  radial_halfword PacketAf1f = refl
  radial_halfword Packet28 = refl

  radial_float : (packet : Packet) → asked (Packets.Radial step) packet ≡ allowed Scheme.Float packet
  unfolding asked allowed
  radial_float Packet16 = refl
  radial_float PacketAf1f = refl
  radial_float Packet28 = refl

af1f_legacy : (post : Float) (packet : Packet) → asked Packets.Af1fAlone packet ≡ allowed (Scheme.Legacy post) packet
unfolding asked allowed
af1f_legacy post Packet16 = refl
af1f_legacy post PacketAf1f = refl
af1f_legacy post Packet28 = refl

any : (packet : Packet) → asked Packets.Any packet ≡ true
unfolding asked
any Packet16 = refl
any PacketAf1f = refl
any Packet28 = refl

-- the packets that are asked for are the scheme's
pub asked_is : (scheme : Scheme) (file : List ℕ) (block : ℕ) (s : Scaling) → scale_fields scheme file block ≡ accepted s → (packet : Packet)
    → asked (packets_for s) packet ≡ allowed scheme packet
unfolding scale_fields allowed
asked_is Scheme.Halfword file block s e packet =
    through (value_scaling_linear_hw file block) _ s e λ x _ y. ap (λ v. asked (packets_for v) packet) (sym (one_value y)) ∙ radial_halfword x.value_increment packet
asked_is Scheme.Float file block s e packet =
    through (value_scaling_float file block) _ s e λ x _ y. ap (λ v. asked (packets_for v) packet) (sym (one_value y)) ∙ radial_float x.value_increment packet
asked_is (Scheme.Precipitation factor) file block s e packet =
    through (precip_family_scale file block factor) _ s e λ x _ y. ap (λ v. asked (packets_for v) packet) (sym (one_value y)) ∙ any packet
asked_is (Scheme.Legacy post) file block s e packet =
    through (threshold_place file block) _ s e λ x _ y. ap (λ v. asked (packets_for v) packet) (sym (one_value y)) ∙ af1f_legacy post packet
asked_is Scheme.Class file block s e packet = ap (λ v. asked (packets_for v) packet) (sym (one_value e)) ∙ any packet

-- 9 on these terms is the declared scale's
pub step_declared : (s : Scaling) → step_of (packets_for s) ≡ then (declared_scale s) (λ _. accepted tt)
unfolding declared_scale
step_declared (Scaling.Linear s) = by (le s.value_increment (f32 0 1)) _
  where
    by : (b : Bool) (y : DeclaredLinearScale)
        → refuse b (kind 9 (float s.value_increment ∷ [])) (accepted tt)
        ≡ then (then (refuse b (kind 9 (float s.value_increment ∷ [])) (accepted y)) (λ x. accepted (Some x))) (λ _. accepted (tt {0}))
    by true y = refl
    by false y = refl
step_declared (Scaling.Precip p) = refl
step_declared (Scaling.Legacy at post) = refl
step_declared Scaling.Class = refl

-- what acceptance gives
abbrev pub swept : Scheme → List ℕ → Head → Picture → Option DeclaredLinearScale → Accepted
swept scheme file h p declared =
    record {
      sweep = record { token = h.token; fields = h.fields; time = h.time; declared = declared; figures = p.figures };
      azimuths = p.azimuths;
      codes = p.codes;
      physical = map (physical_of scheme file h.block) p.codes;
    }

module _ (scheme : Scheme) (file : List ℕ) (h : Head) (na nc np : ℕ) where
  by_declared : (b : Bool) (d : Result (Option DeclaredLinearScale)) (room : Result (Unit {0})) (p : Picture)
      → refuse b (kind 10 []) (then d λ declared. then room λ _. accepted (swept scheme file h p declared))
      ≡ then (then (refuse b (kind 10 []) (then (then d λ _. accepted (tt {0})) λ _. room)) λ _. accepted p) λ q. then d λ declared. accepted (swept scheme file h q declared)
  by_declared true d room p = refl
  by_declared false (refused e) room p = refl
  by_declared false (accepted declared) (accepted u) p = refl
  by_declared false (accepted declared) (refused x) p = refl

  finish_is : (d : Result (Option DeclaredLinearScale)) → d ≡ declared_scale h.scaling → scale_fields scheme file h.block ≡ accepted h.scaling → (p : Picture)
      → finish scheme file na nc np h p
      ≡ then (then (admit (terms_for h.scaling np) na nc p.figures) λ _. accepted p) λ q. then d λ declared. accepted (swept scheme file h q declared)
  unfolding finish admit room_in room_for terms_for
  finish_is d e es p =
      rw (asked_is scheme file h.block h.scaling es p.figures.packet, step_declared h.scaling, ← e)
      (by_declared (not (allowed scheme p.figures.packet)) d (room_for na nc np p.figures) p)

-- ---- a picture that was read

-- an answer that hands on a part of what was read
module _ {A B : Type 0} (part : A → B) where
  pub refused_in : (z : Result A) {x : Refusal} → refused x ≡ then z (λ a. accepted (part a)) → z ≡ refused x
  refused_in (accepted a) {x} e = clash (part a) x e
  refused_in (refused y) e = ap refused (one_refusal (sym e))

  pub given_in : (z : Result A) {b : B} → accepted b ≡ then z (λ a. accepted (part a)) → (a : A) × (z ≡ accepted a) × (part a ≡ b)
  given_in (accepted a) e = (a, refl, sym (one_value e))
  given_in (refused x) {b} e = clash b x (sym e)

-- the front of a lent buffer
pub front_is : {A : Type 0} (n : ℕ) (xs old : List A) {new : List A} → new ≡ xs ++ drop (length xs) old → length xs ≡ n → take n new ≡ xs
front_is n xs old e long = ap (take n) e ∙ ap (λ m. take m (xs ++ drop (length xs) old)) (sym long) ∙ take-append_seam xs _

-- an accepted body has as many codes as its figures say
many : (body : List ℕ) (p : Picture) → picture_of body ≡ accepted p → length p.codes ≡ p.figures.n_radials * p.figures.n_bins
unfolding picture_of
many body p e =
    through (run symbology body 0) _ p e λ g eg y.
    let same = one_value y in
    ap (λ (q : Picture). length q.codes) (sym same) ∙ codes_long body g eg p.figures (ap (λ (q : Picture). q.figures) same)

passed_value : {C : Type 0} (d : Result (Option DeclaredLinearScale)) (r : Result (Unit {0})) → then (then d (λ _. accepted (tt {0}))) (λ _. r) ≡ accepted tt
    → ((declared : Option DeclaredLinearScale) → d ≡ accepted declared → r ≡ accepted tt → C) → C
passed_value (accepted declared) r e k = k declared refl e
passed_value (refused x) r e k = clash tt x e

-- what is known of figures that the terms of a scaling have let pass
pub record Admitted (d : Result (Option DeclaredLinearScale)) (nc np : ℕ) (f : Figures) : Type 0 where
  pub declared : Option DeclaredLinearScale
  pub declares : d ≡ accepted declared
  pub codes_room : f.n_radials * f.n_bins ≤ nc
  pub physical_room : f.n_radials * f.n_bins ≤ np

pub admitted : (s : Scaling) (d : Result (Option DeclaredLinearScale)) → d ≡ declared_scale s → (na nc np : ℕ) (f : Figures)
    → admit (terms_for s np) na nc f ≡ accepted tt → Admitted d nc np f
unfolding admit room_in terms_for
admitted s d is na nc np f e =
    passed (not (asked (packets_for s) f.packet)) _ _ tt e λ _ e₃.
    passed_value d _ (rw (step_declared s, ← is) at e₃) λ declared ed e₄.
    passed (ltb na f.n_radials) _ _ tt e₄ λ _ e₅.
    passed (ltb nc (f.n_radials * f.n_bins)) _ _ tt e₅ λ c e₆.
    passed (ltb np (f.n_radials * f.n_bins)) _ _ tt e₆ λ v _.
    record { declared = declared; declares = ed; codes_room = ltb-false _ _ c; physical_room = ltb-false _ _ v }

-- and once a body was read on them
pub record Drawn (s : Scaling) (d : Result (Option DeclaredLinearScale)) (body : List ℕ) (na nc np : ℕ) (f : Figures) : Type 0 where
  pub picture : Picture
  pub is : decode_for (terms_for s np) body na nc ≡ accepted picture
  pub figures : picture.figures ≡ f
  pub many : length picture.codes ≡ f.n_radials * f.n_bins
  pub admitted : Admitted d nc np f

pub drawn : (s : Scaling) (d : Result (Option DeclaredLinearScale)) → d ≡ declared_scale s → (body : List ℕ) (na nc np : ℕ) {f : Figures}
    → accepted f ≡ figures_in (decode_for (terms_for s np) body na nc) → Drawn s d body na nc np f
unfolding decode_for
drawn s d is body na nc np {f} e =
    let g = given_in (λ (p : Picture). p.figures) (decode_for (terms_for s np) body na nc) e in
    let p = g.0 in
    through (picture_of body) _ p g.1 λ q eq e₁.
    through (admit (terms_for s np) na nc q.figures) _ p e₁ λ u ea e₂.
    let same = one_value e₂ in
    subst (Drawn s d body na nc np) (ap (λ (x : Picture). x.figures) same ∙ g.2)
    (record {
      picture = q;
      is = g.1 ∙ ap accepted (sym same);
      figures = refl;
      many = many body q eq;
      admitted = admitted s d is na nc np q.figures ea;
    })

-- the scale fields are read and there is room: the values are filled in
pub fills : (scheme : Scheme) (file : List ℕ) (clock : ℕ) (h : Head) → head_of scheme file clock ≡ accepted h → (codes : List ℕ) (np : ℕ) → length codes ≤ np
    → fill_of scheme file h.block codes np ≡ accepted (map (physical_of scheme file h.block) codes)
unfolding fill_of
fills scheme file clock h e codes np room = rw ((block_start scheme file clock h e).3, le-ltb np (length codes) room)

-- ---- the answers

-- the head is read, the terms are made of it, and the body is read on them, with buffers of na, nc and np places
module _ (scheme : Scheme) (file : List ℕ) (clock : ℕ) (body : List ℕ) (na nc np : ℕ) where
  pub no_head_lem : {x : Refusal} → refused x ≡ head_of scheme file clock → refused x ≡ sweep_of scheme file clock body na nc np
  unfolding sweep_of
  no_head_lem e = rw (← e)

  -- what symbology refuses once the head is read
  pub no_picture_lem : {h : Head} {x : Refusal} → accepted h ≡ head_of scheme file clock → refused x ≡ picture_of body → refused x ≡ sweep_of scheme file clock body na nc np
  unfolding sweep_of
  no_picture_lem eh e = rw (← eh, ← e)

  module _ (h : Head) (d : Result (Option DeclaredLinearScale)) (t : Terms) (eh : accepted h ≡ head_of scheme file clock) (ed : d ≡ declared_scale h.scaling)
      (et : t ≡ terms_for h.scaling np) where
    by_decode : sweep_of scheme file clock body na nc np ≡ then (decode_for t body na nc) λ p. then d λ declared. accepted (swept scheme file h p declared)
    unfolding sweep_of decode_for
    by_decode = rw (← eh, et) (by (picture_of body))
      where
        by : (z : Result Picture)
            → then z (finish scheme file na nc np h)
            ≡ then (then z λ p. then (admit (terms_for h.scaling np) na nc p.figures) λ _. accepted p) λ p. then d λ declared. accepted (swept scheme file h p declared)
        by (accepted p) = finish_is scheme file h na nc np d ed (block_start scheme file clock h (sym eh)).3 p
        by (refused x) = refl

    no_body : {x : Refusal} → decode_for t body na nc ≡ refused x → refused x ≡ sweep_of scheme file clock body na nc np
    no_body z = sym (by_decode ∙ rw z)

    -- the answers of a check
    pub check_refused : {x : Refusal} → refused x ≡ figures_in (decode_for t body na nc) → refused x ≡ sweep_in (sweep_of scheme file clock body na nc np)
    check_refused e = ap sweep_in (no_body (refused_in (λ (p : Picture). p.figures) (decode_for t body na nc) e))

    pub check_answers : {f : Figures} {r : Result Sweep} → accepted f ≡ figures_in (decode_for t body na nc) → r ≡ sweep_with h d f
        → r ≡ sweep_in (sweep_of scheme file clock body na nc np)
    check_answers {f} e i =
        let g = given_in (λ (p : Picture). p.figures) (decode_for t body na nc) e in
        i ∙ ap (sweep_with h d) (sym g.2) ∙ by d g.0
        ∙ ap sweep_in (sym (by_decode ∙ ap (λ z. then z λ p. then d λ declared. accepted (swept scheme file h p declared)) g.1))
      where
        by : (y : Result (Option DeclaredLinearScale)) (p : Picture) → sweep_with h y p.figures ≡ sweep_in (then y λ declared. accepted (swept scheme file h p declared))
        by (accepted declared) p = refl
        by (refused x) p = refl

module _ (scheme : Scheme) (file : List ℕ) (clock : ℕ) (body : List ℕ) (az : List Float) (cs : List ℕ) (ph : List Float) where
  abbrev Reads : SweepAnswer → List Float → List ℕ → List Float → Type 0
  Reads r az' cs' ph' = Ran scheme file clock body (buffers az cs ph) (buffers az' cs' ph') r

  -- the sweep reading with these buffers
  abbrev S : Result Accepted
  S = sweep_of scheme file clock body (length az) (length cs) (length ph)

  -- what the code says and leaves, by a result
  told : {d : Result Accepted} {r : SweepAnswer} {az' : List Float} {cs' : List ℕ} {ph' : List Float} → d ≡ S → answer r ≡ sweep_in d
      → az' ≡ lent d (λ p. p.azimuths) az → cs' ≡ lent d (λ p. p.codes) cs → ph' ≡ lent d (λ p. p.physical) ph → Reads r az' cs' ph'
  told e i a c v =
      record {
        answered = i ∙ ap sweep_in e;
        azimuths = a ∙ ap (λ d. lent d (λ p. p.azimuths) az) e;
        codes = c ∙ ap (λ d. lent d (λ p. p.codes) cs) e;
        physical = v ∙ ap (λ d. lent d (λ p. p.physical) ph) e;
      }

  pub head_refused : {x : Level3DecodeError} → refused (refusal_of x) ≡ head_of scheme file clock → Reads (Std.Err x) az cs ph
  head_refused e = told (no_head_lem scheme file clock body (length az) (length cs) (length ph) e) refl refl refl refl

  -- the head is read, the terms are made of it, and the body is read on them
  module _ (h : Head) (d : Result (Option DeclaredLinearScale)) (t : Terms) (eh : accepted h ≡ head_of scheme file clock) (ed : d ≡ declared_scale h.scaling)
      (et : t ≡ terms_for h.scaling (length ph)) where
    abbrev D : Result Picture
    D = decode_for t body (length az) (length cs)

    pub body_refused : {x : Level3DecodeError} {az' : List Float} {cs' : List ℕ}
        → Decodes (decode_for t body) az az' cs cs' (Std.Err x) → Reads (Std.Err x) az' cs' ph
    body_refused {x} w =
        let z = refused_in (λ (p : Picture). p.figures) D w.answered in
        told (no_body scheme file clock body (length az) (length cs) (length ph) h d t eh ed et z) refl (w.azimuths ∙ ap (λ d. lent d (λ p. p.azimuths) az) z) (w.codes ∙ ap (λ d. lent d (λ p. p.codes) cs) z) refl

-- ---- after symbology's entry has accepted

-- The head h was read, the declared scale d and the terms t made of it, and the body read on them: it has the figures f.
pub record Decoded (scheme : Scheme) (file : List ℕ) (clock : ℕ) (body : List ℕ) (az : List Float) (cs : List ℕ) (ph : List Float) (h : Head) (d : Result (Option DeclaredLinearScale)) (t : Terms) (f : Figures)
    : Type 0 where
  pub head_is : accepted h ≡ head_of scheme file clock
  pub declared_is : d ≡ declared_scale h.scaling
  pub terms_are : t ≡ terms_for h.scaling (length ph)
  pub figures_are : accepted f ≡ figures_in (decode_for t body (length az) (length cs))

pub decoded : {scheme : Scheme} {file : List ℕ} {clock : ℕ} {body : List ℕ} {az : List Float} {cs : List ℕ} {ph : List Float} {h : Head} {t : Terms} {f : Figures}
    → accepted h ≡ head_of scheme file clock → t ≡ terms_for h.scaling (length ph) → accepted f ≡ figures_in (decode_for t body (length az) (length cs))
    → Decoded scheme file clock body az cs ph h (declared_scale h.scaling) t f
decoded eh et ef = record { head_is = eh; declared_is = refl; terms_are = et; figures_are = ef }

module _ {scheme : Scheme} {file : List ℕ} {clock : ℕ} {body : List ℕ} {az : List Float} {cs : List ℕ} {ph : List Float} {h : Head} {d : Result (Option DeclaredLinearScale)} {t : Terms} {f : Figures}
    (w : Decoded scheme file clock body az cs ph h d t f) where
  pub drawn_here : Drawn h.scaling d body (length az) (length cs) (length ph) f
  drawn_here =
      drawn h.scaling d w.declared_is body (length az) (length cs) (length ph)
      (w.figures_are ∙ ap (λ x. figures_in (decode_for x body (length az) (length cs))) w.terms_are)

  drawn_is : decode_for t body (length az) (length cs) ≡ accepted drawn_here.picture
  drawn_is = ap (λ x. decode_for x body (length az) (length cs)) w.terms_are ∙ drawn_here.is

  -- the buffer of codes then holds cs'
  module _ {cs' : List ℕ} (c : cs' ≡ lent (decode_for t body (length az) (length cs)) (λ p. p.codes) cs) where
    now_codes : cs' ≡ drawn_here.picture.codes ++ drop (length drawn_here.picture.codes) cs
    now_codes = c ∙ ap (λ r. lent r (λ p. p.codes) cs) drawn_is

    -- the values of its front, which are the cells of the picture
    abbrev Fill : Result (List Float)
    Fill = fill_of scheme file h.block (take (f.n_radials * f.n_bins) cs') (length ph)

    same_codes : take (f.n_radials * f.n_bins) cs' ≡ drawn_here.picture.codes
    same_codes = front_is _ drawn_here.picture.codes cs now_codes drawn_here.many

    filled : Fill ≡ accepted (map (physical_of scheme file h.block) drawn_here.picture.codes)
    filled =
        ap (λ l. fill_of scheme file h.block l (length ph)) same_codes
        ∙ fills scheme file clock h (sym w.head_is) drawn_here.picture.codes (length ph) (rw drawn_here.many drawn_here.admitted.physical_room)

    -- an answer of the code that can't be
    pub fill_accepts : {C : Type 0} {x : Refusal} → ◌≡◌ {A = Result (Unit {0})} (refused x) (then Fill λ _. accepted tt) → C
    fill_accepts {C} {x} e = clash tt x (e ∙ ap {B = Result (Unit {0})} (λ r. then r λ _. accepted tt) filled)

    pub read : {r : SweepAnswer} {az' ph' : List Float} → answer r ≡ sweep_with h d f
        → az' ≡ lent (decode_for t body (length az) (length cs)) (λ p. p.azimuths) az → ph' ≡ lent Fill (λ values. values) ph
        → Reads scheme file clock body az cs ph r az' cs' ph'
    read i a v =
        let is = drawn_here.admitted.declares in
        let r : accepted (swept scheme file h drawn_here.picture drawn_here.admitted.declared) ≡ S scheme file clock body az cs ph =
        sym (by_decode scheme file clock body (length az) (length cs) (length ph) h d t w.head_is w.declared_is w.terms_are
        ∙ ap (λ z. then z λ p. then d λ declared. accepted (swept scheme file h p declared)) drawn_is
        ∙ ap (λ y. then y λ declared. accepted (swept scheme file h drawn_here.picture declared)) is) in
        told scheme file clock body az cs ph r
        (i ∙ ap (λ y. sweep_with h y f) is ∙ ap (sweep_with h (accepted drawn_here.admitted.declared)) (sym drawn_here.figures))
        (a ∙ ap (λ r. lent r (λ p. p.azimuths) az) drawn_is) now_codes (v ∙ ap (λ r. lent r (λ values. values) ph) filled)
