-- A sweep reading with gaps by way of symbology's entry, a law for each answer of the code. Assumes nothing.
use Prim.Native.Nat.{ℕ, ◌*◌, ◌≤◌}
use Rattle.std.specs.Prelude.{Option}
use Rattle.std.specs.Prelude as Std
use mathlib.Core.List.{List, [], ◌∷◌, map, ◌++◌}
use mathlib.Core.Bool.{Bool, true, false, not}
use mathlib.Core.Path.{◌≡◌, refl, sym, ap, subst, ◌∙◌}
use lib.Dec.{ltb}
use native.Mathlib.Omega.{arith}
use lib.ListN.{length, take, drop, length-map, length-append}
use lib.Ieee.{Float}
use borrow.Author.Tests.{ltb-false, le-ltb}
use Rattle.wire.specs.declared.error.Level3DecodeError.{Level3DecodeError}
use Rattle.wire.specs.declared.error.Buffer.TheVariants as Buffer
use Rattle.wire.specs.Refusal.{Refusal, kind, buffer, refusal_of}
use Rattle.wire.specs.Result.{Result, accepted, answer, refused, refuse, then, lent}
use Rattle.scale.specs.Physical.{scale_fields, declared_scale, physical_of, fill_of}
use Rattle.scale.specs.declared.scaling.DeclaredLinearScale.{DeclaredLinearScale}
use Rattle.scale.specs.declared.physical.Scaling.{Scaling}
use Rattle.scale.specs.declared.physical.Scheme.{Scheme}
use Rattle.symbology.specs.Answers.{GapPicture, gap_picture_of, room_in, admit, gaps_on_terms, gap_decode_for, gap_figures_in, DecodesWithGaps}
use Rattle.symbology.specs.declared.figures.Figures.{Figures}
use Rattle.symbology.specs.declared.figures.Terms.{Terms}
use Rattle.sweep.specs.declared.plan.Head.{Head}
use Rattle.wire.proofs.Results.{one_value, through, passed}
use Rattle.sweep.specs.Sweep.{head_of, allowed, room_for, finish, sweep_with, terms_for, SweepAnswer}
use Rattle.sweep.specs.GapSweep.{GapSweep, blanked, blanked_lent, gap_finish, gap_sweep_of, gap_sweep_in, gap_room, gap_values_of, gap_buffers, MarkedRan}
use Rattle.symbology.proofs.GapRows.{gap_sizes}
use Rattle.sweep.proofs.Parts.{block_start}
use Rattle.sweep.proofs.Reading.{asked_is, step_declared, swept, refused_in, given_in, front_is, Admitted, admitted, fills}
use Rattle.sweep.proofs.Blanking.{blanked_lent_lem}

abbrev short : Refusal
short = kind 36 (buffer Buffer.Marks ∷ [])

-- what acceptance gives
abbrev shown : Scheme → List ℕ → Head → GapPicture → Option DeclaredLinearScale → GapSweep
shown scheme file h p declared =
    record {
      sweep = record { token = h.token; fields = h.fields; time = h.time; declared = declared; figures = p.picture.figures };
      azimuths = p.picture.azimuths;
      codes = p.picture.codes;
      physical = blanked p.picture.figures.n_bins p.marks (map (physical_of scheme file h.block) p.picture.codes);
      marks = p.marks;
    }

module _ (scheme : Scheme) (file : List ℕ) (h : Head) (na nc np nm : ℕ) where
  by_marks : (b : Bool) (d : Result (Option DeclaredLinearScale)) (room : Result (Unit {0})) (m : Bool) (p : GapPicture)
      → then (refuse b (kind 10 []) (then d λ declared. then room λ _. accepted (swept scheme file h p.picture declared))) (λ a.
      refuse m short (accepted (record {
        sweep = a.sweep;
        azimuths = a.azimuths;
        codes = a.codes;
        physical = blanked p.picture.figures.n_bins p.marks a.physical;
        marks = p.marks;
      })))
      ≡ then (then (refuse b (kind 10 []) (then (then d λ _. accepted (tt {0})) λ _. room)) λ _. refuse m short (accepted p)) λ q.
      then d λ declared. accepted (shown scheme file h q declared)
  by_marks true d room m p = refl
  by_marks false (refused e) room m p = refl
  by_marks false (accepted declared) (accepted u) true p = refl
  by_marks false (accepted declared) (accepted u) false p = refl
  by_marks false (accepted declared) (refused x) m p = refl

  finish_is : (d : Result (Option DeclaredLinearScale)) → d ≡ declared_scale h.scaling → scale_fields scheme file h.block ≡ accepted h.scaling → (p : GapPicture)
      → gap_finish scheme file na nc np nm h p
      ≡ then (then (admit (terms_for h.scaling np) na nc p.picture.figures) λ _. refuse (ltb nm p.picture.figures.n_radials) short (accepted p)) λ q.
      then d λ declared. accepted (shown scheme file h q declared)
  unfolding gap_finish finish admit room_in room_for terms_for
  finish_is d e es p =
      rw (asked_is scheme file h.block h.scaling es p.picture.figures.packet, step_declared h.scaling, ← e)
      (by_marks (not (allowed scheme p.picture.figures.packet)) d (room_for na nc np p.picture.figures) (ltb nm p.picture.figures.n_radials) p)

-- ---- a picture that was read

-- as many marks and codes as the figures say
abbrev pub Sized : GapPicture → Type 0
Sized p = (length p.marks ≡ p.picture.figures.n_radials) × (length p.picture.codes ≡ p.picture.figures.n_radials * p.picture.figures.n_bins)

-- what is known once a picture was made on the terms of a scaling
pub record Drawn (d : Result (Option DeclaredLinearScale)) (decoded : Result GapPicture) (nc np nm : ℕ) (f : Figures) : Type 0 where
  pub picture : GapPicture
  pub is : decoded ≡ accepted picture
  pub figures : picture.picture.figures ≡ f
  pub sizes : (length picture.marks ≡ f.n_radials) × (length picture.picture.codes ≡ f.n_radials * f.n_bins)
  pub admitted : Admitted d nc np f
  pub marks_room : f.n_radials ≤ nm

drawn : (s : Scaling) (d : Result (Option DeclaredLinearScale)) → d ≡ declared_scale s → (made : Result GapPicture) → ((p : GapPicture) → made ≡ accepted p → Sized p) → (na nc np nm : ℕ) {f : Figures}
    → accepted f ≡ gap_figures_in (gaps_on_terms (terms_for s np) made na nc nm) → Drawn d (gaps_on_terms (terms_for s np) made na nc nm) nc np nm f
unfolding gaps_on_terms
drawn s d is made sized na nc np nm {f} e =
    let g = given_in (λ (p : GapPicture). p.picture.figures) (gaps_on_terms (terms_for s np) made na nc nm) e in
    let p = g.0 in
    through made _ p g.1 λ q eq e₁.
    through (admit (terms_for s np) na nc q.picture.figures) _ p e₁ λ u ea e₂.
    passed (ltb nm q.picture.figures.n_radials) _ _ p e₂ λ k e₃.
    let same = one_value e₃ in
    subst (Drawn d (gaps_on_terms (terms_for s np) made na nc nm) nc np nm) (ap (λ (x : GapPicture). x.picture.figures) same ∙ g.2)
    (record {
      picture = q;
      is = g.1 ∙ ap accepted (sym same);
      figures = refl;
      sizes = sized q eq;
      admitted = admitted s d is na nc np q.picture.figures ea;
      marks_room = ltb-false _ _ k;
    })

-- ---- the answers

-- what the code says and leaves, by a result
pub told : {d G : Result GapSweep} (az : List Float) (cs : List ℕ) (ph : List Float) (ms : List ℕ) {r : SweepAnswer} {az' : List Float} {cs' : List ℕ} {ph' : List Float} {ms' : List ℕ}
    → d ≡ G → answer r ≡ gap_sweep_in d
    → az' ≡ lent d (λ p. p.azimuths) az → cs' ≡ lent d (λ p. p.codes) cs → ph' ≡ lent d (λ p. p.physical) ph → ms' ≡ lent d (λ p. p.marks) ms
    → MarkedRan G (gap_buffers az cs ph ms) (gap_buffers az' cs' ph' ms') r
told az cs ph ms e i a c v m =
    record {
      answered = i ∙ ap gap_sweep_in e;
      azimuths = a ∙ ap (λ d. lent d (λ p. p.azimuths) az) e;
      codes = c ∙ ap (λ d. lent d (λ p. p.codes) cs) e;
      physical = v ∙ ap (λ d. lent d (λ p. p.physical) ph) e;
      marks = m ∙ ap (λ d. lent d (λ p. p.marks) ms) e;
    }

-- The head h was read, the declared scale d and the terms t made of it. `made` is the picture of the bodies, `decode` symbology's reading of
-- them on the terms, by buffers of so many places, and G the whole with the buffers az, cs, ph and ms.
pub record Begun (scheme : Scheme) (file : List ℕ) (clock : ℕ) (G : Result GapSweep) (decode : ℕ → ℕ → ℕ → Result GapPicture) (az : List Float) (cs : List ℕ) (ph : List Float) (ms : List ℕ) (h : Head) (d : Result (Option DeclaredLinearScale))
    : Type 0 where
  pub head_is : accepted h ≡ head_of scheme file clock
  pub declared_is : d ≡ declared_scale h.scaling
  pub made : Result GapPicture
  pub sized : (p : GapPicture) → made ≡ accepted p → Sized p
  pub decode_is : decode (length az) (length cs) (length ms) ≡ gaps_on_terms (terms_for h.scaling (length ph)) made (length az) (length cs) (length ms)
  pub reading_is : G ≡ then made (gap_finish scheme file (length az) (length cs) (length ph) (length ms) h)

module _ {scheme : Scheme} {file : List ℕ} {clock : ℕ} {G : Result GapSweep} {decode : ℕ → ℕ → ℕ → Result GapPicture} {az : List Float} {cs : List ℕ} {ph : List Float} {ms : List ℕ} {h : Head} {d : Result (Option DeclaredLinearScale)}
    (w : Begun scheme file clock G decode az cs ph ms h d) where
  by_decode : G ≡ then (decode (length az) (length cs) (length ms)) λ p. then d λ declared. accepted (shown scheme file h p declared)
  unfolding gaps_on_terms
  by_decode = w.reading_is ∙ by w.made ∙ sym (ap (λ z. then z λ p. then d λ declared. accepted (shown scheme file h p declared)) w.decode_is)
    where
      by : (z : Result GapPicture)
          → then z (gap_finish scheme file (length az) (length cs) (length ph) (length ms) h)
          ≡ then (then z λ p. then (admit (terms_for h.scaling (length ph)) (length az) (length cs) p.picture.figures) λ _. refuse (ltb (length ms) p.picture.figures.n_radials) short (accepted p))
          λ p. then d λ declared. accepted (shown scheme file h p declared)
      by (accepted p) = finish_is scheme file h (length az) (length cs) (length ph) (length ms) d w.declared_is (block_start scheme file clock h (sym w.head_is)).3 p
      by (refused x) = refl

  pub body_refused : {x : Level3DecodeError} {az' : List Float} {cs' ms' : List ℕ}
      → DecodesWithGaps decode az az' cs cs' ms ms' (Std.Err x) → MarkedRan G (gap_buffers az cs ph ms) (gap_buffers az' cs' ph ms') (Std.Err x)
  body_refused {x} k =
      let z = refused_in (λ (p : GapPicture). p.picture.figures) (decode (length az) (length cs) (length ms)) k.answered in
      let r : refused (refusal_of x) ≡ G = sym (by_decode ∙ rw z) in
      told az cs ph ms r refl (k.azimuths ∙ ap (λ d. lent d (λ p. p.picture.azimuths) az) z) (k.codes ∙ ap (λ d. lent d (λ p. p.picture.codes) cs) z) refl
      (k.marks ∙ ap (λ d. lent d (λ p. p.marks) ms) z)

-- ---- after symbology's entry has accepted, with the figures f

pub record Decoded (scheme : Scheme) (file : List ℕ) (clock : ℕ) (G : Result GapSweep) (decode : ℕ → ℕ → ℕ → Result GapPicture) (az : List Float) (cs : List ℕ) (ph : List Float) (ms : List ℕ) (h : Head) (d : Result (Option DeclaredLinearScale)) (f : Figures)
    : Type 0 where
  pub begun : Begun scheme file clock G decode az cs ph ms h d
  pub figures_are : accepted f ≡ gap_figures_in (decode (length az) (length cs) (length ms))

module _ {scheme : Scheme} {file : List ℕ} {clock : ℕ} {G : Result GapSweep} {decode : ℕ → ℕ → ℕ → Result GapPicture} {az : List Float} {cs : List ℕ} {ph : List Float} {ms : List ℕ} {h : Head} {d : Result (Option DeclaredLinearScale)} {f : Figures}
    (w : Decoded scheme file clock G decode az cs ph ms h d f) where
  drawn_here : Drawn d (decode (length az) (length cs) (length ms)) (length cs) (length ph) (length ms) f
  drawn_here =
      subst (λ z. Drawn d z (length cs) (length ph) (length ms) f) (sym w.begun.decode_is)
      (drawn h.scaling d w.begun.declared_is w.begun.made w.begun.sized (length az) (length cs) (length ph) (length ms) (w.figures_are ∙ ap gap_figures_in w.begun.decode_is))

  -- the buffers of codes and marks then hold cs' and ms'
  module _ {cs' ms' : List ℕ} (c : cs' ≡ lent (decode (length az) (length cs) (length ms)) (λ p. p.picture.codes) cs)
      (m : ms' ≡ lent (decode (length az) (length cs) (length ms)) (λ p. p.marks) ms) where
    now_codes : cs' ≡ drawn_here.picture.picture.codes ++ drop (length drawn_here.picture.picture.codes) cs
    now_codes = c ∙ ap (λ r. lent r (λ p. p.picture.codes) cs) drawn_here.is

    now_marks : ms' ≡ drawn_here.picture.marks ++ drop (length drawn_here.picture.marks) ms
    now_marks = m ∙ ap (λ r. lent r (λ p. p.marks) ms) drawn_here.is

    -- there is room for the values
    pub rooms : (f.n_radials * f.n_bins ≤ length cs') × (f.n_radials ≤ length ms') × (f.n_radials * f.n_bins ≤ length ph)
    rooms = (
      omega (arith, ap length now_codes, length-append drawn_here.picture.picture.codes (drop (length drawn_here.picture.picture.codes) cs), drawn_here.sizes.1),
      omega (arith, ap length now_marks, length-append drawn_here.picture.marks (drop (length drawn_here.picture.marks) ms), drawn_here.sizes.0),
      drawn_here.admitted.physical_room,
    )

    -- the values of its front, which are the cells of the picture
    abbrev Fill : Result (List Float)
    Fill = fill_of scheme file h.block (take (f.n_radials * f.n_bins) cs') (length ph)

    same_codes : take (f.n_radials * f.n_bins) cs' ≡ drawn_here.picture.picture.codes
    same_codes = front_is _ drawn_here.picture.picture.codes cs now_codes drawn_here.sizes.1

    same_marks : take f.n_radials ms' ≡ drawn_here.picture.marks
    same_marks = front_is _ drawn_here.picture.marks ms now_marks drawn_here.sizes.0

    values : List Float
    values = map (physical_of scheme file h.block) drawn_here.picture.picture.codes

    values_long : length values ≡ f.n_radials * f.n_bins
    unfolding values
    values_long = length-map drawn_here.picture.picture.codes _ ∙ drawn_here.sizes.1

    filled : Fill ≡ accepted values
    unfolding values
    filled =
        ap (λ l. fill_of scheme file h.block l (length ph)) same_codes
        ∙ fills scheme file clock h (sym w.begun.head_is) drawn_here.picture.picture.codes (length ph) (rw drawn_here.sizes.1 drawn_here.admitted.physical_room)

    pub read : {r : SweepAnswer} {az' ph' : List Float} → answer r ≡ then Fill (λ _. sweep_with h d f)
        → az' ≡ lent (decode (length az) (length cs) (length ms)) (λ p. p.picture.azimuths) az
        → ph' ≡ blanked_lent Fill f.n_bins (take f.n_radials ms') ph → MarkedRan G (gap_buffers az cs ph ms) (gap_buffers az' cs' ph' ms') r
    unfolding values
    read i a v =
        let is = drawn_here.admitted.declares in
        let r : accepted (shown scheme file h drawn_here.picture drawn_here.admitted.declared) ≡ G =
        sym (by_decode w.begun
        ∙ ap (λ z. then z λ p. then d λ declared. accepted (shown scheme file h p declared)) drawn_here.is
        ∙ ap (λ y. then y λ declared. accepted (shown scheme file h drawn_here.picture declared)) is) in
        let e : length values ≡ length drawn_here.picture.marks * f.n_bins = values_long ∙ ap (λ n. n * f.n_bins) (sym drawn_here.sizes.0) in
        let bins : f.n_bins ≡ drawn_here.picture.picture.figures.n_bins = ap (λ (g : Figures). g.n_bins) (sym drawn_here.figures) in
        let laid =
        v ∙ ap (λ l. blanked_lent Fill f.n_bins l ph) same_marks ∙ ap (λ z. blanked_lent z f.n_bins drawn_here.picture.marks ph) filled
        ∙ blanked_lent_lem f.n_bins drawn_here.picture.marks values ph e
        ∙ ap (λ (k : ℕ). blanked k drawn_here.picture.marks values ++ drop (length (blanked k drawn_here.picture.marks values)) ph) bins in
        told az cs ph ms r
        (i ∙ ap (λ z. then z λ _. sweep_with h d f) filled ∙ ap (λ y. sweep_with h y f) is ∙ ap (sweep_with h (accepted drawn_here.admitted.declared)) (sym drawn_here.figures))
        (a ∙ ap (λ r. lent r (λ p. p.picture.azimuths) az) drawn_here.is) now_codes laid now_marks

    -- the values are filled by a call of their own
    abbrev Last : Result (List Float)
    Last = gap_values_of scheme file h.block f cs' (length ph) (length ms')

    last : Last ≡ Fill
    unfolding gap_values_of gap_room
    last =
        rw (
          le-ltb (length cs') (f.n_radials * f.n_bins) rooms.0,
          le-ltb (length ph) (f.n_radials * f.n_bins) rooms.2,
          le-ltb (length ms') f.n_radials rooms.1,
        )

    -- an answer of that call that can't be
    pub last_accepts : {C : Type 0} {x : Refusal} → ◌≡◌ {A = Result (Unit {0})} (refused x) (then Last λ _. accepted tt) → C
    last_accepts {C} {x} e =
        let e' : ◌≡◌ {A = Result (Unit {0})} (refused x) (accepted tt) = e ∙ ap {B = Result (Unit {0})} (λ r. then r λ _. accepted tt) (last ∙ filled) in
        let z : ◌≡◌ {A = ℕ} 0 1 = cc in
        absurd (omega arith)

    pub read_last : {r : SweepAnswer} {az' ph' : List Float} → answer r ≡ sweep_with h d f
        → az' ≡ lent (decode (length az) (length cs) (length ms)) (λ p. p.picture.azimuths) az
        → ph' ≡ blanked_lent Last f.n_bins (take f.n_radials ms') ph → MarkedRan G (gap_buffers az cs ph ms) (gap_buffers az' cs' ph' ms') r
    read_last i a v =
        read (i ∙ sym (ap (λ z. then z λ _. sweep_with h d f) filled)) a (v ∙ ap (λ z. blanked_lent z f.n_bins (take f.n_radials ms') ph) last)

-- ---- one body

module _ (scheme : Scheme) (file : List ℕ) (clock : ℕ) (body : List ℕ) (az : List Float) (cs : List ℕ) (ph : List Float) (ms : List ℕ) where
  -- the reading with gaps with these buffers
  abbrev G : Result GapSweep
  G = gap_sweep_of scheme file clock body (length az) (length cs) (length ph) (length ms)

  pub head_refused : {x : Level3DecodeError} → refused (refusal_of x) ≡ head_of scheme file clock → MarkedRan G (gap_buffers az cs ph ms) (gap_buffers az cs ph ms) (Std.Err x)
  unfolding gap_sweep_of
  head_refused {x} e = let d : refused (refusal_of x) ≡ G = rw (← e) in told az cs ph ms d refl refl refl refl refl

  pub begun : (h : Head) {t : Terms} → accepted h ≡ head_of scheme file clock → t ≡ terms_for h.scaling (length ph)
      → Begun scheme file clock G (gap_decode_for t body) az cs ph ms h (declared_scale h.scaling)
  unfolding gap_sweep_of gap_decode_for
  begun h eh et =
      record {
        head_is = eh;
        declared_is = refl;
        made = gap_picture_of body;
        sized = gap_sizes body;
        decode_is = ap (λ x. gaps_on_terms x (gap_picture_of body) (length az) (length cs) (length ms)) et;
        reading_is = rw (← eh) refl;
      }
