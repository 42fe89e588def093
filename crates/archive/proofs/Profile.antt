-- The archive profile: the tests first and the ordinary reading after them, a law for each answer of the code; what the profile answers.
-- Assumes nothing.
use Rattle.std.proofs.Common.{◌≡◌, ℕ, ◌<◌, ◌⊎◌, ◌↔◌, List, [], ◌∷◌, get_or, sym, refl, ap, ◌∙◌, subst}
use Rattle.std.specs.Prelude as Std
use Rattle.wire.specs.Refusal.{Refusal, kind, nat, refusal_of}
use Rattle.wire.specs.Result.{Result, accepted, refused, then}
use Rattle.wire.specs.Reading.{Given, run}
use Rattle.wire.specs.declared.error.Level3DecodeError.{Level3DecodeError}
use Rattle.wire.proofs.Results.{clash, one_value, one_refusal, through, then_by}
use Rattle.scale.specs.declared.physical.Scheme.{Scheme}
use Rattle.symbology.specs.Answers.{joined, Picture, picture_of}
use Rattle.symbology.specs.Symbology as Symbology
use Rattle.symbology.specs.Symbology.{symbology}
use Rattle.symbology.specs.declared.figures.Figures.{Figures}
use Rattle.sweep.specs.declared.plan.Head.{Head}
use Rattle.sweep.specs.Sweep.{head_of, Accepted, finish, sweep_of, Buffers, read_into, SweepRan, Ran, SweepAnswer}
use Rattle.sweep.proofs.Parts.{Parts, parts}
use Rattle.archive.specs.Surplus.{exact, NoSurplus, LowestOver, AfterAll}
use Rattle.archive.specs.Archive.{strict_of, Archive, strict_into, StrictRan}
use Rattle.archive.proofs.InWords as Words

-- ---- the definition

module _ (scheme : Scheme) (file : List ℕ) (clock : ℕ) (body : List ℕ) (na nc np : ℕ) where
  abbrev Strict : Result Accepted
  Strict = strict_of scheme file clock body na nc np

  abbrev Ordinary : Result Accepted
  Ordinary = sweep_of scheme file clock body na nc np

  abbrev Tested : Result (Unit {0})
  Tested = then (picture_of body) (λ p. exact p.figures body)

  head_stops : {x : Refusal} → head_of scheme file clock ≡ refused x → Strict ≡ refused x
  unfolding strict_of
  head_stops h = rw h refl

  module _ {h : Head} (hs : head_of scheme file clock ≡ accepted h) where
    body_stops : {x : Refusal} → Tested ≡ refused x → Strict ≡ refused x
    unfolding strict_of
    body_stops {x} e = rw hs (by (picture_of body) e)
      where
        row : (q : Picture) (t : Result (Unit {0})) → t ≡ refused x → then t (λ _. finish scheme file na nc np h q) ≡ refused x
        row q (refused y) k = ap refused (one_refusal k)
        row q (accepted u) k = clash u x (sym k)

        by : (p : Result Picture) → then p (λ q. exact q.figures body) ≡ refused x → then p (λ q. then (exact q.figures body) λ _. finish scheme file na nc np h q) ≡ refused x
        by (refused y) k = ap refused (one_refusal k)
        by (accepted q) k = row q (exact q.figures body) k

  -- a body that passes the tests gets the ordinary answer
  pub same_where : (p : Picture) → picture_of body ≡ accepted p → exact p.figures body ≡ accepted tt → Strict ≡ Ordinary
  unfolding strict_of sweep_of
  same_where p ep ex = rw ep (by (head_of scheme file clock))
    where
      by : (r : Result Head) → then r (λ h. then (exact p.figures body) λ _. finish scheme file na nc np h p) ≡ then r (λ h. finish scheme file na nc np h p)
      by (accepted h) = then_by (λ _. finish scheme file na nc np h p) ex
      by (refused x) = refl

  same_tested : Tested ≡ accepted tt → Strict ≡ Ordinary
  same_tested e = through (picture_of body) _ tt e λ p ep ex. same_where p ep ex

  -- and so does one that the symbology refuses, or that comes with a head that is refused
  no_head : (x : Refusal) → head_of scheme file clock ≡ refused x → Strict ≡ Ordinary
  unfolding strict_of sweep_of
  no_head x h = rw h refl

  no_picture : (x : Refusal) → picture_of body ≡ refused x → Strict ≡ Ordinary
  unfolding strict_of sweep_of
  no_picture x e = rw e refl

-- ---- the code

module _ (scheme : Scheme) (file : List ℕ) (clock : ℕ) (body : List ℕ) (old : Buffers) where
  refused_run : {e : Level3DecodeError} → strict_into scheme file clock body old ≡ refused (refusal_of e) → StrictRan scheme file clock body old old (Std.Err e)
  refused_run {e} h =
      subst (λ R. SweepRan R old old (Std.Err e)) (sym h) (record { answered = refl; azimuths = refl; codes = refl; physical = refl })

  pub head_refused : {e : Level3DecodeError} → refused (refusal_of e) ≡ head_of scheme file clock → StrictRan scheme file clock body old old (Std.Err e)
  head_refused h = refused_run (head_stops scheme file clock body _ _ _ (sym h))

  pub body_refused : {e : Level3DecodeError} {h : Head} → accepted h ≡ head_of scheme file clock → refused (refusal_of e) ≡ then (picture_of body) (λ p. exact p.figures body)
      → StrictRan scheme file clock body old old (Std.Err e)
  body_refused hs e = refused_run (body_stops scheme file clock body _ _ _ (sym hs) (sym e))

  -- where both readings are the same, so are their runs
  pub as_ordinary : {new : Buffers} {said : SweepAnswer} → strict_into scheme file clock body old ≡ read_into scheme file clock body old
      → StrictRan scheme file clock body old new said → Ran scheme file clock body old new said
  as_ordinary {new} {said} e r = subst (λ R. SweepRan R old new said) e r

  pub passed_on : {new : Buffers} {said : SweepAnswer} → accepted tt ≡ then (picture_of body) (λ p. exact p.figures body)
      → Ran scheme file clock body old new said → StrictRan scheme file clock body old new said
  passed_on {new} {said} e r = subst (λ R. SweepRan R old new said) (sym (same_tested scheme file clock body _ _ _ (sym e))) r

-- ---- what the profile answers

module _ (body : List ℕ) where
  -- what the symbology read of an accepted body
  read_as : (q : Picture) → picture_of body ≡ accepted q → (g : Given Symbology.Sweep) × (run symbology body 0 ≡ accepted g) × (g.value.figures ≡ q.figures)
  unfolding picture_of
  read_as q e = through (run symbology body 0) _ q e λ g eg e₁. (g, eg, ap (λ (p : Picture). p.figures) (one_value e₁))

  pub words : (q : Picture) → picture_of body ≡ accepted q → (exact q.figures body ≡ accepted tt) ↔ NoSurplus q.figures body
  words q qs = let g = read_as q qs in rw g.2 at (Words.no_surplus body g.0 g.1)

  -- it has no surplus, or a lowest radial that has, or goes on after the last: `archive` has the answer of each
  pub one_of_three : (q : Picture) → picture_of body ≡ accepted q → ((i : ℕ) → get_or body i 0 < 256)
      → NoSurplus q.figures body ⊎ (((r : ℕ) × LowestOver q.figures body r) ⊎ AfterAll q.figures body)
  one_of_three q qs bytes = let g = read_as q qs in rw g.2 at (Words.one_of_three body g.0 g.1 bytes)

module _ (scheme : Scheme) (file : List ℕ) (clock : ℕ) (body : List ℕ) (na nc np : ℕ) where
  ordinary : (p : Accepted) → strict_of scheme file clock body na nc np ≡ accepted p → sweep_of scheme file clock body na nc np ≡ accepted p
  unfolding strict_of sweep_of
  ordinary p e =
      through (head_of scheme file clock) _ p e λ h hs e₁.
      through (picture_of body) _ p e₁ λ q qs e₂.
      through (exact q.figures body) _ p e₂ λ u us e₃.
      rw (hs, qs) e₃

  no_surplus : (q : Picture) → picture_of body ≡ accepted q → NoSurplus q.figures body → strict_of scheme file clock body na nc np ≡ sweep_of scheme file clock body na nc np
  no_surplus q qs n = same_where scheme file clock body na nc np q qs ((words body q qs).1 n)

  module _ (p : Accepted) (acc : sweep_of scheme file clock body na nc np ≡ accepted p) where
    w : Parts scheme file clock na nc np body p
    w = parts scheme file clock na nc np body p acc

    -- the picture that was read
    abbrev drawn : Picture
    drawn = record { figures = w.body.value.figures; azimuths = w.body.value.azimuths; codes = joined w.body.rows }

    drawn_is : picture_of body ≡ accepted drawn
    unfolding picture_of
    drawn_is = rw w.body_is refl

    exactly : (strict_of scheme file clock body na nc np ≡ accepted p) ↔ NoSurplus p.sweep.figures body
    unfolding strict_of
    exactly = (
      λ e.
          through (head_of scheme file clock) _ p e λ h hs e₁.
          through (picture_of body) _ p e₁ λ q qs e₂.
          through (exact q.figures body) _ p e₂ λ u us e₃.
          let same : q.figures ≡ p.sweep.figures = ap (λ (x : Picture). x.figures) (one_value (sym qs ∙ drawn_is)) ∙ w.figures in
          rw same at ((words body q qs).0 us),
      λ n. no_surplus drawn drawn_is (rw (sym w.figures) at n) ∙ acc,
    )

  -- a body that the symbology accepts, by its tests
  refused_by : {x : Refusal} (h : Head) (q : Picture) → head_of scheme file clock ≡ accepted h → picture_of body ≡ accepted q → exact q.figures body ≡ refused x
      → strict_of scheme file clock body na nc np ≡ refused x
  unfolding strict_of
  refused_by h q hs qs e = rw (hs, qs, e) refl

  in_row : (h : Head) (q : Picture) → head_of scheme file clock ≡ accepted h → picture_of body ≡ accepted q → (r : ℕ) → LowestOver q.figures body r
      → strict_of scheme file clock body na nc np ≡ refused (kind 45 (nat r ∷ []))
  in_row h q hs qs r w =
      let g = read_as body q qs in
      refused_by h q hs qs (ap (λ (f : Figures). exact f body) (sym g.2) ∙ Words.over_in_row body g.0 g.1 r (rw (sym g.2) at w))

  after : (h : Head) (q : Picture) → head_of scheme file clock ≡ accepted h → picture_of body ≡ accepted q → AfterAll q.figures body
      → strict_of scheme file clock body na nc np ≡ refused (kind 46 [])
  after h q hs qs w =
      let g = read_as body q qs in
      refused_by h q hs qs (ap (λ (f : Figures). exact f body) (sym g.2) ∙ Words.over_after body g.0 g.1 (rw (sym g.2) at w))

pub archive : (scheme : Scheme) (file : List ℕ) (clock : ℕ) (body : List ℕ) (na nc np : ℕ) → Archive scheme file clock body na nc np
archive scheme file clock body na nc np =
    record {
      ordinary = ordinary scheme file clock body na nc np;
      exactly = exactly scheme file clock body na nc np;
      in_row = in_row scheme file clock body na nc np;
      after = after scheme file clock body na nc np;
      no_head = no_head scheme file clock body na nc np;
      no_picture = no_picture scheme file clock body na nc np;
      no_surplus = no_surplus scheme file clock body na nc np;
    }
