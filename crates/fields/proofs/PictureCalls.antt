-- The totals alone, for calls of the code: what `picture_totals` answers over the picture that a call of `read_sweep` left is what a call of
-- `read_sweep_with_totals` answers, refusals too, and the totals are the same. Assumes nothing.
use Prim.Native.Nat.{ℕ, ◌*◌}
use mathlib.Core.List.{List}
use mathlib.Core.Path.{◌≡◌, refl, sym, ap, ◌∙◌}
use lib.ListN.{length, take}
use contract.Lifetimes.{Lfts}
use borrow.Fn.World.{ArgsD, ResD}
use borrow.Fn.Kinds.{ended_of}
use denote.Triple.Clauses.{AtExit}
use Rattle.std.specs.Prelude as Std
use Rattle.wire.specs.Result.{Result, accepted, refused, answer, then, lent}
use Rattle.wire.proofs.Results.{clash, one_value}
use Rattle.scale.specs.declared.scaling.PrecipScale.{PrecipScale}
use Rattle.sweep.specs.declared.sweep.Sweep.{Sweep}
use Rattle.scale.specs.declared.physical.Scheme.{Scheme}
use Rattle.sweep.specs.Sweep.{Accepted, sweep_of, read_into}
use Rattle.sweep.proofs.CodeRuns as Ordinary
use Rattle.sweep.proofs.Parts.{sizes}
use Rattle.sweep.proofs.Reading.{given_in, front_is}
use Rattle.fields.specs.declared.fields.SweepTotals.{SweepTotals}
use Rattle.fields.specs.Fields.{rain_of, Totalled, totals_in, totals_of}
use Rattle.fields.specs.Picture.{picture_totals, fields_in}
use Rattle.fields.proofs.CodeRuns.{Call, Allowed, input, plan, old, new}
use Rattle.fields.proofs.PictureTotals.{of_picture}
use Rattle.fields.specs.contracts.picture.picture_totals.{signature}
use Rattle.fields.proofs.picture.picture_totals.Kinds as kinds
use Rattle.fields.proofs.picture.picture_totals.Reads as reads

-- A call: its arguments (codes, radials, bins, scale, plan, totals, in this order), its result and the arguments at the return, whatever they
-- are.
pub record PictureCall : Type 0 where
  pub lifetimes : Lfts 3
  pub given : ArgsD signature lifetimes
  pub answer : ResD signature lifetimes
  pub last : AtExit (ended_of 3 kinds.ps kinds.r) lifetimes

-- the contract of `picture_totals` allows it
abbrev pub PictureAllowed : PictureCall → Type 0
PictureAllowed d = reads.Post d.lifetimes d.given d.answer d.last

-- what it reads: codes, radials, bins, scale, plan; and what the buffer holds before and after
abbrev pub codes : PictureCall → List ℕ
codes d = d.given.0.now

abbrev pub radials : PictureCall → ℕ
radials d = d.given.1.0

abbrev pub bins : PictureCall → ℕ
bins d = d.given.1.1.0

abbrev pub scale : PictureCall → PrecipScale
scale d = d.given.1.1.1.0

abbrev pub plan_given : PictureCall → List ℕ
plan_given d = d.given.1.1.1.1.0.now

abbrev pub before : PictureCall → List ℕ
before d = d.given.1.1.1.1.1.0.now

abbrev pub after : PictureCall → List ℕ
after d = d.last.1.1.1.1.1.0.now

-- An ordinary call, a call with a plan, and a call over a picture: the first two read the same and have picture buffers of the same lengths; the
-- last has the codes that the ordinary one left for s, its counts, the scale of the file, and the plan, and as many places for totals.
pub record SamePicture (o : Ordinary.Call) (c : Call) (d : PictureCall) (s : Sweep) : Type 0 where
  pub files : (input c).file ≡ Ordinary.file o
  pub clocks : (input c).clock ≡ Ordinary.clock o
  pub schemes : (input c).scheme ≡ Ordinary.scheme o
  pub bodies : (input c).body ≡ Ordinary.body o
  pub azimuths : length (old c).azimuths ≡ length (Ordinary.old o).azimuths
  pub codes_long : length (old c).codes ≡ length (Ordinary.old o).codes
  pub physical : length (old c).physical ≡ length (Ordinary.old o).physical
  pub picture : codes d ≡ take (s.figures.n_radials * s.figures.n_bins) (Ordinary.new o).codes
  pub radials_are : radials d ≡ s.figures.n_radials
  pub bins_are : bins d ≡ s.figures.n_bins
  pub scale_is : rain_of (Ordinary.scheme o) (Ordinary.file o) (Ordinary.clock o) (Ordinary.body o) ≡ accepted (scale d)
  pub plans : plan c ≡ plan_given d
  pub totals : length (old c).totals ≡ length (before d)

abbrev given : PrecipScale → Accepted → List ℕ → Result Totalled
given k a t = accepted (record { sweep = a; scale = k; fields = length t; totals = t })

-- how many fields, by either
counted : (k : PrecipScale) (a : Accepted) (p : Result (List ℕ)) → fields_in p ≡ then (totals_in (then p (given k a))) (λ t. accepted t.fields)
counted k a (accepted t) = refl
counted k a (refused x) = refl

-- the totals that either leaves
left : (k : PrecipScale) (a : Accepted) (p : Result (List ℕ)) (was was' : List ℕ) {now now' : List ℕ} (n : ℕ) (t : SweepTotals) → t.fields ≡ n
    → accepted t ≡ totals_in (then p (given k a)) → now ≡ lent p (λ ts. ts) was → now' ≡ lent (then p (given k a)) (λ q. q.totals) was'
    → take n now ≡ take n now'
left k a (accepted ts) was was' n t en e i i' =
    let many : length ts ≡ n = sym (ap (λ (q : SweepTotals). q.fields) (one_value e)) ∙ en in
    front_is n ts was i many ∙ sym (front_is n ts was' i' many)
left k a (refused x) was was' n t en e i i' = clash t x (sym e)

by_parts : {h h' : Scheme} {f f' : List ℕ} {k k' : ℕ} {b b' p p' cs : List ℕ} {na na' nc nc' np np' nt nt' rs bs : ℕ} (q : PrecipScale) (a : Accepted)
    → h' ≡ h → f' ≡ f → k' ≡ k → b' ≡ b → p' ≡ p → na' ≡ na → nc' ≡ nc → np' ≡ np → nt' ≡ nt
    → cs ≡ a.codes → rs ≡ a.sweep.figures.n_radials → bs ≡ a.sweep.figures.n_bins → rain_of h f k b ≡ accepted q → sweep_of h f k b na nc np ≡ accepted a
    → totals_of h' f' k' b' p' na' nc' np' nt' ≡ then (picture_totals cs rs bs q p nt) (given q a)
by_parts q a e₁ e₂ e₃ e₄ e₅ e₆ e₇ e₈ e₉ ec er eb rain swept =
    rw (e₁, e₂, e₃, e₄, e₅, e₆, e₇, e₈, e₉, ec, er, eb) (of_picture _ _ _ _ _ _ _ _ _ q a rain swept)

module _ (o : Ordinary.Call) (c : Call) (d : PictureCall) (one : Ordinary.Allowed o) (two : Allowed c) (three : PictureAllowed d) (s : Sweep)
    (is : o.answer ≡ Std.Ok s) (same : SamePicture o c d s) where
  abbrev reading : Result Accepted
  reading = read_into (Ordinary.scheme o) (Ordinary.file o) (Ordinary.clock o) (Ordinary.body o) (Ordinary.old o)

  swept : (a : Accepted) × (reading ≡ accepted a) × (a.sweep ≡ s)
  swept = given_in (λ (p : Accepted). p.sweep) reading (sym (ap answer is) ∙ one.answered)

  abbrev a : Accepted
  a = swept.0

  -- the totals of the picture that the ordinary call left
  abbrev P : Result (List ℕ)
  P = picture_totals (codes d) (radials d) (bins d) (scale d) (plan_given d) (length (before d))

  same_codes : codes d ≡ a.codes
  same_codes =
      same.picture
      ∙ front_is _ a.codes (Ordinary.old o).codes (one.codes ∙ ap (λ r. lent r (λ p. p.codes) (Ordinary.old o).codes) swept.1)
      ((sizes (Ordinary.scheme o) (Ordinary.file o) (Ordinary.clock o) (Ordinary.body o) _ _ _ a swept.1).codes
      ∙ ap (λ (q : Sweep). q.figures.n_radials * q.figures.n_bins) swept.2)

  abbrev with_plan : Result Totalled
  with_plan = totals_of (input c).scheme (input c).file (input c).clock (input c).body (plan c) (length (old c).azimuths) (length (old c).codes) (length (old c).physical) (length (old c).totals)

  by_picture : with_plan ≡ then P (given (scale d) a)
  by_picture =
      by_parts (scale d) a same.schemes same.files same.clocks same.bodies same.plans same.azimuths same.codes_long same.physical same.totals same_codes
      (same.radials_are ∙ ap (λ (q : Sweep). q.figures.n_radials) (sym swept.2)) (same.bins_are ∙ ap (λ (q : Sweep). q.figures.n_bins) (sym swept.2))
      same.scale_is swept.1

  -- The totals alone are answered as the reading with the plan is: as many, or the same refusal.
  pub same_answer : answer d.answer ≡ then (answer c.answer) (λ t. accepted t.fields)
  same_answer =
      three.0 ∙ counted (scale d) a P
      ∙ ap (λ (r : Result Totalled). then (totals_in r) (λ t. accepted t.fields)) (sym by_picture)
      ∙ ap (λ r. then r (λ t. accepted t.fields)) (sym two.answered)

  -- And the totals that both leave are the same.
  pub same_totals : (t : SweepTotals) → c.answer ≡ Std.Ok t → take t.fields (after d) ≡ take t.fields (new c).totals
  same_totals t e =
      left (scale d) a P (before d) (old c).totals t.fields t refl (sym (ap answer e) ∙ two.answered ∙ ap totals_in by_picture) three.1
      (two.totals ∙ ap (λ (r : Result Totalled). lent r (λ q. q.totals) (old c).totals) by_picture)
