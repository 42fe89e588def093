-- The sweep reading with totals by way of the sweep's check and the plan's, a law for each answer of the code. Assumes nothing.
use Prim.Native.Nat.{ℕ, ◌+◌, ◌*◌, ◌≤◌}
use mathlib.Core.Bool.{Bool, true, false}
use mathlib.Core.List.{List, [], ◌∷◌, ◌++◌}
use native.Mathlib.Omega.{arith}
use mathlib.Core.Logic.{◌⊎◌, ⊎_elim}
use mathlib.Core.Path.{◌≡◌, refl, sym, ap, ap₂, subst, ◌∙◌}
use lib.Dec.{ltb}
use lib.Ieee.{Float}
use lib.ListN.{length, take, drop, length-append}
use borrow.Author.Tests.{ltb-false}
use Rattle.std.specs.Prelude as Std
use Rattle.wire.specs.Refusal.{Refusal, kind, buffer}
use Rattle.wire.specs.Result.{Result, accepted, refused, refuse, then, lent, answer}
use Rattle.wire.specs.declared.error.Buffer.TheVariants as Buffer
use Rattle.wire.proofs.Results.{clash, one_value, through, passed}
use Rattle.scale.specs.declared.scaling.LinearScale.{LinearScale}
use Rattle.scale.specs.declared.scaling.PrecipScale.{PrecipScale}
use Rattle.scale.specs.declared.physical.Scheme.{Scheme}
use Rattle.scale.specs.declared.physical.Scaling.{Scaling}
use Rattle.symbology.specs.Answers.{Picture, picture_of}
use Rattle.sweep.specs.declared.plan.Head.{Head}
use Rattle.sweep.specs.declared.sweep.Sweep.{Sweep}
use Rattle.sweep.specs.Sweep.{head_of, Accepted, sweep_of, sweep_in}
use Rattle.sweep.proofs.Parts.{Sizes, sizes, codes_fit}
use Rattle.sweep.proofs.Reading.{no_picture_lem, given_in, front_is}
use Rattle.fields.specs.declared.fields.Checked.{Checked}
use Rattle.fields.specs.Plan.{entries_of, plan_of}
use Rattle.fields.specs.Totals.{totals, items}
use Rattle.fields.specs.Fields.{TotalsAnswer, rain_scale, rain_of, Totalled, grid_of, planned, totals_of, totals_in, checked_in, checked_on, totals_buffers, TotalsRan}
use Rattle.fields.specs.Picture.{picture_totals, fields_in}
use Rattle.fields.proofs.Writing as writing
use Rattle.fields.proofs.PictureTotals.{of_picture}

-- ---- the plan over a sweep

-- what is given once a plan has n fields: of the reading, and of the check
abbrev total : List ℕ → PrecipScale → Accepted → ℕ → Totalled
total plan scale a n = record { sweep = a; scale = scale; fields = n; totals = totals (grid_of scale a) (items (entries_of plan)) }

abbrev check_of : Totalled → Checked
check_of t = record { sweep = t.sweep.sweep; scale = t.scale; fields = t.fields }

checked_on_lem : (plan : List ℕ) (nt : ℕ) (scale : PrecipScale) (r : Result Accepted) → checked_on plan nt scale (sweep_in r) ≡ checked_in (then r (planned plan nt scale))
unfolding checked_on planned
checked_on_lem plan nt scale (refused x) = refl
checked_on_lem plan nt scale (accepted a) = by (plan_of plan a.sweep.figures.n_radials a.sweep.figures.n_bins)
  where
    room : (b : Bool) (n : ℕ) → refuse b (kind 36 (buffer Buffer.Totals ∷ [])) (accepted (check_of (total plan scale a n)))
        ≡ checked_in (refuse b (kind 36 (buffer Buffer.Totals ∷ [])) (accepted (total plan scale a n)))
    room true n = refl
    room false n = refl

    by : (z : Result ℕ) → then z (λ n. refuse (ltb nt n) (kind 36 (buffer Buffer.Totals ∷ [])) (accepted (check_of (total plan scale a n))))
        ≡ checked_in (then z λ n. refuse (ltb nt n) (kind 36 (buffer Buffer.Totals ∷ [])) (accepted (total plan scale a n)))
    by (refused x) = refl
    by (accepted n) = room (ltb nt n) n

-- a scaling of another family
pub rainless : {s : Scaling} → ((l : LinearScale) × (s ≡ Scaling.Linear l)) ⊎ (((at : ℕ) × (post : Float) × (s ≡ Scaling.Legacy at post)) ⊎ (s ≡ Scaling.Class)) → rain_scale s ≡ refused (kind 10 [])
rainless h = ⊎_elim (λ l. ap rain_scale l.1) (λ k. ⊎_elim (λ l. ap rain_scale l.2) (λ q. ap rain_scale q) k) h

-- ---- all tests

module _ (scheme : Scheme) (file : List ℕ) (clock : ℕ) (body plan : List ℕ) (na nc np nt : ℕ) where
  pub no_head_lem : {x : Refusal} → refused x ≡ head_of scheme file clock → refused x ≡ totals_of scheme file clock body plan na nc np nt
  unfolding totals_of rain_of
  no_head_lem e = rw (← e)

  module _ (h : Head) (eh : accepted h ≡ head_of scheme file clock) where
    rain_is : {p : PrecipScale} → rain_scale h.scaling ≡ accepted p
        → totals_of scheme file clock body plan na nc np nt ≡ then (sweep_of scheme file clock body na nc np) (planned plan nt p)
    unfolding totals_of rain_of
    rain_is {p} e = rw (← eh) (by (picture_of body) (rain_scale h.scaling) refl e)
      where
        by : (z : Result Picture) (w : Result PrecipScale) → z ≡ picture_of body → w ≡ accepted p
            → then (then z λ _. w) (λ scale. then (sweep_of scheme file clock body na nc np) (planned plan nt scale))
            ≡ then (sweep_of scheme file clock body na nc np) (planned plan nt p)
        by (accepted q) w j i = rw i
        by (refused x) w j i = ap (λ s. then s (planned plan nt p)) (no_picture_lem scheme file clock body na nc np eh j)

    pub with_rain : {p : PrecipScale} {a : Result Sweep} {r : Result Checked} → h.scaling ≡ Scaling.Precip p
        → a ≡ sweep_in (sweep_of scheme file clock body na nc np) → r ≡ checked_on plan nt p a
        → r ≡ checked_in (totals_of scheme file clock body plan na nc np nt)
    with_rain {p} is ea er =
        er ∙ ap (checked_on plan nt p) ea ∙ checked_on_lem plan nt p (sweep_of scheme file clock body na nc np) ∙ ap checked_in (sym (rain_is (ap rain_scale is)))

    pub without : {r : Result Checked} → rain_scale h.scaling ≡ refused (kind 10 [])
        → r ≡ then (picture_of body) (λ _. refused (kind 10 [])) → r ≡ checked_in (totals_of scheme file clock body plan na nc np nt)
    unfolding totals_of rain_of
    without e er = rw (← eh) (er ∙ by (picture_of body) (rain_scale h.scaling) e)
      where
        by : (z : Result Picture) (w : Result PrecipScale) → w ≡ refused (kind 10 [])
            → then z (λ _. refused (kind 10 []))
            ≡ checked_in (then (then z λ _. w) (λ scale. then (sweep_of scheme file clock body na nc np) (planned plan nt scale)))
        by (accepted q) w i = rw i
        by (refused x) w i = refl

  -- what an accepted reading came from
  pub record Made (t : Totalled) : Type 0 where
    pub rain : rain_of scheme file clock body ≡ accepted t.scale
    pub sweeps : sweep_of scheme file clock body na nc np ≡ accepted t.sweep
    pub plans : plan_of plan t.sweep.sweep.figures.n_radials t.sweep.sweep.figures.n_bins ≡ accepted t.fields
    pub room : t.fields ≤ nt
    pub totals_are : t.totals ≡ totals (grid_of t.scale t.sweep) (items (entries_of plan))

  pub made : (t : Totalled) → totals_of scheme file clock body plan na nc np nt ≡ accepted t → Made t
  unfolding totals_of planned
  made t e =
      through (rain_of scheme file clock body) _ t e λ scale es e₁.
      through (sweep_of scheme file clock body na nc np) _ t e₁ λ a ea e₂.
      through (plan_of plan a.sweep.figures.n_radials a.sweep.figures.n_bins) _ t e₂ λ n en e₃.
      passed (ltb nt n) _ _ t e₃ λ b e₄.
      subst Made (one_value e₄) (record { rain = es; sweeps = ea; plans = en; room = ltb-false _ _ b; totals_are = refl })

  -- as many totals as fields
  pub many_totals : (t : Totalled) → totals_of scheme file clock body plan na nc np nt ≡ accepted t → length t.totals ≡ t.fields
  many_totals t e = let m = made t e in ap length m.totals_are ∙ writing.length_totals _ (entries_of plan) ∙ (writing.passed plan _ _ m.plans).fields

-- ---- the answers, and what they leave in buffers that held az, cs, ph and ts

module _ (scheme : Scheme) (file : List ℕ) (clock : ℕ) (body plan : List ℕ) (az : List Float) (cs : List ℕ) (ph : List Float) (ts : List ℕ) where
  abbrev D : Result Totalled
  D = totals_of scheme file clock body plan (length az) (length cs) (length ph) (length ts)

  abbrev S : Result Accepted
  S = sweep_of scheme file clock body (length az) (length cs) (length ph)

  abbrev Reads : TotalsAnswer → List Float → List ℕ → List Float → List ℕ → Type 0
  Reads r az' cs' ph' ts' = TotalsRan scheme file clock body plan (totals_buffers az cs ph ts) (totals_buffers az' cs' ph' ts') r

  -- what the code says and leaves, by a result
  told : {d : Result Totalled} {r : TotalsAnswer} {az' : List Float} {cs' : List ℕ} {ph' : List Float} {ts' : List ℕ} → d ≡ D → answer r ≡ totals_in d
      → az' ≡ lent d (λ t. t.sweep.azimuths) az → cs' ≡ lent d (λ t. t.sweep.codes) cs → ph' ≡ lent d (λ t. t.sweep.physical) ph
      → ts' ≡ lent d (λ t. t.totals) ts → Reads r az' cs' ph' ts'
  told e i a c v o =
      record {
        answered = i ∙ ap totals_in e;
        azimuths = a ∙ ap (λ d. lent d (λ t. t.sweep.azimuths) az) e;
        codes = c ∙ ap (λ d. lent d (λ t. t.sweep.codes) cs) e;
        physical = v ∙ ap (λ d. lent d (λ t. t.sweep.physical) ph) e;
        totals = o ∙ ap (λ d. lent d (λ t. t.totals) ts) e;
      }

  -- what is known once all tests have passed
  pub record Passed (k : Checked) : Type 0 where
    pub t : Totalled
    pub is : D ≡ accepted t
    pub told : k ≡ check_of t

  pub passes : {k : Checked} → accepted k ≡ checked_in D → Passed k
  passes e = let g = given_in check_of D e in record { t = g.0; is = g.1; told = sym g.2 }

  module _ {k : Checked} (w : Passed k) where
    from : Made scheme file clock body plan (length az) (length cs) (length ph) (length ts) w.t
    from = made scheme file clock body plan (length az) (length cs) (length ph) (length ts) w.t w.is

    long : Sizes w.t.sweep
    long = sizes scheme file clock body (length az) (length cs) (length ph) w.t.sweep from.sweeps

    -- an answer of the code that can't be
    pub sweep_accepts : {C : Type 0} {x : Refusal} → refused x ≡ sweep_in S → C
    sweep_accepts {C} {x} e = clash w.t.sweep.sweep x (e ∙ ap sweep_in from.sweeps)

    pub cells_fit : k.sweep.figures.n_radials * k.sweep.figures.n_bins ≤ length cs
    cells_fit = rw w.told (codes_fit scheme file clock body (length az) (length cs) (length ph) w.t.sweep from.sweeps)

    module _ {cs' : List ℕ} (c : cs' ≡ lent S (λ p. p.codes) cs) where
      now_codes : cs' ≡ w.t.sweep.codes ++ drop (length w.t.sweep.codes) cs
      now_codes = c ∙ ap (λ r. lent r (λ p. p.codes) cs) from.sweeps

      -- the cells of the picture are the front of the buffer
      front : take (k.sweep.figures.n_radials * k.sweep.figures.n_bins) cs' ≡ w.t.sweep.codes
      front = rw w.told (front_is _ w.t.sweep.codes cs now_codes long.codes)

      pub cells_there : k.sweep.figures.n_radials * k.sweep.figures.n_bins ≤ length cs'
      cells_there =
          let l = w.t.sweep.codes in
          let e : length cs' ≡ length l + length (drop (length l) cs) = ap length now_codes ∙ length-append l (drop (length l) cs) in
          rw w.told (omega (arith, e, long.codes))

      -- the totals of these cells, which are the reading's
      abbrev cells_totals : Result (List ℕ)
      cells_totals =
          picture_totals (take (k.sweep.figures.n_radials * k.sweep.figures.n_bins) cs') k.sweep.figures.n_radials k.sweep.figures.n_bins k.scale plan (length ts)

      given : cells_totals ≡ accepted w.t.totals
      given = rw (front, w.told)
          (through (picture_totals w.t.sweep.codes w.t.sweep.sweep.figures.n_radials w.t.sweep.sweep.figures.n_bins w.t.scale plan (length ts)) _ w.t
          (sym (of_picture scheme file clock body plan (length az) (length cs) (length ph) (length ts) w.t.scale w.t.sweep from.rain from.sweeps) ∙ w.is)
          λ o eo e. eo ∙ ap accepted (ap (λ (t : Totalled). t.totals) (one_value e)))

      -- an answer of the code that can't be
      pub totals_accept : {C : Type 0} {x : Refusal} → refused x ≡ fields_in cells_totals → C
      totals_accept {x = x} e = clash (length w.t.totals) x (e ∙ ap fields_in given)

      pub done : {az' ph' : List Float} {n : ℕ} {out : List ℕ} → az' ≡ lent S (λ p. p.azimuths) az → ph' ≡ lent S (λ p. p.physical) ph
          → accepted n ≡ fields_in cells_totals
          → out ≡ lent cells_totals (λ t. t) ts
          → Reads (Std.Ok (record { sweep = k.sweep; fields = n })) az' cs' ph' out
      done {n = n} a p i o =
          let many : n ≡ w.t.fields =
          one_value (i ∙ ap fields_in given) ∙ many_totals scheme file clock body plan (length az) (length cs) (length ph) (length ts) w.t w.is in
          told (sym w.is) (ap₂ (λ (q : Checked) m. accepted (record { sweep = q.sweep; fields = m })) w.told many)
          (a ∙ ap (λ r. lent r (λ q. q.azimuths) az) from.sweeps) now_codes (p ∙ ap (λ r. lent r (λ q. q.physical) ph) from.sweeps)
          (o ∙ ap (λ r. lent r (λ t. t) ts) given)
