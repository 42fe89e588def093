-- What document 02 promises of totals, over readings that are accepted. Assumes nothing.
use Prim.Native.Nat.{ℕ, ◌+◌, ◌*◌, ◌^◌, ◌≤◌, ◌<◌}
use mathlib.Core.List.{List, [], ◌∷◌, ◌++◌}
use mathlib.Core.Path.{◌≡◌, refl, sym, ap, ap₂, subst, ◌∙◌}
use native.Mathlib.Omega.{arith}
use lib.ListN.{length, get_or}
use Rattle.wire.specs.Result.{accepted}
use Rattle.wire.proofs.Results.{one_value, through}
use Rattle.scale.specs.declared.scaling.PrecipScale.{PrecipScale}
use Rattle.scale.specs.declared.physical.Scheme.{Scheme}
use Rattle.symbology.specs.Answers.{picture_of}
use Rattle.symbology.specs.Words.{Bytes}
use Rattle.sweep.specs.Sweep.{head_of, sweep_of}
use Rattle.sweep.proofs.Parts.{sizes}
use Rattle.sweep.proofs.Codes.{codes_widened}
use Rattle.fields.specs.declared.plan.Record.{Record}
use Rattle.fields.specs.declared.plan.Record.TheVariants.{Field, Strip, Malformed}
use Rattle.fields.specs.Plan.{entries_of}
use Rattle.fields.specs.Totals.{totals, weights}
use Rattle.fields.specs.Fields.{rain_scale, rain_of, Totalled, grid_of, totals_of}
use Rattle.fields.specs.Written.{written}
use Rattle.fields.proofs.Back.{Whole, written_back}
use Rattle.fields.specs.WithTotals.{records_of, Cut, Strips, Moved, OneCell}
use Rattle.fields.proofs.Theorems as of-plans
use Rattle.fields.proofs.Moves as moves
use Rattle.fields.proofs.Joined.{Made, made}
use Rattle.fields.proofs.Writing.{passed, few_strips}
use Rattle.fields.proofs.Bounded.{totals_small}
use Rattle.fields.proofs.Files.{no_malformed, rest_field, rest_strip, file_of}

-- the same records before others
whole_behind : (xs : List Record) {us vs : List Record} → (Whole us → Whole vs) → Whole (xs ++ us) → Whole (xs ++ vs)
whole_behind [] f h = f h
whole_behind (Field n ∷ xs) f h = Whole.field (whole_behind xs f (rest_field h refl))
whole_behind (Strip r g c w ∷ xs) f h = Whole.strip (whole_behind xs f (rest_strip h refl))
whole_behind (Malformed ∷ xs) f h = no_malformed h refl

past_strips : {ms ys : List Record} → Strips ms → Whole (ms ++ ys) → Whole ys
past_strips Strips.none h = h
past_strips (Strips.more k) h = past_strips k (rest_strip h refl)

joined_strips : {ms ys : List Record} → Strips ms → Whole ys → Whole (ms ++ ys)
joined_strips Strips.none h = h
joined_strips (Strips.more k) h = Whole.strip (joined_strips k h)

-- a strip moved behind others of its field
moved_by : {plan plan' : List ℕ} (xs ms ys : List Record) (r g c w : ℕ) → Strips ms → records_of plan ≡ xs ++ (Strip r g c w ∷ (ms ++ ys))
    → records_of plan' ≡ xs ++ (ms ++ (Strip r g c w ∷ ys)) → Moved plan plan'
moved_by xs ms ys r g c w k e e' =
    record { before = xs; others = ms; after = ys; strips = k; radial = r; gate = g; count = c; weight = w; was = e; is = e' }

whole_within : {bins : ℕ} {rs : List Record} → moves.Within bins rs → Whole rs
whole_within moves.Within.none = Whole.none
whole_within (moves.Within.field h) = Whole.field (whole_within h)
whole_within (moves.Within.strip i h) = Whole.strip (whole_within h)

module _ (scheme : Scheme) (file : List ℕ) (clock : ℕ) (na nc np nt : ℕ) where
  -- a body and a plan are accepted, and give t
  pub record Reads (body plan : List ℕ) (t : Totalled) : Type 0 where
    pub is : totals_of scheme file clock body plan na nc np nt ≡ accepted t

  module _ {body plan : List ℕ} {t : Totalled} (e : Reads body plan t) where
    from : Made scheme file clock body plan na nc np nt t
    from = made scheme file clock body plan na nc np nt t e.is

    -- The picture is the ordinary reading's.
    pub ordinary : sweep_of scheme file clock body na nc np ≡ accepted t.sweep
    ordinary = from.sweeps

    -- The plan has no malformed record, and it is the file of its records.
    pub well_formed_lem : Whole (records_of plan)
    well_formed_lem = let q = passed plan _ _ from.plans in whole_within (of-plans.within _ _ 0 0 (entries_of plan) q.no_bad q.no_outside)

    pub its_file : Bytes plan → plan ≡ written (records_of plan)
    its_file small = file_of plan small well_formed_lem

    totals_are : t.totals ≡ totals (grid_of t.scale t.sweep) (records_of plan)
    totals_are = from.totals_are

    -- No sum overflows 64 bits.
    pub no_overflow : Bytes body → Bytes plan → (i : ℕ) → get_or t.totals i 0 < 2 ^ 60
    no_overflow bytes bytes' i =
        rw totals_are
        (totals_small (grid_of t.scale t.sweep) (codes_widened scheme file clock body na nc np t.sweep from.sweeps bytes) plan bytes'
        (few_strips (passed plan _ _ from.plans)) i)

  -- the scale is the file's, whatever the body is
  same_scale : (body body' : List ℕ) {s s' : PrecipScale} → rain_of scheme file clock body ≡ accepted s → rain_of scheme file clock body' ≡ accepted s' → s' ≡ s
  unfolding rain_of
  same_scale body body' {s} {s'} e e' =
      through (head_of scheme file clock) _ s e λ h eh e₁.
      through (picture_of body) _ s e₁ λ _ _ e₂.
      through (head_of scheme file clock) _ s' e' λ h' eh' e₁'.
      through (picture_of body') _ s' e₁' λ _ _ e₂'.
      let same = one_value (sym eh ∙ eh') in
      one_value (sym e₂' ∙ ap (λ x. rain_scale x.scaling) (sym same) ∙ e₂)

  -- ---- two plans over one body

  module _ {body plan plan' : List ℕ} {t t' : Totalled} (e : Reads body plan t) (e' : Reads body plan' t') where
    same_grid : grid_of t'.scale t'.sweep ≡ grid_of t.scale t.sweep
    same_grid = ap₂ grid_of (same_scale _ _ (from e).rain (from e').rain) (one_value (sym (from e').sweeps ∙ (from e).sweeps))

    -- Cutting a strip in two leaves every total.
    pub cut_in_two : Cut plan plan' → t'.totals ≡ t.totals
    cut_in_two k =
        totals_are e' ∙ ap (λ p. totals p (records_of plan')) same_grid ∙ sym (of-plans.cut_in_two (grid_of t.scale t.sweep) plan plan' k) ∙ sym (totals_are e)

    -- Moving a strip among the strips of its field leaves every total.
    pub moved_among : Moved plan plan' → t'.totals ≡ t.totals
    moved_among k =
        totals_are e' ∙ ap (λ p. totals p (records_of plan')) same_grid ∙ sym (of-plans.moved_among (grid_of t.scale t.sweep) plan plan' k) ∙ sym (totals_are e)

  -- The same of files: one strip of an accepted plan is cut, or moved later or earlier, and the plan written anew.
  module _ {body plan : List ℕ} {t t' : Totalled} (e : Reads body plan t) where
    pub cut_file : (xs ys : List Record) (r g a b w : ℕ) → records_of plan ≡ xs ++ (Strip r g (a + b) w ∷ ys)
        → Reads body (written (xs ++ (Strip r g a w ∷ Strip r (g + a) b w ∷ ys))) t' → t'.totals ≡ t.totals
    cut_file xs ys r g a b w is e' =
        cut_in_two e e' (record {
          before = xs;
          after = ys;
          radial = r;
          gate = g;
          one = a;
          two = b;
          weight = w;
          whole = is;
          parts = written_back (whole_behind xs (λ h. Whole.strip (Whole.strip (rest_strip h refl))) (subst Whole is (well_formed_lem e)));
        })

    module _ (xs ms ys : List Record) (r g c w : ℕ) (k : Strips ms) where
      pub later_file : records_of plan ≡ xs ++ (Strip r g c w ∷ (ms ++ ys)) → Reads body (written (xs ++ (ms ++ (Strip r g c w ∷ ys)))) t' → t'.totals ≡ t.totals
      later_file is e' =
          moved_among e e'
          (moved_by xs ms ys r g c w k is
          (written_back (whole_behind xs (λ h. joined_strips k (Whole.strip (past_strips k (rest_strip h refl)))) (subst Whole is (well_formed_lem e)))))

      pub earlier_file : records_of plan ≡ xs ++ (ms ++ (Strip r g c w ∷ ys)) → Reads body (written (xs ++ (Strip r g c w ∷ (ms ++ ys)))) t' → t'.totals ≡ t.totals
      earlier_file is e' =
          sym (moved_among e' e
          (moved_by xs ms ys r g c w k
          (written_back (whole_behind xs (λ h. Whole.strip (joined_strips k (rest_strip (past_strips k h) refl))) (subst Whole is (well_formed_lem e)))) is))

  -- ---- two bodies under one plan: the second's picture has another code in one cell

  module _ {body body' plan : List ℕ} {t t' : Totalled} (e : Reads body plan t) (e' : Reads body' plan t') (radial gate from-code to-code : ℕ)
      (o : OneCell t.scale t.sweep.sweep.figures t'.sweep.sweep.figures t.sweep.codes t'.sweep.codes radial gate from-code to-code) where
    whole : t.sweep.sweep.figures.n_radials * t.sweep.sweep.figures.n_bins ≤ length t.sweep.codes
    whole = let l = (sizes scheme file clock body na nc np t.sweep (from e).sweeps).codes in omega (arith, l)

    moved_grid : grid_of t'.scale t'.sweep ≡ moves.moved (grid_of t.scale t.sweep) (radial * t.sweep.sweep.figures.n_bins + gate) to-code
    moved_grid = rw (same_scale _ _ (from e).rain (from e').rain, o.bins, o.is)

    -- up by d: each field's total moves by d × the summed weights of its strips over that cell
    pub moves_up : (d : ℕ) → to-code ≡ from-code + d → (i : ℕ) → get_or t'.totals i 0 ≡ get_or t.totals i 0 + d * get_or (weights radial gate (records_of plan)) i 0
    moves_up d is i =
        rw (totals_are e', totals_are e, moved_grid)
        (of-plans.moves_up (grid_of t.scale t.sweep) _ _ plan radial gate to-code (from e).plans o.in_radials o.in_row whole
        (rw o.was o.valid_from) o.valid_to d (rw o.was is) i)

    -- and down
    pub moves_down : (d : ℕ) → from-code ≡ to-code + d → (i : ℕ) → get_or t.totals i 0 ≡ get_or t'.totals i 0 + d * get_or (weights radial gate (records_of plan)) i 0
    moves_down d is i =
        rw (totals_are e', totals_are e, moved_grid)
        (of-plans.moves_down (grid_of t.scale t.sweep) _ _ plan radial gate to-code (from e).plans o.in_radials o.in_row whole
        (rw o.was o.valid_from) o.valid_to d (rw o.was is) i)
