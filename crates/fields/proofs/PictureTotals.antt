-- The totals of a plan over any picture: a law for each answer of the code, and that those of M-104's reading are these. Assumes nothing.
use Rattle.std.proofs.Common.{◌≡◌, ℕ, ◌*◌, ◌<◌, ◌≤◌, Bool, true, false, ltb, List, [], ◌∷◌, ◌++◌, length, drop, refl, sym, ap, ◌∙◌, arith, lt-ltb, le-ltb}
use Rattle.wire.specs.Refusal.{Refusal, kind, buffer}
use Rattle.wire.specs.Result.{Result, accepted, refused, refuse, then, lent}
use Rattle.wire.specs.declared.error.Buffer.TheVariants as Buffer
use Rattle.scale.specs.declared.scaling.PrecipScale.{PrecipScale}
use Rattle.sweep.proofs.Parts.{sizes}
use Rattle.fields.specs.Plan.{entries_of, plan_of}
use Rattle.fields.specs.Totals.{grid, totals, items}
use Rattle.fields.specs.Fields.{Totalled, grid_of, planned, totals_of}
use Rattle.fields.specs.Picture.{picture_totals, fields_in, OfPicture}
use Rattle.sweep.specs.Sweep.{Accepted}
use Rattle.fields.proofs.Writing.{passed, length_totals}

module _ (codes : List ℕ) (radials bins : ℕ) (scale : PrecipScale) (plan old : List ℕ) where
  abbrev T : Result (List ℕ)
  T = picture_totals codes radials bins scale plan (length old)

  abbrev ts : List ℕ
  ts = totals (grid codes bins scale.floor scale.ceiling) (items (entries_of plan))

  -- what a refused call answers and leaves
  abbrev Refused : Refusal → Type 0
  Refused x = (refused x ≡ fields_in T) × (old ≡ lent T (λ t. t) old)

  refuses : {x : Refusal} → T ≡ refused x → Refused x
  refuses e = (ap fields_in (sym e), ap (λ r. lent r (λ t. t) old) (sym e))

  pub few_codes : {short : _} → short ≡ ltb (length codes) (radials * bins) → short ≡ true → Refused (kind 36 (buffer Buffer.Codes ∷ []))
  unfolding picture_totals
  few_codes s e = refuses (rw (sym s ∙ e) refl)

  module _ {short : _} (s : short ≡ ltb (length codes) (radials * bins)) (e : short ≡ false) where
    pub no_plan : {x : Refusal} → refused x ≡ plan_of plan radials bins → Refused x
    unfolding picture_totals
    no_plan i = refuses (rw (sym s ∙ e, ← i) refl)

    module _ {n : ℕ} (i : accepted n ≡ plan_of plan radials bins) where
      pub few_totals : length old < n → Refused (kind 36 (buffer Buffer.Totals ∷ []))
      unfolding picture_totals
      few_totals l = refuses (rw (sym s ∙ e, ← i) (simp (lt-ltb _ _ l)))

      many : length ts ≡ n
      many = length_totals _ (entries_of plan) ∙ (passed plan radials bins (sym i)).fields

      pub written : {w : List ℕ} → n ≤ length old → w ≡ ts → (accepted n ≡ fields_in T) × (w ++ drop n old ≡ lent T (λ t. t) old)
      written {w} l h =
          let q : T ≡ accepted ts = unfold picture_totals in rw (sym s ∙ e, ← i) (simp (le-ltb _ _ l)) in
          (ap accepted (sym many) ∙ ap fields_in (sym q), rw (h, sym many) (ap (λ r. lent r (λ t. t) old) (sym q)))

-- ---- M-104's totals are those of its picture

module _ (plan : List ℕ) (nt : ℕ) (scale : PrecipScale) (a : Accepted) (long : a.sweep.figures.n_radials * a.sweep.figures.n_bins ≤ length a.codes) where
  abbrev grid_totals : List ℕ
  grid_totals = totals (grid_of scale a) (items (entries_of plan))

  abbrev given : List ℕ → Result Totalled
  given t = accepted (record { sweep = a; scale = scale; fields = length t; totals = t })

  room : (b : Bool) (n : ℕ) → length grid_totals ≡ n
      → refuse b (kind 36 (buffer Buffer.Totals ∷ [])) (accepted (record { sweep = a; scale = scale; fields = n; totals = grid_totals }))
      ≡ then (refuse b (kind 36 (buffer Buffer.Totals ∷ [])) (accepted grid_totals)) given
  room true n e = refl
  room false n e = rw e refl

  planned_is : planned plan nt scale a ≡ then (picture_totals a.codes a.sweep.figures.n_radials a.sweep.figures.n_bins scale plan nt) given
  unfolding planned picture_totals
  planned_is = rw (le-ltb _ _ long) (by (plan_of plan a.sweep.figures.n_radials a.sweep.figures.n_bins) refl)
    where
      by : (z : Result ℕ) → plan_of plan a.sweep.figures.n_radials a.sweep.figures.n_bins ≡ z
          → then z (λ n. refuse (ltb nt n) (kind 36 (buffer Buffer.Totals ∷ [])) (accepted (record { sweep = a; scale = scale; fields = n; totals = grid_totals })))
          ≡ then (then z λ n. refuse (ltb nt n) (kind 36 (buffer Buffer.Totals ∷ [])) (accepted grid_totals)) given
      by (accepted n) e = room (ltb nt n) n (length_totals _ (entries_of plan) ∙ (passed plan _ _ e).fields)
      by (refused x) e = refl

pub of_picture : OfPicture
unfolding totals_of
of_picture scheme file clock body plan na nc np nt scale a er ea =
    let z = sizes scheme file clock body na nc np a ea in
    rw (er, ea) (planned_is plan nt scale a (omega (arith, z.codes)))
