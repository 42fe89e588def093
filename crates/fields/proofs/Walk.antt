-- The records of a plan, one after the other, as the loops over them meet them. Assumes nothing.
use Rattle.std.specs.Prelude.{Option, Some, option_map, find, filter}
use Rattle.wire.specs.Bytes.{u16_at}
use mathlib.Core.Path.{◌≡◌, refl, sym, ◌∙◌}
use mathlib.Core.Bool.{Bool, true, false, cond, ◌&&◌}
use mathlib.Core.List.{List, [], ◌∷◌}
use Prim.Native.Nat.{ℕ, zero, suc, ◌+◌, ◌-◌, ◌≤◌, ◌<◌}
use native.Mathlib.Omega.{arith}
use lib.Dec.{eqb, leb}
use lib.ListN.{length, get_or}
use borrow.Author.Tests.{le-leb, lt-leb, leb-true}
use Rattle.fields.specs.declared.plan.Entry.{Entry}
use Rattle.fields.specs.declared.plan.Record.{Record}
use Rattle.fields.specs.declared.plan.Record.TheVariants.{Field, Strip, Malformed}
use Rattle.fields.specs.Plan.{record_at, size_of, fields_in, after, entries_in, entries_from, bad_at, first_of, leaves, outside_at, field_count}

pub and_both : (a : Bool) {b : Bool} → (a && b) ≡ true → (a ≡ true) × (b ≡ true)
and_both true h = (refl, h)
and_both false h = let z : ◌≡◌ {A = ℕ} 0 1 = cc in absurd (omega arith)

-- a record lies inside the plan
size_in : (b d : Bool) (n r g c w at len : ℕ) → (b ≡ true → at + 5 ≤ len) → (d ≡ true → at + 11 ≤ len) → at ≤ len
    → at + size_of (cond b (Field n) (cond d (Strip r g c w) Malformed)) ≤ len
size_in true d n r g c w at len h k i = h refl
size_in false true n r g c w at len h k i = k refl
size_in false false n r g c w at len h k i = omega arith

pub record_inside : (plan : List ℕ) (at : ℕ) → at ≤ length plan → at + size_of (record_at plan at) ≤ length plan
unfolding record_at
record_inside plan at i =
    size_in (leb (at + 5) (length plan) && (eqb (get_or plan at 0) 1 && eqb (u16_at plan (at + 1)) 2))
    (leb (at + 11) (length plan) && (eqb (get_or plan at 0) 2 && eqb (u16_at plan (at + 1)) 8)) _ _ _ _ _ at (length plan)
    (λ h. leb-true _ _ (and_both (leb (at + 5) (length plan)) h).0) (λ h. leb-true _ _ (and_both (leb (at + 11) (length plan)) h).0) i

-- what follows a record counts only where it has a size
after_same : (x : Record) {es fs : List Entry} → (1 ≤ size_of x → es ≡ fs) → after x es ≡ after x fs
after_same (Field n) h = h (omega arith)
after_same (Strip r g c w) h = h (omega arith)
after_same Malformed h = refl

-- enough steps are enough
steps_same : (n m : ℕ) (plan : List ℕ) (at : ℕ) → length plan ≤ at + n → length plan ≤ at + m → entries_in n plan at ≡ entries_in m plan at
unfolding entries_in
steps_same zero zero plan at h k = refl
steps_same zero (suc m) plan at h k = let l : length plan ≤ at = omega arith in rw (le-leb (length plan) at l)
steps_same (suc n) zero plan at h k = let l : length plan ≤ at = omega arith in rw (le-leb (length plan) at l)
steps_same (suc n) (suc m) plan at h k =
    rw (after_same (record_at plan at) (λ s. steps_same n m plan (at + size_of (record_at plan at)) (omega arith) (omega arith)))

-- the records from an offset on
module _ (plan : List ℕ) (at : ℕ) where
  pub entries_end : length plan ≤ at → entries_from plan at ≡ []
  unfolding entries_from entries_in
  entries_end h = let z : length plan - at ≡ 0 = omega arith in rw z

  pub entries_next : at < length plan
      → entries_from plan at ≡ record { at = at; item = record_at plan at } ∷ after (record_at plan at) (entries_from plan (at + size_of (record_at plan at)))
  unfolding entries_from entries_in
  entries_next h =
      let z : length plan - at ≡ suc (length plan - at - 1) = omega arith in
      rw (
        z,
        lt-leb (length plan) at h,
        after_same (record_at plan at) (λ s. steps_same (length plan - at - 1) (length plan - (at + size_of (record_at plan at))) plan
            (at + size_of (record_at plan at)) (omega arith) (omega arith)),
      )

-- what is left after a record: where the next one begins, or nothing
module _ (plan : List ℕ) {at : ℕ} (h : at < length plan) {x : Record} (e : x ≡ record_at plan at) {to : ℕ} where
  pub field_left : {n : ℕ} → x ≡ Field n → to ≡ at + 5 → entries_from plan at ≡ record { at = at; item = x } ∷ entries_from plan to
  field_left {n} i t = let j : record_at plan at ≡ Field n = sym e ∙ i in rw (t, e, j) (rw j at (entries_next plan at h))

  pub strip_left : {r g c w : ℕ} → x ≡ Strip r g c w → to ≡ at + 11 → entries_from plan at ≡ record { at = at; item = x } ∷ entries_from plan to
  strip_left {r} {g} {c} {w} i t = let j : record_at plan at ≡ Strip r g c w = sym e ∙ i in rw (t, e, j) (rw j at (entries_next plan at h))

  pub last_left : x ≡ Malformed → to ≡ length plan → entries_from plan at ≡ record { at = at; item = x } ∷ entries_from plan to
  last_left i t =
      let j : record_at plan at ≡ Malformed = sym e ∙ i in
      rw (t, entries_end plan (length plan) (omega arith), e, j) (rw j at (entries_next plan at h))

-- there are no more records than bytes
steps_few : (n : ℕ) (plan : List ℕ) (at : ℕ) → length (entries_in n plan at) ≤ n
unfolding entries_in
steps_few zero plan at = omega arith
steps_few (suc n) plan at = by (leb (length plan) at) (record_at plan at) _ (steps_few n plan (at + size_of (record_at plan at)))
  where
    by : (b : Bool) (x : Record) (es : List Entry) → length es ≤ n → length (cond b [] (record { at = at; item = x } ∷ after x es)) ≤ suc n
    by true x es l = omega arith
    by false (Field m) es l = omega (arith, l)
    by false (Strip r g c w) es l = omega (arith, l)
    by false Malformed es l = omega arith

pub entries_few : (plan : List ℕ) (at : ℕ) → length (entries_from plan at) ≤ length plan
unfolding entries_from
entries_few plan at = omega (arith, steps_few (length plan - at) plan at)

-- no offset picked
pub none_picked : (b : Bool) (o : ℕ) (os : List ℕ) → cond b (o ∷ os) os ≡ [] → (b ≡ false) × (os ≡ [])
none_picked true o os h = let z : ◌≡◌ {A = ℕ} 0 1 = cc in absurd (omega arith)
none_picked false o os h = (refl, h)

-- the loop of `first_bad`: `es` are left of `all`
pub record Bads (all es : List Entry) (fields strips : ℕ) : Type 0 where
  pub few : fields + strips + length es ≤ length all
  pub left : first_of (bad_at fields strips es) ≡ first_of (bad_at 0 0 all)

-- the first strip outside is the first that is found to leave
pub outside_found : (radials bins : ℕ) (es : List Entry)
    → option_map (λ (e : Entry). e.at) (find (λ e. leaves radials bins e.item) es) ≡ first_of (outside_at radials bins es)
unfolding outside_at
outside_found radials bins [] = refl
outside_found radials bins (e ∷ es) = by (leaves radials bins e.item) _ _ (outside_found radials bins es)
  where
    by : (b : Bool) (r : Option Entry) (os : List ℕ) → option_map (λ (y : Entry). y.at) r ≡ first_of os
        → option_map (λ (y : Entry). y.at) (cond b (Some e) r) ≡ first_of (cond b (e.at ∷ os) os)
    by true r os q = refl
    by false r os q = q

-- the fields are those that are counted
abbrev pub is_field : Record → Bool
is_field (Field n) = true
is_field (Strip r g c w) = false
is_field Malformed = false

pub fields_found : (es : List Entry) → length (filter (λ e. is_field e.item) es) ≡ field_count es
unfolding field_count
fields_found [] = refl
fields_found (e ∷ es) = by e.item _ _ (fields_found es)
  where
    by : (x : Record) (rs : List Entry) (n : ℕ) → length rs ≡ n → length (cond (is_field x) (e ∷ rs) rs) ≡ fields_in x + n
    by (Field m) rs n q = omega (arith, q)
    by (Strip r g c w) rs n q = omega (arith, q)
    by Malformed rs n q = omega (arith, q)
