-- What an accepted plan has, and the loop of `write_totals`. Assumes nothing.
use mathlib.Core.Path.{◌≡◌, refl, sym, ap, ◌∙◌}
use mathlib.Core.Bool.{false, ◌&&◌}
use mathlib.Core.List.{List, [], ◌∷◌, ◌++◌, append-nil}
use Prim.Native.Nat.{ℕ, suc, ◌+◌, ◌*◌, ◌-◌, ◌≤◌, ◌<◌}
use native.Mathlib.Nat.{add-zero, zero-add, add_assoc}
use native.Mathlib.Numerals.{add-one}
use native.Mathlib.Omega.{arith}
use lib.Dec.{leb, ltb}
use lib.ListN.{length, get_or, drop, set, length-set, length-append, drop_of_length-le}
use lib.Seq.{drop-cons, set_at, append_snoc, get_or-append_seam}
use borrow.Author.Tests.{leb-true, ltb-true, not-false}
use Rattle.wire.specs.Result.{Result, accepted}
use Rattle.fields.specs.declared.plan.Entry.{Entry}
use Rattle.fields.specs.declared.plan.Record.{Record}
use Rattle.fields.specs.declared.plan.Record.TheVariants.{Field, Strip, Malformed}
use Rattle.fields.specs.Plan.{fields_in, strips_in, entries_of, bad, bad_at, repeated_at, outside_at, leaves, refuse_first, field_count, strip_count, plan_of}
use Rattle.fields.specs.Totals.{Grid, most, strip_total, own_total, totals, items}
use Rattle.fields.proofs.Walk.{and_both, none_picked}

-- an accepted plan passed the three walks
pub record Passed (plan : List ℕ) (radials bins n : ℕ) : Type 0 where
  pub no_bad : bad_at 0 0 (entries_of plan) ≡ []
  pub no_repeat : repeated_at [] (entries_of plan) ≡ []
  pub no_outside : outside_at radials bins (entries_of plan) ≡ []
  pub fields : field_count (entries_of plan) ≡ n

none_first : (k : ℕ) (os : List ℕ) (rest : Result ℕ) {n : ℕ} → refuse_first k os rest ≡ accepted n → (os ≡ []) × (rest ≡ accepted n)
none_first k [] rest h = (refl, h)
none_first k (o ∷ os) rest h = let z : ◌≡◌ {A = ℕ} 0 1 = cc in absurd (omega arith)

pub passed : (plan : List ℕ) (radials bins : ℕ) {n : ℕ} → plan_of plan radials bins ≡ accepted n → Passed plan radials bins n
unfolding plan_of
passed plan radials bins h =
    let a = none_first 37 (bad_at 0 0 (entries_of plan)) _ h in
    let b = none_first 38 (repeated_at [] (entries_of plan)) _ a.1 in
    let c = none_first 39 (outside_at radials bins (entries_of plan)) _ b.1 in
    record { no_bad = a.0; no_repeat = b.0; no_outside = c.0; fields = let q = c.1 in cc }

-- and it has at most 4,096 strips
stands_few : (fields strips : ℕ) (x : Record) → bad fields strips x ≡ false → strips ≤ 4096 → strips + strips_in x ≤ 4096
stands_few fields strips (Field n) h l = omega arith
stands_few fields strips (Strip r g c w) h l =
    let t = and_both (leb 1 fields) (not-false (leb 1 fields && (leb 1 c && ltb strips 4096)) h) in
    omega (arith, ltb-true strips 4096 (and_both (leb 1 c) t.1).1)
stands_few fields strips Malformed h l = omega arith

few_from : (fields strips : ℕ) (es : List Entry) → bad_at fields strips es ≡ [] → strips ≤ 4096 → strips + strip_count es ≤ 4096
unfolding bad_at strip_count
few_from fields strips [] h l = omega arith
few_from fields strips (e ∷ es) h l =
    let t = none_picked (bad fields strips e.item) e.at _ h in
    let ih = few_from (fields + fields_in e.item) (strips + strips_in e.item) es t.1 (stands_few fields strips e.item t.0 l) in
    omega arith

pub few_strips : {plan : List ℕ} {radials bins n : ℕ} → Passed plan radials bins n → strip_count (entries_of plan) ≤ 4096
few_strips {plan} q = let t = few_from 0 0 (entries_of plan) q.no_bad (omega arith) in omega arith

-- as many totals as fields
one_total : (p : Grid) (x : Record) (rs : List Record) (n : ℕ) → length (totals p rs) ≡ n → length (totals p (x ∷ rs)) ≡ fields_in x + n
unfolding totals
one_total p (Field m) rs n h = omega arith
one_total p (Strip r g c w) rs n h = omega arith
one_total p Malformed rs n h = omega arith

pub length_totals : (p : Grid) (es : List Entry) → length (totals p (items es)) ≡ field_count es
unfolding field_count totals
length_totals p [] = refl
length_totals p (e ∷ es) = one_total p e.item (items es) (field_count es) (length_totals p es)

-- the totals of a plan once some fields have been met, the last of them with this total so far
unfoldable pub met : Grid → List ℕ → List Record → List ℕ
met p [] rs = totals p rs
met p (t ∷ []) rs = (t + own_total p rs) ∷ totals p rs
met p (t ∷ u ∷ ts) rs = t ∷ met p (u ∷ ts) rs

met_field : (p : Grid) (n : ℕ) (rs : List Record) (ts : List ℕ) → met p ts (Field n ∷ rs) ≡ met p (ts ++ 0 ∷ []) rs
unfolding met totals own_total
met_field p n rs [] = rw zero-add refl
met_field p n rs (t ∷ []) = rw (zero-add, add-zero) refl
met_field p n rs (t ∷ u ∷ ts) = ap (λ (l : List ℕ). t ∷ l) (met_field p n rs (u ∷ ts))

met_strip : (p : Grid) (r g c w : ℕ) (rs : List Record) (t : ℕ) (ts : List ℕ)
    → met p (ts ++ t ∷ []) (Strip r g c w ∷ rs) ≡ met p (ts ++ (t + strip_total p r g c w) ∷ []) rs
unfolding met totals own_total
met_strip p r g c w rs t [] = rw add_assoc refl
met_strip p r g c w rs t (a ∷ []) = ap (λ (l : List ℕ). a ∷ l) (met_strip p r g c w rs t [])
met_strip p r g c w rs t (a ∷ b ∷ ts) = ap (λ (l : List ℕ). a ∷ l) (met_strip p r g c w rs t (b ∷ ts))

met_end : (p : Grid) (ts : List ℕ) → met p ts [] ≡ ts
unfolding met totals own_total
met_end p [] = refl
met_end p (t ∷ []) = rw add-zero refl
met_end p (t ∷ u ∷ ts) = ap (λ (l : List ℕ). t ∷ l) (met_end p (u ∷ ts))

-- a list's last number, and those before it
record Last (ts : List ℕ) : Type 0 where
  before : List ℕ
  last : ℕ
  is : ts ≡ before ++ last ∷ []

last_of : (ts : List ℕ) → 1 ≤ length ts → Last ts
last_of [] h = absurd (omega arith)
last_of (t ∷ []) h = record { before = []; last = t; is = refl }
last_of (t ∷ u ∷ ts) h =
    let l = last_of (u ∷ ts) (omega arith) in
    record { before = t ∷ l.before; last = l.last; is = ap (λ (k : List ℕ). t ∷ k) l.is }

snoc_last : (before : List ℕ) (last k : ℕ) → k ≡ length before → get_or (before ++ last ∷ []) k 0 ≡ last
snoc_last before last k i = rw i (get_or-append_seam before last [] 0)

-- a row whose last total is to grow
record Held (row before rest : List ℕ) (last k v : ℕ) : Type 0 where
  here : get_or row k 0 ≡ last
  inside : k < length row
  grown : set row k v ≡ (before ++ v ∷ []) ++ rest

held : (row before rest : List ℕ) (last k v : ℕ) → row ≡ before ++ last ∷ rest → k ≡ length before → Held row before rest last k v
held row before rest last k v e i = record {
  here = rw (e, i) (get_or-append_seam before last rest 0);
  inside = rw (e, i, length-append) (omega arith);
  grown = rw (e, i) (set_at before last rest v (length before) refl ∙ sym (append_snoc before v rest));
}

-- a field's first total comes behind those before it
appended : (front d : List ℕ) (j v : ℕ) → length front ≡ j → j < length d → set (front ++ drop j d) j v ≡ (front ++ v ∷ []) ++ drop (j + 1) d
appended front d j v m h = rw (add-one, drop-cons d j 0 h) (set_at front _ _ v j m ∙ sym (append_snoc front v (drop (suc j) d)))

-- the loop: `es` are left of `all`
pub record Writing (p : Grid) (radials : ℕ) (all : List Entry) (d row : List ℕ) (es : List Entry) (j : ℕ) : Type 0 where
  pub long : length row ≡ length d
  pub front : List ℕ
  pub many : length front ≡ j
  pub written : row ≡ front ++ drop j d
  pub ends : met p front (items es) ≡ totals p (items all)
  pub room : j + field_count es ≡ length d
  pub strips : ℕ
  pub good : bad_at j strips es ≡ []
  pub inside : outside_at radials p.bins es ≡ []
  pub small : get_or front (j - 1) 0 ≤ strips * most

pub writing_first : (p : Grid) (radials : ℕ) (plan d : List ℕ) → plan_of plan radials p.bins ≡ accepted (length d) → Writing p radials (entries_of plan) d d (entries_of plan) 0
unfolding met
writing_first p radials plan d h =
    let q = passed plan radials p.bins h in
    record {
      long = refl;
      front = [];
      many = refl;
      written = refl;
      ends = refl;
      room = zero-add _ ∙ q.fields;
      strips = 0;
      good = q.no_bad;
      inside = q.no_outside;
      small = omega arith;
    }

pub writing_end : {p : Grid} {radials : ℕ} {all : List Entry} {d row : List ℕ} {es : List Entry} {j : ℕ} → Writing p radials all d row es j → es ≡ []
    → row ≡ totals p (items all)
unfolding field_count
writing_end {p} {d = d} {j = j} w h =
    let e : j ≡ length d = sym (add-zero j) ∙ rw h at w.room in
    w.written ∙ rw (e, drop_of_length-le d {i = length d} (omega arith), append-nil) (sym (met_end p w.front) ∙ rw h at w.ends)

module _ {p : Grid} {radials : ℕ} {all : List Entry} {d row : List ℕ} {es rest : List Entry} {j : ℕ} {x : Entry} (w : Writing p radials all d row es j)
    (h : es ≡ x ∷ rest) where
  stands : (bad j w.strips x.item ≡ false) × (bad_at (j + fields_in x.item) (w.strips + strips_in x.item) rest ≡ [])
  unfolding bad_at
  stands = none_picked (bad j w.strips x.item) x.at _ (rw h at w.good)

  lies : (leaves radials p.bins x.item ≡ false) × (outside_at radials p.bins rest ≡ [])
  unfolding outside_at
  lies = none_picked (leaves radials p.bins x.item) x.at _ (rw h at w.inside)

  pub no_malformed : x.item ≡ Malformed → ⊥
  no_malformed i = let s = rw i at stands.0 in let z : ◌≡◌ {A = ℕ} 0 1 = cc in omega arith

  module _ {n : ℕ} (i : x.item ≡ Field n) where
    more : j + 1 + field_count rest ≡ length d
    unfolding field_count
    more = let q = rw (h, i) at w.room in omega arith

    pub writing_room : j < length row
    writing_room = omega (arith, more, w.long)

    pub writing_field : Writing p radials all d (set row j 0) rest (j + 1)
    writing_field = record {
      long = length-set row j 0 ∙ w.long;
      front = w.front ++ 0 ∷ [];
      many = length-append w.front (0 ∷ []) ∙ ap (λ k. k + 1) w.many;
      written = ap (λ (l : List ℕ). set l j 0) w.written ∙ appended w.front d j 0 w.many (omega (arith, more));
      ends = sym (met_field p n (items rest) w.front) ∙ rw (h, i) at w.ends;
      room = more;
      strips = w.strips;
      good = rw (i, add-zero) at stands.1;
      inside = lies.1;
      small = rw (snoc_last w.front 0 (j + 1 - 1) (omega (arith, w.many))) (omega arith);
    }

  module _ {r g c wt : ℕ} (i : x.item ≡ Strip r g c wt) where
    tests : (1 ≤ j) × (w.strips < 4096)
    tests =
        let t = and_both (leb 1 j) (not-false (leb 1 j && (leb 1 c && ltb w.strips 4096)) (rw i at stands.0)) in
        (leb-true 1 j t.0, ltb-true w.strips 4096 (and_both (leb 1 c) t.1).1)

    pub strip_inside : leaves radials p.bins (Strip r g c wt) ≡ false
    strip_inside = rw i at lies.0

    -- what stands before the last total, and that total
    l : Last w.front
    l = last_of w.front (omega (arith, w.many, tests.0))

    length_is : length l.before + 1 ≡ j
    length_is = sym (length-append l.before (l.last ∷ [])) ∙ (ap (λ (k : List ℕ). length k) (sym l.is) ∙ w.many)

    row_is : row ≡ l.before ++ l.last ∷ drop j d
    row_is = w.written ∙ (ap (λ (k : List ℕ). k ++ drop j d) l.is ∙ append_snoc l.before l.last (drop j d))

    place_is : j - 1 ≡ length l.before
    place_is = omega (arith, length_is)

    has : (v : ℕ) → Held row l.before (drop j d) l.last (j - 1) v
    has v = held row l.before (drop j d) l.last (j - 1) v row_is place_is

    pub strip_has : (1 ≤ j) × (j - 1 < length row)
    strip_has = (tests.0, (has 0).inside)

    last_small : l.last ≤ w.strips * most
    last_small =
        let q : get_or w.front (j - 1) 0 ≡ l.last = ap (λ (k : List ℕ). get_or k (j - 1) 0) l.is ∙ snoc_last l.before l.last (j - 1) place_is in
        omega (arith, q, w.small)

    module _ {t : ℕ} (is-t : t ≡ strip_total p r g c wt) (le-t : t ≤ most) where
      pub strip_fits : get_or row (j - 1) 0 + t ≤ 4096 * most
      strip_fits = omega (arith, (has 0).here, last_small, tests.1, le-t)

      pub writing_strip : Writing p radials all d (set row (j - 1) (get_or row (j - 1) 0 + t)) rest j
      unfolding field_count
      writing_strip =
          let v : ℕ = l.last + t in
          rw (has 0).here record {
            long = length-set row (j - 1) v ∙ w.long;
            front = l.before ++ v ∷ [];
            many = length-append l.before (v ∷ []) ∙ length_is;
            written = (has v).grown;
            ends = rw is-t (sym (met_strip p r g c wt (items rest) l.last l.before) ∙ rw (h, i, l.is) at w.ends);
            room = rw (h, i, zero-add) at w.room;
            strips = w.strips + 1;
            good = rw (i, add-zero) at stands.1;
            inside = lies.1;
            small = rw (snoc_last l.before v (j - 1) place_is) (omega (arith, last_small, le-t));
          }
