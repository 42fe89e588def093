-- Demand 3 for every reading: what the pieces of a reading decide, and that damage stays in its row. Assumes nothing.
use Rattle.std.proofs.Common.{◌≡◌, ℕ, zero, suc, ◌+◌, ◌-◌, ◌<◌, ◌≤◌, min, ◌≢◌, ◌⊎◌, List, [], ◌∷◌, length, get_or, take, drop, sym, refl, ap, ◌∙◌, ap₂, inl, inr, ⊎_elim, le_of_suc-le-suc, not-suc-le-zero, arith, length-drop, length-take, get_or-drop, take_all, get_or-take, take-take}
use native.Mathlib.Decide.{dec_lt, dec_le, ℕ_discrete}
use lib.ListN.{get_or-eq_default}
use lib.Seq.{slice, slice_empty}
use Rattle.wire.specs.Bytes.{u16_at, u32_at}
use Rattle.wire.specs.Refusal.{Refusal}
use Rattle.wire.specs.Result.{Result, accepted, refused}
use Rattle.wire.specs.Reading.{Read, give, stop, left, skip, number, data_row, within, Width, half, word, size, value_at, Given, more, after_row, run, Frame, frames, Unread}
use Rattle.wire.proofs.Results.{clash, one_value}
use Rattle.symbology.specs.Damage.{no_frame, row_in, data_in, DataByte, radial_count, radial_at, Damage, Changed, MakesRow, Contained}

-- ---- the two halves of a reading: what its structure gives, and the rows

module _ {W A : Type 0} where
  -- the value and the end of a reading, or the refusal that its structure gives, whatever the rows are
  shape : Read W A → List ℕ → ℕ → Result (A × ℕ)
  shape (give a) s p = accepted (a, p)
  shape (stop x) s p = refused x
  shape (left f) s p = shape (f (length s - p)) s p
  shape (skip k t) s p = shape t s (p + k)
  shape (number w f) s p = shape (f (value_at w s p)) s (p + size w)
  shape (data_row k row t) s p = shape t s (p + k)
  shape (within w k t) s p = shape t (take (p + k) s) p

InData : List Frame → ℕ → Type 0
InData [] i = ⊥
InData (f ∷ fs) i = DataByte f i ⊎ InData fs i

module _ {W A : Type 0} where
  later : (t : Read W A) (s : List ℕ) (p i : ℕ) → Unread t s p i → p ≤ i
  unfolding Unread
  later (give a) s p i u = u
  later (stop x) s p i u = u
  later (left f) s p i u = later (f (length s - p)) s p i u
  later (skip k t) s p i (inl u) = u.0
  later (skip k t) s p i (inr u) = let h = later t s (p + k) i u in omega arith
  later (number w f) s p i u = let h = later (f (value_at w s p)) s (p + size w) i u in omega arith
  later (data_row k row t) s p i u = let h = later t s (p + k) i u in omega arith
  later (within w k t) s p i (inl u) = omega arith
  later (within w k t) s p i (inr u) = later t (take (p + k) s) p i u

  later_data : (t : Read W A) (s : List ℕ) (p i : ℕ) → InData (frames t s p) i → p ≤ i
  unfolding frames InData
  later_data (give a) s p i u = absurd u
  later_data (stop x) s p i u = absurd u
  later_data (left f) s p i u = later_data (f (length s - p)) s p i u
  later_data (skip k t) s p i u = let h = later_data t s (p + k) i u in omega arith
  later_data (number w f) s p i u = let h = later_data (f (value_at w s p)) s (p + size w) i u in omega arith
  later_data (data_row k row t) s p i (inl u) = u.0
  later_data (data_row k row t) s p i (inr u) = let h = later_data t s (p + k) i u in omega arith
  later_data (within w k t) s p i u = later_data t (take (p + k) s) p i u

-- ---- a number whose bytes agree

half_same : (s s' : List ℕ) (p : ℕ) → ((i : ℕ) → p ≤ i → i < p + 2 → get_or s i 0 ≡ get_or s' i 0) → u16_at s' p ≡ u16_at s p
unfolding u16_at
half_same s s' p h = cc (h p (omega arith) (omega arith), h (p + 1) (omega arith) (omega arith))

pub value_same : (w : Width) (s s' : List ℕ) (p : ℕ) → ((i : ℕ) → p ≤ i → i < p + size w → get_or s i 0 ≡ get_or s' i 0) → value_at w s' p ≡ value_at w s p
unfolding u32_at
value_same half s s' p h = half_same s s' p h
value_same word s s' p h = cc (half_same s s' p λ i lo hi. h i lo (omega arith), half_same s s' (p + 2) λ i lo hi. h i (omega arith) (omega arith))

-- from p on, two bodies agree outside the pieces that t does not read
Agree : {W A : Type 0} → Read W A → List ℕ → List ℕ → ℕ → Type 0
Agree t s s' p = (i : ℕ) → p ≤ i → i < length s → (get_or s i 0 ≡ get_or s' i 0) ⊎ (Unread t s p i ⊎ InData (frames t s p) i)

module _ {W A : Type 0} where
  -- where the pieces that follow a number say nothing of its bytes, these agree
  number_bytes : (t : Read W A) (s s' : List ℕ) (p n : ℕ) → length s' ≡ length s
      → ((i : ℕ) → p ≤ i → i < length s → (get_or s i 0 ≡ get_or s' i 0) ⊎ (Unread t s (p + n) i ⊎ InData (frames t s (p + n)) i))
      → (i : ℕ) → p ≤ i → i < p + n → get_or s i 0 ≡ get_or s' i 0
  number_bytes t s s' p n len agree i lo hi = by (dec_lt i (length s))
    where
      by : Dec (i < length s) → get_or s i 0 ≡ get_or s' i 0
      by (yes b) =
          ⊎_elim (λ e. e)
          (⊎_elim (λ u. absurd (let h = later t s (p + n) i u in omega arith)) (λ u. absurd (let h = later_data t s (p + n) i u in omega arith)))
          (agree i lo b)
      by (no b) = get_or-eq_default s 0 {n = i} (omega arith) ∙ sym (get_or-eq_default s' 0 {n = i} (omega arith))

  -- the structure of the second body is the first's
  same : (t : Read W A) (s s' : List ℕ) (p : ℕ) → length s' ≡ length s → Agree t s s' p
      → (frames t s' p ≡ frames t s p) × (shape t s' p ≡ shape t s p)
  unfolding frames shape Unread InData Agree
  same (give a) s s' p len agree = (refl, refl)
  same (stop x) s s' p len agree = (refl, refl)
  same (left f) s s' p len agree = rw len (same (f (length s - p)) s s' p len agree)
  same (skip k t) s s' p len agree =
      same t s s' (p + k) len (λ i lo hi. ⊎_elim inl (⊎_elim (⊎_elim (λ u. absurd (omega arith)) (λ u. inr (inl u))) (λ u. inr (inr u))) (agree i (omega arith) hi))
  same (number w f) s s' p len agree =
      rw (value_same w s s' p (number_bytes (f (value_at w s p)) s s' p (size w) len agree))
      (same (f (value_at w s p)) s s' (p + size w) len (λ i lo hi. agree i (omega arith) hi))
  same (data_row k row t) s s' p len agree =
      let ih = same t s s' (p + k) len (λ i lo hi. ⊎_elim inl (⊎_elim (λ u. inr (inl u)) (⊎_elim (λ u. absurd (omega arith)) (λ u. inr (inr u)))) (agree i (omega arith) hi)) in
      (rw len (ap (λ (fs : List Frame). record { start = p; count = min k (length s - p); row = row } ∷ fs) ih.0), ih.1)
  same (within w k t) s s' p len agree =
      same t (take (p + k) s) (take (p + k) s') p (simp (length-take, len))
      (λ i lo hi.
      let h : i < min (p + k) (length s) = rw length-take at hi in
      ⊎_elim (λ e. inl (get_or-take (p + k) s i 0 (omega arith) ∙ e ∙ sym (get_or-take (p + k) s' i 0 (omega arith))))
      (⊎_elim (⊎_elim (λ u. absurd (omega arith)) (λ u. inr (inl u))) (λ u. inr (inr u)))
      (agree i lo (omega arith)))

-- ---- the rows of a list of frames

both : Result (List ℕ) → Result (List (List ℕ)) → Result (List (List ℕ))
both (accepted codes) (accepted rows) = accepted (codes ∷ rows)
both (accepted codes) (refused x) = refused x
both (refused x) r = refused x

rows_of : List ℕ → List Frame → Result (List (List ℕ))
rows_of s [] = accepted []
rows_of s (f ∷ fs) = both (row_in f s) (rows_of s fs)

-- the data of each frame end where s does
Fit : List ℕ → List Frame → Type 0
Fit s [] = Unit {0}
Fit s (f ∷ fs) = ((f.start + f.count ≤ length s) ⊎ (f.count ≡ 0)) × Fit s fs

-- a part past the end is one up to the end
slice_clamp : (s : List ℕ) (p k : ℕ) → slice p (p + k) s ≡ slice p (p + min k (length s - p)) s
slice_clamp s p k = by (dec_le k (length s - p))
  where
    by : Dec (k ≤ length s - p) → slice p (p + k) s ≡ slice p (p + min k (length s - p)) s
    by (yes h) = let e : min k (length s - p) ≡ k = omega arith in rw e refl
    by (no h) = ap (drop p) (take_all (p + k) s (omega arith) ∙ sym (take_all (p + min k (length s - p)) s (omega arith)))

fit_longer : (m : ℕ) (s : List ℕ) (fs : List Frame) → Fit (take m s) fs → Fit s fs
unfolding Fit
fit_longer m s [] h = tt
fit_longer m s (f ∷ fs) h = (⊎_elim (λ a. inl (omega (arith, length-take m s))) inr h.0, fit_longer m s fs h.1)

rows_of_take : (m : ℕ) (s : List ℕ) (fs : List Frame) → Fit (take m s) fs → rows_of (take m s) fs ≡ rows_of s fs
unfolding Fit rows_of row_in
rows_of_take m s [] h = refl
rows_of_take m s (f ∷ fs) h = ap₂ both (ap f.row (part h.0)) (rows_of_take m s fs h.1)
  where
    part : (f.start + f.count ≤ length (take m s)) ⊎ (f.count ≡ 0)
        → slice f.start (f.start + f.count) (take m s) ≡ slice f.start (f.start + f.count) s
    part (inl a) = ap (drop f.start) (take-take (f.start + f.count) m s (omega (arith, length-take m s)))
    part (inr e) =
        let z : f.start + f.count ≡ f.start = omega arith in
        rw z (slice_empty f.start (take m s) ∙ sym (slice_empty f.start s))

module _ {W A : Type 0} where
  fit : (t : Read W A) (s : List ℕ) (p : ℕ) → Fit s (frames t s p)
  unfolding frames Fit
  fit (give a) s p = tt
  fit (stop x) s p = tt
  fit (left f) s p = fit (f (length s - p)) s p
  fit (skip k t) s p = fit t s (p + k)
  fit (number w f) s p = fit (f (value_at w s p)) s (p + size w)
  fit (data_row k row t) s p = (in_part_lem (dec_le p (length s)), fit t s (p + k))
    where
      in_part_lem : Dec (p ≤ length s) → (p + min k (length s - p) ≤ length s) ⊎ (min k (length s - p) ≡ 0)
      in_part_lem (yes h) = inl (omega arith)
      in_part_lem (no h) = inr (omega arith)
  fit (within w k t) s p = fit_longer (p + k) s (frames t (take (p + k) s) p) (fit t (take (p + k) s) p)

module _ {A : Type 0} where
  join : Result (List (List ℕ)) → Result (A × ℕ) → Result (Given A)
  join (accepted rows) (accepted e) = accepted (record { value = e.0; next = e.1; rows = rows })
  join (accepted rows) (refused x) = refused x
  join (refused x) r = refused x

  join_both : (c : Result (List ℕ)) (rs : Result (List (List ℕ))) (e : Result (A × ℕ)) → after_row c (join rs e) ≡ join (both c rs) e
  unfolding join both after_row more
  join_both (accepted c) (accepted rs) (accepted e) = refl
  join_both (accepted c) (accepted rs) (refused x) = refl
  join_both (accepted c) (refused x) e = refl
  join_both (refused x) rs e = refl

module _ {W A : Type 0} where
  run_is : (t : Read W A) (s : List ℕ) (p : ℕ) → run t s p ≡ join (rows_of s (frames t s p)) (shape t s p)
  unfolding run join frames shape rows_of row_in
  run_is (give a) s p = refl
  run_is (stop x) s p = refl
  run_is (left f) s p = run_is (f (length s - p)) s p
  run_is (skip k t) s p = run_is t s (p + k)
  run_is (number w f) s p = run_is (f (value_at w s p)) s (p + size w)
  run_is (data_row k row t) s p =
      ap₂ after_row (ap row (slice_clamp s p k)) (run_is t s (p + k))
      ∙ join_both (row (slice p (p + min k (length s - p)) s)) (rows_of s (frames t s (p + k))) (shape t s (p + k))
  run_is (within w k t) s p =
      run_is t (take (p + k) s) p
      ∙ ap (λ (rs : Result (List (List ℕ))). join rs (shape t (take (p + k) s) p))
      (rows_of_take (p + k) s (frames t (take (p + k) s) p) (fit t (take (p + k) s) p))

-- ---- which row stops the reading

record AllRows (s : List ℕ) (fs : List Frame) : Type 0 where
  rows : List (List ℕ)
  is : rows_of s fs ≡ accepted rows
  len : length rows ≡ length fs
  each : (r : ℕ) → r < length fs → row_in (get_or fs r no_frame) s ≡ accepted (get_or rows r [])

record FirstBad (s : List ℕ) (fs : List Frame) : Type 0 where
  at : ℕ
  why : Refusal
  is : rows_of s fs ≡ refused why
  lt : at < length fs
  here : row_in (get_or fs at no_frame) s ≡ refused why
  before : (q : ℕ) → q < at → (codes : List ℕ) × (row_in (get_or fs q no_frame) s ≡ accepted codes)

outcome : (s : List ℕ) (fs : List Frame) → AllRows s fs ⊎ FirstBad s fs
unfolding rows_of both
outcome s [] = inl (record { rows = []; is = refl; len = refl; each = λ r h. absurd (not-suc-le-zero h) })
outcome s (f ∷ fs) = by (row_in f s) refl (outcome s fs)
  where
    by : (c : Result (List ℕ)) → row_in f s ≡ c → AllRows s fs ⊎ FirstBad s fs → AllRows s (f ∷ fs) ⊎ FirstBad s (f ∷ fs)
    by (refused x) e o =
        inr (record { at = 0; why = x; is = rw e refl; lt = omega arith; here = e; before = λ q h. absurd (not-suc-le-zero h) })
    by (accepted codes) e (inl a) =
        inl (record { rows = codes ∷ a.rows; is = rw (e, a.is) refl; len = ap suc a.len; each = each })
      where
        each : (r : ℕ) → r < length (f ∷ fs) → row_in (get_or (f ∷ fs) r no_frame) s ≡ accepted (get_or (codes ∷ a.rows) r [])
        each zero h = e
        each (suc r) h = a.each r (le_of_suc-le-suc h)
    by (accepted codes) e (inr b) =
        inr (record { at = suc b.at; why = b.why; is = rw (e, b.is) refl; lt = omega (arith, b.lt); here = b.here; before = before })
      where
        before : (q : ℕ) → q < suc b.at → (codes : List ℕ) × (row_in (get_or (f ∷ fs) q no_frame) s ≡ accepted codes)
        before zero h = (codes, e)
        before (suc q) h = b.before q (le_of_suc-le-suc h)

-- ---- equal parts

-- two lists are equal, or there is a place where they differ
differ : (l l' : List ℕ) → length l ≡ length l' → (l ≡ l') ⊎ ((i : ℕ) × (i < length l) × (get_or l i 0 ≢ get_or l' i 0))
differ [] [] h = inl refl
differ [] (y ∷ l') h = absurd (omega arith)
differ (x ∷ l) [] h = absurd (omega arith)
differ (x ∷ l) (y ∷ l') h = by (ℕ_discrete x y) (differ l l' (omega arith))
  where
    by : Dec (x ≡ y) → (l ≡ l') ⊎ ((i : ℕ) × (i < length l) × (get_or l i 0 ≢ get_or l' i 0))
        → (x ∷ l ≡ y ∷ l') ⊎ ((i : ℕ) × (i < length (x ∷ l)) × (get_or (x ∷ l) i 0 ≢ get_or (y ∷ l') i 0))
    by (no ne) o = inr (0, omega arith, ne)
    by (yes e) (inl q) = inl (ap₂ (λ (a : ℕ) (m : List ℕ). a ∷ m) e q)
    by (yes e) (inr (i, lt, ne)) = inr (suc i, omega arith, ne)

slice_get_d : (s : List ℕ) (p k i : ℕ) → i < k → get_or (slice p (p + k) s) i 0 ≡ get_or s (p + i) 0
slice_get_d s p k i h = get_or-drop p (take (p + k) s) i 0 ∙ get_or-take (p + k) s (p + i) 0 (omega arith)

slice_length : (s : List ℕ) (p k : ℕ) → length (slice p (p + k) s) ≡ min (p + k) (length s) - p
slice_length s p k = simp (length-drop, length-take)

in_data : (fs : List Frame) (r i : ℕ) → r < length fs → DataByte (get_or fs r no_frame) i → InData fs i
unfolding InData
in_data [] r i h b = absurd (not-suc-le-zero h)
in_data (f ∷ fs) zero i h b = inl b
in_data (f ∷ fs) (suc r) i h b = inr (in_data fs r i (le_of_suc-le-suc h) b)

module _ {A : Type 0} where
  join_accepted : (rs : Result (List (List ℕ))) (e : Result (A × ℕ)) (g : Given A) → join rs e ≡ accepted g → (rs ≡ accepted g.rows) × (e ≡ accepted (g.value, g.next))
  unfolding join
  join_accepted (accepted rows) (accepted (a, n)) g h =
      let e : ◌≡◌ {A = Given A} (record { value = a; next = n; rows = rows }) g = cc in
      (ap (λ (x : Given A). accepted x.rows) e, ap (λ (x : Given A). accepted (x.value, x.next)) e)
  join_accepted (accepted rows) (refused x) g h = clash g x h
  join_accepted (refused x) e g h = clash g x h

module _ {W A : Type 0} where
  -- both halves of an accepted body
  halves : (t : Read W A) (s : List ℕ) (g : Given A) → run t s 0 ≡ accepted g
      → (rows_of s (frames t s 0) ≡ accepted g.rows) × (shape t s 0 ≡ accepted (g.value, g.next))
  halves t s g acc = join_accepted (rows_of s (frames t s 0)) (shape t s 0) g (sym (run_is t s 0) ∙ acc)

  -- the rows of an accepted body
  pub accepted_rows : (t : Read W A) (s : List ℕ) (g : Given A) → run t s 0 ≡ accepted g
      → (length g.rows ≡ radial_count t s) × ((r : ℕ) → r < radial_count t s → row_in (radial_at t s r) s ≡ accepted (get_or g.rows r []))
  unfolding radial_at radial_count
  accepted_rows t s g acc =
      let h = (halves t s g acc).0 in
      let a : AllRows s (frames t s 0) = ⊎_elim (λ a. a) (λ b. clash g.rows b.why (sym b.is ∙ h)) (outcome s (frames t s 0)) in
      let c = sym a.is ∙ h in
      let e : a.rows ≡ g.rows = cc in
      (ap length (sym e) ∙ a.len, λ r lt. a.each r lt ∙ ap (λ (l : List (List ℕ)). accepted (get_or l r [])) e)

  module _ (t : Read W A) (s s' : List ℕ) (g : Given A) (acc : run t s 0 ≡ accepted g) (d : Damage t s s') where
    agree : Agree t s s' 0
    unfolding Agree radial_count radial_at
    agree i lo hi = by (ℕ_discrete (get_or s i 0) (get_or s' i 0))
      where
        by : Dec (get_or s i 0 ≡ get_or s' i 0) → (get_or s i 0 ≡ get_or s' i 0) ⊎ (Unread t s 0 i ⊎ InData (frames t s 0) i)
        by (yes e) = inl e
        by (no ne) = inr (⊎_elim inl (λ w. inr (in_data (frames t s 0) w.0 i w.1 w.2)) (d.only i hi ne))

    -- the second body has the structure of the first
    second : run t s' 0 ≡ join (rows_of s' (frames t s 0)) (accepted (g.value, g.next))
    second =
        let e = same t s s' 0 d.same_length agree in
        run_is t s' 0 ∙ ap₂ (λ (fs : List Frame) (z : Result (A × ℕ)). join (rows_of s' fs) z) e.0 (e.1 ∙ (halves t s g acc).1)

    -- a radial that is not changed makes the row that it made
    changed_or_same : (r : ℕ) → (row_in (radial_at t s r) s' ≡ row_in (radial_at t s r) s) ⊎ Changed t s s' r
    unfolding row_in
    changed_or_same r = ⊎_elim (λ e. inl (ap (radial_at t s r).row (sym e))) (λ w. inr (there w)) (differ (data_of s) (data_of s') (simp (slice_length, d.same_length)))
      where
        p : ℕ
        p = (radial_at t s r).start

        k : ℕ
        k = (radial_at t s r).count

        data_of : List ℕ → List ℕ
        data_of l = slice p (p + k) l

        there : ((i : ℕ) × (i < length (data_of s)) × (get_or (data_of s) i 0 ≢ get_or (data_of s') i 0)) → Changed t s s' r
        there (i, lt, ne) =
            let h : i < min (p + k) (length s) - p = rw slice_length at lt in
            record { at = p + i; data_byte = (omega arith, omega arith); differs = λ e. ne (slice_get_d s p k i (omega arith) ∙ e ∙ sym (slice_get_d s' p k i (omega arith))) }

    pub makes_or_changed : (r : ℕ) → r < radial_count t s → (row_in (radial_at t s r) s' ≡ accepted (get_or g.rows r [])) ⊎ Changed t s s' r
    makes_or_changed r h = ⊎_elim (λ e. inl (e ∙ (accepted_rows t s g acc).1 r h)) inr (changed_or_same r)

    -- what the second body's rows decide
    all_rows : (a : AllRows s' (frames t s 0)) → run t s' 0 ≡ accepted (record { value = g.value; next = g.next; rows = a.rows })
    unfolding join
    all_rows a = second ∙ rw a.is refl

    first_bad_lem : (b : FirstBad s' (frames t s 0)) → run t s' 0 ≡ refused b.why
    unfolding join
    first_bad_lem b = second ∙ rw b.is refl

    not_both : (f : Frame) (codes : List ℕ) (x : Refusal) → row_in f s' ≡ accepted codes → row_in f s' ≡ refused x → ⊥
    not_both f codes x p q = clash codes x (sym q ∙ p)

    -- the radial that stops the second reading is changed
    bad_changed : (b : FirstBad s' (frames t s 0)) → Changed t s s' b.at
    unfolding radial_at radial_count
    bad_changed b = ⊎_elim (λ m. absurd (not_both _ _ _ m b.here)) (λ c. c) (makes_or_changed b.at b.lt)

    exactly→ : (x : Refusal) → run t s' 0 ≡ refused x → AllRows s' (frames t s 0) ⊎ FirstBad s' (frames t s 0)
        → (r : ℕ) × (r < radial_count t s) × Changed t s s' r × ¬ (MakesRow t s s' r)
    unfolding radial_at radial_count
    exactly→ x e (inl a) = clash _ x (sym e ∙ all_rows a)
    exactly→ x e (inr b) = (b.at, b.lt, bad_changed b, λ m. not_both _ _ _ m.1 b.here)

    exactly← : (r : ℕ) → r < radial_count t s → ¬ (MakesRow t s s' r) → AllRows s' (frames t s 0) ⊎ FirstBad s' (frames t s 0)
        → (x : Refusal) × (run t s' 0 ≡ refused x)
    unfolding radial_at radial_count
    exactly← r lt nm (inl a) = absurd (nm (get_or a.rows r [], a.each r lt))
    exactly← r lt nm (inr b) = (b.why, first_bad_lem b)

    lowest : (r : ℕ) (x : Refusal) → r < radial_count t s → row_in (radial_at t s r) s' ≡ refused x
        → ((q : ℕ) → q < r → Changed t s s' q → MakesRow t s s' q) → AllRows s' (frames t s 0) ⊎ FirstBad s' (frames t s 0) → run t s' 0 ≡ refused x
    unfolding radial_at radial_count
    lowest r x lt e low (inl a) = absurd (not_both _ _ _ (a.each r lt) e)
    lowest r x lt e low (inr b) = by (dec_lt b.at r) (dec_lt r b.at)
      where
        by : Dec (b.at < r) → Dec (r < b.at) → run t s' 0 ≡ refused x
        by (yes h) k = absurd (not_both _ _ _ (low b.at h (bad_changed b)).1 b.here)
        by (no h) (yes k) = absurd (not_both _ _ _ (b.before r k).1 e)
        by (no h) (no k) =
            let q : r ≡ b.at = omega arith in
            let z : row_in (get_or (frames t s 0) b.at no_frame) s' ≡ refused x = rw q at e in
            let w = sym b.here ∙ z in
            let v : b.why ≡ x = cc in
            first_bad_lem b ∙ ap refused v

    otherwise : ((r : ℕ) → r < radial_count t s → Changed t s s' r → MakesRow t s s' r) → AllRows s' (frames t s 0) ⊎ FirstBad s' (frames t s 0)
        → (g' : Given A) × (run t s' 0 ≡ accepted g') × (g'.value ≡ g.value) × (g'.next ≡ g.next) × (length g'.rows ≡ length g.rows)
        × ((r : ℕ) → r < radial_count t s → ¬ (Changed t s s' r) → get_or g'.rows r [] ≡ get_or g.rows r [])
        × ((r : ℕ) → r < radial_count t s → Changed t s s' r → row_in (radial_at t s r) s' ≡ accepted (get_or g'.rows r []))
    unfolding radial_at radial_count
    otherwise h (inr b) = absurd (not_both _ _ _ (h b.at b.lt (bad_changed b)).1 b.here)
    otherwise h (inl a) = (
      record { value = g.value; next = g.next; rows = a.rows },
      all_rows a,
      refl,
      refl,
      a.len ∙ sym (accepted_rows t s g acc).0,
      (λ r lt u. ⊎_elim (λ m. let e = sym (a.each r lt) ∙ m in cc) (λ c. absurd (u c)) (makes_or_changed r lt)),
      λ r lt c. a.each r lt,
    )

    -- the rows of a second body that is accepted
    pub second_rows : (g' : Given A) → run t s' 0 ≡ accepted g' → (r : ℕ) → r < radial_count t s → row_in (radial_at t s r) s' ≡ accepted (get_or g'.rows r [])
    unfolding radial_at radial_count
    second_rows g' acc' r lt = by (outcome s' (frames t s 0))
      where
        by : AllRows s' (frames t s 0) ⊎ FirstBad s' (frames t s 0) → row_in (get_or (frames t s 0) r no_frame) s' ≡ accepted (get_or g'.rows r [])
        by (inl a) = a.each r lt ∙ ap (λ (x : Given A). accepted (get_or x.rows r [])) (one_value (sym (all_rows a) ∙ acc'))
        by (inr b) = clash g' b.why (sym (first_bad_lem b) ∙ acc')

  -- Demand 3 for every reading.
  pub damage_contained : (t : Read W A) (s s' : List ℕ) (g : Given A) → run t s 0 ≡ accepted g → Damage t s s' → Contained t s s' g
  damage_contained t s s' g acc d =
      let o = outcome s' (frames t s 0) in
      record {
        exactly = (λ w. exactly→ t s s' g acc d w.0 w.1 o, λ w. exactly← t s s' g acc d w.0 w.1 w.3 o);
        lowest = λ r x lt c e low. lowest t s s' g acc d r x lt e low o;
        otherwise = λ h. otherwise t s s' g acc d h o;
      }

fit_at : (s : List ℕ) (fs : List Frame) (r : ℕ) → Fit s fs → ((get_or fs r no_frame).start + (get_or fs r no_frame).count ≤ length s) ⊎ ((get_or fs r no_frame).count ≡ 0)
unfolding Fit no_frame
fit_at s [] r h = inr refl
fit_at s (f ∷ fs) zero h = h.0
fit_at s (f ∷ fs) (suc r) h = fit_at s fs r h.1

-- a radial has as many data bytes as its frame says
pub data_length : {W A : Type 0} (t : Read W A) (s : List ℕ) (r : ℕ) → length (data_in t s r s) ≡ (radial_at t s r).count
unfolding data_in radial_at
data_length t s r =
    let f = get_or (frames t s 0) r no_frame in
    slice_length s f.start f.count ∙ ⊎_elim (λ h. omega arith) (λ h. omega arith) (fit_at s (frames t s 0) r (fit t s 0))
