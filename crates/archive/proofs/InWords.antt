-- What the tests for 45 and 46 ask of an accepted body, in document 02's words. Assumes nothing.
use Rattle.std.proofs.Common.{◌≡◌, ℕ, zero, suc, ◌+◌, ◌%◌, ◌<◌, ◌≤◌, Bool, true, false, not, ◌||◌, eqb, ◌≢◌, ◌⊎◌, ◌↔◌, List, [], ◌∷◌, length, get_or, sym, refl, ap, ◌∙◌, inl, inr, ⊎_elim, le_of_suc-le-suc, not-suc-le-zero, arith, eqb-true, ne_eqb}
use native.Mathlib.Decide.{ℕ_discrete}
use lib.Seq.{slice}
use borrow.Author.Tests.{eq-eqb, eqb-false, not-false}
use Rattle.wire.specs.Bytes.{u16_at}
use Rattle.wire.specs.Refusal.{kind, nat}
use Rattle.wire.specs.Result.{accepted, refused}
use Rattle.wire.specs.Reading.{Given, run, Frame}
use Rattle.wire.proofs.Results.{through, passed}
use Rattle.symbology.specs.Damage.{data_in, radial_at}
use Rattle.symbology.specs.Places.{place, frame_at}
use Rattle.symbology.specs.Symbology.{Sweep, covered, symbology}
use Rattle.symbology.specs.Words.{data_place, data_of}
use Rattle.symbology.specs.declared.figures.Figures.{Figures}
use Rattle.symbology.specs.declared.figures.Packet.{Packet}
use Rattle.symbology.specs.declared.figures.Packet.TheVariants.{Packet16, PacketAf1f, Packet28}
use Rattle.symbology.proofs.Containment.{data_length}
use Rattle.symbology.proofs.Placement.{placed}
use Rattle.symbology.proofs.Walking.{no28, no28'}
use Rattle.symbology.proofs.Words.{data_in_words}
use Rattle.archive.specs.Surplus.{surplus_in, surplus_at, rows_exact, end_of, end_exact, exact, ExactRow, ExactAt, NoSurplus, LowestOver, AfterAll}

-- ---- no radial has surplus, or there is a lowest that has

module _ (f : Figures) (b : List ℕ) where
  abbrev Rows : ℕ → ℕ → Type 0
  Rows n r = (k : ℕ) → k < n → surplus_at f b (r + k) ≡ false

  -- radial r, and those after it
  one_more : (n r : ℕ) → surplus_at f b r ≡ false → Rows n (suc r) → Rows (suc n) r
  one_more n r a h zero lt = let z : r + 0 ≡ r = omega arith in rw z a
  one_more n r a h (suc k) lt = let z : r + suc k ≡ suc r + k = omega arith in rw z (h k (le_of_suc-le-suc lt))

  here : (n r : ℕ) → Rows (suc n) r → surplus_at f b r ≡ false
  here n r h = let z : r + 0 ≡ r = omega arith in rw z at (h 0 (omega arith))

  later : (n r : ℕ) → Rows (suc n) r → Rows n (suc r)
  later n r h k lt = let z : suc r + k ≡ r + suc k = omega arith in rw z (h (suc k) (omega arith))

  pub none_over : (n r : ℕ) → (rows_exact f b n r ≡ accepted tt) ↔ Rows n r
  unfolding rows_exact
  none_over zero r = (λ _ k lt. absurd (not-suc-le-zero lt), λ _. refl)
  none_over (suc n) r = (
    λ e. passed (surplus_at f b r) _ _ tt e λ a t. one_more n r a ((none_over n (suc r)).0 t),
    λ h. rw (here n r h) ((none_over n (suc r)).1 (later n r h)),
  )

  lowest : (n r k : ℕ) → k < n → Rows k r → surplus_at f b (r + k) ≡ true → rows_exact f b n r ≡ refused (kind 45 (nat (r + k) ∷ []))
  unfolding rows_exact
  lowest zero r k lt before over = absurd (not-suc-le-zero lt)
  lowest (suc n) r zero lt before over = let z : r + 0 ≡ r = omega arith in rw z (rw (rw z at over) refl)
  lowest (suc n) r (suc k) lt before over =
      let a : surplus_at f b r ≡ false = here k r before in
      let y : r + suc k ≡ suc r + k = omega arith in
      rw (a, y) (lowest n (suc r) k (le_of_suc-le-suc lt) (later k r before) (rw y at over))

  abbrev Lowest : ℕ → ℕ → Type 0
  Lowest n r = (k : ℕ) × (k < n) × Rows k r × (surplus_at f b (r + k) ≡ true)

  none_or_lowest : (n r : ℕ) → Rows n r ⊎ Lowest n r
  none_or_lowest zero r = inl (λ k lt. absurd (not-suc-le-zero lt))
  none_or_lowest (suc n) r = by (surplus_at f b r) refl (none_or_lowest n (suc r))
    where
      by : (t : Bool) → surplus_at f b r ≡ t → Rows n (suc r) ⊎ Lowest n (suc r) → Rows (suc n) r ⊎ Lowest (suc n) r
      by true e h = let z : r + 0 ≡ r = omega arith in inr (0, omega arith, λ k lt. absurd (not-suc-le-zero lt), rw z e)
      by false e (inl h) = inl (one_more n r e h)
      by false e (inr h) = let z : r + suc h.0 ≡ suc r + h.0 = omega arith in inr (suc h.0, omega (arith, h.1), one_more h.0 r e h.2, rw z h.3)

-- ---- the tests

equal_words : (c n : ℕ) → (not (eqb c n) ≡ false) ↔ (c ≡ n)
equal_words c n = (λ h. eqb-true c n (not-false (eqb c n) h), λ h. simp (eq-eqb c n h))

-- the counts that pass
count_words : (c n : ℕ) → (not (eqb c n || eqb c (n + n % 2)) ≡ false) ↔ ((c ≡ n) ⊎ ((n % 2 ≡ 1) × (c ≡ suc n)))
count_words c n = (forth (eqb c n) (eqb c (n + n % 2)) refl refl, ⊎_elim (λ h. simp (eq-eqb c n h)) (λ h. more h))
  where
    forth : (x y : Bool) → eqb c n ≡ x → eqb c (n + n % 2) ≡ y → not (x || y) ≡ false → (c ≡ n) ⊎ ((n % 2 ≡ 1) × (c ≡ suc n))
    forth true y h k e = inl (eqb-true c n h)
    forth false true h k e =
        let d : c ≡ n + n % 2 = eqb-true c (n + n % 2) k in
        let o : n % 2 ≡ 1 = omega (arith, eqb-false c n h) in
        inr (o, omega arith)
    forth false false h k e = let z : ◌≡◌ {A = ℕ} 0 1 = cc in absurd (omega arith)

    more : (n % 2 ≡ 1) × (c ≡ suc n) → not (eqb c n || eqb c (n + n % 2)) ≡ false
    more (o, e) =
        let a : c ≢ n = λ q. omega arith in
        let d : c ≡ n + n % 2 = omega arith in
        simp (ne_eqb c n a, eq-eqb c (n + n % 2) d)

module _ (f : Figures) (b : List ℕ) where
  pub end_words : (end_exact f b ≡ accepted tt) ↔ (length b ≡ end_of f.packet f.n_radials b)
  unfolding end_exact
  end_words = (
    λ h. passed (not (eqb (length b) (end_of f.packet f.n_radials b))) _ _ tt h λ a _. (equal_words _ _).0 a,
    λ h. rw ((equal_words (length b) (end_of f.packet f.n_radials b)).1 h) refl,
  )

  pub end_over : length b ≢ end_of f.packet f.n_radials b → end_exact f b ≡ refused (kind 46 [])
  unfolding end_exact
  end_over n = rw (ne_eqb (length b) (end_of f.packet f.n_radials b) n) refl

data_af1f : (b : List ℕ) (r : ℕ) → data_of PacketAf1f b r b ≡ slice (place PacketAf1f b r + 6) (place PacketAf1f b (suc r)) b
unfolding data_of data_place place
data_af1f b r = refl

module _ (b : List ℕ) (g : Given Sweep) (acc : run symbology b 0 ≡ accepted g) where
  abbrev f : Figures
  f = g.value.figures

  -- packet 16: a radial has as many data bytes as its count says
  data_16 : f.packet ≡ Packet16 → (r : ℕ) → r < f.n_radials → length (data_of Packet16 b r b) ≡ u16_at b (place Packet16 b r)
  unfolding frame_at covered
  data_16 is r lt =
      let q : radial_at symbology b r ≡ frame_at Packet16 f.n_bins b r = rw is at ((placed b g acc).frames (λ e. no28 (sym is ∙ e)) r lt) in
      let d : data_in symbology b r b ≡ data_of Packet16 b r b = rw is at (data_in_words b f (placed b g acc) r lt b) in
      ap length (sym d) ∙ data_length symbology b r ∙ ap (λ (x : Frame). x.count) q

  by_packet : (packet : Packet) → f.packet ≡ packet → (r : ℕ) → r < f.n_radials
      → (surplus_in packet f.n_bins (u16_at b (place packet b r)) (slice (place packet b r + 6) (place packet b (suc r)) b) ≡ false)
      ↔ ExactRow packet f.n_bins (data_of packet b r b)
  unfolding surplus_in ExactRow
  by_packet Packet16 is r lt = rw (data_16 is r lt) (count_words (u16_at b (place Packet16 b r)) f.n_bins)
  by_packet PacketAf1f is r lt = rw (data_af1f b r) (equal_words _ f.n_bins)
  by_packet Packet28 is r lt = (λ _. tt, λ _. refl)

  row_words : (r : ℕ) → r < f.n_radials → (surplus_at f b r ≡ false) ↔ ExactAt f b r
  unfolding surplus_at
  row_words r lt = by_packet f.packet refl r lt

  rows_words : (n : ℕ) → n ≤ f.n_radials → Rows f b n 0 ↔ ((r : ℕ) → r < n → ExactAt f b r)
  rows_words n le = (
    λ h r lt. let z : 0 + r ≡ r = omega arith in (row_words r (omega arith)).0 (rw z at (h r lt)),
    λ h r lt. let z : 0 + r ≡ r = omega arith in rw z ((row_words r (omega arith)).1 (h r lt)),
  )

  -- no radial has surplus
  none_exact : (rows_exact f b f.n_radials 0 ≡ accepted tt) ↔ ((r : ℕ) → r < f.n_radials → ExactAt f b r)
  none_exact = (
    λ e. (rows_words f.n_radials (omega arith)).0 ((none_over f b f.n_radials 0).0 e),
    λ h. (none_over f b f.n_radials 0).1 ((rows_words f.n_radials (omega arith)).1 h),
  )

  has : (r : ℕ) → r < f.n_radials → ¬ (ExactAt f b r) → surplus_at f b r ≡ true
  has r lt n = by (surplus_at f b r) refl
    where
      by : (t : Bool) → surplus_at f b r ≡ t → surplus_at f b r ≡ true
      by true e = e
      by false e = absurd (n ((row_words r lt).0 e))

  -- the lowest that has is refused with 45
  pub over_in_row : (r : ℕ) → LowestOver f b r → exact f b ≡ refused (kind 45 (nat r ∷ []))
  unfolding exact
  over_in_row r w =
      let z : 0 + r ≡ r = omega arith in
      let rows : rows_exact f b f.n_radials 0 ≡ refused (kind 45 (nat r ∷ [])) =
      rw z at (lowest f b f.n_radials 0 r w.inside ((rows_words r (omega (arith, w.inside))).1 w.lower) (rw z (has r w.inside w.over))) in
      rw rows refl

  -- and where none has, what comes after them with 46
  pub over_after : AfterAll f b → exact f b ≡ refused (kind 46 [])
  unfolding exact
  over_after w = rw (none_exact.1 w.rows) (end_over f b (λ e. omega (arith, w.longer)))

  -- the tests pass exactly the bodies without surplus
  pub no_surplus : (exact f b ≡ accepted tt) ↔ NoSurplus f b
  unfolding exact
  no_surplus = (
    λ h. through (rows_exact f b f.n_radials 0) _ tt h λ u a e. record { rows = none_exact.0 a; end = (end_words f b).0 e },
    λ w. rw (none_exact.1 w.rows) ((end_words f b).1 w.end),
  )

  -- a body is never shorter than its radials, or its payload
  end_by : (packet : Packet) → f.packet ≡ packet → ((i : ℕ) → get_or b i 0 < 256) → end_of packet f.n_radials b ≤ length b
  unfolding end_of
  end_by Packet16 is bytes = rw is at ((placed b g acc).inside (λ e. no28 (sym is ∙ e)))
  end_by PacketAf1f is bytes = rw is at ((placed b g acc).inside (λ e. no28' (sym is ∙ e)))
  end_by Packet28 is bytes = (placed b g acc).inside28 is bytes

  -- so that it has no surplus, or a lowest radial that has, or goes on after the last
  pub one_of_three : ((i : ℕ) → get_or b i 0 < 256) → NoSurplus f b ⊎ (((r : ℕ) × LowestOver f b r) ⊎ AfterAll f b)
  one_of_three bytes = by (none_or_lowest f b f.n_radials 0)
    where
      end_there : ((r : ℕ) → r < f.n_radials → ExactAt f b r) → Dec (length b ≡ end_of f.packet f.n_radials b)
          → NoSurplus f b ⊎ (((r : ℕ) × LowestOver f b r) ⊎ AfterAll f b)
      end_there rows (yes d) = inl (record { rows = rows; end = d })
      end_there rows (no d) = inr (inr (record { rows = rows; longer = omega (arith, end_by f.packet refl bytes, d) }))

      by : Rows f b f.n_radials 0 ⊎ Lowest f b f.n_radials 0 → NoSurplus f b ⊎ (((r : ℕ) × LowestOver f b r) ⊎ AfterAll f b)
      by (inl h) = end_there ((rows_words f.n_radials (omega arith)).0 h) (ℕ_discrete (length b) (end_of f.packet f.n_radials b))
      by (inr (k, lt, before, over)) =
          let z : 0 + k ≡ k = omega arith in
          inr (inl (
            k,
            record {
              inside = lt;
              over = λ e. let y : true ≡ false = sym (rw z at over) ∙ (row_words k lt).1 e in (let x : ◌≡◌ {A = ℕ} 0 1 = cc in omega arith);
              lower = (rows_words k (omega (arith, lt))).0 before;
            },
          ))

-- ---- a clear scan

clear_end : (packet : Packet) (b : List ℕ) → packet ≢ Packet28 → end_of packet 0 b ≡ 30
unfolding end_of place
clear_end Packet16 b old = refl
clear_end PacketAf1f b old = refl
clear_end Packet28 b old = absurd (old refl)

-- it has none exactly if it ends at byte 30
pub clear_exact : (f : Figures) (b : List ℕ) → f.packet ≢ Packet28 → f.n_radials ≡ 0 → NoSurplus f b ↔ (length b ≡ 30)
clear_exact f b old none =
    let at_30 : end_of f.packet f.n_radials b ≡ 30 = rw none (clear_end f.packet b old) in (
      λ n. n.end ∙ at_30,
      λ e. record { rows = λ r lt. let z : r < 0 = rw none at lt in absurd (not-suc-le-zero z); end = e ∙ sym at_30 },
    )
