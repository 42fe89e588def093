-- The tests for 45 and 46: packet 16's count, the walk over the radials, a body. Assumes nothing.
use Rattle.std.proofs.Common.{◌≡◌, ℕ, zero, suc, ◌+◌, ◌-◌, ◌*◌, ◌<◌, ◌≤◌, Bool, true, false, ◌⊎◌, List, [], ◌∷◌, length, take, drop, sym, refl, ap, ◌∙◌, inl, inr, add-one, arith}
use Rattle.wire.specs.Bytes.{u16_at, u32_at}
use Rattle.wire.specs.Refusal.{Refusal, kind, nat}
use Rattle.wire.specs.Result.{Result, accepted, refused, refuse, then}
use Rattle.wire.specs.Reading.{run}
use Rattle.wire.proofs.Readings.{part_slice}
use Rattle.wire.proofs.Results.{then_by, through, one_value}
use Rattle.symbology.specs.Answers.{Picture, picture_of, figures_in}
use Rattle.symbology.specs.Places.{place}
use Rattle.symbology.specs.Symbology.{covered, symbology}
use Rattle.symbology.specs.declared.figures.Figures.{Figures}
use Rattle.symbology.specs.declared.figures.Packet.{Packet}
use Rattle.symbology.specs.declared.figures.Packet.TheVariants.{Packet16, PacketAf1f, Packet28}
use Rattle.symbology.proofs.Placement.{placed}
use Rattle.sweep.proofs.Reading.{refused_in, given_in}
use Rattle.archive.specs.Surplus.{surplus_in, surplus_at, rows_exact, end_of, end_exact, exact}
use Rattle.archive.specs.Steps.{RadialsInside}

-- ---- the walk over the radials of packets 16 and AF1F

place_next : (packet : Packet) (b : List ℕ) (r : ℕ) → place packet b (suc r) ≡ place packet b r + 6 + covered packet (u16_at b (place packet b r))
unfolding place
place_next packet b r = refl

rises : (packet : Packet) (b : List ℕ) (r k : ℕ) → place packet b r ≤ place packet b (k + r)
rises packet b r zero = let z : 0 + r ≡ r = omega arith in rw z (omega arith)
rises packet b r (suc k) =
    let z : suc k + r ≡ suc (k + r) = omega arith in
    rw z (omega (arith, rises packet b r k, place_next packet b (k + r)))

-- a walk over the radials of a body that has room for them stands at radial r
pub record Standing (packet : Packet) (b : List ℕ) (radials r at : ℕ) : Type 0 where
  pub place_is : at ≡ place packet b r
  pub inside : place packet b radials ≤ length b

pub standing_first : {packet : Packet} {b : List ℕ} {radials : ℕ} → place packet b radials ≤ length b → Standing packet b radials 0 30
unfolding place
standing_first h = record { place_is = refl; inside = h }

module _ {packet : Packet} {b : List ℕ} {radials r at : ℕ} (w : Standing packet b radials r at) where
  pub standing_end : radials ≤ r → r ≤ radials → at ≡ place packet b radials
  standing_end h k = let a : r ≡ radials = omega arith in rw (← a) w.place_is

  -- the radial's data end inside the body
  pub data_inside : r < radials → at + 6 + covered packet (u16_at b at) ≤ length b
  data_inside lt =
      let z : radials - suc r + suc r ≡ radials = omega arith in
      let k : place packet b (suc r) ≤ place packet b radials = rw z at (rises packet b (suc r) (radials - suc r)) in
      rw w.place_is (omega (arith, place_next packet b r, k, w.inside))

  module _ {count size : ℕ} (ci : count ≡ u16_at b at) (si : (size ≡ covered packet count) × (size ≤ count * 4)) where
    to_is : at + 6 + size ≡ place packet b (suc r)
    to_is = rw (place_next packet b r, ← w.place_is, ← ci, ← si.0) refl

    pub standing_next : Standing packet b radials (r + 1) (at + 6 + size)
    standing_next = record { place_is = rw add-one to_is; inside = w.inside }

-- and none before it has surplus
pub record Exacting (f : Figures) (b : List ℕ) (r at : ℕ) : Type 0 where
  pub stands : Standing f.packet b f.n_radials r at
  pub known : rows_exact f b (f.n_radials - r) r ≡ rows_exact f b f.n_radials 0

pub exacting_first : {f : Figures} {b : List ℕ} → place f.packet b f.n_radials ≤ length b → Exacting f b 0 30
exacting_first {f} h = record { stands = standing_first h; known = let e : f.n_radials - 0 ≡ f.n_radials = omega arith in rw e refl }

module _ {f : Figures} {b : List ℕ} {r at : ℕ} (w : Exacting f b r at) where
  here : r < f.n_radials → refuse (surplus_at f b r) (kind 45 (nat r ∷ [])) (rows_exact f b (f.n_radials - (r + 1)) (r + 1)) ≡ rows_exact f b f.n_radials 0
  unfolding rows_exact
  here lt =
      let e : f.n_radials - r ≡ suc (f.n_radials - suc r) = omega arith in
      let k : rows_exact f b (suc (f.n_radials - suc r)) r ≡ rows_exact f b f.n_radials 0 = rw e at w.known in
      rw add-one k

  pub exacting_end : f.n_radials ≤ r → accepted tt ≡ rows_exact f b f.n_radials 0
  unfolding rows_exact
  exacting_end h = let z : f.n_radials - r ≡ 0 = omega arith in rw z at w.known

  module _ (lt : r < f.n_radials) {count size : ℕ} (ci : count ≡ u16_at b at) (si : (size ≡ covered f.packet count) × (size ≤ count * 4))
      {t : Bool} (su : t ≡ surplus_in f.packet f.n_bins count (take (at + 6 + size - (at + 6)) (drop (at + 6) b))) where
    surplus_is : t ≡ surplus_at f b r
    unfolding surplus_at
    surplus_is = rw (← to_is w.stands ci si, ← w.stands.place_is, ← ci) (rw (part_slice b (at + 6) (at + 6 + size) (omega arith)) at su)

    pub exacting_stop : t ≡ true → refused (kind 45 (nat r ∷ [])) ≡ rows_exact f b f.n_radials 0
    exacting_stop h = rw (← here lt, ← surplus_is, h) refl

    pub exacting_next : t ≡ false → Exacting f b (r + 1) (at + 6 + size)
    exacting_next h = record { stands = standing_next w.stands ci si; known = rw (← here lt, ← surplus_is, h) refl }

-- ---- packet 28

pub rows_28 : (f : Figures) (b : List ℕ) (n r : ℕ) → f.packet ≡ Packet28 → accepted tt ≡ rows_exact f b n r
unfolding rows_exact surplus_at surplus_in
rows_28 f b zero r is = refl
rows_28 f b (suc n) r is = rw is (rows_28 f b n (suc r) is)

-- ---- the end

pub end_old : {packet : Packet} (n : ℕ) (b : List ℕ) → (packet ≡ Packet16) ⊎ (packet ≡ PacketAf1f) → place packet b n ≡ end_of packet n b
unfolding end_of
end_old n b (inl e) = rw e refl
end_old n b (inr e) = rw e refl

pub end_28 : {packet : Packet} (n : ℕ) (b : List ℕ) → packet ≡ Packet28 → 24 + u32_at b 20 ≡ end_of packet n b
unfolding end_of
end_28 n b e = rw e refl

-- ---- a body

module _ (b : List ℕ) where
  abbrev Tested : Result (Unit {0})
  Tested = then (picture_of b) (λ p. exact p.figures b)

  pub not_read : {x : Refusal} → refused x ≡ figures_in (picture_of b) → refused x ≡ Tested
  not_read h = sym (then_by (λ p. exact p.figures b) (refused_in (λ (p : Picture). p.figures) (picture_of b) h))

  pub tests_are : (f : Figures) → then (rows_exact f b f.n_radials 0) (λ _. end_exact f b) ≡ exact f b
  unfolding exact
  tests_are f = refl

  module _ {f : Figures} (h : accepted f ≡ figures_in (picture_of b)) where
    pub read_tested : {t : Result (Unit {0})} → t ≡ exact f b → t ≡ Tested
    read_tested e =
        let g = given_in (λ (p : Picture). p.figures) (picture_of b) h in
        e ∙ ap (λ (x : Figures). exact x b) (sym g.2) ∙ sym (then_by (λ p. exact p.figures b) g.1)

    -- its radials stand in it
    pub radials_inside : RadialsInside f b
    unfolding picture_of
    radials_inside =
        let k = given_in (λ (p : Picture). p.figures) (picture_of b) h in
        through (run symbology b 0) _ k.0 k.1 λ g eg e.
        let same : g.value.figures ≡ f = ap (λ (p : Picture). p.figures) (one_value e) ∙ k.2 in
        rw same at (placed b g eg).inside
