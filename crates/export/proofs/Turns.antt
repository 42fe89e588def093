-- The radials of an original: what an accepted walk over them shows, radial by radial, and that it is symbology's. Assumes nothing.
use Prim.Native.Nat.{ℕ, zero, suc, ◌+◌, ◌-◌, ◌*◌, ◌≤◌}
use native.Mathlib.Omega.{arith}
use mathlib.Core.List.{List, [], ◌∷◌, ◌++◌, map, append-nil}
use mathlib.Core.Bool.{Bool, true, false, cond, ◌||◌}
use mathlib.Core.Path.{◌≡◌, refl, sym, ap, ◌∙◌, fun_ext}
use lib.ListN.{length}
use lib.Dec.{ltb, eqb}
use lib.Ieee.{Float}
use borrow.Author.Tests.{ltb-false}
use Rattle.wire.specs.Bytes.{u16_at}
use Rattle.wire.specs.Refusal.{Refusal, kind, nat, float}
use Rattle.wire.specs.Result.{Result, accepted, refused}
use Rattle.wire.specs.Reading.{Read, Flat, give, ◌>>=◌, ◌>>◌, remaining, u16, radial_data, refuse_if, run, Given, more, after_row}
use Rattle.wire.proofs.Runs.{then_then, run_then, and_then, prepend, run_parts}
use Rattle.symbology.specs.Centre.{centre, width_degrees}
use Rattle.symbology.specs.Places.{Enough}
use Rattle.symbology.specs.Rows.{row_of, codes_of, FullRow}
use Rattle.symbology.specs.Symbology.{Beam, covered, count_wrong, frame, radial, radial_walk}
use Rattle.symbology.specs.declared.figures.Packet.{Packet}
use Rattle.symbology.specs.declared.figures.Packet.TheVariants.{PacketAf1f}
use Rattle.symbology.proofs.FullRow.{full_row}
use Rattle.export.specs.Export.{export_radial, export_walk}
use Rattle.export.specs.Steps.{beam_at, data_at}

-- ---- a frame, and what follows it

run_checks_then : {W A B : Type 0} (g : A → Read W B) (b : Bool) (x : Refusal) (f : Unit {0} → Flat A) (s : List ℕ) (p : ℕ) {y : Result (Given B)}
    → run (f tt >>= g) s p ≡ y → run ((refuse_if b x >>= f) >>= g) s p ≡ cond b (refused x) y
unfolding run refuse_if ◌>>=◌
run_checks_then g true x f s p h = refl
run_checks_then g false x f s p h = h

pub frame_then : {B : Type 0} (packet : Packet) (radials bins r : ℕ) (s : List ℕ) (p : ℕ) (k : Beam → Flat B)
    → run (frame packet radials bins r >>= k) s p
    ≡ cond (ltb (length s - p) 6) (refused (kind 19 (nat r ∷ nat radials ∷ [])))
    (cond (eqb (u16_at s (p + 4)) 0 || ltb 100 (u16_at s (p + 4))) (refused (kind 20 (nat r ∷ float (width_degrees (u16_at s (p + 4))) ∷ [])))
    (cond (count_wrong packet bins (u16_at s p) (length s - (p + 6))) (refused (kind 21 (nat r ∷ nat (u16_at s p) ∷ nat bins ∷ [])))
    (run (k (beam_at s p)) s (p + 6))))
unfolding frame remaining u16 run ◌>>=◌ ◌>>◌
frame_then packet radials bins r s p k =
    let e : p + 2 + 2 ≡ p + 4 = omega arith in
    let f : p + 2 + 2 + 2 ≡ p + 6 = omega arith in
    rw (← e, ← f) (run_checks_then _ _ _ _ s _ (run_checks_then _ _ _ _ s _ (run_checks_then _ _ _ _ s _ refl)))

-- what was accepted was past the test
pub run_past : {A : Type 0} (b : Bool) (x : Refusal) (r : Result A) {a : A} → cond b (refused x) r ≡ accepted a → (b ≡ false) × (r ≡ accepted a)
run_past true x r h = let z : ◌≡◌ {A = ℕ} 0 1 = cc in absurd (omega arith)
run_past false x r h = (refl, h)

-- ---- one radial

abbrev pub WidthFine : ℕ → Type 0
WidthFine w = eqb w 0 || ltb 100 w ≡ false

-- What an accepted radial at p shows.
pub record One (bins : ℕ) (s : List ℕ) (p : ℕ) (g : Given Beam) : Type 0 where
  pub inside : p + 6 + u16_at s p * 2 ≤ length s
  pub width : WidthFine (u16_at s (p + 4))
  pub full : FullRow PacketAf1f bins (data_at s p)
  pub long : length (codes_of PacketAf1f bins (data_at s p)) ≡ bins
  pub given : g ≡ record { value = beam_at s p; next = p + 6 + u16_at s p * 2; rows = codes_of PacketAf1f bins (data_at s p) ∷ [] }

pub one : (radials bins r : ℕ) (s : List ℕ) (p : ℕ) (g : Given Beam) → run (export_radial radials bins r) s p ≡ accepted g → One bins s p g
unfolding export_radial count_wrong covered radial_data run ◌>>=◌ ◌>>◌ Enough after_row more
one radials bins r s p g e =
    let h₁ = run_past (ltb (length s - p) 6) _ _ (sym (frame_then PacketAf1f radials bins r s p _) ∙ e) in
    let h₂ = run_past (eqb (u16_at s (p + 4)) 0 || ltb 100 (u16_at s (p + 4))) _ _ h₁.1 in
    let h₃ = run_past (ltb (length s - (p + 6)) (u16_at s p * 2)) _ _ h₂.1 in
    let six : 6 ≤ length s - p = ltb-false _ _ h₁.0 in
    let room : u16_at s p * 2 ≤ length s - (p + 6) = ltb-false _ _ h₃.0 in
    last (omega arith) h₂.0 (row_of PacketAf1f bins r (data_at s p)) refl h₃.1
  where
    last : p + 6 + u16_at s p * 2 ≤ length s → WidthFine (u16_at s (p + 4)) → (c : Result (List ℕ)) → row_of PacketAf1f bins r (data_at s p) ≡ c
        → after_row c (accepted (record { value = beam_at s p; next = p + 6 + u16_at s p * 2; rows = [] })) ≡ accepted g → One bins s p g
    last i w (accepted codes) h k =
        let f = full_row PacketAf1f bins r (data_at s p) codes tt h in
        let l : ◌≡◌ {A = Given Beam} (record { value = beam_at s p; next = p + 6 + u16_at s p * 2; rows = codes ∷ [] }) g = cc in
        record { inside = i; width = w; full = f.0; long = ap length (sym f.1) ∙ f.2; given = sym l ∙ ap (λ (c : List ℕ). record { value = beam_at s p; next = p + 6 + u16_at s p * 2; rows = c ∷ [] }) f.1 }
    last i w (refused x) h k = let z : ◌≡◌ {A = ℕ} 0 1 = cc in absurd (omega arith)

-- ---- all radials

module _ (radials bins : ℕ) (s : List ℕ) where
  -- the next radial of an accepted walk, and the rest
  pub record Turn (k r p : ℕ) (g : Given (List Beam)) : Type 0 where
    pub rest : Given (List Beam)
    pub inside : p + 6 + u16_at s p * 2 ≤ length s
    pub width : WidthFine (u16_at s (p + 4))
    pub full : FullRow PacketAf1f bins (data_at s p)
    pub long : length (codes_of PacketAf1f bins (data_at s p)) ≡ bins
    pub rest_is : run (export_walk radials bins k (suc r)) s (p + 6 + u16_at s p * 2) ≡ accepted rest
    pub value_is : g.value ≡ beam_at s p ∷ rest.value
    pub rows_are : g.rows ≡ codes_of PacketAf1f bins (data_at s p) ∷ rest.rows

  pub turn : (k r p : ℕ) (g : Given (List Beam)) → run (export_walk radials bins (suc k) r) s p ≡ accepted g → Turn k r p g
  unfolding export_walk run
  turn k r p g e =
      let a = run_parts _ (export_radial radials bins r) s p e in
      let b = run_parts _ (export_walk radials bins k (suc r)) s _ a.second_is in
      let o = one radials bins r s p a.first a.first_is in
      last a.first a.second b.first b.second o b.first_is a.whole b.whole b.second_is
    where
      last : (f : Given Beam) (m l n : Given (List Beam)) → One bins s p f
          → run (export_walk radials bins k (suc r)) s f.next ≡ accepted l
          → g ≡ record { value = m.value; next = m.next; rows = f.rows ++ m.rows }
          → m ≡ record { value = n.value; next = n.next; rows = l.rows ++ n.rows }
          → ◌≡◌ {A = Result (Given (List Beam))} (accepted (record { value = f.value ∷ l.value; next = l.next; rows = [] })) (accepted n) → Turn k r p g
      last f m l n o h₂ h₅ h₆ h₇ =
          let i : ◌≡◌ {A = Given (List Beam)} (record { value = f.value ∷ l.value; next = l.next; rows = [] }) n = cc in
          let v : m.value ≡ f.value ∷ l.value = ap (λ x. x.value) h₆ ∙ sym (ap (λ x. x.value) i) in
          let w : m.rows ≡ l.rows = ap (λ x. x.rows) h₆ ∙ ap (λ x. l.rows ++ x) (sym (ap (λ x. x.rows) i)) ∙ append-nil l.rows in
          record {
            rest = l;
            inside = o.inside;
            width = o.width;
            full = o.full;
            long = o.long;
            rest_is = rw (ap (λ x. x.next) o.given) at h₂;
            value_is = ap (λ x. x.value) h₅ ∙ v ∙ ap (λ (x : Given Beam). x.value ∷ l.value) o.given;
            rows_are = ap (λ x. x.rows) h₅ ∙ ap (λ (x : List (List ℕ)). f.rows ++ x) w ∙ ap (λ (x : Given Beam). x.rows ++ l.rows) o.given;
          }

  pub none : (r p : ℕ) (g : Given (List Beam)) → run (export_walk radials bins 0 r) s p ≡ accepted g → g ≡ record { value = []; next = p; rows = [] }
  unfolding export_walk run
  none r p g e = cc

-- Radials that can be written: each has a width that passes, and a row of n_bins codes.
pub data Fine (bins : ℕ) : List Beam → List (List ℕ) → Type 0 where
  nothing : Fine bins [] []
  more_fine : {beam : Beam} {beams : List Beam} {row : List ℕ} {rows : List (List ℕ)} → WidthFine beam.width → length row ≡ bins → Fine bins beams rows
      → Fine bins (beam ∷ beams) (row ∷ rows)

fine_by : {bins : ℕ} {beam : Beam} {beams bs : List Beam} {row : List ℕ} {rows rs : List (List ℕ)} → bs ≡ beam ∷ beams → rs ≡ row ∷ rows
    → WidthFine beam.width → length row ≡ bins → Fine bins beams rows → Fine bins bs rs
fine_by e k w l f = rw (e, k) (more_fine w l f)

pub fine : (radials bins : ℕ) (s : List ℕ) (n r p : ℕ) (g : Given (List Beam)) → run (export_walk radials bins n r) s p ≡ accepted g
    → Fine bins g.value g.rows × (length g.value ≡ n)
fine radials bins s zero r p g e = let h = none radials bins s r p g e in rw h (nothing, refl)
fine radials bins s (suc n) r p g e =
    let t = turn radials bins s n r p g e in
    let i = fine radials bins s n (suc r) _ t.rest t.rest_is in
    (fine_by t.value_is t.rows_are t.width t.long i.0, ap length t.value_is ∙ ap suc i.1)

-- ---- symbology's walk

abbrev pub centre_of : Beam → Float
centre_of beam = centre beam.start beam.width

radial_of : (radials bins r : ℕ) → radial PacketAf1f radials bins r ≡ (export_radial radials bins r >>= λ beam. give (centre_of beam))
unfolding radial export_radial ◌>>=◌ ◌>>◌ radial_data
radial_of radials bins r = sym (then_then _ (λ beam. give (centre_of beam)) (frame PacketAf1f radials bins r))

walk_of : (radials bins n r : ℕ) → radial_walk PacketAf1f radials bins n r ≡ (export_walk radials bins n r >>= λ beams. give (map centre_of beams))
unfolding radial_walk export_walk ◌>>=◌
walk_of radials bins zero r = refl
walk_of radials bins (suc n) r =
    let one = export_radial radials bins r in
    let others = export_walk radials bins n (suc r) in
    ap (λ (t : Flat Float). t >>= λ first. radial_walk PacketAf1f radials bins n (suc r) >>= λ azimuths. give (first ∷ azimuths)) (radial_of radials bins r)
    ∙ then_then (λ beam. give (centre_of beam)) _ one
    ∙ ap (λ (t : Flat (List Float)). one >>= λ beam. t >>= λ azimuths. give (centre_of beam ∷ azimuths)) (walk_of radials bins n (suc r))
    ∙ ap (λ (k : Beam → Flat (List Float)). one >>= k) (fun_ext (λ beam.
    then_then (λ beams. give (map centre_of beams)) (λ azimuths. give (centre_of beam ∷ azimuths)) others
    ∙ sym (then_then (λ beams. give (beam ∷ beams)) (λ l. give (map centre_of l)) others)))
    ∙ sym (then_then (λ beam. others >>= λ beams. give (beam ∷ beams)) (λ l. give (map centre_of l)) one)

-- a value that is worked out at the end
unfoldable pub mapped : {A B : Type 0} → (A → B) → Result (Given A) → Result (Given B)
mapped f (accepted g) = accepted (record { value = f g.value; next = g.next; rows = g.rows })
mapped f (refused x) = refused x

pub run_mapped : {A B : Type 0} (f : A → B) (t : Flat A) (s : List ℕ) (p : ℕ) → run {W = ⊥} (t >>= λ a. give (f a)) s p ≡ mapped f (run t s p)
unfolding and_then prepend run mapped
run_mapped {A} {B} f t s p = run_then (λ a. give (f a)) t s p ∙ go (run t s p)
  where
    go : (r : Result (Given A)) → and_then r (λ a q. run {W = ⊥} (give (f a)) s q) ≡ mapped f r
    go (accepted g) = ap (λ (l : List (List ℕ)). accepted (record { value = f g.value; next = g.next; rows = l })) (append-nil g.rows)
    go (refused x) = refl

pub run_walk_of : (radials bins n r : ℕ) (s : List ℕ) (p : ℕ) → run (radial_walk PacketAf1f radials bins n r) s p ≡ mapped (map centre_of) (run (export_walk radials bins n r) s p)
run_walk_of radials bins n r s p = ap (λ (t : Flat (List Float)). run t s p) (walk_of radials bins n r) ∙ run_mapped (map centre_of) (export_walk radials bins n r) s p
