-- An accepted body has a centre for each of its radials, and in packets 16 and AF1F each lies in the circle. Assumes nothing.
use Rattle.std.proofs.Common.{◌≡◌, ℕ, zero, suc, ◌+◌, ◌-◌, ◌<◌, Bool, true, false, cond, eqb, ◌≢◌, List, [], ◌∷◌, length, get_or, take, sym, refl, ap, ◌∙◌, arith}
use lib.Ieee.{Float, nan}
use Rattle.wire.specs.Bytes.{signed}
use Rattle.wire.specs.Refusal.{Refusal, kind, whole}
use Rattle.wire.specs.Result.{Result, accepted, refused}
use Rattle.wire.specs.Reading.{Read, Flat, give, stop, within, Given, run, ◌>>=◌, ◌>>◌, refuse_if}
use Rattle.wire.proofs.Runs.{and_then, prepend, run_then}
use Rattle.xdr.specs.Xdr.{further, elements, counted}
use Rattle.symbology.specs.declared.figures.Packet.{Packet}
use Rattle.symbology.specs.declared.figures.Packet.TheVariants.{Packet16, PacketAf1f, Packet28}
use Rattle.symbology.specs.Symbology.{Sweep, radial, radial_walk, radial_packet, xdr_walk, xdr_radials, component_head, component, only, payload, generic_packet, packet_of, symbology}
use Rattle.symbology.specs.Circle.{InCircle, FirstInCircle}
use Rattle.symbology.proofs.Circle.{centre_in_circle}
use Rattle.symbology.proofs.Payload.{counted_small}

-- whatever the bytes are, a value that the reading gives has P
record Gives {W A : Type 0} (t : Read W A) (P : A → Type 0) : Type 0 where
  holds : (s : List ℕ) (p : ℕ) (g : Given A) → run t s p ≡ accepted g → P g.value

module _ {W A : Type 0} {P : A → Type 0} where
  gives : (a : A) → P a → Gives {W = W} (give a) P
  unfolding run
  gives a h = record { holds = λ s p g e. let v : ◌≡◌ {A = A} a g.value = cc in rw v at h }

  gives_none : (x : Refusal) → Gives {W = W} (stop x) P
  unfolding run
  gives_none x = record { holds = λ s p g e. absurd (let z : ◌≡◌ {A = ℕ} 0 1 = cc in omega arith) }

  gives_within : {w : W} {k : ℕ} {t : Read W A} → Gives t P → Gives (within w k t) P
  unfolding run
  gives_within {w} {k} {t} h = record { holds = λ s p g e. h.holds (take (p + k) s) p g e }

-- a reading whose values have Q, and then another
module _ {W A B : Type 0} {f : A → Read W B} {P : B → Type 0} where
  gives_then : {t : Flat A} {Q : A → Type 0} → Gives t Q → ((a : A) → Q a → Gives (f a) P) → Gives (t >>= f) P
  unfolding and_then prepend
  gives_then {t} {Q} h k = record { holds = λ s p g e. first s p g (run t s p) refl (sym (run_then f t s p) ∙ e) }
    where
      second : (s : List ℕ) (p : ℕ) (a : A) → Q a → (rows : List (List ℕ)) (g : Given B) (r : Result (Given B)) → run (f a) s p ≡ r
          → prepend rows r ≡ accepted g → P g.value
      second s p a q rows g (accepted g') e z =
          let v : ◌≡◌ {A = B} g'.value g.value = cc in
          rw v at ((k a q).holds s p g' e)
      second s p a q rows g (refused x) e z = absurd (let z : ◌≡◌ {A = ℕ} 0 1 = cc in omega arith)

      first : (s : List ℕ) (p : ℕ) (g : Given B) (r : Result (Given A)) → run t s p ≡ r → and_then r (λ a q. run (f a) s q) ≡ accepted g → P g.value
      first s p g (accepted g') e z = second s g'.next g'.value (h.holds s p g' e) g'.rows g (run (f g'.value) s g'.next) refl z
      first s p g (refused x) e z = absurd (let z : ◌≡◌ {A = ℕ} 0 1 = cc in omega arith)

  -- the same where nothing is asked of the first
  gives_on : (t : Flat A) → ((a : A) → Gives (f a) P) → Gives (t >>= f) P
  gives_on t k = gives_then {Q = λ a. Unit {0}} (record { holds = λ s p g e. tt }) (λ a _. k a)

module _ {W A : Type 0} {P : A → Type 0} where
  -- a reading whose value is not used, and then another
  gives_past : {B : Type 0} {u : Read W A} (t : Flat B) → (B → Gives u P) → Gives (t >> u) P
  unfolding ◌>>◌
  gives_past t h = gives_on t h

  -- a test that is passed
  gives_test : {u : Read W A} (b : Bool) (x : Refusal) → (b ≡ false → Gives u P) → Gives (refuse_if b x >> u) P
  unfolding ◌>>◌ ◌>>=◌ refuse_if
  gives_test true x k = gives_none x
  gives_test false x k = k refl

-- ---- centres

-- as many centres as radials
abbrev Centred : Sweep → Type 0
Centred a = length a.azimuths ≡ a.figures.n_radials

walk_long : (packet : Packet) (radials bins n r : ℕ) → Gives (radial_walk packet radials bins n r) (λ l. length l ≡ n)
unfolding radial_walk
walk_long packet radials bins zero r = gives _ refl
walk_long packet radials bins (suc n) r = gives_on _ λ a. gives_then (walk_long packet radials bins n (suc r)) λ l h. gives _ (ap suc h)

packet_centred : (packet : Packet) → Gives (radial_packet packet) Centred
unfolding radial_packet
packet_centred packet = gives_on _ λ h. gives_then (walk_long packet h.radials h.bins h.radials 0) λ l e. gives _ e

xdr_long : (radials bins n r : ℕ) → Gives (xdr_walk radials bins n r) (λ l. length l ≡ n)
unfolding xdr_walk
xdr_long radials bins zero r = gives _ refl
xdr_long radials bins (suc n) r = gives_on _ λ a. gives_then (xdr_long radials bins n (suc r)) λ l h. gives _ (ap suc h)

-- where the number of radials is above 0, the first is one of them
radials_centred : (n : ℕ) (gate_width first_gate : Float) → 0 < n → Gives (xdr_radials n gate_width first_gate) Centred
unfolding xdr_radials
radials_centred n gate_width first_gate some = gives_on _ λ first. gives_then (xdr_long n first.bins (n - 1) 1) λ l e. gives _ (omega arith)

head_some : Gives component_head (λ h. 0 < h.radials)
unfolding component_head
head_some =
    gives_on _ λ type.
    gives_past _ λ _.
    gives_past _ λ _.
    gives_on _ λ gate_width.
    gives_on _ λ first_gate.
    gives_past _ λ _.
    gives_on _ λ radials.
    gives_test _ _ λ h29.
    gives_test _ _ λ h30.
    gives _ (counted_small radials h29 h30).0

component_centred : Gives component Centred
unfolding component
component_centred = gives_then head_some λ h some. radials_centred h.radials h.gate_width h.first_gate some

-- every element of a list has P
abbrev Each : {A : Type 0} → (A → Type 0) → List A → Type 0
Each P [] = Unit {0}
Each P (a ∷ l) = P a × Each P l

module _ {A : Type 0} {e : Flat A} {P : A → Type 0} (each : Gives e P) where
  further_each : (n : ℕ) → Gives (further e n) (Each P)
  unfolding further
  further_each zero = gives _ tt
  further_each (suc n) = gives_past _ λ _. gives_then each λ a h. gives_then (further_each n) λ l k. gives _ (h, k)

  elements_each : (n : ℕ) → Gives (elements e n) (Each P)
  unfolding elements
  elements_each zero = gives _ tt
  elements_each (suc n) = gives_then each λ a h. gives_then (further_each n) λ l k. gives _ (h, k)

  counted_each : Gives (counted e) (Each P)
  unfolding counted
  counted_each = gives_on _ elements_each

-- What every sweep of a packet 16 or AF1F and every component has, an accepted body has.
module _ {P : Sweep → Type 0} (radial-packet : (packet : Packet) → Gives (radial_packet packet) P) (each : Gives component P) where
  only_has : (l : List Sweep) → Each P l → Gives (only l) P
  unfolding only
  only_has [] h = gives_none _
  only_has (a ∷ []) h = gives a h.0
  only_has (a ∷ b ∷ l) h = gives_none _

  payload_has : Gives payload P
  unfolding payload
  payload_has =
      gives_past _ λ _.
      gives_then (counted_each each) λ l h.
      gives_then (only_has l h) λ a k.
      gives_on _ λ rest.
      gives_past _ λ _.
      gives a k

  generic_has : Gives generic_packet P
  unfolding generic_packet
  generic_has =
      gives_on _ λ avail.
      gives_past _ λ _.
      gives_past _ λ _.
      gives_on _ λ n.
      gives_on _ λ room.
      gives_past _ λ _.
      gives_within payload_has

  code_has : (code : ℕ) → Gives (packet_of code) P
  unfolding packet_of
  code_has code = by (eqb code 16) (eqb code 0xAF1F) (eqb code 28)
    where
      by : (c₁ c₂ c₃ : Bool)
          → Gives (cond c₁ (radial_packet Packet16) (cond c₂ (radial_packet PacketAf1f) (cond c₃ generic_packet (stop (kind 14 (whole (signed 32768 code) ∷ [])))))) P
      by true c₂ c₃ = radial-packet Packet16
      by false true c₃ = radial-packet PacketAf1f
      by false false true = generic_has
      by false false false = gives_none _

  body_has : Gives symbology P
  unfolding symbology
  body_has =
      gives_on _ λ n.
      gives_past _ λ _.
      gives_on _ λ divider.
      gives_on _ λ block.
      gives_past _ λ _.
      gives_past _ λ _.
      gives_on _ code_has

pub centred : (b : List ℕ) (g : Given Sweep) → run symbology b 0 ≡ accepted g → length g.value.azimuths ≡ g.value.figures.n_radials
centred b g e = (body_has packet_centred component_centred).holds b 0 g e

-- ---- centres in the circle

radial_circled : (packet : Packet) (radials bins r : ℕ) → Gives (radial packet radials bins r) InCircle
unfolding radial
radial_circled packet radials bins r = gives_on _ λ beam. gives_past _ λ _. gives _ (centre_in_circle beam.start beam.width)

walk_circled : (packet : Packet) (radials bins n r : ℕ) → Gives (radial_walk packet radials bins n r) (Each InCircle)
unfolding radial_walk
walk_circled packet radials bins zero r = gives _ tt
walk_circled packet radials bins (suc n) r =
    gives_then (radial_circled packet radials bins r) λ a h. gives_then (walk_circled packet radials bins n (suc r)) λ l k. gives _ (h, k)

abbrev Circled : Sweep → Type 0
Circled a = a.figures.packet ≢ Packet28 → Each InCircle a.azimuths

packet_circled : (packet : Packet) → Gives (radial_packet packet) Circled
unfolding radial_packet
packet_circled packet = gives_on _ λ h. gives_then (walk_circled packet h.radials h.bins h.radials 0) λ l k. gives _ (λ _. k)

component_circled : Gives component Circled
unfolding component xdr_radials
component_circled = gives_on _ λ h. gives_on _ λ first. gives_on _ λ l. gives _ (λ no. absurd (no refl))

each_at : (P : Float → Type 0) (l : List Float) → Each P l → (r : ℕ) → r < length l → P (get_or l r nan)
each_at P [] h r lt = absurd (omega arith)
each_at P (a ∷ l) h zero lt = h.0
each_at P (a ∷ l) h (suc r) lt = each_at P l h.1 r (omega arith)

pub circled : (b : List ℕ) (g : Given Sweep) → run symbology b 0 ≡ accepted g → g.value.figures.packet ≢ Packet28
    → FirstInCircle g.value.figures.n_radials g.value.azimuths
circled b g e old r lt = each_at InCircle g.value.azimuths ((body_has packet_circled component_circled).holds b 0 g e old) r (rw (centred b g e) lt)
