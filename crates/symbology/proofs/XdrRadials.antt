-- Packet 28: the radials as the reading has them, whose first gives the number of bins, are the one walk's. Assumes nothing.
use Rattle.std.proofs.Common.{Some, None, ◌≡◌, ℕ, zero, suc, ◌+◌, ◌-◌, ◌*◌, ◌<◌, Bool, not, List, ◌∷◌, sym, refl, ap, ◌∙◌, ap₂, append-nil, arith, eq-eqb}
use lib.Seq.{slice}
use lib.Ieee.{Float}
use Rattle.wire.specs.Refusal.{Refusal}
use Rattle.wire.specs.Result.{Result, accepted, refused}
use Rattle.wire.specs.Reading.{Flat, give, ◌>>=◌, after_row, run, Given, Ended, passed, halted, walk}
use Rattle.wire.proofs.Readings.{walk_give, then_passed, then_halted, passed_check}
use Rattle.wire.proofs.Runs.{then_then, prepend, and_then, same_first, same_first_by, past_check}
use Rattle.symbology.proofs.Modes.{mode_give, mode_run_then, mode_same_last, mode_row_passed, mode_row_halted}
use Rattle.symbology.specs.Rows.{row_of}
use Rattle.symbology.specs.Symbology.{Sweep, xdr_frame, xdr_radial, xdr_walk, xdr_radials}
use Rattle.symbology.specs.declared.generic.XdrRadial.{XdrRadial}
use Rattle.symbology.specs.Walk.{in_mode, kept_of, expected_of, xdr_radial_span, any_frame, any_radial, any_walk, sweep_from}
use Rattle.symbology.proofs.XdrFrames.{framed}
use Rattle.symbology.proofs.Frames.{plain_xdr_frame, plain_frame}
use Rattle.symbology.specs.declared.figures.Figures.{Figures}
use Rattle.symbology.specs.declared.figures.Packet.TheVariants.{Packet28}
use Rattle.symbology.specs.declared.figures.Geometry.TheVariants.{Gates}

-- ---- one radial

module _ (radials bins r : ℕ) (s : List ℕ) (p : ℕ) where
  -- the frame as the one walk has it
  span_passed : {xdr : XdrRadial} {q : ℕ} → passed xdr q ≡ walk (xdr_frame radials r (expected_of (Some bins))) s p
      → passed (record { centre = xdr.centre; size = xdr.bins * 4 }) q ≡ walk (any_frame Packet28 radials bins r) s p
  unfolding any_frame xdr_radial_span
  span_passed e = sym (then_passed _ (xdr_frame radials r (expected_of (Some bins))) s p e ∙ walk_give _ s _)

  module _ {B : Type 0} (m : Bool) (e : ℕ → ℕ) (f : XdrRadial → Flat B) (g : Float → Flat B) where
    radial_passed : {xdr : XdrRadial} {q : ℕ} → passed xdr q ≡ walk (xdr_frame radials r e) s p → passed xdr q ≡ walk (xdr_frame radials r (expected_of (Some bins))) s p
        → xdr.bins ≡ bins → ((n : ℕ) → run (in_mode m (f xdr)) s n ≡ run (in_mode m (g xdr.centre)) s n)
        → run (in_mode m (xdr_radial radials r e >>= f)) s p ≡ run (in_mode m (any_radial Packet28 radials bins r >>= g)) s p
    unfolding xdr_radial any_radial
    radial_passed {xdr} {q} h k b l =
        mode_row_passed _ _ _ (λ x. x) f (xdr_frame radials r e) (plain_xdr_frame radials r e) s p h
        ∙ ap₂ (λ n y. after_row (kept_of m (row_of Packet28 n r (slice q (q + xdr.bins * 4) s))) y) b (l (q + xdr.bins * 4))
        ∙ sym (mode_row_passed _ (λ x. x.size) _ _ g (any_frame Packet28 radials bins r) (plain_frame Packet28 radials bins r) s p (span_passed k))

  module _ {B : Type 0} (m : Bool) (f : XdrRadial → Flat B) (g : Float → Flat B) where
    radial_halted : {x : Refusal} {q : ℕ} → halted x q ≡ walk (xdr_frame radials r (expected_of (Some bins))) s p
        → run (in_mode m (xdr_radial radials r (expected_of (Some bins)) >>= f)) s p ≡ run (in_mode m (any_radial Packet28 radials bins r >>= g)) s p
    unfolding xdr_radial any_radial any_frame xdr_radial_span
    radial_halted h =
        sym (mode_row_halted _ _ _ (λ x. x) f (xdr_frame radials r (expected_of (Some bins))) (plain_xdr_frame radials r _) s p h)
        ∙ mode_row_halted _ (λ x. x.size) _ _ g (any_frame Packet28 radials bins r) (plain_frame Packet28 radials bins r) s p
        (then_halted _ (xdr_frame radials r (expected_of (Some bins))) s p h)

-- ---- the radials after the first

further : (m : Bool) (radials bins : ℕ) (s : List ℕ) (n r p : ℕ) → run (in_mode m (xdr_walk radials bins n r)) s p ≡ run (in_mode m (any_walk Packet28 radials bins n r)) s p
unfolding xdr_walk any_walk
further m radials bins s zero r p = refl
further m radials bins s (suc n) r p = go (further m radials bins s n (suc r)) (walk (xdr_frame radials r (expected_of (Some bins))) s p) refl
  where
    go : ((q : ℕ) → run (in_mode m (xdr_walk radials bins n (suc r))) s q ≡ run (in_mode m (any_walk Packet28 radials bins n (suc r))) s q) → (w : Ended XdrRadial)
        → walk (xdr_frame radials r (expected_of (Some bins))) s p ≡ w → run (in_mode m (xdr_walk radials bins (suc n) r)) s p ≡ run (in_mode m (any_walk Packet28 radials bins (suc n) r)) s p
    go rest_is (passed xdr q) h =
        radial_passed radials bins r s p m (expected_of (Some bins)) _ _ (sym h) (sym h) (framed radials r (expected_of (Some bins)) s p xdr q (sym h)).bins_are
        (λ q. mode_same_last _ (λ rest. give (xdr.centre ∷ rest)) (xdr_walk radials bins n (suc r)) (any_walk Packet28 radials bins n (suc r)) s q (rest_is q))
    go rest_is (halted x q) h = radial_halted radials bins r s p m _ _ (sym h)

-- ---- the first radial

-- its bins are its own: the frame passes as one of that many bins
own_bins : (radials : ℕ) (s : List ℕ) (p : ℕ) {xdr : XdrRadial} {q : ℕ} → passed xdr q ≡ walk (xdr_frame radials 0 (expected_of None)) s p
    → passed xdr q ≡ walk (xdr_frame radials 0 (expected_of (Some xdr.bins))) s p
unfolding xdr_frame
own_bins radials s p {xdr} {q} =
    same_first _ _ _ s p λ _ m. same_first_by _ _ _ s m λ m. same_first _ _ _ s m λ _ m. same_first _ _ _ s m λ _ m.
    same_first_by _ _ _ s m λ m. same_first _ _ _ s m λ _ m. same_first_by _ _ _ s m λ m h.
    let h₁ = passed_check _ _ _ s m h in
    let h₂ = passed_check _ _ _ s m h₁.1 in
    let h₃ = passed_check _ _ _ s m h₂.1 in
    past_check _ _ _ s m (ap not (eq-eqb _ _ (last (h₃.1 ∙ walk_give _ s m)))) h₁.1
  where
    last : {centre : Float} {bins m : ℕ} → passed xdr q ≡ passed (record { centre = centre; bins = bins }) m → bins ≡ xdr.bins
    last {centre} {bins} e = let a : xdr ≡ record { centre = centre; bins = bins } = cc in sym (ap (λ x. x.bins) a)

-- ---- the sweep

pub sweep_run : (W : Type 0) (m : Bool) (figures : Figures) (t : Flat (List Float)) (s : List ℕ) (p : ℕ)
    → run {W = W} (in_mode m (t >>= λ azimuths. give (record { figures = figures; azimuths = azimuths }))) s p ≡ sweep_from figures (run (in_mode m t) s p)
unfolding run and_then prepend
sweep_run W m figures t s p = mode_run_then _ _ t s p ∙ go (run (in_mode m t) s p)
  where
    go : (r : Result (Given (List Float))) → and_then r (λ azimuths q. run {W = W} (in_mode m (give (record { figures = figures; azimuths = azimuths }))) s q) ≡ sweep_from figures r
    go (accepted g) = ap (λ t. prepend g.rows (run {W = W} t s g.next)) (mode_give m _) ∙ ap (λ rows. accepted (record { value = record { figures = figures; azimuths = g.value }; next = g.next; rows = rows })) (append-nil g.rows)
    go (refused x) = refl

module _ (m : Bool) (radials : ℕ) (gate_width first_gate : Float) (s : List ℕ) (p : ℕ) where
  -- the first frame is refused
  pub radials_refused : {x : Refusal} {q : ℕ} → halted x q ≡ walk (xdr_frame radials 0 (expected_of None)) s p → refused x ≡ run (in_mode m (xdr_radials radials gate_width first_gate)) s p
  unfolding xdr_radials xdr_radial
  radials_refused e = mode_row_halted _ _ _ (λ x. x) _ (xdr_frame radials 0 (expected_of None)) (plain_xdr_frame radials 0 _) s p e

  -- the first frame passes: the sweep is the one walk's
  pub radials_are : {xdr : XdrRadial} {q : ℕ} → 0 < radials → passed xdr q ≡ walk (xdr_frame radials 0 (expected_of None)) s p
      → run (in_mode m (xdr_radials radials gate_width first_gate)) s p
      ≡ sweep_from (record { packet = Packet28; n_radials = radials; n_bins = xdr.bins; geometry = Gates gate_width first_gate }) (run (in_mode m (any_walk Packet28 radials xdr.bins radials 0)) s p)
  unfolding xdr_radials any_walk ◌>>=◌
  radials_are {xdr} h e =
      let n : radials ≡ suc (radials - 1) = omega (arith, h) in
      radial_passed radials xdr.bins 0 s p m (expected_of None) _ _ e (own_bins radials s p e) refl after_first
      ∙ ap (λ t. run (in_mode m t) s p) (sym (then_then _ sweep (any_radial Packet28 radials xdr.bins 0)))
      ∙ sweep_run ⊥ m figures (any_walk Packet28 radials xdr.bins (suc (radials - 1)) 0) s p
      ∙ ap (λ k. sweep_from figures (run (in_mode m (any_walk Packet28 radials xdr.bins k 0)) s p)) (sym n)
    where
      figures : Figures
      figures = record { packet = Packet28; n_radials = radials; n_bins = xdr.bins; geometry = Gates gate_width first_gate }

      sweep : List Float → Flat Sweep
      sweep azimuths = give (record { figures = figures; azimuths = azimuths })

      others : Flat (List Float)
      others = any_walk Packet28 radials xdr.bins (radials - 1) 1

      add : List Float → Flat (List Float)
      add rest = give (xdr.centre ∷ rest)

      after_first : (q : ℕ) → run (in_mode m (xdr_walk radials xdr.bins (radials - 1) 1 >>= λ rest. sweep (xdr.centre ∷ rest))) s q ≡ run (in_mode m (others >>= add >>= sweep)) s q
      after_first q =
          mode_same_last _ _ (xdr_walk radials xdr.bins (radials - 1) 1) others s q (further m radials xdr.bins s (radials - 1) 1 q)
          ∙ ap (λ t. run (in_mode m t) s q) (sym (then_then add sweep others))
