-- Every azimuth of an accepted sweep of packet 16 or AF1F is inside the circle: in the sweep reading's answer, and in the buffer of any call
-- that the contract of `read_sweep` allows. Assumes nothing.
use Prim.Native.Nat.{ℕ, ◌<◌}
use Rattle.std.specs.Prelude as Std
use mathlib.Core.List.{List}
use mathlib.Core.Logic.{◌≢◌}
use mathlib.Core.Path.{◌≡◌, sym, subst}
use lib.ListN.{length, drop, get_or-append}
use lib.Ieee.{nan}
use Rattle.wire.specs.Result.{accepted}
use Rattle.wire.proofs.Results.{through}
use Rattle.scale.specs.declared.physical.Scheme.{Scheme}
use Rattle.symbology.specs.declared.figures.Packet.TheVariants.{Packet28}
use Rattle.symbology.specs.Circle.{FirstInCircle}
use Rattle.symbology.proofs.Centres.{circled}
use Rattle.sweep.specs.declared.sweep.Sweep.{Sweep}
use Rattle.sweep.specs.Sweep.{Accepted, sweep_of, Buffers, read_into, Ran}
use Rattle.sweep.proofs.Parts.{parts, sizes}
use Rattle.sweep.proofs.CodeRuns.{Call, Allowed, scheme, file, clock, body, old, new, call_runs}

pub in_circle : (scheme : Scheme) (file : List ℕ) (clock : ℕ) (b : List ℕ) (na nc np : ℕ) (p : Accepted) → sweep_of scheme file clock b na nc np ≡ accepted p
    → p.sweep.figures.packet ≢ Packet28 → FirstInCircle p.sweep.figures.n_radials p.azimuths
in_circle scheme file clock b na nc np p acc radial r lt =
    let q = parts scheme file clock na nc np b p acc in
    rw (← q.azimuths) (circled b q.body q.body_is (rw q.figures radial) r (rw q.figures lt))

-- as a run leaves them in the buffer
run_in_circle : (scheme : Scheme) (file : List ℕ) (clock : ℕ) (b : List ℕ) (old new : Buffers) (s : Sweep) → Ran scheme file clock b old new (Std.Ok s)
    → s.figures.packet ≢ Packet28 → FirstInCircle s.figures.n_radials new.azimuths
run_in_circle scheme file clock b old new s ran radial r lt =
    through (read_into scheme file clock b old) _ s (sym ran.answered) λ p acc e.
    let is : p.sweep ≡ s = cc in
    let inside : r < length p.azimuths = rw ((sizes scheme file clock b _ _ _ p acc).azimuths, is) lt in
    rw (ran.azimuths, acc, get_or-append p.azimuths (drop (length p.azimuths) old.azimuths) nan r inside)
    (in_circle scheme file clock b _ _ _ p acc (rw is radial) r (rw is lt))

-- any call that is accepted
pub call_in_circle : (c : Call) → Allowed c → (s : Sweep) → c.answer ≡ Std.Ok s → s.figures.packet ≢ Packet28
    → FirstInCircle s.figures.n_radials (new c).azimuths
call_in_circle c allowed s is =
    run_in_circle (scheme c) (file c) (clock c) (body c) (old c) (new c) s
    (subst (Ran (scheme c) (file c) (clock c) (body c) (old c) (new c)) is (call_runs c allowed))
