-- The clear scan in the sweep reading (document 02, M-107): what a body of no radials gives, whatever the buffers' lengths are.
use Rattle.std.specs.Prelude.{ℕ, List, [], not, ◌≡◌}
use Rattle.wire.specs.Refusal.{kind}
use Rattle.wire.specs.Result.{Result, accepted, refuse, then}
use Rattle.scale.specs.Physical.{declared_scale}
use Rattle.scale.specs.declared.physical.Scheme.{Scheme}
use Rattle.symbology.specs.Clear.{clear_answer}
use Rattle.symbology.specs.declared.figures.Packet.{Packet}
use Rattle.sweep.specs.Sweep.{head_of, allowed, Accepted}
use Rattle.sweep.specs.GapSweep.{GapSweep}

-- the head's refusals, 15 or 17, 10, 9, else a sweep of no rows; 36 is not among them
unfoldable pub clear_sweep : Scheme → List ℕ → ℕ → Packet → List ℕ → Result Accepted
clear_sweep scheme file clock packet b =
    then (head_of scheme file clock) λ h.
    then (clear_answer packet b) λ p.
    refuse (not (allowed scheme packet)) (kind 10 [])
    (then (declared_scale h.scaling) λ declared.
    accepted (record {
      sweep = record { token = h.token; fields = h.fields; time = h.time; declared = declared; figures = p.figures };
      azimuths = [];
      codes = [];
      physical = [];
    }))

-- with gaps it is the same, and has no marks
abbrev pub unmarked_sweep : Accepted → GapSweep
unmarked_sweep a = record { sweep = a.sweep; azimuths = a.azimuths; codes = a.codes; physical = a.physical; marks = [] }

-- a sweep of no rows, of this packet
pub record NoRows (packet : Packet) (p : Accepted) : Type 0 where
  pub packet_is : p.sweep.figures.packet ≡ packet
  pub radials : p.sweep.figures.n_radials ≡ 0
  pub azimuths : p.azimuths ≡ []
  pub codes : p.codes ≡ []
  pub physical : p.physical ≡ []
