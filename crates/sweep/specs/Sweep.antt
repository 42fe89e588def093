-- Document 01's sweep reading. What stands before symbology sees file, clock and scheme alone; 10, 9 and 36 see the head, the figures and the
-- buffers' lengths; rows appear only in what is accepted.
use Rattle.std.specs.Prelude.{ℕ, ◌+◌, ◌*◌, List, [], ◌∷◌, map, Bool, true, false, not, ◌≡◌, ltb, length, Option, Some, Float}
use Rattle.std.specs.Prelude as Std
use Rattle.wire.specs.Refusal.{kind, buffer}
use Rattle.wire.specs.Result.{Result, accepted, answer, refuse, then, lent}
use Rattle.wire.specs.declared.error.Buffer.TheVariants as Buffer
use Rattle.wire.specs.declared.error.Level3DecodeError.{Level3DecodeError}
use Rattle.head.specs.Header.{token, message_header, scan_time}
use Rattle.head.specs.Pdb.{pdb_fields}
use Rattle.scale.specs.Physical.{scale_fields, declared_scale, physical_of}
use Rattle.scale.specs.declared.scaling.DeclaredLinearScale.{DeclaredLinearScale}
use Rattle.scale.specs.declared.physical.Scheme.{Scheme}
use Rattle.scale.specs.declared.physical.Scaling.{Scaling}
use Rattle.symbology.specs.Answers.{Picture, picture_of}
use Rattle.symbology.specs.declared.figures.Packet.{Packet}
use Rattle.symbology.specs.declared.figures.Packet.TheVariants.{Packet16, PacketAf1f, Packet28}
use Rattle.symbology.specs.declared.figures.Figures.{Figures}
use Rattle.symbology.specs.declared.figures.Terms.{Terms}
use Rattle.symbology.specs.declared.figures.Packets.{Packets}
use Rattle.sweep.specs.declared.plan.Head.{Head}
use Rattle.sweep.specs.declared.sweep.Sweep.{Sweep}

-- token, header, fields, scan time (4, then 6, then 5), scale fields; the block starts at message header + 18
unfoldable pub head_of : Scheme → List ℕ → ℕ → Result Head
head_of scheme file clock =
    then (token file) λ at.
    then (message_header file) λ header.
    then (pdb_fields file (header + 18)) λ fields.
    then (scan_time fields.scan_days fields.scan_seconds clock) λ time.
    then (scale_fields scheme file (header + 18)) λ scaling.
    accepted (record { token = at; block = header + 18; fields = fields; time = time; scaling = scaling })

-- legacy works on AF1F alone; halfword and float on 16 and AF1F; precipitation and class on all three
unfoldable pub allowed : Scheme → Packet → Bool
allowed Scheme.Halfword Packet16 = true
allowed Scheme.Halfword PacketAf1f = true
allowed Scheme.Halfword Packet28 = false
allowed Scheme.Float Packet16 = true
allowed Scheme.Float PacketAf1f = true
allowed Scheme.Float Packet28 = false
allowed (Scheme.Precipitation factor) packet = true
allowed (Scheme.Legacy post) Packet16 = false
allowed (Scheme.Legacy post) PacketAf1f = true
allowed (Scheme.Legacy post) Packet28 = false
allowed Scheme.Class packet = true

-- 36, of the first buffer that is too short: azimuths of `na` places, codes of `nc`, physical values of `np`
unfoldable pub room_for : ℕ → ℕ → ℕ → Figures → Result (Unit {0})
room_for na nc np f =
    refuse (ltb na f.n_radials) (kind 36 (buffer Buffer.Azimuths ∷ []))
    (refuse (ltb nc (f.n_radials * f.n_bins)) (kind 36 (buffer Buffer.Codes ∷ []))
    (refuse (ltb np (f.n_radials * f.n_bins)) (kind 36 (buffer Buffer.Physical ∷ []))
    (accepted tt)))

abbrev pub SweepAnswer : Type 0
SweepAnswer = Std.Result Sweep Level3DecodeError

-- What acceptance gives, and the picture: centres, codes by row, and their physical values.
pub record Accepted : Type 0 where
  pub sweep : Sweep
  pub azimuths : List Float
  pub codes : List ℕ
  pub physical : List Float

-- after the head and the body: 10, 9, 36
unfoldable pub finish : Scheme → List ℕ → ℕ → ℕ → ℕ → Head → Picture → Result Accepted
finish scheme file na nc np h p =
    refuse (not (allowed scheme p.figures.packet)) (kind 10 [])
    (then (declared_scale h.scaling) λ declared.
    then (room_for na nc np p.figures) λ _.
    accepted (record {
      sweep = record { token = h.token; fields = h.fields; time = h.time; declared = declared; figures = p.figures };
      azimuths = p.azimuths;
      codes = p.codes;
      physical = map (physical_of scheme file h.block) p.codes;
    }))

-- the sweep reading
unfoldable pub sweep_of : Scheme → List ℕ → ℕ → List ℕ → ℕ → ℕ → ℕ → Result Accepted
sweep_of scheme file clock body na nc np =
    then (head_of scheme file clock) λ h.
    then (picture_of body) λ p.
    finish scheme file na nc np h p

-- what an answer says, beside the picture
abbrev pub sweep_in : Result Accepted → Result Sweep
sweep_in r = then r λ p. accepted p.sweep

-- what acceptance gives of a head, its declared scale and a picture's figures
abbrev pub sweep_with : Head → Result (Option DeclaredLinearScale) → Figures → Result Sweep
sweep_with h d f = then d λ declared. accepted (record { token = h.token; fields = h.fields; time = h.time; declared = declared; figures = f })

-- ---- a run of the code

-- What three lent buffers hold: f64 azimuths, u16 codes by row, f32 physical values.
pub record Buffers : Type 0 where
  pub azimuths : List Float
  pub codes : List ℕ
  pub physical : List Float

abbrev pub buffers : List Float → List ℕ → List Float → Buffers
buffers az cs ph = record { azimuths = az; codes = cs; physical = ph }

-- the sweep reading with buffers of these lengths
abbrev pub read_into : Scheme → List ℕ → ℕ → List ℕ → Buffers → Result Accepted
read_into scheme file clock body old = sweep_of scheme file clock body (length old.azimuths) (length old.codes) (length old.physical)

-- One run: the answer of a reading, and what the buffers hold before and after.
pub record SweepRan (reading : Result Accepted) (old new : Buffers) (said : SweepAnswer) : Type 0 where
  pub answered : answer said ≡ sweep_in reading
  pub azimuths : new.azimuths ≡ lent reading (λ p. p.azimuths) old.azimuths
  pub codes : new.codes ≡ lent reading (λ p. p.codes) old.codes
  pub physical : new.physical ≡ lent reading (λ p. p.physical) old.physical

abbrev pub Ran : Scheme → List ℕ → ℕ → List ℕ → Buffers → Buffers → SweepAnswer → Type 0
Ran scheme file clock body old new said = SweepRan (read_into scheme file clock body old) old new said

-- ---- what the code asks of a body

-- the packets of the scheme that a scaling is of, and for halfword and float its step
abbrev pub packets_for : Scaling → Packets
packets_for (Scaling.Linear s) = Packets.Radial s.value_increment
packets_for (Scaling.Precip p) = Packets.Any
packets_for (Scaling.Legacy at post) = Packets.Af1fAlone
packets_for Scaling.Class = Packets.Any

unfoldable pub terms_for : Scaling → ℕ → Terms
terms_for scaling np = record { packets = packets_for scaling; physical = Some np }
