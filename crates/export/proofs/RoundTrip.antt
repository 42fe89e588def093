-- The written body is read as the original is, by symbology and by the sweep reading. Assumes nothing.
use Prim.Native.Nat.{ℕ, ◌+◌, ◌*◌}
use native.Mathlib.Omega.{arith}
use mathlib.Core.List.{List, [], map}
use mathlib.Core.Bool.{Bool, true, false, not}
use mathlib.Core.Path.{◌≡◌, refl, sym, ap, ◌∙◌}
use lib.ListN.{length}
use lib.Dec.{ltb}
use Rattle.std.specs.Prelude.{Option}
use Rattle.wire.specs.Bytes.{u32_at}
use Rattle.wire.specs.Refusal.{kind}
use Rattle.wire.specs.Result.{Result, accepted, refused, refuse, then}
use Rattle.wire.specs.Reading.{run, Given}
use Rattle.wire.proofs.Results.{one_value, through, passed}
use Rattle.wire.proofs.Runs.{run_parts, plain_passed}
use Rattle.scale.specs.Physical.{declared_scale, physical_of}
use Rattle.scale.specs.declared.scaling.DeclaredLinearScale.{DeclaredLinearScale}
use Rattle.scale.specs.declared.physical.Scheme.{Scheme}
use Rattle.symbology.specs.Answers.{Picture, picture_of, joined}
use Rattle.symbology.specs.Symbology.{Beam, Header, Sweep, symbology}
use Rattle.symbology.specs.Walk.{sweep_from}
use Rattle.symbology.specs.declared.figures.Packet.TheVariants.{Packet16, PacketAf1f}
use Rattle.sweep.specs.declared.plan.Head.{Head}
use Rattle.sweep.specs.Sweep.{Accepted, head_of, allowed, room_for, finish, sweep_of}
use Rattle.export.specs.Export.{Taken, count_for, export_head, exportable, body_of, export_of}
use Rattle.export.specs.RoundTrip.{picture16, accepted16, IsLegacy, RoundTrip}
use Rattle.export.proofs.Turns.{centre_of, mapped, fine}
use Rattle.export.proofs.Written.{figures_of, read_again, body_long, beams_long}
use Rattle.export.proofs.Original.{Headed, headed, plain_head, radials_of, export_run, symbology_run}

-- ---- what an accepted original shows

pub record Shown (b : List ℕ) (g : Given Taken) : Type 0 where
  pub heading : Headed b g.value.head
  pub radials : Given (List Beam)
  pub radials_are : radials_of b heading ≡ accepted radials
  pub beams_are : radials.value ≡ g.value.beams
  pub rows_are : radials.rows ≡ g.rows

pub shown : (b : List ℕ) (g : Given Taken) → run exportable b 0 ≡ accepted g → Shown b g
unfolding exportable mapped
shown b g e =
    let a = run_parts _ export_head b 0 e in
    let k = headed b (plain_passed export_head plain_head b 0 a.first_is).0 in
    by a.first.value k (sym (export_run b k) ∙ e)
  where
    go : (h : Header) (k : Headed b h) (r : Result (Given (List Beam))) → radials_of b k ≡ r → mapped (λ beams. record { head = h; beams = beams }) r ≡ accepted g → Shown b g
    go h k (accepted l) i j =
        let x : ◌≡◌ {A = Given Taken} (record { value = record { head = h; beams = l.value }; next = l.next; rows = l.rows }) g = cc in
        rw (← x) (record { heading = k; radials = l; radials_are = i; beams_are = refl; rows_are = refl })
    go h k (refused x) i j = let z : ◌≡◌ {A = ℕ} 0 1 = cc in absurd (omega arith)

    by : (h : Header) (k : Headed b h) → mapped (λ beams. record { head = h; beams = beams }) (radials_of b k) ≡ accepted g → Shown b g
    by h k j = go h k (radials_of b k) refl j

-- ---- symbology

abbrev picture_in : Given Taken → Picture
picture_in g = record { figures = figures_of PacketAf1f g.value.head; azimuths = map centre_of g.value.beams; codes = joined g.rows }

-- what the reading of the written body gives; it ends where the body does
abbrev read_in : List ℕ → Given Taken → Given Sweep
read_in b g = record { value = record { figures = figures_of Packet16 g.value.head; azimuths = map centre_of g.value.beams }; next = length (body_of b g); rows = g.rows }

module _ (b : List ℕ) (g : Given Taken) (acc : run exportable b 0 ≡ accepted g) where
  pub original_picture : picture_of b ≡ accepted (picture_in g)
  unfolding picture_of mapped
  original_picture =
      let s = shown b g acc in
      ap (λ r. then r (λ (x : Given Sweep). accepted (record { figures = x.value.figures; azimuths = x.value.azimuths; codes = joined x.rows })))
      (symbology_run b s.heading ∙ ap (λ r. sweep_from (figures_of PacketAf1f g.value.head) (mapped (map centre_of) r)) s.radials_are)
      ∙ rw (s.beams_are, s.rows_are) refl

  pub written_read : run symbology (body_of b g) 0 ≡ accepted (read_in b g)
  unfolding body_of
  written_read =
      let s = shown b g acc in
      let h = s.heading in
      let f = fine g.value.head.radials g.value.head.bins b g.value.head.radials 0 30 s.radials s.radials_are in
      read_again (u32_at b 22) g.value.head (rw (s.beams_are, s.rows_are) at f.0) (rw s.beams_are at f.1) h.some h.small

  pub written_picture : picture_of (body_of b g) ≡ accepted (picture16 (picture_in g))
  unfolding picture_of
  written_picture = ap (λ r. then r (λ (x : Given Sweep). accepted (record { figures = x.value.figures; azimuths = x.value.azimuths; codes = joined x.rows }))) written_read

  pub body_size : length (body_of b g) ≡ 30 + g.value.head.radials * (6 + count_for g.value.head.bins)
  unfolding body_of
  body_size =
      let s = shown b g acc in
      let h = s.heading in
      let f = fine g.value.head.radials g.value.head.bins b g.value.head.radials 0 30 s.radials s.radials_are in
      body_long (u32_at b 22) g.value.head (rw (s.beams_are, s.rows_are) at f.0) (rw s.beams_are at f.1) h.some h.small
      ∙ ap (λ n. 30 + n) (beams_long (rw (s.beams_are, s.rows_are) at f.0) ∙ ap (λ n. n * (6 + count_for g.value.head.bins)) (rw s.beams_are at f.1))

-- ---- the sweep reading

allowed_16 : (scheme : Scheme) → ¬ (IsLegacy scheme) → allowed scheme Packet16 ≡ allowed scheme PacketAf1f
unfolding allowed
allowed_16 Scheme.Halfword n = refl
allowed_16 Scheme.Float n = refl
allowed_16 (Scheme.Precipitation factor) n = refl
allowed_16 (Scheme.Legacy post) n = absurd (n tt)
allowed_16 Scheme.Class n = refl

-- what acceptance gives
abbrev swept : Scheme → List ℕ → Head → Picture → Option DeclaredLinearScale → Accepted
swept scheme file h p declared =
    record {
      sweep = record { token = h.token; fields = h.fields; time = h.time; declared = declared; figures = p.figures };
      azimuths = p.azimuths;
      codes = p.codes;
      physical = map (physical_of scheme file h.block) p.codes;
    }

-- what follows the body is the same for both, refusals too
module _ (scheme : Scheme) (file : List ℕ) (na nc np : ℕ) (h : Head) (p : Picture) (other : ¬ (IsLegacy scheme)) (is : p.figures.packet ≡ PacketAf1f) where
  finish_16 : finish scheme file na nc np h (picture16 p) ≡ then (finish scheme file na nc np h p) (λ a. accepted (accepted16 a))
  unfolding finish room_for
  finish_16 = rw (allowed_16 scheme other ∙ ap (allowed scheme) (sym is)) (by (not (allowed scheme p.figures.packet)) (declared_scale h.scaling) (room_for na nc np p.figures))
    where
      by : (t : Bool) (d : Result (Option DeclaredLinearScale)) (room : Result (Unit {0}))
          → refuse t (kind 10 []) (then d λ declared. then room λ _. accepted (accepted16 (swept scheme file h p declared)))
          ≡ then (refuse t (kind 10 []) (then d λ declared. then room λ _. accepted (swept scheme file h p declared))) (λ a. accepted (accepted16 a))
      by true d room = refl
      by false (refused x) room = refl
      by false (accepted d) (refused x) = refl
      by false (accepted d) (accepted u) = refl

pub sweep_16 : (scheme : Scheme) (file : List ℕ) (clock na nc np : ℕ) (b o : List ℕ) (p : Picture) → ¬ (IsLegacy scheme) → p.figures.packet ≡ PacketAf1f
    → picture_of b ≡ accepted p → picture_of o ≡ accepted (picture16 p)
    → sweep_of scheme file clock o na nc np ≡ then (sweep_of scheme file clock b na nc np) (λ a. accepted (accepted16 a))
unfolding sweep_of
sweep_16 scheme file clock na nc np b o p other is eb eo = rw (eb, eo) (by (head_of scheme file clock))
  where
    by : (r : Result Head) → then r (λ h. finish scheme file na nc np h (picture16 p)) ≡ then (then r (λ h. finish scheme file na nc np h p)) (λ a. accepted (accepted16 a))
    by (accepted h) = finish_16 scheme file na nc np h p other is
    by (refused x) = refl

-- ---- the round trip

pub round_trip : (b : List ℕ) (room : ℕ) (o : List ℕ) → export_of b room ≡ accepted o → RoundTrip b o
unfolding export_of
round_trip b room o e =
    through (run exportable b 0) _ o e λ g eg e₁.
    passed (ltb room (length (body_of b g))) _ _ o e₁ λ fits e₂.
    let same : body_of b g ≡ o = one_value e₂ in
    let eo : picture_of o ≡ accepted (picture16 (picture_in g)) = ap picture_of (sym same) ∙ written_picture b g eg in
    record {
      picture = picture_in g;
      original = original_picture b g eg;
      was_af1f = refl;
      written = eo;
      read = read_in b g;
      read_is = ap (λ (l : List ℕ). run symbology l 0) (sym same) ∙ written_read b g eg;
      to_the_end = ap length same;
      swept = λ scheme file clock na nc np other. sweep_16 scheme file clock na nc np b o (picture_in g) other refl (original_picture b g eg) eo;
    }
