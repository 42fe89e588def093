-- The values of a legacy sweep are the levels of the 32 bytes that `threshold_data` copies, and it is refused with 3 and index 22 where that
-- is; over the sweep reading, and over any calls that the contracts allow (M-103). Assumes nothing.
use Prim.Native.Nat.{ℕ, ◌+◌, ◌*◌}
use Rattle.std.specs.Prelude as Std
use mathlib.Core.List.{List, [], ◌∷◌, map}
use mathlib.Core.Path.{◌≡◌, sym, ap, ap₂, subst, ◌∙◌}
use lib.Ieee.{Float}
use lib.ListN.{take}
use Rattle.wire.specs.Refusal.{Refusal, kind, nat}
use Rattle.wire.specs.Result.{accepted, refused, lent}
use Rattle.wire.proofs.Results.{one_value, through}
use Rattle.head.specs.Header.{token, message_header, scan_time}
use Rattle.head.specs.Pdb.{pdb_fields}
use Rattle.scale.specs.Legacy.{levels_of}
use Rattle.scale.specs.Pdb.{threshold_place, threshold_bytes}
use Rattle.scale.specs.Physical.{level_of, scale_fields}
use Rattle.scale.specs.declared.physical.Scheme.{Scheme}
use Rattle.scale.specs.declared.pdb.Thresholds.{Thresholds}
use Rattle.scale.proofs.Thresholds.{only_3, same_values, place_of, refused_too, Copying, Decoding, decoded}
use Rattle.sweep.specs.declared.plan.Head.{Head}
use Rattle.sweep.specs.declared.sweep.Sweep.{Sweep}
use Rattle.sweep.specs.Sweep.{head_of, Accepted, sweep_of, Buffers, read_into, Ran}
use Rattle.sweep.proofs.Parts.{block_start, parts, sizes}
use Rattle.sweep.proofs.Reading.{front_is}
use Rattle.sweep.proofs.CodeRuns.{Call, Allowed, scheme, file, clock, body, old, new, call_runs}

-- by the levels of a copy
abbrev valued_by : List ℕ → ℕ → Float → ℕ → Float
valued_by file block post = level_of (levels_of (threshold_bytes file (threshold_place file block)) 0 post)

-- an accepted one: the thresholds are there, and each value is the level of the copy that the code names
pub record ByThresholds (file : List ℕ) (post : Float) (p : Accepted) : Type 0 where
  pub header : ℕ
  pub header_is : message_header file ≡ accepted header
  pub at : ℕ
  pub there : threshold_place file (header + 18) ≡ accepted at
  pub values : p.physical ≡ map (valued_by file (header + 18) post) p.codes

pub legacy_values : (post : Float) (file : List ℕ) (clock : ℕ) (b : List ℕ) (na nc np : ℕ) (p : Accepted)
    → sweep_of (Scheme.Legacy post) file clock b na nc np ≡ accepted p → ByThresholds file post p
legacy_values post file clock b na nc np p acc =
    let q = parts (Scheme.Legacy post) file clock na nc np b p acc in
    let w = block_start (Scheme.Legacy post) file clock q.head q.head_is in
    let k = place_of file q.head.block post q.head.scaling w.3 in
    let e : q.head.block ≡ w.0 + 18 = w.2 in
    record {
      header = w.0;
      header_is = w.1;
      at = k.0;
      there = subst (λ (n : ℕ). threshold_place file n ≡ accepted k.0) e k.1;
      values =
          q.physical
          ∙ ap (λ (f : ℕ → Float). map f p.codes) (same_values file q.head.block post k.0 k.1)
          ∙ ap (λ (n : ℕ). map (valued_by file n post) p.codes) e;
    }

-- Where all before the scale fields is read (class has none) and `threshold_data` refuses, so does the legacy reading, with 3 and index 22.
pub legacy_refused : (post : Float) (file : List ℕ) (clock : ℕ) (b : List ℕ) (na nc np : ℕ) (h : Head) → head_of Scheme.Class file clock ≡ accepted h
    → (x : Refusal) → threshold_place file h.block ≡ refused x
    → (x ≡ kind 3 (nat 22 ∷ [])) × (sweep_of (Scheme.Legacy post) file clock b na nc np ≡ refused x)
unfolding head_of sweep_of
legacy_refused post file clock b na nc np h e x none = (
  only_3 file h.block x none,
  through (token file) _ h e λ at et e₁.
      through (message_header file) _ h e₁ λ header em e₂.
      through (pdb_fields file (header + 18)) _ h e₂ λ fields ef e₃.
      through (scan_time fields.scan_days fields.scan_seconds clock) _ h e₃ λ time es e₄.
      through (scale_fields Scheme.Class file (header + 18)) _ h e₄ λ scaling _ e₅.
      let z : threshold_place file (header + 18) ≡ refused x = subst (λ (k : Head). threshold_place file k.block ≡ refused x) (sym (one_value e₅)) none in
      rw (et, em, ef, es, refused_too file (header + 18) post x z),
)

-- ---- any calls

-- how many cells a sweep has
abbrev pub cells : Sweep → ℕ
cells s = s.figures.n_radials * s.figures.n_bins

-- what an accepted run leaves, by the levels of a copy, whose place is there
run_values : (post : Float) (file : List ℕ) (clock : ℕ) (b : List ℕ) (old new : Buffers) (s : Sweep) → Ran (Scheme.Legacy post) file clock b old new (Std.Ok s)
    → (header : ℕ) → message_header file ≡ accepted header
    → (at : ℕ) × (threshold_place file (header + 18) ≡ accepted at) × (take (cells s) new.physical ≡ map (valued_by file (header + 18) post) (take (cells s) new.codes))
run_values post file clock b old new s ran header is =
    through (read_into (Scheme.Legacy post) file clock b old) _ s (sym ran.answered) λ p acc e.
    let same : p.sweep ≡ s = cc in
    let long = sizes (Scheme.Legacy post) file clock b _ _ _ p acc in
    let t = legacy_values post file clock b _ _ _ p acc in
    let n : t.header ≡ header = one_value (sym t.header_is ∙ is) in
    let cs : take (cells s) new.codes ≡ p.codes =
    front_is (cells s) p.codes old.codes (ran.codes ∙ ap (λ r. lent r (λ q. q.codes) old.codes) acc) (long.codes ∙ ap cells same) in
    let ph : take (cells s) new.physical ≡ p.physical =
    front_is (cells s) p.physical old.physical (ran.physical ∙ ap (λ r. lent r (λ q. q.physical) old.physical) acc) (long.physical ∙ ap cells same) in (
      t.at,
      subst (λ (k : ℕ). threshold_place file (k + 18) ≡ accepted t.at) n t.there,
      ph ∙ t.values ∙ ap (λ (k : ℕ). map (valued_by file (k + 18) post) p.codes) n ∙ ap (map (valued_by file (header + 18) post)) (sym cs),
    )

-- A legacy call of `read_sweep` that is accepted; one of `threshold_data` on the same file and its block; one of `decode_legacy16` on the 32
-- bytes that it gives, with the same post-scale: each value is the level that the code names.
pub legacy_calls : (c : Call) → Allowed c → (s : Sweep) → c.answer ≡ Std.Ok s → (t : Copying) (d : Decoding)
    → ((copy : Thresholds) → t.answer ≡ Std.Ok copy → d.given.0.now ≡ copy.bytes) → scheme c ≡ Scheme.Legacy d.given.1.0 → t.given.0.now ≡ file c
    → (header : ℕ) → message_header (file c) ≡ accepted header → t.given.1.0 ≡ header + 18
    → take (cells s) (new c).physical ≡ map (level_of d.answer) (take (cells s) (new c).codes)
legacy_calls c allowed s is t d handed schemes files header there block =
    let ran =
    run_values d.given.1.0 (file c) (clock c) (body c) (old c) (new c) s
    (subst (λ (h : Scheme). Ran h (file c) (clock c) (body c) (old c) (new c) (Std.Ok s)) schemes
    (subst (Ran (scheme c) (file c) (clock c) (body c) (old c) (new c)) is (call_runs c allowed))) header there in
    let placed : threshold_place t.given.0.now t.given.1.0 ≡ accepted ran.0 = ap₂ threshold_place files block ∙ ran.1 in
    ran.2
    ∙ ap (λ (l : List Float). map (level_of l) (take (cells s) (new c).codes))
    (ap₂ (λ (f : List ℕ) (n : ℕ). levels_of (threshold_bytes f (threshold_place f n)) 0 d.given.1.0) (sym files) (sym block) ∙ decoded t d handed placed)
