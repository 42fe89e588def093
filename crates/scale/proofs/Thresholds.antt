-- Legacy levels in the file's own bytes are those of the 32 bytes that `threshold_data` copies, for every file, block start and post-scale, and
-- both are refused together. Assumes nothing.
use Prim.Native.Nat.{ℕ, ◌+◌, ◌*◌, ◌-◌, ◌<◌}
use native.Mathlib.Omega.{arith}
use mathlib.Core.Bool.{Bool, true, false, cond}
use mathlib.Core.List.{List, [], ◌∷◌, map}
use mathlib.Core.Path.{◌≡◌, refl, sym, ap, ap₂, ◌∙◌}
use contract.Lifetimes.{Lfts}
use borrow.Fn.World.{ArgsD, ResD}
use borrow.Fn.Kinds.{ended_of}
use denote.Triple.Clauses.{AtExit}
use lib.Dec.{ltb}
use lib.Ieee.{Float, nan}
use lib.ListN.{length, get_or, take, drop, replicate}
use lib.Seq.{get_or-take, get_or-drop}
use borrow.Author.Tests.{ltb-true, lt-ltb}
use Rattle.wire.specs.Float.{f32}
use Rattle.wire.specs.Refusal.{Refusal, kind, nat}
use Rattle.wire.specs.Result.{Result, accepted, refused, refuse, then, answer as answer_of}
use Rattle.wire.specs.Text.{all}
use Rattle.wire.proofs.Codes.{both}
use Rattle.wire.proofs.Results.{clash, one_value, one_refusal, through}
use Rattle.head.specs.Pdb.{field_at}
use Rattle.scale.specs.Legacy.{legacy_level, level_at, levels_of, sixteen}
use Rattle.std.specs.Prelude as Std
use Rattle.std.specs.Prelude.{Ok, Err}
use Rattle.wire.specs.declared.error.Level3DecodeError.{Level3DecodeError}
use Rattle.scale.specs.Pdb.{threshold_place, thirty_two, threshold_bytes, thresholds}
use Rattle.scale.specs.Physical.{has_level, level_of, scale_fields, value_of, physical_of}
use Rattle.scale.specs.Thresholds.{levels_in_file, levels_of_copy}
use Rattle.scale.specs.declared.physical.Scheme.TheVariants as Scheme
use Rattle.scale.specs.declared.physical.Scaling.{Scaling}
use Rattle.scale.specs.declared.pdb.Thresholds.{Thresholds}
use Rattle.scale.proofs.Levels.{sixteen_at}
use Rattle.scale.specs.contracts.pdb.threshold_data as copying
use Rattle.scale.proofs.pdb.threshold_data.Kinds as copying-kinds
use Rattle.scale.proofs.pdb.threshold_data.Reads as copying-reads
use Rattle.scale.specs.contracts.legacy16.decode_legacy16 as decoding
use Rattle.scale.proofs.legacy16.decode_legacy16.Kinds as decoding-kinds
use Rattle.scale.proofs.legacy16.decode_legacy16.Reads as decoding-reads

-- one level of the copy
copied : (file : List ℕ) (k : ℕ) (post : Float) (j : ℕ) → j < 16 → level_at (take 32 (drop k file)) 0 post j ≡ level_at file k post j
unfolding level_at
copied file k post j h = ap₂ (λ flag value. legacy_level flag value post) (byte (0 + 2 * j) (k + 2 * j) (omega arith) (omega arith)) (byte (0 + 2 * j + 1) (k + 2 * j + 1) (omega arith) (omega arith))
  where
    byte : (i at : ℕ) → i < 32 → k + i ≡ at → get_or (take 32 (drop k file)) i 0 ≡ get_or file at 0
    byte i at small e = get_or-take 32 (drop k file) i 0 small ∙ get_or-drop k file i 0 ∙ ap (λ (n : ℕ). get_or file n 0) e

-- functions that agree below 16 agree on codes that have levels
map_same : {A : Type 0} {f g : ℕ → A} (l : List ℕ) → all has_level l ≡ true → ((j : ℕ) → j < 16 → f j ≡ g j) → map f l ≡ map g l
map_same [] e h = refl
map_same (x ∷ l) e h = let w = both (has_level x) (all has_level l) e in ap₂ ◌∷◌ (h x (ltb-true x 16 w.0)) (map_same l w.1 h)

-- the value of a code below 16 is its level
value_is : (file : List ℕ) (k : ℕ) (post : Float) (j : ℕ) → j < 16 → value_of (Scaling.Legacy k post) file j ≡ level_at (take 32 (drop k file)) 0 post j
unfolding value_of
value_is file k post j h = rw (lt_true j h) (sym (copied file k post j h))
  where
    lt_true : (j : ℕ) → j < 16 → ltb j 16 ≡ true
    lt_true j h = lt-ltb j 16 h

-- all levels, and the refusals
pub same_levels : (file : List ℕ) (block : ℕ) (post : Float) → levels_in_file file block post ≡ levels_of_copy file block post
unfolding levels_in_file levels_of_copy scale_fields levels_of
same_levels file block post = by (threshold_place file block)
  where
    by : (r : Result ℕ)
        → then (then r λ k. accepted (Scaling.Legacy k post)) (λ v. accepted (map (value_of v file) sixteen))
        ≡ then r λ _. accepted (map (level_at (threshold_bytes file r) 0 post) sixteen)
    by (accepted k) = ap accepted (map_same sixteen refl (value_is file k post))
    by (refused x) = refl

-- the only refusal is 3 with index 22
pub only_3 : (file : List ℕ) (block : ℕ) (x : Refusal) → threshold_place file block ≡ refused x → x ≡ kind 3 (nat 22 ∷ [])
unfolding threshold_place field_at
only_3 file block x e = by (ltb (length file) (block + 2 * (22 - 1) + 32)) e
  where
    by : (b : Bool) → refuse b (kind 3 (nat 22 ∷ [])) (accepted (block + 2 * (22 - 1))) ≡ refused x → x ≡ kind 3 (nat 22 ∷ [])
    by true h = one_refusal (sym h)
    by false h = clash _ x (sym h)

-- every code's value, where the thresholds are there
pub same_values : (file : List ℕ) (block : ℕ) (post : Float) (k : ℕ) → threshold_place file block ≡ accepted k
    → physical_of (Scheme.Legacy post) file block ≡ level_of (levels_of (threshold_bytes file (threshold_place file block)) 0 post)
unfolding physical_of scale_fields value_of levels_of
same_values file block post k e = rw e λ i code. by code (ltb code 16) refl i
  where
    by : (code : ℕ) (b : Bool) → ltb code 16 ≡ b
        → cond b (level_at file k post code) nan ≡ cond b (get_or (map (level_at (take 32 (drop k file)) 0 post) sixteen) code nan) nan
    by code true h = sym (sixteen_at (level_at (take 32 (drop k file)) 0 post) nan code (ltb-true code 16 h) ∙ copied file k post code (ltb-true code 16 h))
    by code false h = refl

-- they are there where the scale fields are read
pub place_of : (file : List ℕ) (block : ℕ) (post : Float) (v : Scaling) → scale_fields (Scheme.Legacy post) file block ≡ accepted v
    → (k : ℕ) × (threshold_place file block ≡ accepted k)
unfolding scale_fields
place_of file block post v e = through (threshold_place file block) _ v e λ k is _. (k, is)

-- and refused where they are not
pub refused_too : (file : List ℕ) (block : ℕ) (post : Float) (x : Refusal) → threshold_place file block ≡ refused x
    → scale_fields (Scheme.Legacy post) file block ≡ refused x
unfolding scale_fields
refused_too file block post x e = rw e

-- a block start at the end of 64 bits is not taken round
pub far : levels_in_file (replicate 64 0) 18446744073709551615 (f32 1 1) ≡ refused (kind 3 (nat 22 ∷ []))
unfolding levels_in_file scale_fields threshold_place field_at
far = refl

-- ---- any calls

-- A call of `threshold_data` (file, block) that its contract allows.
pub record Copying : Type 0 where
  pub lifetimes : Lfts 1
  pub given : ArgsD copying.signature lifetimes
  pub answer : ResD copying.signature lifetimes
  pub last : AtExit (ended_of 1 copying-kinds.ps copying-kinds.r) lifetimes
  pub allowed : copying-reads.Post lifetimes given answer last

-- A call of `decode_legacy16` (32 bytes, post-scale) that its contract allows.
pub record Decoding : Type 0 where
  pub lifetimes : Lfts 1
  pub given : ArgsD decoding.signature lifetimes
  pub answer : ResD decoding.signature lifetimes
  pub last : AtExit (ended_of 1 decoding-kinds.ps decoding-kinds.r) lifetimes
  pub allowed : decoding-reads.Post lifetimes given answer last

-- Levels by a copy's bytes are those by the place that it was made from, or both are refused.
agreed : (r : Result ℕ) (file : List ℕ) (post : Float) (a : Std.Result Thresholds Level3DecodeError) (l : List Float)
    → answer_of a ≡ then r (λ k. accepted (record { at = k; bytes = thirty_two file k })) → ((t : Thresholds) → a ≡ Ok t → levels_of t.bytes 0 post ≡ l)
    → then r (λ _. accepted (levels_of (threshold_bytes file r) 0 post)) ≡ then (answer_of a) (λ _. accepted l)
agreed (accepted k) file post (Ok t) l e h = ap accepted (ap (λ (c : Thresholds). levels_of c.bytes 0 post) (sym (one_value e)) ∙ h t refl)
agreed (accepted k) file post (Err x) l e h = clash _ _ e
agreed (refused y) file post (Ok t) l e h = clash _ _ (sym e)
agreed (refused y) file post (Err x) l e h = ap refused (one_refusal (sym e))

-- where the place is there, the copy is
given : {C : Type 0} (file : List ℕ) (k : ℕ) (a : Std.Result Thresholds Level3DecodeError) → answer_of a ≡ accepted (record { at = k; bytes = thirty_two file k })
    → ((t : Thresholds) → a ≡ Ok t → C) → C
given file k (Ok t) e h = h t refl
given file k (Err x) e h = clash _ _ e

-- One copies the thresholds, the other decodes the copy.
module _ (c : Copying) (d : Decoding) (handed : (t : Thresholds) → c.answer ≡ Ok t → d.given.0.now ≡ t.bytes) where
  decoded_by : (t : Thresholds) → c.answer ≡ Ok t
      → levels_of (threshold_bytes c.given.0.now (threshold_place c.given.0.now c.given.1.0)) 0 d.given.1.0 ≡ d.answer
  unfolding thresholds
  decoded_by t is =
      through (threshold_place c.given.0.now c.given.1.0) _ t (sym c.allowed ∙ ap answer_of is) λ k p e.
      ap (λ (b : List ℕ). levels_of b 0 d.given.1.0)
      (ap (threshold_bytes c.given.0.now) p ∙ ap (λ (x : Thresholds). x.bytes) (one_value e) ∙ sym (handed t is)) ∙ sym d.allowed

  -- the levels of the copy, where the thresholds are there
  pub decoded : {k : ℕ} → threshold_place c.given.0.now c.given.1.0 ≡ accepted k
      → levels_of (threshold_bytes c.given.0.now (threshold_place c.given.0.now c.given.1.0)) 0 d.given.1.0 ≡ d.answer
  unfolding thresholds
  decoded {k} there = given c.given.0.now k c.answer (c.allowed ∙ ap (λ r. then r λ k. accepted (record { at = k; bytes = thirty_two c.given.0.now k })) there) decoded_by

  -- the levels in the file are those, or both are refused
  pub calls_agree : levels_in_file c.given.0.now c.given.1.0 d.given.1.0 ≡ then (answer_of c.answer) λ _. accepted d.answer
  unfolding levels_of_copy thresholds
  calls_agree =
      same_levels c.given.0.now c.given.1.0 d.given.1.0
      ∙ agreed (threshold_place c.given.0.now c.given.1.0) c.given.0.now d.given.1.0 c.answer d.answer c.allowed
      (λ t is. ap (λ (b : List ℕ). levels_of b 0 d.given.1.0) (sym (handed t is)) ∙ sym d.allowed)
