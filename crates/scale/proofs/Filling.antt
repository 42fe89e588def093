-- What follows once the scale fields of a scheme are read. Assumes nothing.
use mathlib.Core.Path.{◌≡◌, subst}
use mathlib.Core.List.{List, [], ◌∷◌, map}
use Prim.Native.Nat.{ℕ, ◌<◌, ◌≤◌}
use lib.ListN.{length}
use borrow.Author.Tests.{lt-ltb, le-ltb}
use Rattle.wire.specs.Refusal.{Refusal, kind, buffer}
use Rattle.wire.specs.Result.{Result, accepted, refused, then}
use Rattle.wire.specs.declared.error.Buffer.TheVariants as Buffer
use Rattle.wire.proofs.Results.{through, one_value}
use Rattle.head.proofs.Fields.{field_inside}
use Rattle.scale.specs.declared.physical.Scheme.{Scheme}
use Rattle.scale.specs.declared.physical.Scaling.{Scaling}
use Rattle.scale.specs.Pdb.{value_scaling_linear_hw, value_scaling_float, precip_family_scale, threshold_place}
use Rattle.scale.specs.Physical.{scale_fields, value_of, physical_of, fill_of, Ready}

-- where a value that is made of an answer is accepted, the answer was
came : {A B : Type 0} (r : Result A) (f : A → B) {b : B} → then r (λ a. accepted (f a)) ≡ accepted b → (a : A) × (r ≡ accepted a) × (f a ≡ b)
came r f {b} e = through r (λ a. accepted (f a)) b e λ a p q. (a, p, one_value q)

-- the thresholds of a legacy scaling stand inside the file
pub ready : (scheme : Scheme) (file : List ℕ) (block : ℕ) {v : Scaling} → scale_fields scheme file block ≡ accepted v → Ready v file
unfolding scale_fields threshold_place
ready Scheme.Halfword file block e = subst (λ v. Ready v file) (came (value_scaling_linear_hw file block) Scaling.Linear e).2 tt
ready Scheme.Float file block e = subst (λ v. Ready v file) (came (value_scaling_float file block) Scaling.Linear e).2 tt
ready (Scheme.Precipitation factor) file block e = subst (λ v. Ready v file) (came (precip_family_scale file block factor) Scaling.Precip e).2 tt
ready (Scheme.Legacy post) file block e =
    let k = came (threshold_place file block) (λ k. Scaling.Legacy k post) e in
    subst (λ v. Ready v file) k.2 (field_inside (length file) block 22 32 k.1)
ready Scheme.Class file block {v} e = let h : Scaling.Class ≡ v = cc in subst (λ v. Ready v file) h tt

module _ (scheme : Scheme) (file : List ℕ) (block : ℕ) (codes : List ℕ) (room : ℕ) where
  pub fields_refused : {x : Refusal} → scale_fields scheme file block ≡ refused x → fill_of scheme file block codes room ≡ refused x
  unfolding fill_of
  fields_refused e = rw e

  module _ {v : Scaling} (e : scale_fields scheme file block ≡ accepted v) where
    pub no_room : room < length codes → fill_of scheme file block codes room ≡ refused (kind 36 (buffer Buffer.Physical ∷ []))
    unfolding fill_of
    no_room h = rw (e, lt-ltb room (length codes) h)

    pub fits_room : length codes ≤ room → fill_of scheme file block codes room ≡ accepted (map (value_of v file) codes)
    unfolding fill_of physical_of
    fits_room h = rw (e, le-ltb room (length codes) h)
