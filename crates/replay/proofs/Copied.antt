-- A loop that copies a list to the front of a list d, for elements of any type. Assumes nothing.
use Rattle.std.proofs.Common.{◌≡◌, ℕ, ◌+◌, ◌<◌, ◌≤◌, List, ◌∷◌, ◌++◌, length, get_or, drop, set, sym, refl, add-one, arith, length-set, length-take-le, drop-cons}
use lib.Seq.{drop-length}
use Rattle.wire.proofs.Parts.{Laid, laid_first, laid_set, laid_end}
use Rattle.replay.specs.Counts.{IsPrefixLen}

-- a count at the start of a list, from its bound
pub counts : (n : ℕ) (xs : List ℕ) → n ≤ length xs → IsPrefixLen n xs
counts n xs h = (h, sym (length-take-le n xs h))

-- i elements are there, and the others are still to be laid from place i on
pub record Copied {A : Type 0} (from d xs : List A) (i : ℕ) : Type 0 where
  pub place : i ≤ length from
  pub room : length from ≤ length xs
  pub laid : Laid (from ++ drop (length from) d) (length d) xs (drop i from) i

pub copied_first : {A : Type 0} (from d : List A) → length from ≤ length d → Copied from d d 0
copied_first from d h = record { place = omega arith; room = h; laid = laid_first from d (length from) refl h }

module _ {A : Type 0} {from d xs : List A} {i : ℕ} (inv : Copied from d xs i) where
  pub copied_turn : (z : A) → i < length from → Copied from d (set xs i (get_or from i z)) (i + 1)
  copied_turn z h =
      let e : drop i from ≡ get_or from i z ∷ drop (i + 1) from = rw add-one (drop-cons from i z h) in
      record {
        place = omega arith;
        room = rw length-set inv.room;
        laid = laid_set (get_or from i z) (drop (i + 1) from) (get_or from i z) (rw e at inv.laid) refl;
      }

  pub copied_end : length from ≤ i → xs ≡ from ++ drop (length from) d
  copied_end h =
      let e : i ≡ length from = omega (arith, inv.place) in
      laid_end (rw (e, drop-length from) at inv.laid)
