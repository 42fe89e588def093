-- A loop that writes f of each element of cs to the front of a list d. Assumes nothing.
use mathlib.Core.Path.{◌≡◌, refl, subst, ◌∙◌}
use mathlib.Core.List.{List, ◌∷◌, ◌++◌, map}
use Prim.Native.Nat.{ℕ, ◌+◌, ◌<◌, ◌≤◌}
use native.Mathlib.Numerals.{add-one}
use native.Mathlib.Omega.{arith}
use lib.ListN.{length, get_or, set, drop, length-set, length-map}
use lib.Seq.{drop-cons, drop-length}
use Rattle.wire.proofs.Parts.{Laid, laid_first, laid_set, laid_end}

-- i elements are written, and the others are still to be laid from place i on
pub record Mapped {A B : Type 0} (f : A → B) (cs : List A) (d xs : List B) (i : ℕ) : Type 0 where
  pub place : i ≤ length cs
  pub room : length cs ≤ length d
  pub long : length xs ≡ length d
  pub laid : Laid (map f cs ++ drop (length cs) d) (length d) xs (map f (drop i cs)) i

pub mapped_first : {A B : Type 0} (f : A → B) (cs : List A) (d : List B) → length cs ≤ length d → Mapped f cs d d 0
mapped_first f cs d h =
    record { place = omega arith; room = h; long = refl; laid = laid_first (map f cs) d (length cs) (length-map cs f) h }

module _ {A B : Type 0} {f : A → B} {cs : List A} {d xs : List B} {i : ℕ} (inv : Mapped f cs d xs i) where
  pub mapped_turn : (z : A) (v : B) → i < length cs → v ≡ f (get_or cs i z) → Mapped f cs d (set xs i v) (i + 1)
  mapped_turn z v h w =
      let e : drop i cs ≡ get_or cs i z ∷ drop (i + 1) cs = rw add-one (drop-cons cs i z h) in
      record {
        place = omega arith;
        room = inv.room;
        long = length-set xs i v ∙ inv.long;
        laid = laid_set (f (get_or cs i z)) (map f (drop (i + 1) cs)) v (rw e at inv.laid) w;
      }

  -- what a call may answer at an argument that is the element
  pub mapped_given : (z : A) (post : A → B → Type 0) → ((k : ℕ) (r : B) → k < length cs → post (get_or cs k z) r → r ≡ f (get_or cs k z)) → i < length cs
      → {a : A} {v : B} → post a v → a ≡ get_or cs i z → Mapped f cs d (set xs i v) (i + 1)
  mapped_given z post gives h {a} {v} p is = mapped_turn z v h (gives i v h (subst (λ x. post x v) is p))

  pub mapped_end : length cs ≤ i → xs ≡ map f cs ++ drop (length cs) d
  mapped_end h =
      let e : i ≡ length cs = omega (arith, inv.place) in
      laid_end (rw (e, drop-length cs) at inv.laid)
