-- Values by row with NaN laid over the marked rows. Assumes nothing.
use Prim.Native.Nat.{ℕ, zero, suc, ◌+◌, ◌*◌, ◌<◌, ◌≤◌}
use native.Mathlib.Omega.{arith}
use native.Mathlib.Nat.{not-suc-le-zero, le_of_suc-le-suc, zero-mul, suc-mul, add_comm}
use mathlib.Core.List.{List, [], ◌∷◌, ◌++◌}
use mathlib.Core.Path.{◌≡◌, refl, sym, ap, ◌∙◌}
use lib.ListN.{length, get_or, take, drop, replicate, length-drop, length-replicate, take-append-drop}
use lib.Seq.{take_at, drop_at, drop-drop, length-take-le}
use lib.Ieee.{Float, nan}
use Rattle.sweep.specs.GapSweep.{blanked}
use Rattle.sweep.specs.Demand3.{row_at}

module _ {A : Type 0} (bins : ℕ) where
  -- the first part of a list by rows, and the rows after it
  first_part : (part rest : List A) → length part ≡ bins → row_at bins 0 (part ++ rest) ≡ part
  first_part part rest e = rw (zero-mul bins) (take_at part rest bins e)

  next_place : (r : ℕ) (xs : List A) → row_at bins (suc r) xs ≡ row_at bins r (drop bins xs)
  next_place r xs =
      let m : suc r * bins ≡ bins + r * bins = suc-mul r bins ∙ add_comm (r * bins) bins in
      rw (m, ← drop-drop (r * bins) bins xs)

  next_part : (r : ℕ) (part rest : List A) → length part ≡ bins → row_at bins (suc r) (part ++ rest) ≡ row_at bins r rest
  next_part r part rest e = next_place r (part ++ rest) ∙ ap (row_at bins r) (drop_at part rest bins e)

module _ (bins : ℕ) where
  fewer : (n : ℕ) (values : List Float) → length values ≡ suc n * bins → (bins ≤ length values) × (length (drop bins values) ≡ n * bins)
  fewer n values e = let s : length values ≡ n * bins + bins = e ∙ suc-mul n bins in (omega (arith, s), omega (arith, s, length-drop bins values))

  -- a row that is not marked is kept
  pub blank_kept : (marks : List ℕ) (values : List Float) (r : ℕ) → length values ≡ length marks * bins → r < length marks → get_or marks r 0 ≡ 0
      → row_at bins r (blanked bins marks values) ≡ row_at bins r values
  unfolding blanked
  blank_kept [] values r long lt m = absurd (not-suc-le-zero lt)
  blank_kept (zero ∷ marks) values zero long lt m =
      first_part bins (take bins values) _ (length-take-le bins values (fewer (length marks) values long).0) ∙ rw (zero-mul bins)
  blank_kept (zero ∷ marks) values (suc r) long lt m =
      let f = fewer (length marks) values long in
      next_part bins r (take bins values) _ (length-take-le bins values f.0) ∙ blank_kept marks (drop bins values) r f.1 (le_of_suc-le-suc lt) m
      ∙ sym (next_place bins r values)
  blank_kept (suc mark ∷ marks) values zero long lt m = absurd (omega (arith, m))
  blank_kept (suc mark ∷ marks) values (suc r) long lt m =
      let f = fewer (length marks) values long in
      next_part bins r (replicate bins nan) _ (length-replicate bins nan) ∙ blank_kept marks (drop bins values) r f.1 (le_of_suc-le-suc lt) m
      ∙ sym (next_place bins r values)

  -- a marked row is NaN
  pub blank_gap : (marks : List ℕ) (values : List Float) (r : ℕ) → length values ≡ length marks * bins → r < length marks → get_or marks r 0 ≡ 1
      → row_at bins r (blanked bins marks values) ≡ replicate bins nan
  unfolding blanked
  blank_gap [] values r long lt m = absurd (not-suc-le-zero lt)
  blank_gap (zero ∷ marks) values zero long lt m = absurd (omega (arith, m))
  blank_gap (zero ∷ marks) values (suc r) long lt m =
      let f = fewer (length marks) values long in
      next_part bins r (take bins values) _ (length-take-le bins values f.0) ∙ blank_gap marks (drop bins values) r f.1 (le_of_suc-le-suc lt) m
  blank_gap (suc mark ∷ marks) values zero long lt m = first_part bins (replicate bins nan) _ (length-replicate bins nan)
  blank_gap (suc mark ∷ marks) values (suc r) long lt m =
      let f = fewer (length marks) values long in
      next_part bins r (replicate bins nan) _ (length-replicate bins nan) ∙ blank_gap marks (drop bins values) r f.1 (le_of_suc-le-suc lt) m

  -- where none is marked, nothing is laid over
  pub blank_none : (marks : List ℕ) (values : List Float) → ((r : ℕ) → get_or marks r 0 ≡ 0) → blanked bins marks values ≡ values
  unfolding blanked
  blank_none [] values h = refl
  blank_none (zero ∷ marks) values h = ap (λ l. take bins values ++ l) (blank_none marks (drop bins values) (λ r. h (suc r))) ∙ take-append-drop bins values
  blank_none (suc mark ∷ marks) values h = absurd (omega (arith, h 0))
