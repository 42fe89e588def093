-- Where some changed radial's data make no row, there is a lowest such radial. Assumes nothing.
use Prim.Native.Nat.{ℕ, zero, suc, ◌+◌, ◌-◌, ◌<◌}
use native.Mathlib.Omega.{arith}
use native.Mathlib.Nat.{not-suc-le-zero}
use native.Mathlib.Decide.{dec_lt, ℕ_discrete}
use mathlib.Core.List.{List}
use mathlib.Core.Bool.{Bool-discrete}
use mathlib.Core.Logic.Dec
use mathlib.Core.Logic.{◌⊎◌, inl, inr, ⊎_elim}
use mathlib.Core.Path.{◌≡◌, refl}
use lib.ListN.{get_or}
use Rattle.wire.specs.Result.{Result, accepted, refused}
use Rattle.symbology.specs.declared.figures.Packet.{Packet}
use Rattle.symbology.specs.declared.figures.Packet.TheVariants.{Packet16, PacketAf1f, Packet28}
use Rattle.symbology.specs.declared.figures.Figures.{Figures}
use Rattle.symbology.specs.Rows.{row_af1f}
use Rattle.symbology.specs.Levels.{InRange}
use Rattle.symbology.specs.Words.{data_place, data_of, ChangedIn}
use Rattle.sweep.specs.InWords.{RowInWords}
use Rattle.sweep.specs.Demand3.{LowestBad}
use Rattle.wire.proofs.Results.{clash}
use Rattle.symbology.proofs.Runs.{row_of_runs}

-- the first number that has P, and it is below n
abbrev First : (ℕ → Type 0) → ℕ → Type 0
First P n = (i : ℕ) × (i < n) × P i × ((j : ℕ) → j < i → ¬ (P j))

-- of the numbers below n none has P, or there is a first
module _ (P : ℕ → Type 0) (dec : (i : ℕ) → Dec (P i)) where
  first : (n : ℕ) → ((i : ℕ) → i < n → ¬ (P i)) ⊎ First P n
  first zero = inl (λ i lt. absurd (not-suc-le-zero lt))
  first (suc n) = go (first n) (dec n)
    where
      go : ((i : ℕ) → i < n → ¬ (P i)) ⊎ First P n → Dec (P n) → ((i : ℕ) → i < suc n → ¬ (P i)) ⊎ First P (suc n)
      go (inr (i, lt, h, low)) d = inr (i, omega arith, h, low)
      go (inl none) (yes h) = inr (n, omega arith, h, none)
      go (inl none) (no k) = inl (λ i lt h. by i lt h (dec_lt i n))
        where
          by : (i : ℕ) → i < suc n → P i → Dec (i < n) → ⊥
          by i lt h (yes l) = none i l h
          by i lt h (no l) = let e : i ≡ n = omega arith in k (rw e at h)

made? : {A : Type 0} (z : Result A) → Dec ((a : A) × (z ≡ accepted a))
made? (accepted a) = yes (a, refl)
made? (refused x) = no (λ m. clash m.0 x m.1)

in-range? : (bytes : List ℕ) (k : ℕ) → Dec (InRange bytes k)
in-range? bytes k = Dec.and (Bool-discrete _ _) (Bool-discrete _ _)

pub makes? : (packet : Packet) (bins : ℕ) (bytes : List ℕ) → Dec (RowInWords packet bins bytes)
unfolding RowInWords
makes? Packet16 bins bytes = yes tt
makes? PacketAf1f bins bytes = Dec.of_iff (row_of_runs bins 0 bytes).row (made? (row_af1f bins 0 bytes))
makes? Packet28 bins bytes =
    ⊎_elim (λ none. yes (λ k lt. (Dec.not-not (in-range? bytes k)).0 (none k lt))) (λ (k, lt, out, low). no (λ every. out (every k lt)))
    (first (λ k. ¬ (InRange bytes k)) (λ k. Dec.not (in-range? bytes k)) bins)

changed? : (packet : Packet) (b b' : List ℕ) (r : ℕ) → Dec (ChangedIn packet b b' r)
changed? packet b b' r =
    ⊎_elim (λ none. no (λ (i, (from, to), ne). let e : p + (i - p) ≡ i = omega arith in none (i - p) (omega arith) (rw e ne)))
    (λ (i, lt, ne, low). yes (p + i, (omega arith, omega arith), ne))
    (first (λ i. ¬ (get_or b (p + i) 0 ≡ get_or b' (p + i) 0)) (λ i. Dec.not (ℕ_discrete (get_or b (p + i) 0) (get_or b' (p + i) 0))) (data_place packet b r).1)
  where
    p : ℕ
    p = (data_place packet b r).0

module _ (f : Figures) (b b' : List ℕ) where
  row? : (r : ℕ) → Dec (RowInWords f.packet f.n_bins (data_of f.packet b r b'))
  row? r = makes? f.packet f.n_bins (data_of f.packet b r b')

  pub lowest_bad : ((r : ℕ) × (r < f.n_radials) × ChangedIn f.packet b b' r × ¬ (RowInWords f.packet f.n_bins (data_of f.packet b r b')))
      → (r : ℕ) × LowestBad f b b' r
  lowest_bad (r, lt, c, k) =
      ⊎_elim (λ none. absurd (none r lt (c, k)))
      (λ (i, lt, (c, k), low). (i, record { inside = lt; changed = c; no_row = k; lower = λ q l h. (Dec.not-not (row? q)).0 (λ m. low q l (h, m)) }))
      (first (λ r. ChangedIn f.packet b b' r × ¬ (RowInWords f.packet f.n_bins (data_of f.packet b r b'))) (λ r. Dec.and (changed? f.packet b b' r) (Dec.not (row? r))) f.n_radials)
