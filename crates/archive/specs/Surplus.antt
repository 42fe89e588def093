-- What is surplus in an accepted body (document 02, M-112): the tests for 45 and 46, and the same in document 02's words. The places of the
-- radials and of their data are document 01's.
use Rattle.std.specs.Prelude.{ℕ, zero, suc, ◌+◌, ◌%◌, ◌<◌, List, [], ◌∷◌, Bool, false, not, ◌||◌, ◌⊎◌, ◌≡◌, ◌==◌, length}
use Rattle.std.proofs.Math.Seq.{slice}
use Rattle.wire.specs.Bytes.{u16_at, u32_at}
use Rattle.wire.specs.Refusal.{kind, nat}
use Rattle.wire.specs.Result.{Result, accepted, refuse, then}
use Rattle.symbology.specs.Runs.{sum_runs}
use Rattle.symbology.specs.Places.{place}
use Rattle.symbology.specs.Words.{data_of}
use Rattle.symbology.specs.declared.figures.Figures.{Figures}
use Rattle.symbology.specs.declared.figures.Packet.{Packet}
use Rattle.symbology.specs.declared.figures.Packet.TheVariants.{Packet16, PacketAf1f, Packet28}

-- ---- the tests

-- a radial's count and what that covers hold other than a row of so many bins. Packet 16: the count is neither n_bins nor, where that is
-- odd, the even number after it. AF1F: the run lengths, zero ones included, do not sum to exactly n_bins. Packet 28: never
unfoldable pub surplus_in : Packet → ℕ → ℕ → List ℕ → Bool
surplus_in Packet16 bins count bytes = not (count == bins || count == bins + bins % 2)
surplus_in PacketAf1f bins count bytes = not (sum_runs bytes == bins)
surplus_in Packet28 bins count bytes = false

-- radial r of the body does
unfoldable pub surplus_at : Figures → List ℕ → ℕ → Bool
surplus_at f b r =
    surplus_in f.packet f.n_bins (u16_at b (place f.packet b r)) (slice (place f.packet b r + 6) (place f.packet b (suc r)) b)

-- 45, of n radials from radial r on
unfoldable pub rows_exact : Figures → List ℕ → ℕ → ℕ → Result (Unit {0})
rows_exact f b zero r = accepted tt
rows_exact f b (suc n) r = refuse (surplus_at f b r) (kind 45 (nat r ∷ [])) (rows_exact f b n (suc r))

-- where the last radial ends, which of a clear scan is byte 30; or where packet 28's payload does, whose length is not below 0 (23)
unfoldable pub end_of : Packet → ℕ → List ℕ → ℕ
end_of Packet16 radials b = place Packet16 b radials
end_of PacketAf1f radials b = place PacketAf1f b radials
end_of Packet28 radials b = 24 + u32_at b 20

-- 46
unfoldable pub end_exact : Figures → List ℕ → Result (Unit {0})
end_exact f b = refuse (not (length b == end_of f.packet f.n_radials b)) (kind 46 []) (accepted tt)

-- 45, then 46, of an accepted body with the figures f
unfoldable pub exact : Figures → List ℕ → Result (Unit {0})
exact f b =
    then (rows_exact f b f.n_radials 0) λ _.
    end_exact f b

-- ---- no surplus, in document 02's words

-- "All run lengths of an AF1F radial, zero ones included, sum to exactly n_bins. A packet 16 count is n_bins; where n_bins is odd, one more
-- passes too."
unfoldable pub ExactRow : Packet → ℕ → List ℕ → Type 0
ExactRow Packet16 bins bytes = (length bytes ≡ bins) ⊎ ((bins % 2 ≡ 1) × (length bytes ≡ suc bins))
ExactRow PacketAf1f bins bytes = sum_runs bytes ≡ bins
ExactRow Packet28 bins bytes = Unit {0}

-- of an accepted body b with the figures f: radial r has none
abbrev pub ExactAt : Figures → List ℕ → ℕ → Type 0
ExactAt f b r = ExactRow f.packet f.n_bins (data_of f.packet b r b)

-- The body has none: "The body ends with its last radial, or with its packet 28 payload. A clear scan ends at byte 30."
pub record NoSurplus (f : Figures) (b : List ℕ) : Type 0 where
  pub rows : (r : ℕ) → r < f.n_radials → ExactAt f b r
  pub end : length b ≡ end_of f.packet f.n_radials b

-- Radial r is the lowest that has.
pub record LowestOver (f : Figures) (b : List ℕ) (r : ℕ) : Type 0 where
  pub inside : r < f.n_radials
  pub over : ¬ (ExactAt f b r)
  pub lower : (q : ℕ) → q < r → ExactAt f b q

-- No radial has, but the body goes on after the last, or after the payload.
pub record AfterAll (f : Figures) (b : List ℕ) : Type 0 where
  pub rows : (r : ℕ) → r < f.n_radials → ExactAt f b r
  pub longer : end_of f.packet f.n_radials b < length b
