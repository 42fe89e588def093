-- What M-111 asks of merging, beside its definition: b is ordinarily accepted, and b₁ and b₂ come from it by damage to radials of which none
-- is in both. As in demand 3, all of damage is said in document 01's words.
use Rattle.std.specs.Prelude.{ℕ, ◌<◌, ◌≤◌, List, [], ◌∷◌, ◌⊎◌, ◌↔◌, ◌≢◌, ◌≡◌}
use Rattle.std.specs.Prelude as Std
use Rattle.wire.specs.Refusal.{Refusal, kind, nat, refusal_of}
use Rattle.wire.specs.Result.{accepted, refused}
use Rattle.wire.specs.declared.error.Level3DecodeError.{Level3DecodeError}
use Rattle.scale.specs.declared.physical.Scheme.{Scheme}
use Rattle.symbology.specs.Rows.{row_of}
use Rattle.symbology.specs.Words.{data_of, ChangedIn, DamageInWords}
use Rattle.symbology.specs.declared.figures.Figures.{Figures}
use Rattle.sweep.specs.declared.sweep.Sweep.{Sweep}
use Rattle.sweep.specs.Sweep.{Accepted, sweep_of, Buffers, SweepAnswer}
use Rattle.sweep.specs.InWords.{RowInWords}
use Rattle.sweep.specs.GapSweep.{GapSweep, gap_sweep_of, GapBuffers}
use Rattle.sweep.specs.WithGaps.{NoneMarked, SamePicture, SameFront}
use Rattle.sweep.specs.MergeSweep.{merge_sweep_of}

-- radial r is changed in b', and its data there make a row of other codes than those of b, an accepted body with the figures f
pub record OtherCodes (f : Figures) (b b' : List ℕ) (r : ℕ) : Type 0 where
  pub changed : ChangedIn f.packet b b' r
  pub makes : RowInWords f.packet f.n_bins (data_of f.packet b r b')
  pub other : row_of f.packet f.n_bins r (data_of f.packet b r b') ≢ row_of f.packet f.n_bins r (data_of f.packet b r b)

-- in one of the two
abbrev pub Other : Figures → List ℕ → List ℕ → List ℕ → ℕ → Type 0
Other f b b₁ b₂ r = OtherCodes f b b₁ r ⊎ OtherCodes f b b₂ r

-- r is the lowest
pub record LowestOther (f : Figures) (b b₁ b₂ : List ℕ) (r : ℕ) : Type 0 where
  pub inside : r < f.n_radials
  pub here : Other f b b₁ b₂ r
  pub lower : (q : ℕ) → q < r → Other f b b₁ b₂ q → ⊥

-- both bodies come from b, a body with these figures, by damage to radials of which none is in both
pub record Apart (f : Figures) (b b₁ b₂ : List ℕ) : Type 0 where
  pub first : DamageInWords b f b₁
  pub second : DamageInWords b f b₂
  pub apart : (r : ℕ) → r < f.n_radials → ChangedIn f.packet b b₁ r → ChangedIn f.packet b b₂ r → ⊥

-- The ordinary reading of b gives p, and the mark buffer is long enough.
module _ (scheme : Scheme) (file : List ℕ) (clock : ℕ) (b b₁ b₂ : List ℕ) (na nc np nm : ℕ) (p : Accepted) where
  pub record TwoReceptions : Type 0 where
    -- refused exactly when some changed data make a row of other codes
    pub exactly : ((x : Refusal) × (merge_sweep_of scheme file clock b₁ b₂ na nc np nm ≡ refused x))
        ↔ ((r : ℕ) × (r < p.sweep.figures.n_radials) × Other p.sweep.figures b b₁ b₂ r)
    -- with 44, of the lowest such radial
    pub lowest : (x : Refusal) → merge_sweep_of scheme file clock b₁ b₂ na nc np nm ≡ refused x
        → (r : ℕ) × LowestOther p.sweep.figures b b₁ b₂ r × (x ≡ kind 44 (nat r ∷ []))
    -- else the original picture without a gap
    pub otherwise : ((r : ℕ) → r < p.sweep.figures.n_radials → Other p.sweep.figures b b₁ b₂ r → ⊥)
        → (g : GapSweep) × (merge_sweep_of scheme file clock b₁ b₂ na nc np nm ≡ accepted g) × NoneMarked g.sweep.figures g.marks × SamePicture g p

-- ---- equal bodies, and bodies without a gap

pub record MergedAlike (scheme : Scheme) (file : List ℕ) (clock : ℕ) (na nc np nm : ℕ) : Type 0 where
  -- a body merged with itself is its reading with gaps
  pub itself : (b : List ℕ) → merge_sweep_of scheme file clock b b na nc np nm ≡ gap_sweep_of scheme file clock b na nc np nm
  -- where neither has a gap and both agree, the picture is the ordinary one
  pub agreeing : (b₁ b₂ : List ℕ) (p : Accepted) → sweep_of scheme file clock b₁ na nc np ≡ accepted p → sweep_of scheme file clock b₂ na nc np ≡ accepted p
      → p.sweep.figures.n_radials ≤ nm
      → (g : GapSweep) × (merge_sweep_of scheme file clock b₁ b₂ na nc np nm ≡ accepted g) × NoneMarked g.sweep.figures g.marks × SamePicture g p

-- ---- for two runs of the code, of which the first reads b without gaps and the second merges b₁ and b₂

-- The first run accepted b with s and left `new`; the second answered `said'`, and left `new'` where `old'` was.
pub record MergeRuns (b b₁ b₂ : List ℕ) (s : Sweep) (new : Buffers) (old' new' : GapBuffers) (said' : SweepAnswer) : Type 0 where
  -- refused exactly when some changed data make a row of other codes
  pub exactly : ((e : Level3DecodeError) × (said' ≡ Std.Err e)) ↔ ((r : ℕ) × (r < s.figures.n_radials) × Other s.figures b b₁ b₂ r)
  -- with 44, of the lowest such radial; nothing is written
  pub lowest : (e : Level3DecodeError) → said' ≡ Std.Err e
      → (r : ℕ) × LowestOther s.figures b b₁ b₂ r × (refusal_of e ≡ kind 44 (nat r ∷ [])) × (new' ≡ old')
  -- else the picture that the first run left, and no mark
  pub otherwise : ((r : ℕ) → r < s.figures.n_radials → Other s.figures b b₁ b₂ r → ⊥)
      → (said' ≡ Std.Ok s) × SameFront s.figures new new' × NoneMarked s.figures new'.marks
