-- Merging on small inputs, a class sweep of one radial: what each row gives, and the order of the tests.
use Rattle.std.specs.Prelude.{ℕ, List, [], ◌∷◌, ◌++◌, replicate, ◌≡◌, Float}
use Rattle.std.specs.Float.{nan}
use Rattle.wire.specs.Float.{f32}
use Rattle.wire.specs.Refusal.{kind, nat, buffer}
use Rattle.wire.specs.Result.{Result, accepted, refused, then}
use Rattle.wire.specs.declared.error.Buffer.TheVariants as Buffer
use Rattle.scale.specs.declared.physical.Scheme.TheVariants as Scheme
use Rattle.symbology.specs.Table.{start, one_radial, no_radials}
use Rattle.sweep.specs.Order.{product, body16}
use Rattle.sweep.specs.GapSweep.{GapSweep}
use Rattle.sweep.specs.MergeSweep.{merge_sweep_of}

-- codes, physical values and marks
abbrev seen : Result GapSweep → Result (List ℕ × List Float × List ℕ)
seen r = then r λ m. accepted (m.codes, m.physical, m.marks)

abbrev af1f : List ℕ → List ℕ
af1f runs = one_radial 0xAF1F 5 (1, 0, 10) runs

abbrev merged : List ℕ → List ℕ → ℕ → Result (List ℕ × List Float × List ℕ)
merged one two marks = seen (merge_sweep_of Scheme.Class product 0 (af1f one) (af1f two) 1 5 5 marks)

abbrev number : ℕ → Float
number n = f32 n 1

pub record MergeOrder : Type 0 where
  -- a gap in the first, in the second, in both
  pub first_gap : merged (0x31 ∷ 0x35 ∷ []) (0x31 ∷ 0x25 ∷ []) 1
      ≡ accepted (1 ∷ 1 ∷ 1 ∷ 5 ∷ 5 ∷ [], number 1 ∷ number 1 ∷ number 1 ∷ number 5 ∷ number 5 ∷ [], 0 ∷ [])
  pub second_gap : merged (0x31 ∷ 0x25 ∷ []) (0x31 ∷ 0x35 ∷ []) 1
      ≡ accepted (1 ∷ 1 ∷ 1 ∷ 5 ∷ 5 ∷ [], number 1 ∷ number 1 ∷ number 1 ∷ number 5 ∷ number 5 ∷ [], 0 ∷ [])
  pub both_gap : merged (0x31 ∷ 0x35 ∷ []) (0x41 ∷ 0x25 ∷ []) 1 ≡ accepted (0 ∷ 0 ∷ 0 ∷ 0 ∷ 0 ∷ [], nan ∷ nan ∷ nan ∷ nan ∷ nan ∷ [], 1 ∷ [])
  -- other runs, the same codes
  pub same_codes : merged (0x11 ∷ 0x41 ∷ []) (0x31 ∷ 0x21 ∷ []) 1
      ≡ accepted (1 ∷ 1 ∷ 1 ∷ 1 ∷ 1 ∷ [], number 1 ∷ number 1 ∷ number 1 ∷ number 1 ∷ number 1 ∷ [], 0 ∷ [])
  -- 44 before 36; 43 before 44; the second body's 14 before 43; 36 of the marks
  pub other_codes : merged (0x31 ∷ 0x26 ∷ []) (0x31 ∷ 0x25 ∷ []) 0 ≡ refused (kind 44 (nat 0 ∷ []))
  pub other_centre : seen (merge_sweep_of Scheme.Class product 0 (af1f (0x31 ∷ 0x25 ∷ [])) (one_radial 0xAF1F 5 (1, 0, 20) (0x31 ∷ 0x26 ∷ [])) 1 5 5 0) ≡ refused (kind 43 [])
  pub other_packet : seen (merge_sweep_of Scheme.Class product 0 (af1f (0x31 ∷ 0x25 ∷ [])) body16 0 0 0 0) ≡ refused (kind 43 [])
  pub second_14 : seen (merge_sweep_of Scheme.Class product 0 (af1f (0x31 ∷ 0x25 ∷ [])) (start 17) 0 0 0 0) ≡ refused (kind 14 (nat 17 ∷ []))
  pub no_marks : merged (0x31 ∷ 0x25 ∷ []) (0x31 ∷ 0x25 ∷ []) 0 ≡ refused (kind 36 (buffer Buffer.Marks ∷ []))
  -- legacy works on AF1F alone: the second's 10 before 43
  pub second_10 : seen (merge_sweep_of (Scheme.Legacy (f32 1 1)) (product ++ replicate 60 0) 0 (af1f (0x31 ∷ 0x25 ∷ [])) body16 0 0 0 0) ≡ refused (kind 10 [])
  -- two clear scans are a clear scan; a clear scan and another are different sweeps
  pub both_clear : seen (merge_sweep_of Scheme.Class product 0 (no_radials 0xAF1F 0 5 []) (no_radials 0xAF1F 0 5 []) 0 0 0 0) ≡ accepted ([], [], [])
  pub one_clear : seen (merge_sweep_of Scheme.Class product 0 (no_radials 0xAF1F 0 5 []) (af1f (0x31 ∷ 0x25 ∷ [])) 0 0 0 0) ≡ refused (kind 43 [])
