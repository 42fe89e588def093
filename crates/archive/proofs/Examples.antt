-- Small bodies by the profile, each bound of 45 and 46. Computed from the definitions. Assumes nothing.
use Prim.Native.Nat.{ℕ}
use mathlib.Core.List.{List, [], ◌∷◌, ◌++◌}
use mathlib.Core.Path.{◌≡◌, refl}
use lib.Ieee.{Float, add, div, rem, of_int, of_bits}
use lib.ListN.{replicate}
use Rattle.wire.specs.Bytes.{u16_at, u32_at, signed}
use Rattle.wire.specs.Float.{f32, f64}
use Rattle.wire.specs.Refusal.{kind, nat}
use Rattle.wire.specs.Result.{Result, accepted, refused, then}
use Rattle.wire.specs.Reading.{run, more, after_row, ◌>>=◌, ◌>>◌, remaining, u16, u32, unread, radial_data, refuse_if}
use Rattle.xdr.specs.Xdr.{int, float, string, string_body, uint, word, short, pass, array_count, pointer, counted, list_head, elements, further, parameter}
use Rattle.scale.specs.declared.physical.Scheme.TheVariants as Scheme
use Rattle.symbology.specs.Answers.{joined, picture_of}
use Rattle.symbology.specs.Centre.{centre, centre28}
use Rattle.symbology.specs.Places.{place}
use Rattle.symbology.specs.Rows.{row_of, row16, row_af1f, reach, cells, words, push, levels, row28}
use Rattle.symbology.specs.Runs.{sum_runs}
use Rattle.symbology.specs.Symbology.{symbology, packet_of, radial_packet, packet_header, first_bin, over_body, radial_walk, radial, frame, covered, count_wrong, generic_packet, body_short, payload, product_block, component, component_head, xdr_radials, xdr_radial, xdr_walk, xdr_frame, only}
use Rattle.symbology.specs.Table.{start, one_radial, no_radials, two, generic, no_list, two_xdr_radials}
use Rattle.sweep.specs.declared.plan.Head.{Head}
use Rattle.sweep.specs.Sweep.{Accepted, allowed, finish}
use Rattle.archive.specs.Surplus.{surplus_in, surplus_at, rows_exact, end_of, end_exact, exact}

-- what follows the head
abbrev tested : List ℕ → Result (Unit {0})
tested b = then (picture_of b) λ p. exact p.figures b

-- and under legacy, which does not work on packet 16
abbrev legacy : Float → Head → List ℕ → Result Accepted
legacy post h b = then (picture_of b) λ p. then (exact p.figures b) λ _. finish (Scheme.Legacy post) [] 0 0 0 h p

abbrev passes : Result (Unit {0})
passes = accepted tt

-- two radials of AF1F, 5 bins, with their counts and data
abbrev two_radials : ℕ → List ℕ → ℕ → List ℕ → List ℕ
two_radials m a n b = start 0xAF1F ++ two 0 ++ two 5 ++ replicate 4 0 ++ two 1 ++ two 2 ++ two m ++ two 0 ++ two 10 ++ a ++ two n ++ two 0 ++ two 10 ++ b

pub record Examples : Type 0 where
  -- packet 16, 2 bins: a count of 2 passes, 3 is 45, and so is 4
  pub even : tested (one_radial 16 2 (2, 0, 10) (7 ∷ 9 ∷ [])) ≡ passes
  pub even_more : tested (one_radial 16 2 (3, 0, 10) (7 ∷ 9 ∷ 0 ∷ [])) ≡ refused (kind 45 (nat 0 ∷ []))
  pub even_two : tested (one_radial 16 2 (4, 0, 10) (7 ∷ 9 ∷ 0 ∷ 0 ∷ [])) ≡ refused (kind 45 (nat 0 ∷ []))
  -- 3 bins: a count of 3 passes, and 4 with any last byte; 5 is 45
  pub odd : tested (one_radial 16 3 (3, 0, 10) (7 ∷ 9 ∷ 8 ∷ [])) ≡ passes
  pub odd_zero : tested (one_radial 16 3 (4, 0, 10) (7 ∷ 9 ∷ 8 ∷ 0 ∷ [])) ≡ passes
  pub odd_any : tested (one_radial 16 3 (4, 0, 10) (7 ∷ 9 ∷ 8 ∷ 255 ∷ [])) ≡ passes
  pub odd_two : tested (one_radial 16 3 (5, 0, 10) (7 ∷ 9 ∷ 8 ∷ 0 ∷ 0 ∷ [])) ≡ refused (kind 45 (nat 0 ∷ []))
  -- AF1F, 5 bins: zero runs anywhere, also after a full row, pass; a run of 1 after it is 45
  pub runs : tested (one_radial 0xAF1F 5 (1, 0, 10) (0x31 ∷ 0x25 ∷ [])) ≡ passes
  pub zero_runs : tested (one_radial 0xAF1F 5 (2, 0, 10) (0x07 ∷ 0x31 ∷ 0x25 ∷ 0x00 ∷ [])) ≡ passes
  pub run_after : tested (one_radial 0xAF1F 5 (2, 0, 10) (0x31 ∷ 0x25 ∷ 0x00 ∷ 0x10 ∷ [])) ≡ refused (kind 45 (nat 0 ∷ []))
  -- the lowest radial; but a later radial's 22 comes first, as every refusal of the symbology does
  pub lowest : tested (two_radials 1 (0x31 ∷ 0x25 ∷ []) 2 (0x31 ∷ 0x25 ∷ 0x10 ∷ 0x00 ∷ [])) ≡ refused (kind 45 (nat 1 ∷ []))
  pub both : tested (two_radials 2 (0x31 ∷ 0x25 ∷ 0x10 ∷ 0x00 ∷ []) 2 (0x31 ∷ 0x25 ∷ 0x10 ∷ 0x00 ∷ [])) ≡ refused (kind 45 (nat 0 ∷ []))
  pub later_22 : tested (two_radials 2 (0x31 ∷ 0x25 ∷ 0x10 ∷ 0x00 ∷ []) 1 (0x31 ∷ 0x35 ∷ [])) ≡ refused (kind 22 (nat 1 ∷ nat 3 ∷ nat 5 ∷ []))
  -- a byte after the last radial is 46; 45 comes before it
  pub after : tested (one_radial 16 2 (2, 0, 10) (7 ∷ 9 ∷ 0 ∷ [])) ≡ refused (kind 46 [])
  pub after_runs : tested (one_radial 0xAF1F 5 (1, 0, 10) (0x31 ∷ 0x25 ∷ 0x00 ∷ [])) ≡ refused (kind 46 [])
  pub first_45 : tested (one_radial 16 2 (3, 0, 10) (7 ∷ 9 ∷ 0 ∷ 0 ∷ [])) ≡ refused (kind 45 (nat 0 ∷ []))
  -- both before 10
  pub before_10 : (post : Float) (h : Head) → legacy post h (one_radial 16 2 (3, 0, 10) (7 ∷ 9 ∷ 0 ∷ [])) ≡ refused (kind 45 (nat 0 ∷ []))
  pub before_10_too : (post : Float) (h : Head) → legacy post h (one_radial 16 2 (2, 0, 10) (7 ∷ 9 ∷ 0 ∷ [])) ≡ refused (kind 46 [])
  pub then_10 : (post : Float) (h : Head) → legacy post h (one_radial 16 2 (2, 0, 10) (7 ∷ 9 ∷ [])) ≡ refused (kind 10 [])
  -- a clear scan ends at byte 30
  pub clear : tested (no_radials 16 0 5 []) ≡ passes
  pub clear_runs : tested (no_radials 0xAF1F 0 5 []) ≡ passes
  pub clear_more : tested (no_radials 16 0 5 (0 ∷ [])) ≡ refused (kind 46 [])
  pub clear_runs_more : tested (no_radials 0xAF1F 0 5 (0 ∷ [])) ≡ refused (kind 46 [])

-- packet 28 ends with its payload
pub record Payloads : Type 0 where
  pub payload : tested (generic no_list two_xdr_radials) ≡ passes
  pub longer : tested (generic no_list two_xdr_radials ++ 0 ∷ []) ≡ refused (kind 46 [])

pub examples : Examples
unfolding exact rows_exact surplus_at surplus_in end_of end_exact place sum_runs finish allowed picture_of joined run more after_row ◌>>=◌ ◌>>◌ remaining u16 u32 unread radial_data refuse_if u16_at u32_at signed symbology packet_of radial_packet packet_header first_bin over_body radial_walk radial frame covered count_wrong row_of row16 row_af1f reach cells centre f64 add div of_int
examples = record {
  even = refl;
  even_more = refl;
  even_two = refl;
  odd = refl;
  odd_zero = refl;
  odd_any = refl;
  odd_two = refl;
  runs = refl;
  zero_runs = refl;
  run_after = refl;
  lowest = refl;
  both = refl;
  later_22 = refl;
  after = refl;
  after_runs = refl;
  first_45 = refl;
  before_10 = λ post h. refl;
  before_10_too = λ post h. refl;
  then_10 = λ post h. refl;
  clear = refl;
  clear_runs = refl;
  clear_more = refl;
  clear_runs_more = refl;
}

pub payloads : Payloads
unfolding exact rows_exact surplus_at surplus_in end_of end_exact place picture_of joined run more after_row ◌>>=◌ ◌>>◌ remaining u16 u32 unread radial_data refuse_if u16_at u32_at signed symbology packet_of generic_packet body_short payload product_block component component_head xdr_radials xdr_radial xdr_walk xdr_frame only int float string string_body uint word short pass array_count pointer counted list_head elements further parameter row_of row28 words push levels centre28 f32 f64 add div rem of_int of_bits
payloads = record { payload = refl; longer = refl }
