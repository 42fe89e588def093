-- Worked answers, computed from the definitions: each padding length, each cap and one more, lists with and without their pointer, P4.
-- Assumes nothing.
use Prim.Native.Nat.{ℕ}
use mathlib.Core.List.{List, [], ◌∷◌}
use mathlib.Core.Path.{◌≡◌, refl}
use lib.IntN.{pos}
use Rattle.wire.specs.Bytes.{u16_at, u32_at, signed}
use Rattle.wire.specs.Refusal.{kind, nat, whole}
use Rattle.wire.specs.Reading.{passed, halted, walk, ◌>>=◌, ◌>>◌, remaining, u32, unread, refuse_if, as_number, as_unread, pieces}
use Rattle.wire.specs.Text.{trim_end}
use Rattle.wire.specs.declared.error.XdrItem.TheVariants as Item
use Rattle.xdr.specs.Xdr.{short, pass, word, int, uint, string_body, string, array_count, int_array, pointer, list_head, further, elements, counted, parameter}
use Rattle.xdr.specs.Cursor.{string_part, array_part}
use Rattle.xdr.specs.declared.xdr.Part.{Part}
use Rattle.xdr.proofs.Items.{cut}

-- a number below 65,536 as four bytes
abbrev four : ℕ → ℕ → List ℕ → List ℕ
four a b rest = 0 ∷ 0 ∷ a ∷ b ∷ rest

abbrev part : ℕ → ℕ → Part
part start len = record { start = start; len = len }

-- ---- strings

pub record Strings : Type 0 where
  pub empty : string_part (four 0 0 []) 0 (walk string (four 0 0 []) 0) ≡ passed (part 4 0) 4
  pub one : string_part (four 0 1 (65 ∷ 9 ∷ 9 ∷ 9 ∷ [])) 0 (walk string (four 0 1 (65 ∷ 9 ∷ 9 ∷ 9 ∷ [])) 0) ≡ passed (part 4 1) 8
  pub two : string_part (four 0 2 (65 ∷ 66 ∷ 0 ∷ 0 ∷ [])) 0 (walk string (four 0 2 (65 ∷ 66 ∷ 0 ∷ 0 ∷ [])) 0) ≡ passed (part 4 2) 8
  pub three : string_part (four 0 3 (65 ∷ 66 ∷ 67 ∷ 0 ∷ [])) 0 (walk string (four 0 3 (65 ∷ 66 ∷ 67 ∷ 0 ∷ [])) 0) ≡ passed (part 4 3) 8
  -- zero bytes at the end are trimmed, one inside is not
  pub trimmed : string_part (four 0 4 (65 ∷ 0 ∷ 66 ∷ 0 ∷ [])) 0 (walk string (four 0 4 (65 ∷ 0 ∷ 66 ∷ 0 ∷ [])) 0) ≡ passed (part 4 3) 8
  -- the length, the body, the padding cut short: the position is after the last whole take
  pub no_length : walk string (0 ∷ 0 ∷ 0 ∷ []) 0 ≡ halted (cut Item.Uint 3 4) 0
  pub no_body : walk string (four 0 2 (65 ∷ [])) 0 ≡ halted (cut Item.StringBody 1 2) 4
  pub no_padding : walk string (four 0 1 (65 ∷ 0 ∷ [])) 0 ≡ halted (cut Item.Padding 1 3) 5
  -- the cap, which the body then lacks, and one more
  pub cap : walk string (four 16 0 []) 0 ≡ halted (cut Item.StringBody 0 4096) 4
  pub over_cap : walk string (four 16 1 []) 0 ≡ halted (kind 24 (nat 4097 ∷ nat 4096 ∷ [])) 4
  -- nothing at all
  pub no_bytes : walk string [] 0 ≡ halted (cut Item.Uint 0 4) 0

pub strings : Strings
unfolding walk string string_body uint word pass short remaining u32 unread refuse_if ◌>>=◌ ◌>>◌ trim_end u32_at u16_at
strings = record {
  empty = refl;
  one = refl;
  two = refl;
  three = refl;
  trimmed = refl;
  no_length = refl;
  no_body = refl;
  no_padding = refl;
  cap = refl;
  over_cap = refl;
  no_bytes = refl;
}

-- ---- integer arrays

pub record Arrays : Type 0 where
  pub two : array_part 0 (walk int_array (four 0 2 (0 ∷ 0 ∷ 0 ∷ 7 ∷ 0 ∷ 0 ∷ 0 ∷ 8 ∷ [])) 0) ≡ passed (part 4 2) 12
  pub no_body : walk int_array (four 0 2 (0 ∷ 0 ∷ 0 ∷ 7 ∷ [])) 0 ≡ halted (cut Item.ArrayBody 4 8) 4
  pub cap : walk int_array (0 ∷ 1 ∷ 134 ∷ 160 ∷ []) 0 ≡ halted (cut Item.ArrayBody 0 400000) 4
  pub over_cap : walk int_array (0 ∷ 1 ∷ 134 ∷ 161 ∷ []) 0 ≡ halted (kind 25 (nat 100001 ∷ nat 100000 ∷ [])) 4

pub arrays : Arrays
unfolding walk int_array array_count uint word short remaining u32 unread refuse_if ◌>>=◌ ◌>>◌ u32_at u16_at
arrays = record { two = refl; no_body = refl; cap = refl; over_cap = refl }

-- ---- lists of parameters

pub record Lists : Type 0 where
  pub none : walk (counted parameter) (four 0 0 (1 ∷ 2 ∷ 3 ∷ 4 ∷ [])) 0 ≡ passed [] 8
  pub below_none : walk (counted parameter) (255 ∷ 255 ∷ 255 ∷ 255 ∷ 0 ∷ 0 ∷ 0 ∷ 7 ∷ []) 0 ≡ passed [] 8
  -- two elements of two empty strings, a pointer between them and none after the last
  pub two : walk (counted parameter)
      (four 0 2 (0 ∷ 0 ∷ 0 ∷ 9 ∷ (four 0 0 (four 0 0 (0 ∷ 0 ∷ 0 ∷ 9 ∷ (four 0 0 (four 0 0 []))))))) 0 ≡ passed (tt ∷ tt ∷ []) 28
  pub cap : walk (counted parameter) (four 39 16 (four 0 0 [])) 0 ≡ halted (cut Item.Uint 0 4) 8
  pub over_cap : walk (counted parameter) (four 39 17 (four 0 0 [])) 0 ≡ halted (kind 26 (whole (pos 10001) ∷ whole (pos 10000) ∷ [])) 8
  -- the pointer is read before the cap is tested
  pub over_cap_unpointed : walk (counted parameter) (four 39 17 []) 0 ≡ halted (cut Item.Int 0 4) 4
  -- what is read and what is not
  pub marks : pieces (counted parameter) (four 0 1 (0 ∷ 0 ∷ 0 ∷ 9 ∷ (four 0 1 (65 ∷ 0 ∷ 0 ∷ 0 ∷ (four 0 0 []))))) 0
      ≡ as_number 4 ∷ as_unread 4 ∷ as_number 4 ∷ as_unread 1 ∷ as_unread 3 ∷ as_number 4 ∷ as_unread 0 ∷ as_unread 0 ∷ []

pub lists : Lists
unfolding walk pieces counted list_head pointer elements further parameter int string string_body uint word pass short remaining u32 unread refuse_if ◌>>=◌ ◌>>◌ u32_at u16_at signed
lists = record { none = refl; below_none = refl; two = refl; cap = refl; over_cap = refl; over_cap_unpointed = refl; marks = refl }
