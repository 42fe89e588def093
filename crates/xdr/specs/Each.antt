-- What one cursor reads of a payload from its first byte on: an item of each kind, each from where the one before it ended, after a
-- refusal too.
use Rattle.std.specs.Prelude.{ℕ, ◌-◌, List, ◌≡◌, length}
use Rattle.wire.specs.Reading.{Flat, walk}
use Rattle.xdr.specs.Xdr.{int, uint, float, string, int_array, list_head, parameter, counted}
use Rattle.xdr.specs.Cursor.{end_of, ended, string_part, array_part, done}
use Rattle.xdr.specs.declared.each.Items.{Items}

-- where an item that is read at a position ends
abbrev place_after : {A : Type 0} → Flat A → List ℕ → ℕ → ℕ
place_after t s at = end_of (walk t s at)

-- the items' positions, and the end
abbrev pub uint_at : List ℕ → ℕ
uint_at s = place_after int s 0

abbrev pub float_at : List ℕ → ℕ
float_at s = place_after uint s (uint_at s)

abbrev pub string_at : List ℕ → ℕ
string_at s = place_after float s (float_at s)

abbrev pub array_at : List ℕ → ℕ
array_at s = place_after string s (string_at s)

abbrev pub head_at : List ℕ → ℕ
head_at s = place_after int_array s (array_at s)

abbrev pub list_at : List ℕ → ℕ
list_at s = place_after list_head s (head_at s)

abbrev pub end_at : List ℕ → ℕ
end_at s = place_after (counted parameter) s (list_at s)

pub record Each (s : List ℕ) (r : Items) : Type 0 where
  pub int_read : ended r.int.answer r.int.at ≡ walk int s 0
  pub uint_read : ended r.uint.answer r.uint.at ≡ walk uint s (uint_at s)
  pub float_read : ended r.float.answer r.float.at ≡ walk float s (float_at s)
  pub string_read : ended r.string.answer r.string.at ≡ string_part s (string_at s) (walk string s (string_at s))
  pub array_read : ended r.array.answer r.array.at ≡ array_part (array_at s) (walk int_array s (array_at s))
  pub head_read : ended r.head.answer r.head.at ≡ walk list_head s (head_at s)
  pub list_read : ended r.list.answer r.list.at ≡ done (walk (counted parameter) s (list_at s))
  pub left_over : r.left ≡ length s - end_at s
