-- Records that are written are read back. Assumes nothing.
use Rattle.wire.specs.Bytes.{u16_at}
use Rattle.wire.proofs.Numbers.{half_of}
use mathlib.Core.Path.{◌≡◌, refl, sym, ap, ◌∙◌}
use mathlib.Core.List.{List, [], ◌∷◌, ◌++◌, append_assoc}
use Prim.Native.Nat.{ℕ, ◌+◌, ◌/◌, ◌%◌, ◌<◌}
use native.Mathlib.Omega.{arith}
use lib.ListN.{length, get_or, length-append}
use lib.Seq.{get_or-append_seam, get_or-append-add}
use Rattle.fields.specs.declared.plan.Record.{Record}
use Rattle.fields.specs.declared.plan.Record.TheVariants.{Field, Strip}
use Rattle.fields.specs.Plan.{record_at, entries_from, entries_of}
use Rattle.fields.specs.Totals.{items}
use Rattle.fields.specs.Written.{bytes_of, written}
use Rattle.fields.proofs.Records.{a_field, a_strip}
use Rattle.fields.proofs.Walk.{entries_next, entries_end}

-- no malformed record
pub data Whole : List Record → Type 0 where
  none : Whole []
  field : {n : ℕ} {rs : List Record} → Whole rs → Whole (Field n ∷ rs)
  strip : {r g c w : ℕ} {rs : List Record} → Whole rs → Whole (Strip r g c w ∷ rs)

-- the halfword behind k bytes
half_at : (pre l : List ℕ) (k n : ℕ) (i : ℕ) → i ≡ length pre + k → get_or l k 0 ≡ n / 256 → get_or l (k + 1) 0 ≡ n % 256 → n ≡ u16_at (pre ++ l) i
half_at pre l k n i e h1 h2 =
    let e2 : i + 1 ≡ length pre + (k + 1) = omega arith in
    half_of (pre ++ l) i n (ap (λ j. get_or (pre ++ l) j 0) e ∙ get_or-append-add pre l k 0 ∙ h1) (ap (λ j. get_or (pre ++ l) j 0) e2 ∙ get_or-append-add pre l (k + 1) 0 ∙ h2)

field_back : (pre rest : List ℕ) (n : ℕ) → Field n ≡ record_at (pre ++ bytes_of (Field n) rest) (length pre)
field_back pre rest n =
    a_field (pre ++ bytes_of (Field n) rest) (length pre) (rw length-append (omega arith)) (sym (get_or-append_seam pre 1 _ 0))
    (half_at pre (bytes_of (Field n) rest) 1 2 (length pre + 1) refl refl refl) refl refl
    (half_at pre (bytes_of (Field n) rest) 3 n (length pre + 3) refl refl refl)

strip_back : (pre rest : List ℕ) (r g c w : ℕ) → Strip r g c w ≡ record_at (pre ++ bytes_of (Strip r g c w) rest) (length pre)
strip_back pre rest r g c w =
    let l : List ℕ = bytes_of (Strip r g c w) rest in
    a_strip (pre ++ l) (length pre) (rw length-append (omega arith)) (sym (get_or-append_seam pre 2 _ 0))
    (half_at pre l 1 8 (length pre + 1) refl refl refl) (λ q. omega arith) (rw length-append (omega arith)) refl refl
    (half_at pre l 3 r (length pre + 3) refl refl refl) (half_at pre l 5 g (length pre + 5) refl refl refl)
    (half_at pre l 7 c (length pre + 7) refl refl refl) (half_at pre l 9 w (length pre + 9) refl refl refl)

-- the bytes of one record alone
abbrev alone : Record → List ℕ
alone x = bytes_of x []

read_back : (pre : List ℕ) {rs : List Record} → Whole rs → items (entries_from (pre ++ written rs) (length pre)) ≡ rs
unfolding written
read_back pre none = rw (entries_end (pre ++ []) (length pre) (rw length-append (omega arith)))
read_back pre (field {n = n} {rs = rs} h) =
    let l : List ℕ = pre ++ bytes_of (Field n) (written rs) in
    let lt : length pre < length l = rw length-append (omega arith) in
    let ass : (pre ++ alone (Field n)) ++ written rs ≡ l = append_assoc pre (alone (Field n)) (written rs) in
    let ln : length (pre ++ alone (Field n)) ≡ length pre + 5 = length-append pre (alone (Field n)) in
    let ih = rw (ass, ln) at (read_back (pre ++ alone (Field n)) h) in
    rw (entries_next l (length pre) lt, ← (field_back pre (written rs) n)) (ap (λ t. Field n ∷ t) ih)
read_back pre (strip {r = r} {g = g} {c = c} {w = w} {rs = rs} h) =
    let l : List ℕ = pre ++ bytes_of (Strip r g c w) (written rs) in
    let lt : length pre < length l = rw length-append (omega arith) in
    let ass : (pre ++ alone (Strip r g c w)) ++ written rs ≡ l = append_assoc pre (alone (Strip r g c w)) (written rs) in
    let ln : length (pre ++ alone (Strip r g c w)) ≡ length pre + 11 = length-append pre (alone (Strip r g c w)) in
    let ih = rw (ass, ln) at (read_back (pre ++ alone (Strip r g c w)) h) in
    rw (entries_next l (length pre) lt, ← (strip_back pre (written rs) r g c w)) (ap (λ t. Strip r g c w ∷ t) ih)

-- A plan written from records has these records
pub written_back : {rs : List Record} → Whole rs → items (entries_of (written rs)) ≡ rs
written_back h = read_back [] h
