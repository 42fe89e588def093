-- The names of the refusals: which numbers have one, and that each leaves room for a zero. Assumes nothing.
use Rattle.std.proofs.Common.{◌≡◌, ℕ, zero, suc, ◌+◌, ◌-◌, ◌<◌, ◌≤◌, Bool, true, false, ◌&&◌, leb, List, [], ◌∷◌, ◌++◌, length, take, drop, replicate, Some, None, refl, sym, ap, ◌∙◌, arith, leb-true, lt-ltb, le-ltb}
use lib.Seq.{length-take-le}
use Rattle.std.proofs.lemmas.List.{drop-replicate}
use lib.ListN.{length-append, length-replicate}
use Rattle.std.specs.Prelude.{slice_get}
use Rattle.capi.specs.Report.{said, failed, padded, plain_after}
use Rattle.capi.specs.Names.{names, name_of, name_places, named, name_said}

past : (l : List (List ℕ)) (k : ℕ) → length l ≤ k → slice_get l k ≡ None
past [] k h = refl
past (s ∷ l) zero h = absurd (omega arith)
past (s ∷ l) (suc k) h = past l k (omega arith)

pub no_name : (n : ℕ) → (0 < n → n ≤ 46 → ⊥) → None ≡ name_of n
unfolding name_of names
no_name zero h = refl
no_name (suc n) h = sym (past names n (omega (arith, h)))

-- what an entry says

module _ (n room : ℕ) where
  pub no_room : room < 32 → failed 101 ≡ name_said n room
  unfolding name_said
  no_room h = simp (lt-ltb room 32 h)

  has_room : 32 ≤ room → named (name_of n) ≡ name_said n room
  unfolding name_said
  has_room h = simp (le-ltb room 32 h)

  pub unnamed : 32 ≤ room → None ≡ name_of n → failed 101 ≡ name_said n room
  unnamed h e = ap named e ∙ has_room h

  pub has_name : {s : List ℕ} → 32 ≤ room → Some s ≡ name_of n → said (padded name_places 0 s) ≡ name_said n room
  has_name h e = ap named e ∙ has_room h

-- each name is short

each_short : List (List ℕ) → Bool
each_short [] = true
each_short (x ∷ l) = leb (length x) 31 && each_short l

short_in : (l : List (List ℕ)) (k : ℕ) (s : List ℕ) → each_short l ≡ true → Some s ≡ slice_get l k → length s ≤ 31
unfolding each_short
short_in [] k s h e = absurd (let z : ◌≡◌ {A = ℕ} 0 1 = cc in omega arith)
short_in (x ∷ l) zero s h e = by (leb (length x) 31) refl h
  where
    by : (t : Bool) → leb (length x) 31 ≡ t → t && each_short l ≡ true → length s ≤ 31
    by true q k = let z : s ≡ x = cc in rw z (leb-true _ _ q)
    by false q k = absurd (let z : ◌≡◌ {A = ℕ} 0 1 = cc in omega arith)
short_in (x ∷ l) (suc k) s h e = by (leb (length x) 31) h (λ q. short_in l k s q e)
  where
    by : (t : Bool) → t && each_short l ≡ true → (each_short l ≡ true → length s ≤ 31) → length s ≤ 31
    by true q next = next q
    by false q next = absurd (let z : ◌≡◌ {A = ℕ} 0 1 = cc in omega arith)

all_short : each_short names ≡ true
unfolding each_short names
all_short = refl

pub name_short : (n : ℕ) (s : List ℕ) → Some s ≡ name_of n → length s ≤ 31
unfolding name_of
name_short zero s e = absurd (let z : ◌≡◌ {A = ℕ} 0 1 = cc in omega arith)
name_short (suc n) s e = short_in names n s all_short e

-- a name with zeros behind it fills its places
pub fills : (s : List ℕ) → length s ≤ 31 → length (padded name_places 0 s) ≡ 32
fills s h = length-append s (replicate (32 - length s) 0) ∙ ap (λ n. length s + n) (length-replicate (32 - length s) 0) ∙ omega arith

pub rest : {x : List ℕ} (s : List ℕ) → x ≡ s → x ++ drop (length s) (replicate name_places 0) ≡ padded name_places 0 s
rest s e = rw (e, drop-replicate {X = ℕ} (length s) name_places 0) refl

pub front_is : {x : List ℕ} (s old : List ℕ) → 32 ≤ length old → length s ≤ 31 → x ≡ padded name_places 0 s → length (take 32 old) ≡ length x
front_is s old h k e = length-take-le 32 old h ∙ sym (fills s k) ∙ ap length (sym e)

-- what is left in the buffer
pub laid : {x : List ℕ} (n : ℕ) (s old : List ℕ) → 32 ≤ length old → Some s ≡ name_of n → x ≡ padded name_places 0 s
    → x ++ drop 32 old ≡ plain_after (name_said n (length old)) old
laid n s old h e i =
    rw i (ap (λ m. padded name_places 0 s ++ drop m old) (sym (fills s (name_short n s e))) ∙ ap (λ y. plain_after y old) (has_name n (length old) h e))
