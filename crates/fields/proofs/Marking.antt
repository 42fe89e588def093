-- The marks, one for each number: the loop of `first_repeat`. Assumes nothing.
use Rattle.std.specs.Prelude.{Some}
use Rattle.wire.specs.Text.{member}
use Rattle.wire.proofs.Walks.{member_none, member_more}
use mathlib.Core.Path.{◌≡◌, refl, sym, ◌∙◌}
use mathlib.Core.Bool.{Bool, true, false, ◌||◌}
use mathlib.Core.List.{List, [], ◌∷◌, ◌++◌}
use Prim.Native.Nat.{ℕ, ◌<◌}
use native.Mathlib.Omega.{arith}
use lib.Dec.{eqb}
use lib.ListN.{length, get_or, set, replicate, length-set, length-replicate, get_or-replicate}
use lib.Seq.{get_or-set_same, get_or-set_other}
use borrow.Author.Tests.{eqb-true, eqb-false}
use Rattle.fields.specs.declared.plan.Entry.{Entry}
use Rattle.fields.specs.declared.plan.Record.{Record}
use Rattle.fields.specs.declared.plan.Record.TheVariants.{Field, Strip, Malformed}
use Rattle.fields.specs.Plan.{numbers_in, repeats, repeated_at, first_of}
use Rattle.fields.specs.Marks.{again, marked, Halfword}

-- a mark is set exactly at the numbers that were named
pub record Told (marks : List Bool) (named : List ℕ) : Type 0 where
  pub long : length marks ≡ 65536
  pub tell : (n : ℕ) → n < 65536 → get_or marks n false ≡ member n named

pub told_none : Told (replicate 65536 false) []
told_none = record { long = length-replicate {A = Bool} 65536 false; tell = λ n h. get_or-replicate {A = Bool} 65536 n false false h ∙ sym (member_none n) }

again_is : {marks : List Bool} {named : List ℕ} → Told marks named → (x : Record) → Halfword x → again marks x ≡ repeats named x
again_is t (Field n) h = t.tell n h
again_is t (Strip r g c w) h = refl
again_is t Malformed h = refl

told_next : {marks : List Bool} {named : List ℕ} → Told marks named → (x : Record) → Halfword x → Told (marked marks x) (numbers_in x ++ named)
told_next {marks} {named} t (Field n) h = record {
  long = length-set marks n true ∙ t.long;
  tell = λ m l. by_case m l (eqb n m) refl ∙ sym (member_more m n named);
}
  where
    by_case : (m : ℕ) → m < 65536 → (b : Bool) → eqb n m ≡ b → get_or (set marks n true) m false ≡ (eqb n m || member m named)
    by_case m l true e = rw (e, sym (eqb-true n m e)) (get_or-set_same marks n true false (omega (arith, t.long)))
    by_case m l false e = rw e (get_or-set_other marks n m true false (λ q. eqb-false n m e (sym q)) ∙ t.tell m l)
told_next t (Strip r g c w) h = t
told_next t Malformed h = t

-- the loop of `first_repeat`: `es` are left of `all`
pub record Marking (all es : List Entry) (marks : List Bool) : Type 0 where
  pub named : List ℕ
  pub told : Told marks named
  pub left : first_of (repeated_at named es) ≡ first_of (repeated_at [] all)

module _ {all es rest : List Entry} {marks : List Bool} {x : Entry} (w : Marking all es marks) (h : es ≡ x ∷ rest) {b : Bool} (i : b ≡ again marks x.item)
    (k : Halfword x.item) where
  tested : repeats w.named x.item ≡ b
  tested = sym (i ∙ again_is w.told x.item k)

  pub marking_stop : b ≡ true → Some x.at ≡ first_of (repeated_at [] all)
  unfolding repeated_at
  marking_stop t = rw (h, tested ∙ t) at w.left

  pub marking_turn : b ≡ false → {marks' : List Bool} → marks' ≡ marked marks x.item → Marking all rest marks'
  unfolding repeated_at
  marking_turn t is_m = record {
    named = numbers_in x.item ++ w.named;
    told = rw is_m (told_next w.told x.item k);
    left = rw (h, tested ∙ t) at w.left;
  }
