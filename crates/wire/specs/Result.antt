-- What an entry answers: a value, or a refusal; and what a lent buffer holds afterwards.
use Rattle.std.specs.Prelude.{List, ◌++◌, Bool, true, false, length, drop}
use Rattle.std.specs.Prelude as Std
use Rattle.wire.specs.Refusal.{Refusal, refusal_of}
use Rattle.wire.specs.declared.error.Level3DecodeError.{Level3DecodeError}

pub data Result (A : Type 0) : Type 0 where
  accepted : A → Result A
  refused : Refusal → Result A

-- what a function's result says: its value, or the number and values of its error
abbrev pub answer : {A : Type 0} → Std.Result A Level3DecodeError → Result A
answer (Std.Ok a) = accepted a
answer (Std.Err e) = refused (refusal_of e)

-- go on with the value; a refusal is passed on
abbrev pub then : {A B : Type 0} → Result A → (A → Result B) → Result B
then (accepted a) f = f a
then (refused x) f = refused x

-- a refusal where the test holds, else what follows
abbrev pub refuse : {A : Type 0} → Bool → Refusal → Result A → Result A
refuse true x r = refused x
refuse false x r = r

-- A lent buffer afterwards: untouched where the answer is a refusal; else the first places hold what the answer gives, and the later
-- places keep their contents.
abbrev pub lent : {A B : Type 0} → Result B → (B → List A) → List A → List A
lent (accepted b) new old = new b ++ drop (length (new b)) old
lent (refused x) new old = old
