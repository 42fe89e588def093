-- An item of each kind after the other: where the cursor stands after each. Assumes nothing.
use Prim.Native.Nat.{ℕ, ◌+◌}
use mathlib.Core.List.{List}
use mathlib.Core.Path.{◌≡◌, refl, sym, ap, ap₂, ◌∙◌}
use Rattle.std.specs.Prelude as Std
use Rattle.wire.specs.Reading.{Ended, passed, halted, walk}
use Rattle.xdr.specs.Xdr.{string, int_array, parameter, counted}
use Rattle.wire.specs.declared.error.Level3DecodeError.{Level3DecodeError}
use Rattle.xdr.specs.Cursor.{ended, end_of, mapped, done, trimmed_part, string_part, array_part, Leaves}
use Rattle.xdr.specs.declared.xdr.XdrCursor.{XdrCursor}

pub record Stands (s : List ℕ) (p : ℕ) (c : XdrCursor) : Type 0 where
  pub payload : c.buf.now ≡ s
  pub place : c.pos ≡ p

module _ {A : Type 0} where
  end_ended : (r : Std.Result A Level3DecodeError) (p : ℕ) → end_of (ended r p) ≡ p
  end_ended (Std.Ok a) p = refl
  end_ended (Std.Err e) p = refl

  end_mapped : {B : Type 0} (f : A → B) (e : Ended A) → end_of (mapped f e) ≡ end_of e
  end_mapped f (passed a p) = refl
  end_mapped f (halted x p) = refl

  module _ (e : List ℕ → ℕ → Ended A) {s : List ℕ} {p : ℕ} {c c' : XdrCursor} {r : Std.Result A Level3DecodeError} (here : Stands s p c)
      (h : Leaves (e c.buf.now c.pos) r c c') where
    is : ended r c'.pos ≡ e s p
    is = h.answered ∙ ap₂ e here.payload here.place

    pub item : {q : ℕ} → q ≡ c'.pos → ended r q ≡ e s p
    item k = ap (ended r) k ∙ is

    pub next : {q : ℕ} → end_of (e s p) ≡ q → Stands s q c'
    next k = record { payload = ap (λ b. b.now) h.kept ∙ here.payload; place = sym (end_ended r c'.pos) ∙ ap end_of is ∙ k }

-- a part ends where its item does
pub end_string : (s : List ℕ) (p : ℕ) → end_of (string_part s p (walk string s p)) ≡ end_of (walk string s p)
end_string s p = end_mapped (trimmed_part s (p + 4)) (walk string s p)

pub end_array : (s : List ℕ) (p : ℕ) → end_of (array_part p (walk int_array s p)) ≡ end_of (walk int_array s p)
end_array s p = end_mapped (λ n. record { start = p + 4; len = n }) (walk int_array s p)

pub end_list : (s : List ℕ) (p : ℕ) → end_of (done (walk (counted parameter) s p)) ≡ end_of (walk (counted parameter) s p)
end_list s p = end_mapped (λ _. tt) (walk (counted parameter) s p)
