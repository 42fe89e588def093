-- The XDR items have no radial's data. Assumes nothing.
use Prim.Native.Nat.{ℕ, zero, suc}
use Rattle.wire.specs.Reading.{Flat}
use Rattle.wire.specs.declared.error.XdrItem.{XdrItem}
use Rattle.wire.proofs.Runs.{Plain, plain_then, plain_by, plain_give, plain_check, plain_remaining, plain_u32, plain_unread}
use Rattle.xdr.specs.Xdr.{short, pass, word, int, uint, float, string_body, string, array_count, pointer, list_head, further, elements, counted, parameter}

plain_short : (i : XdrItem) (n : ℕ) → Plain (short i n)
unfolding short
plain_short i n = plain_then _ (λ have. plain_check _ _) _ plain_remaining

pub plain_pass : (i : XdrItem) (n : ℕ) → Plain (pass i n)
unfolding pass
plain_pass i n = plain_by _ _ (plain_short i n) (plain_unread n)

plain_word : (i : XdrItem) → Plain (word i)
unfolding word
plain_word i = plain_by _ _ (plain_short i 4) plain_u32

plain_uint : Plain uint
unfolding uint
plain_uint = plain_word _

pub plain_int : Plain int
unfolding int
plain_int = plain_then _ (λ n. plain_give _) _ (plain_word _)

pub plain_float : Plain float
unfolding float
plain_float = plain_then _ (λ n. plain_give _) _ (plain_word _)

pub plain_string : Plain string
unfolding string string_body
plain_string =
    plain_then _ (λ n. plain_by _ _ (plain_check _ _) (plain_by _ _ (plain_by _ _ (plain_pass _ _) (plain_pass _ _)) (plain_give _))) _ plain_uint

pub plain_array_count : Plain array_count
unfolding array_count
plain_array_count = plain_then _ (λ n. plain_by _ _ (plain_check _ _) (plain_by _ _ (plain_short _ _) (plain_give _))) _ plain_uint

pub plain_list_head : Plain list_head
unfolding list_head pointer
plain_list_head = plain_then _ (λ n. plain_by _ _ (plain_pass _ _) (plain_by _ _ (plain_check _ _) (plain_give _))) _ plain_int

pub plain_parameter : Plain parameter
unfolding parameter
plain_parameter = plain_by _ _ plain_string (plain_by _ _ plain_string (plain_give _))

module _ {A : Type 0} (e : Flat A) (plain : Plain e) where
  plain_further : (n : ℕ) → Plain (further e n)
  unfolding further pointer
  plain_further zero = plain_give _
  plain_further (suc n) = plain_by _ _ (plain_pass _ _) (plain_then _ (λ a. plain_then _ (λ rest. plain_give _) _ (plain_further n)) _ plain)

  plain_elements : (n : ℕ) → Plain (elements e n)
  unfolding elements
  plain_elements zero = plain_give _
  plain_elements (suc n) = plain_then _ (λ a. plain_then _ (λ rest. plain_give _) _ (plain_further n)) _ plain

  pub plain_counted : Plain (counted e)
  unfolding counted
  plain_counted = plain_then _ plain_elements _ plain_list_head
