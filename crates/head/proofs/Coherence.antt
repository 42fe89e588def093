-- In every description record that is read each float is the stated operation on its whole number (M-110). Assumes nothing.
use Prim.Native.Nat.{ℕ}
use mathlib.Core.List.{List}
use mathlib.Core.Path.{◌≡◌, refl, sym, ap, ◌∙◌, subst}
use contract.Lifetimes.{Lfts}
use borrow.Fn.World.{ArgsD, ResD}
use borrow.Fn.Kinds.{ended_of}
use denote.Triple.Clauses.{AtExit}
use Rattle.std.specs.Prelude.{Ok}
use Rattle.wire.specs.Result.{accepted, answer as answer_of}
use Rattle.wire.proofs.Results.{one_value, through}
use Rattle.head.specs.declared.pdb.PdbFields.{PdbFields}
use Rattle.head.specs.Pdb.{hw_i16, hw_u16, hw_i32, pdb_fields, Coherent}
use Rattle.head.specs.contracts.pdb.read_pdb_fields.{signature}
use Rattle.head.proofs.pdb.read_pdb_fields.Kinds as kinds
use Rattle.head.proofs.pdb.read_pdb_fields.Reads as reads

pub coherent : (file : List ℕ) (block : ℕ) (f : PdbFields) → pdb_fields file block ≡ accepted f → Coherent f
unfolding pdb_fields
coherent file block f e =
    through (hw_i32 file block 2) _ f e λ lat _ e₁.
    through (hw_i32 file block 4) _ f e₁ λ lon _ e₂.
    through (hw_i16 file block 6) _ f e₂ λ feet _ e₃.
    through (hw_i16 file block 7) _ f e₃ λ code _ e₄.
    through (hw_u16 file block 9) _ f e₄ λ vcp _ e₅.
    through (hw_u16 file block 12) _ f e₅ λ days _ e₆.
    through (hw_i32 file block 13) _ f e₆ λ seconds _ e₇.
    through (hw_i16 file block 21) _ f e₇ λ elevation _ e₈.
    subst Coherent (one_value e₈) (record { latitude = refl; longitude = refl; height = refl; elevation = refl })

-- any call of `read_pdb_fields` that its contract allows
pub call_fields : (l : Lfts 1) (given : ArgsD signature l) (answer : ResD signature l) (last : AtExit (ended_of 1 kinds.ps kinds.r) l) → reads.Post l given answer last
    → (f : PdbFields) → answer ≡ Ok f → Coherent f
call_fields l given answer last allowed f is = coherent given.0.now given.1.0 f (sym allowed ∙ ap answer_of is)
