use Rattle.std.proofs.Common.{ap, ◌∙◌, arith}
use Rattle.capi.specs.Report.{plain_number, plain_after}
use Rattle.capi.proofs.Naming.{no_room, unnamed, has_name, name_short, front_is, laid}
use Rattle.capi.proofs.names.l3_refusal_name.Goals as goal

pub returns-then-name-lt-NAME_PLACES-clause-value : goal.returns-then-name-lt-NAME_PLACES-clause-value
returns-then-name-lt-NAME_PLACES-clause-value c = ap plain_number (no_room _ _ c.if-name-lt-NAME_PLACES.true)

pub returns-then-name-lt-NAME_PLACES-clause-name_after : goal.returns-then-name-lt-NAME_PLACES-clause-name_after
returns-then-name-lt-NAME_PLACES-clause-name_after c = ap (λ x. plain_after x c.args.name.now) (no_room _ _ c.if-name-lt-NAME_PLACES.true)

pub padded-requires : goal.padded-requires
padded-requires c = let k = name_short _ _ (rw c.in-Some.is at c.name_of.ensures) in omega (arith, k)

pub copy_from_slice-requires : goal.copy_from_slice-requires
copy_from_slice-requires c =
    front_is _ c.args.name.now c.if-name-lt-NAME_PLACES.false (name_short _ _ (rw c.in-Some.is at c.name_of.ensures)) c.padded.ensures

pub returns-in-None-clause-value : goal.returns-in-None-clause-value
returns-in-None-clause-value c = ap plain_number (unnamed _ _ c.if-name-lt-NAME_PLACES.false (rw c.in-None.is at c.name_of.ensures))

pub returns-in-None-clause-name_after : goal.returns-in-None-clause-name_after
returns-in-None-clause-name_after c =
    ap (λ x. plain_after x c.args.name.now) (unnamed _ _ c.if-name-lt-NAME_PLACES.false (rw c.in-None.is at c.name_of.ensures))

pub returns-in-Some-clause-value : goal.returns-in-Some-clause-value
returns-in-Some-clause-value c = ap plain_number (has_name _ _ c.if-name-lt-NAME_PLACES.false (rw c.in-Some.is at c.name_of.ensures))

pub returns-in-Some-clause-name_after : goal.returns-in-Some-clause-name_after
returns-in-Some-clause-name_after c =
    let e = rw c.in-Some.is at c.name_of.ensures in
    laid _ _ c.args.name.now c.if-name-lt-NAME_PLACES.false e (c.copy_from_slice.ensures.after ∙ c.padded.ensures)
