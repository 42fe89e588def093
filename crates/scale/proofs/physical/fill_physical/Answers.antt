use Rattle.std.proofs.Common.{length, refl, sym, rules}
use lib.ListN.{length-map}
use Rattle.scale.proofs.Filling.{ready, fields_refused, no_room, fits_room}
use Rattle.scale.proofs.physical.fill_physical.Goals as goal

pub returns-in_err-v : goal.returns-in_err-v
returns-in_err-v c = rw (fields_refused _ _ _ _ _ (sym c.in_err-v.ensures)) (record { result_value = search rules; physical_after = refl })

pub returns-then-physical-codes : goal.returns-then-physical-codes
returns-then-physical-codes c = rw (no_room _ _ _ _ _ (sym c.in_ok-v.ensures) c.if-physical-codes.true) (record { result_value = refl; physical_after = refl })

pub fill-requires : goal.fill-requires
fill-requires c = (ready _ _ _ (sym c.in_ok-v.ensures), search rules)

pub returns : goal.returns
returns c =
    let fits =
    fits_room c.args.scheme c.args.file.now c.args.block c.args.codes.now (length c.args.physical.now)
    (sym c.in_ok-v.ensures) c.if-physical-codes.false in
    rw fits (record { result_value = refl; physical_after = rw length-map c.fill.ensures })
