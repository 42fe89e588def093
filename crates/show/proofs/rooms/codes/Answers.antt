use Rattle.show.proofs.rooms.codes.Goals as goal

pub returns : goal.returns
returns c = c.zeros.ensures
