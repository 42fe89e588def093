use Rattle.show.proofs.rooms.physical.Goals as goal

pub returns : goal.returns
returns c = c.zeros.ensures
