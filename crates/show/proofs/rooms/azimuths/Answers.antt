use Rattle.show.proofs.rooms.azimuths.Goals as goal

pub returns : goal.returns
returns c = c.zeros.ensures
