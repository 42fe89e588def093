use Rattle.show.proofs.BlankValues.{blank_of}
use Rattle.show.proofs.answer.blank.Goals as goal

pub returns : goal.returns
returns c = blank_of (λ v. v.items) c.physical.result 720000 c.physical.ensures
