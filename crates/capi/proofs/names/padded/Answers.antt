use Rattle.capi.proofs.Naming.{rest}
use Rattle.capi.proofs.names.padded.Goals as goal

pub returns : goal.returns
returns c = rest _ c.copy_from_slice.ensures.after
