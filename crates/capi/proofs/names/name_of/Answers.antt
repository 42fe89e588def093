use Rattle.std.proofs.Common.{arith}
use Rattle.capi.proofs.Naming.{no_name}
use Rattle.capi.proofs.names.name_of.Goals as goal

pub returns-in_default : goal.returns-in_default
returns-in_default c = no_name _ (λ low high. omega arith)
