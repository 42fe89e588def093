use Rattle.symbology.proofs.Decode.{used}
use Rattle.symbology.proofs.symbology.test_use.Goals as goal

pub returns : goal.returns
returns c = search used
