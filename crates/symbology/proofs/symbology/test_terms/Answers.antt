use Rattle.symbology.proofs.Decode.{used, admitted}
use Rattle.symbology.proofs.symbology.test_terms.Goals as goal

-- the tests of use as one, or each by itself
pub returns : goal.returns
returns c = search (used, admitted)
