-- `filter::sums::Summed::six` meets its contract: the first three are handed the sum of no tap.
use native.Mathlib.Omega.{arith}
use lib.Dec.{lit<}
use Rattle.laws.proofs.Sums.{begun, passed}
use Rattle.filter.proofs.sums.Summed.six.Goals as goal

pub three-s3-requires : goal.three-s3-requires
three-s3-requires g c = (lit< tt, ((omega (arith, c.requires), omega arith), passed c.start.type_inv (begun c.start.ensures.value c.start.ensures.bound)))
