-- `draws::next` meets its contract: s is stirred, and w grows.
-- Assumes nothing.
use Rattle.std.proofs.Common.{refl}
use Rattle.load.specs.Load.{grown}
use Rattle.load.proofs.draws.next.Goals as goal

pub returns : goal.returns
unfolding grown
returns c = (c.stir-s.ensures, refl)
