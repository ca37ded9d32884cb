-- `draws::stir` meets its contract: the shifts are those of its definition.
-- Assumes nothing.
use Rattle.std.proofs.Common.{refl}
use Rattle.load.specs.Load.{stirred}
use Rattle.load.proofs.draws.stir.Goals as goal

pub returns : goal.returns
unfolding stirred
returns c = refl
