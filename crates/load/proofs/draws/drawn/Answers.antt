-- `draws::drawn` meets its contract: the sum wraps.
-- Assumes nothing.
use Rattle.std.proofs.Common.{refl}
use Rattle.load.specs.Load.{drawn}
use Rattle.load.proofs.draws.drawn.Goals as goal

pub returns : goal.returns
unfolding drawn
returns c = refl
