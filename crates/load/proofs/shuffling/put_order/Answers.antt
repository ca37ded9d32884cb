-- `shuffling::put_order` meets its contract.
-- Assumes nothing.
use Rattle.line.proofs.LineLaw.{list_to_length}
use Rattle.load.specs.Load.{order}
use Rattle.load.proofs.shuffling.put_order.Goals as goal

pub returns : goal.returns
unfolding order
returns c =
    rw (c.shuffle.ensures, c.number_places.ensures, list_to_length (λ p. p) _)
