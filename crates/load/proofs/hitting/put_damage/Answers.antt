-- `hitting::put_damage` meets its contract: the first places are inverted, the next made unsure.
-- Assumes nothing.
use Rattle.std.proofs.Common.{◌-◌, rules}
use Rattle.load.specs.Load.{damaged}
use Rattle.load.proofs.Changing.{sub_first}
use Rattle.load.proofs.hitting.put_damage.Goals as goal

pub returns : goal.returns
unfolding damaged
returns c =
    rw (c.change-2.ensures (λ x. 2) (λ x y p. search rules), c.change.ensures (λ x. 1 - x) (λ x y p. search rules), sub_first c.args.wrong c.args.unsure)
