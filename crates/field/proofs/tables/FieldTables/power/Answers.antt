-- `FieldTables::power` meets its contract: the low section of weight i is α^i.
-- Assumes nothing.
use Rattle.field.proofs.Weights.{weight_power}
use Rattle.field.proofs.tables.FieldTables.power.Goals as goal

pub returns : goal.returns
returns c = rw c.weight.ensures (weight_power c.args.self.now.degree c.args.i c.requires)
