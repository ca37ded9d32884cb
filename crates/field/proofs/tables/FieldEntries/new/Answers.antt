-- `tables::FieldEntries::new` meets its contract: the arrays are made of zeros.
-- Assumes nothing.
use Rattle.laws.proofs.Lists.{zeros_at}
use Rattle.field.proofs.tables.FieldEntries.new.Goals as goal

pub returns : goal.returns
returns c = record { weights = zeros_at 128; sums = zeros_at 4096 }
