-- `tables::FieldTables::log` meets its contract: an element that is not 0 is a power, and its entry is the exponent.
-- Assumes nothing.
use Rattle.field.proofs.Reading.{log_at}
use Rattle.field.proofs.tables.FieldTables.log.Goals as goal

pub returns : goal.returns
returns c =
    let t = c.args.self.now in
    log_at t.degree t.entries.now.logs t.made.logs c.args.x c.requires.0 c.requires.1
