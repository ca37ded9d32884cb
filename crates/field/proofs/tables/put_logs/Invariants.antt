-- `tables::put_logs` meets its contract: no two powers are equal, so no entry is put twice.
-- Assumes nothing.
use Rattle.field.proofs.Filling.{LogsTo}
use Rattle.field.proofs.tables.put_logs.Given as goal

abbrev pub invariant-loop-i : goal.invariant-loop-i
invariant-loop-i l = LogsTo l.powers l.i l.logs
