-- `iterations::run` meets its contract. The loop's invariant: what is left of the plain decoding, from the array at hand on, ends
-- with what all of it ends with.
-- Assumes nothing.
use Rattle.array.proofs.RunLaws.{RunAt}
use Rattle.array.proofs.iterations.run.Given as goal

abbrev pub invariant-loop-k : goal.invariant-loop-k
invariant-loop-k l = RunAt l.tables.degree l.iterations l.initial.cells l.initial.rows l.channel.rows.now l.channel.columns.now l.filling l.cells l.rows l.count l.k
