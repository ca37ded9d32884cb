-- `line::refusals::lines_test` meets its contract: the lengths and the incoming line first, then the channel line.
-- Assumes nothing.
use Rattle.std.proofs.lemmas.Result.{err_from_is_err_and}
use Rattle.line.proofs.Refusing.{messages_refused, messages_last}
use Rattle.line.proofs.refusals.lines_test.Goals as goal

pub returns-in_err-lent_test : goal.returns-in_err-lent_test
returns-in_err-lent_test c =
    let s = c.args in
    let p = err_from_is_err_and c.from_residual.result c.from_residual.ensures.1 in
    rw (p.1, p.2) (messages_refused s.d s.incoming.now s.channel.now s.messages.now c.cells-n.ensures _ c.in_err-lent_test.ensures)

pub returns : goal.returns
returns c =
    let s = c.args in
    messages_last s.d s.incoming.now s.channel.now s.messages.now c.cells-n.ensures c.cells_test.result c.in_ok-lent_test.ensures.0 c.cells_test.ensures
