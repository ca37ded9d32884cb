-- `line::refusals::messages_test` meets its contract: the degree is tested first, then what `lines_test` tests.
-- Assumes nothing.
use Rattle.std.proofs.lemmas.Result.{err_from_is_err_and}
use Rattle.line.proofs.Refusing.{messages_unknown}
use Rattle.line.proofs.refusals.messages_test.Goals as goal

pub returns-in_err-d : goal.returns-in_err-d
returns-in_err-d c =
    let s = c.args in
    let p = err_from_is_err_and c.from_residual.result c.from_residual.ensures.1 in
    rw (p.1, p.2) (messages_unknown s.degree s.incoming.now s.channel.now s.messages.now c.in_err-d.ensures.0)
