-- `line::entry::line_messages` meets its contract: a call that is taken is answered by `send_taken`, one that is refused leaves
-- all as it came.
-- Assumes nothing.
use Rattle.std.proofs.lemmas.Result.{err_from_is_err_and}
use Rattle.line.proofs.Refusing.{messages_taken}
use Rattle.line.proofs.EntryLaws.{messages_done, messages_none}
use Rattle.line.proofs.entry.line_messages.Goals as goal

pub send_taken-requires : goal.send_taken-requires
send_taken-requires c =
    let s = c.args in
    messages_taken s.degree s.incoming.now s.channel.now s.messages.now _ c.in_ok-d.ensures

pub returns : goal.returns
returns c =
    let s = c.args in
    messages_done s.degree s.incoming.now s.channel.now _ s.messages.now c.in_ok-d.ensures (rw c.of_numbers-filling.ensures at c.send_taken.ensures)

pub returns-in_err-d : goal.returns-in_err-d
returns-in_err-d c =
    let s = c.args in
    let p = err_from_is_err_and c.from_residual.result c.from_residual.ensures.1 in
    rw (p.1, p.2) (messages_none s.degree s.incoming.now s.channel.now _ s.messages.now _ c.in_err-d.ensures)
