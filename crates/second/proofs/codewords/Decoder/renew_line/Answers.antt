-- `codewords::Decoder::renew_line` meets its contract: lines taken, messages and lines put are of cells. Assumes nothing.
use Rattle.std.proofs.Common.{arith, rules}
use Rattle.second.proofs.Ranges.{below_taken, below_with}
use Rattle.second.proofs.codewords.Decoder.renew_line.Goals as goal

pub returns : goal.returns
returns c =
    let s = c.args in
    let n = s.self.now.code.n in
    let i = s.i in
    (search rules, λ h g. rw c.put_line.ensures (below_with n i 3 c.messages-sent.result.line s.cells.now (c.messages-sent.ensures.1 (rw c.take_line-incoming.ensures (below_taken n i 3 s.cells.now (omega arith) g)) (rw c.take_line-channel.ensures (below_taken n i 3 s.received.now (omega arith) h))) g))
