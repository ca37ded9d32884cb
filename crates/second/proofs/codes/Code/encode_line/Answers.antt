-- `codes::Code::encode_line` meets its contract. Assumes nothing.
use Rattle.second.specs.Working.Encoding.{encoded_line}
use Rattle.second.proofs.codes.Code.encode_line.Goals as goal

pub returns : goal.returns
unfolding encoded_line
returns c = rw (c.like.ensures.0, c.put_checks-whole.ensures, c.remainder.ensures.0, c.saturating_sub-last.ensures)
