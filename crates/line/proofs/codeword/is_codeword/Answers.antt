-- `line::codeword::is_codeword` meets its contract: the check sums of the packed word are those of its cells.
-- Assumes nothing.
use Rattle.line.specs.Codeword.{is_codeword}
use Rattle.line.proofs.RowLaws.{word_sums}
use Rattle.line.proofs.codeword.is_codeword.Goals as goal

pub returns : goal.returns
unfolding is_codeword
returns c = λ ws p.
    let s = word_sums p c.syndrome-s.ensures in
    rw (s.parity, s.s1, s.s3)
