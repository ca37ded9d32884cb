-- `writing::Output::put_numbers` meets its contract: the numbers are written one after the other.
-- Assumes nothing.
use Rattle.std.proofs.Common.{append_assoc}
use Rattle.text.specs.Text.{numbers_text}
use Rattle.text.proofs.writing.Output.put_numbers.Goals as goal

pub returns-clause-text : goal.returns-clause-text
unfolding numbers_text
returns-clause-text c =
    simp (c.put_number-4.ensures.text, c.put_number-3.ensures.text, c.put_number-2.ensures.text, c.put_number.ensures.text, append_assoc)
