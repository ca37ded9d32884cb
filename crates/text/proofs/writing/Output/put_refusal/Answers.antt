-- `writing::Output::put_refusal` meets its contract: its one line is four numbers.
-- Assumes nothing.
use Rattle.text.specs.Text.{refusal_text}
use Rattle.text.proofs.writing.Output.put_refusal.Goals as goal

pub returns : goal.returns
unfolding refusal_text
returns c = rw (c.put_numbers.ensures.text, c.requires)
