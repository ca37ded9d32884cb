-- `halves::filling_word` meets its contract: the two numbers of word i.
-- Assumes nothing.
use mathlib.Core.Path.{◌∙◌}
use Rattle.array.proofs.Fillings.{fillings_at}
use Rattle.array.proofs.halves.filling_word.Goals as goal

pub returns : goal.returns
returns c = c.of_numbers.ensures ∙ fillings_at c.args.filling.now c.args.i c.requires
