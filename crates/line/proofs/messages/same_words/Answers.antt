-- `line::messages::same_words` meets its contract: both halves are equal.
-- Assumes nothing.
use mathlib.Core.Path.{◌∙◌}
use native.Mathlib.Omega.{arith}
use Rattle.words.proofs.Halves.{same_values}
use Rattle.line.proofs.messages.same_words.Goals as goal

pub returns : goal.returns
returns c = c.eq.ensures ∙ same_values c.args.one c.args.two (omega arith) (omega arith)
