-- `words::word::grid::transpose_block` meets its contract: a block of numbers that are 0 is its own transpose.
-- Assumes nothing.
use mathlib.Core.Path.{sym, ◌∙◌}
use Rattle.words.proofs.ZeroLaws.{zeros_turned}
use Rattle.words.proofs.word.grid.transpose_block.Goals as goal

pub returns-else-not-all_zero-clause-turned : goal.returns-else-not-all_zero-clause-turned
returns-else-not-all_zero-clause-turned c = zeros_turned c.args.numbers.now c.requires (sym c.all_zero.ensures.zero ∙ c.if-not-all_zero.false)
