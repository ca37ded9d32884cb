-- `text::reading::is_shaped` meets its contract: the byte total first, then the newlines.
-- Assumes nothing.
use borrow.Author.Tests.{eq-eqb, ne_eqb}
use Rattle.text.specs.Text.{shaped}
use Rattle.text.proofs.reading.is_shaped.Goals as goal

pub returns-then-text-n : goal.returns-then-text-n
unfolding shaped
returns-then-text-n c = rw (eq-eqb _ _ c.if-text-n.true) c.all_placed.ensures

pub returns-else-text-n : goal.returns-else-text-n
unfolding shaped
returns-else-text-n c = rw (ne_eqb _ _ c.if-text-n.false)
