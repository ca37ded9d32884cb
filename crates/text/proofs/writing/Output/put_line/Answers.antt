-- `writing::Output::put_line` meets its contract: the cells as characters, and a newline after them.
-- Assumes nothing.
use Rattle.std.proofs.Common.{◌∷◌, [], map, append_assoc}
use Rattle.text.specs.Text.{char_of, line_text}
use Rattle.text.proofs.writing.Output.put_line.Goals as goal

pub returns : goal.returns
unfolding line_text
returns c = rw (c.put.ensures, c.put_cells.ensures) (append_assoc c.args.self.now (map char_of c.args.cells.now) (10 ∷ []))
