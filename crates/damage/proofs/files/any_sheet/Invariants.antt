-- `files::any_sheet` meets its contract. The loop's invariant: the cells are cells so far. Assumes nothing.
use Rattle.second.specs.Working.Loops.{Below}
use Rattle.damage.proofs.files.any_sheet.Given as goal

abbrev pub invariant-loop-cell : goal.invariant-loop-cell
invariant-loop-cell l = Below 3 l.cell-items
