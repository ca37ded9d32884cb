-- `entry::read_long` meets its contract: what was found decides over the answer and over the cells.
-- Assumes nothing.
use Rattle.std.proofs.lemmas.Result.{err_from_is_err_and}
use Rattle.blocks.proofs.EntryLaws.{read_taken, read_refused}
use Rattle.blocks.proofs.entry.read_long.Goals as goal

pub returns : goal.returns
returns c =
    rw c.copy_from_slice.ensures.after
    (read_taken c.args.file.now c.args.cells.now _ c.read_file-found.result c.requires.0 c.requires.1 c.read_file-found.ensures c.in_ok-number.ensures)

pub returns-in_err-number : goal.returns-in_err-number
returns-in_err-number c =
    let p = err_from_is_err_and c.from_residual.result c.from_residual.ensures.1 in
    rw (p.1, p.2) (read_refused c.args.file.now c.args.cells.now _ c.read_file-found.result c.requires.0 c.requires.1 c.read_file-found.ensures _ c.in_err-number.ensures)
