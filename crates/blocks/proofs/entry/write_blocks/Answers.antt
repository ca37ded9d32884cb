-- `entry::write_blocks` meets its contract: the tests are those of a slice that is lent, and then the file is written.
-- Assumes nothing.
use Rattle.std.proofs.Common.{refl, arith}
use Rattle.std.proofs.lemmas.Result.{err_from_is_err_and}
use Rattle.blocks.proofs.EntryLaws.{write_asked, write_taken, write_refused}
use Rattle.blocks.proofs.entry.write_blocks.Goals as goal

pub write_file-requires : goal.write_file-requires
write_file-requires c = write_asked c.args.number c.args.cells.now c.args.file.now c.in_ok-lent_test.ensures.0

pub returns : goal.returns
returns c =
    write_taken c.args.number c.args.cells.now c.args.file.now (omega arith) c.in_ok-lent_test.ensures.0 c.write_file.ensures

pub returns-in_err-lent_test : goal.returns-in_err-lent_test
returns-in_err-lent_test c =
    let p = err_from_is_err_and c.from_residual.result c.from_residual.ensures.1 in
    rw (p.1, p.2) (write_refused c.args.number c.args.cells.now c.args.file.now _ c.in_err-lent_test.ensures refl)
