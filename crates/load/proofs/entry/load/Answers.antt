-- `entry::load` meets its contract: the tests of a taken call say that what is lent is of the right form.
-- Assumes nothing.
use Rattle.std.proofs.Common.{refl, arith}
use Rattle.std.proofs.lemmas.Result.{err_from_is_err_and}
use Rattle.load.proofs.EntryLaws.{load_ready, loaded_taken, loaded_refused}
use Rattle.load.proofs.entry.load.Goals as goal

pub load_taken-requires : goal.load_taken-requires
load_taken-requires c =
    let s = c.args in
    let t = load_ready s.degree s.seed s.wrong s.unsure s.message.now s.cells.now c.in_ok-d.d c.in_ok-d.ensures in
    (t.0, t.1, omega (arith, t.2))

pub returns : goal.returns
returns c =
    let s = c.args in
    loaded_taken s.degree s.seed s.wrong s.unsure s.message.now s.cells.now c.in_ok-d.ensures c.load_taken.ensures

pub returns-in_err-d : goal.returns-in_err-d
returns-in_err-d c =
    let s = c.args in
    let p = err_from_is_err_and c.from_residual.result c.from_residual.ensures.1 in
    rw (p.1, p.2) (loaded_refused s.degree s.seed s.wrong s.unsure s.message.now s.cells.now _ refl c.in_err-d.ensures)
