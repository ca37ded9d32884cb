-- `FieldTables::locate` meets its contract: the answer of at most one position, where it is one; else that of the search for two.
-- Assumes nothing.
use Rattle.field.proofs.Search.{single_at_zero}
use Rattle.field.proofs.tables.FieldTables.locate.Goals as goal

pub returns-then-s1-eq0 : goal.returns-then-s1-eq0
returns-then-s1-eq0 c =
    let a = c.args in
    let r = c.locate_single-single in
    single_at_zero a.self.now.degree a.s1 a.s3 r.result r.ensures c.if-s1-eq0.true
