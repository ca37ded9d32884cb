-- `FieldTables::locate_single` meets its contract: the one position that can fit is the exponent of s1.
-- Assumes nothing.
use Rattle.field.proofs.Search.{single_zero, single_unlike, single_one, single_unfit}
use Rattle.field.proofs.tables.FieldTables.locate_single.Goals as goal

pub returns-then-s3-eq0 : goal.returns-then-s3-eq0
returns-then-s3-eq0 c =
    let a = c.args in
    single_zero a.self.now.degree a.s1 a.s3 c.if-s1-eq0.true c.if-s3-eq0.true

pub returns-else-s3-eq0 : goal.returns-else-s3-eq0
returns-else-s3-eq0 c =
    let a = c.args in
    single_unlike a.self.now.degree a.s1 a.s3 c.if-s1-eq0.true c.if-s3-eq0.false

pub returns-then-weight-s3 : goal.returns-then-weight-s3
returns-then-weight-s3 c =
    let a = c.args in
    let i = c.log-i in
    single_one a.self.now.degree a.s1 a.s3 i.result i.ensures.0 i.ensures.1 (rw c.weight.ensures at c.if-weight-s3.true)

pub returns-else-weight-s3 : goal.returns-else-weight-s3
returns-else-weight-s3 c =
    let a = c.args in
    let i = c.log-i in
    single_unfit a.self.now.degree a.s1 a.s3 i.result i.ensures.0 i.ensures.1 c.if-s1-eq0.false (rw c.weight.ensures at c.if-weight-s3.false)
