-- `FieldTables::place` meets its contract: where both check sums are 0, no position is wrong.
-- Assumes nothing.
use Rattle.std.proofs.Common.{T, ap, eqb, eqb→eq, subst, sym}
use Rattle.laws.proofs.Tests.{and_left, and_right}
use Rattle.field.specs.Working.Positions.{usable}
use Rattle.field.proofs.Search.{nowhere}
use Rattle.field.proofs.tables.FieldTables.place.Goals as goal

pub returns-in_default : goal.returns-in_default
returns-in_default c =
    let a = c.args in
    let both = subst T (sym c.if-s1-s3.true) tt in
    let first = eqb→eq a.s1 0 (and_left (eqb a.s1 0) (eqb a.s3 0) both) in
    let second = eqb→eq a.s3 0 (and_right (eqb a.s1 0) (eqb a.s3 0) both) in
    ap (usable (eqb a.parity 0)) (nowhere a.self.now.degree a.s1 a.s3 first second)
