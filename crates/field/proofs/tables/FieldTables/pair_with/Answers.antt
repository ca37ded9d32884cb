-- `FieldTables::pair_with` meets its contract: with one position known, s1 leaves one element for the other.
-- Assumes nothing.
use lib.Bits.{xor_lt}
use Rattle.degree.specs.Degree.{bits}
use Rattle.field.proofs.Powers.{power_lt}
use Rattle.field.proofs.Weights.{weight_power}
use Rattle.field.proofs.Search.{second_alone, second_fits, second_unfit}
use Rattle.field.proofs.tables.FieldTables.pair_with.Goals as goal

pub log-j-requires : goal.log-j-requires
log-j-requires c =
    let a = c.args in
    let d = a.self.now.degree in
    (xor_lt (bits d) a.s1 _ c.requires.0 (rw (c.weight-weight.ensures, weight_power d a.i c.requires.3) (power_lt d a.i)), c.if-rest-eq0.false)

pub returns-then-rest-eq0 : goal.returns-then-rest-eq0
returns-then-rest-eq0 c =
    let a = c.args in
    second_alone a.self.now.degree a.s1 a.s3 a.i c.requires.3 (rw c.weight-weight.ensures at c.if-rest-eq0.true)

pub returns-then-weight-sums : goal.returns-then-weight-sums
returns-then-weight-sums c =
    let a = c.args in
    let j = c.log-j in
    let w = c.weight-weight.ensures in
    second_fits a.self.now.degree a.s1 a.s3 a.i c.requires.3 j.result j.ensures.0 (rw w at j.ensures.1) c.requires.2 (rw (w, c.weight.ensures) at c.if-weight-sums.true)

pub returns-else-weight-sums : goal.returns-else-weight-sums
returns-else-weight-sums c =
    let a = c.args in
    let j = c.log-j in
    let w = c.weight-weight.ensures in
    second_unfit a.self.now.degree a.s1 a.s3 a.i c.requires.3 j.result j.ensures.0 (rw w at j.ensures.1) (rw (w, c.weight.ensures) at c.if-weight-sums.false)
