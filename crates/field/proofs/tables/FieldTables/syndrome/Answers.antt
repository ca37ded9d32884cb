-- `FieldTables::syndrome` meets its contract: the sum of the weights holds the three check sums side by side.
-- Assumes nothing.
use mathlib.Core.Path.{◌∙◌}
use native.Mathlib.Omega.{arith}
use Rattle.laws.specs.Digits.{digits}
use Rattle.words.specs.Working.Word.{value, width}
use Rattle.field.proofs.Primitive.{primitive}
use Rattle.field.proofs.Weights.{s1_lt, s3_lt, weight_sum}
use Rattle.field.proofs.tables.FieldTables.syndrome.Goals as goal

pub returns : goal.returns
returns c =
    let d = c.args.self.now.degree in
    let cells = digits width (value c.args.word.now) in
    let e = c.weight_sum-sum.ensures ∙ weight_sum d cells in
    let l1 = s1_lt d cells in
    let l3 = s3_lt d cells in
    let room = (primitive d).room in
    record { s1 = omega arith; s3 = omega arith; parity = omega arith }
