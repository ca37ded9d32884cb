-- `step::decoded` meets its contract: the numbers that are lent are the filling words, of zeros.
-- Assumes nothing.
use Rattle.std.proofs.Common.{◌*◌, length, ap, ◌∙◌, arith}
use Rattle.std.proofs.lemmas.List.{length-replicate}
use Rattle.degree.specs.Degree.{size}
use Rattle.array.specs.Plain.{fillings}
use Rattle.text.proofs.SheetLaws.{numbers_are, zero_fillings}
use Rattle.text.proofs.step.decoded.Goals as goal

pub decode_array-requires : goal.decode_array-requires
decode_array-requires c =
    let d = c.args.d in
    let long = ap length (numbers_are d c.size_of-numbers.ensures) ∙ length-replicate (4 * size d) 0 in
    (c.requires.0, c.requires.1, long ∙ omega arith, omega arith)

pub returns : goal.returns
returns c =
    let d = c.args.d in
    let zero = ap fillings (numbers_are d c.size_of-numbers.ensures) ∙ zero_fillings d in
    rw zero at c.decode_array.ensures
