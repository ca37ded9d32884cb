-- `writing::Output::put_number` meets its contract: the digits are written, and then the byte.
-- Assumes nothing.
use Rattle.std.proofs.Common.{◌∷◌, [], length, ap, ◌∙◌, arith, append_assoc, length-append}
use Rattle.text.specs.Text.{decimal, number_text}
use Rattle.text.proofs.Decimals.{decimal_length}
use Rattle.text.proofs.writing.Output.put_number.Goals as goal

pub put_decimal-requires : goal.put_decimal-requires
put_decimal-requires c =
    omega (arith, decimal_length c.args.number (omega arith), c.requires)

pub put-requires : goal.put-requires
put-requires c =
    omega (arith, ap length c.put_decimal.ensures ∙ length-append c.args.self.now (decimal c.args.number), decimal_length c.args.number (omega arith), c.requires)

pub returns-clause-text : goal.returns-clause-text
unfolding number_text
returns-clause-text c = rw (c.put.ensures, c.put_decimal.ensures) (append_assoc c.args.self.now (decimal c.args.number) (c.args.end ∷ []))

pub returns-clause-short : goal.returns-clause-short
returns-clause-short c =
    omega (arith, ap length c.put.ensures ∙ length-append c.put_decimal.new.self (c.args.end ∷ []), ap length c.put_decimal.ensures ∙ length-append c.args.self.now (decimal c.args.number), decimal_length c.args.number (omega arith))
