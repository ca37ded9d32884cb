-- `writing::Output::put_decimal` meets its contract: a number of two digits or more is written as the number without its last digit, and
-- that digit.
-- Assumes nothing.
use Rattle.std.proofs.Common.{◌≡◌, ◌+◌, ◌/◌, ◌%◌, ◌<◌, ◌∷◌, [], length, arith, ap, ◌∙◌, append_assoc, length-append}
use Rattle.text.specs.Text.{decimal}
use Rattle.text.proofs.Decimals.{decimal_small, decimal_more, decimal_rest, less}
use Rattle.text.proofs.writing.Output.+put_decimal.Goals as goal

pub put-requires : goal.put-requires
put-requires t c =
    let n = c.args.number in
    let h : length (decimal n) ≡ 1 = rw (decimal_small n c.if-number-lt10.true) in
    omega (arith, c.requires)

pub put_decimal-requires : goal.put_decimal-requires
put_decimal-requires t c =
    let n = c.args.number in
    let h : n / 10 < t = omega (arith, less n c.if-number-lt10.false) in
    (h, omega (arith, decimal_rest n c.if-number-lt10.false, c.requires))

pub put-requires-else-number-lt10 : goal.put-requires-else-number-lt10
put-requires-else-number-lt10 t c =
    let n = c.args.number in
    omega (arith, ap length c.put_decimal.ensures ∙ length-append c.args.self.now (decimal (n / 10)), decimal_rest n c.if-number-lt10.false, c.requires)

pub returns-then-number-lt10 : goal.returns-then-number-lt10
returns-then-number-lt10 t c = rw (decimal_small _ c.if-number-lt10.true) c.put.ensures

pub returns-else-number-lt10 : goal.returns-else-number-lt10
returns-else-number-lt10 t c =
    let n = c.args.number in
    rw (decimal_more n c.if-number-lt10.false, c.put-else-number-lt10.ensures, c.put_decimal.ensures) (append_assoc c.args.self.now (decimal (n / 10)) ((48 + n % 10) ∷ []))
