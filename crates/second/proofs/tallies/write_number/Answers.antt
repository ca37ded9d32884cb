-- `tallies::write_number` meets its contract: the digits that are put are what std writes for the number.
use Rattle.std.proofs.Common.{◌≡◌, take, decimal, sym, ◌∙◌, arith}
use Rattle.second.proofs.Digits.{last_digits-decimal}
use Rattle.second.proofs.tallies.write_number.Goals as goal

pub returns : goal.returns
returns g c =
    let number = c.args.number in
    let put = c.decimal-many in
    let spelled : decimal number ≡ take put.result put.new.digits = sym (put.ensures.digits ∙ last_digits-decimal put.result number put.ensures.count (omega arith)) in
    rw spelled c.write_bytes.ensures
