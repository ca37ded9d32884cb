-- `tallies::put_digits` meets its contract.
use Rattle.std.proofs.Common.{◌-◌, ◌∙◌, arith}
use Rattle.std.proofs.lemmas.List.{drop-set-lt}
use Rattle.second.proofs.Digits.{digits_next}
use Rattle.second.proofs.tallies.put_digits.Goals as goal

pub loop-i-preserved : goal.loop-i-preserved
loop-i-preserved c =
    let turn = c.loop-i in
    let many = c.args.many in (
      digits_next turn.i many turn.rest turn.digits (omega arith) (omega arith) (omega arith) ∙ turn.invariant.0,
      drop-set-lt many turn.digits (turn.i - 1) _ (omega arith) ∙ turn.invariant.1,
    )
