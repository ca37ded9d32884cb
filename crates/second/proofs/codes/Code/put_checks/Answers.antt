-- `codes::Code::put_checks` meets its contract. The loop's invariant: the first cells are written. Assumes nothing.
use Rattle.std.proofs.Common.{◌/◌, ◌%◌, ◌^◌, refl, rules}
use Rattle.second.specs.Working.Loops.{written}
use Rattle.second.proofs.Loops.{written_next}
use Rattle.second.proofs.codes.Code.put_checks.Goals as goal

pub loop-i-init : goal.loop-i-init
unfolding written
loop-i-init c = (search rules, refl)

pub loop-i-preserved : goal.loop-i-preserved
loop-i-preserved c =
    let turn = c.loop-i in
    let s = c.args in
    (search rules, written_next (λ k. k) (λ k. s.checks / 2 ^ k % 2) turn.i s.line turn.invariant.1)
