-- `tallies::say` meets its contract.
use Rattle.std.proofs.Common.{refl, arith}
use Rattle.std.proofs.lemmas.Result.{err_from_is_err_and}
use Rattle.laws.specs.Sums.{sum_to}
use Rattle.second.specs.Working.Lines.{is_like}
use Rattle.second.proofs.Loops.{sum_next}
use Rattle.second.proofs.Saying.{said_none, said_next, said_part}
use Rattle.second.proofs.tallies.say.Goals as goal

pub loop-byte-init : goal.loop-byte-init
unfolding sum_to
loop-byte-init g c = record {
  count = refl;
  few = omega arith;
  text = said_none c.args.line.now c.args.numbers.now _;
}

pub loop-byte-preserved : goal.loop-byte-preserved
loop-byte-preserved g c =
    let s = c.args in
    let turn = c.loop-byte in
    record {
      count = rw c.in_ok-said.ensures.count.0 (sum_next (is_like 35 s.line.now) turn.byte-index turn.invariant.count);
      few = omega (arith, c.in_ok-said.ensures.count.1);
      text = said_next s.line.now s.numbers.now turn.byte-index turn.said _ _ _ turn.invariant.count turn.invariant.text c.in_ok-said.ensures.text;
    }

pub returns-in_err-said-clause-left : goal.returns-in_err-said-clause-left
returns-in_err-said-clause-left g c =
    let s = c.args in
    let turn = c.loop-byte in
    let failed = err_from_is_err_and c.from_residual.result c.from_residual.ensures.1 in
    rw failed.1 (said_part s.line.now s.numbers.now turn.byte-index turn.said _ _ _ (omega arith) turn.invariant.count turn.invariant.text c.in_err-said.ensures.left)
