-- `codes::Code::power` meets its contract. The loop's invariant: x is the power of the turns made. Assumes nothing.
use Rattle.std.proofs.Common.{refl, ◌∙◌, rules}
use Rattle.second.specs.Working.Codes.{power_of}
use Rattle.second.proofs.Loops.{power_next}
use Rattle.second.proofs.codes.Code.power.Goals as goal

pub loop-init : goal.loop-init
unfolding power_of
loop-init c = (search rules, refl, search rules)

pub loop-preserved : goal.loop-preserved
loop-preserved c =
    let turn = c.loop in
    (search rules, c.times_alpha-x.ensures.0 ∙ power_next c.args.self.n turn.counter turn.invariant.1, search rules)
