-- `loads::put_draws` meets its contract. The loop's invariant: the first draws are made, and s is that of the last. Assumes nothing.
use Rattle.std.proofs.Common.{◌+◌, ◌-◌, refl, ◌∙◌, rules}
use Rattle.second.specs.Working.Loops.{written}
use Rattle.second.specs.Working.Loads.{shifted_times, draw_of}
use Rattle.second.proofs.Loops.{written_next, shifted_next}
use Rattle.second.proofs.loads.put_draws.Goals as goal

pub loop-k-init : goal.loop-k-init
unfolding written shifted_times
loop-k-init c = (search rules, refl, refl)

pub loop-k-preserved : goal.loop-k-preserved
loop-k-preserved c =
    let turn = c.loop-k in
    let s = c.args in
    let after = c.shift-s.ensures ∙ shifted_next s.seed turn.k turn.invariant.1 in
    (search rules, after, rw (c.draw.ensures, after) (written_next (λ j. c.saturating_sub-last.result - j) (λ j. draw_of s.seed (j + 1)) turn.k s.draws.now turn.invariant.2))
