-- `turning::turn_line` meets its contract: both sides have the same bytes.
-- Assumes nothing.
use Rattle.std.proofs.Common.{rules, arith, sym, ◌∙◌}
use Rattle.std.proofs.lemmas.List.{ext_get_or, get_or-map, length-map}
use Rattle.text.proofs.turning.turn_line.Goals as goal

pub loop-i-preserved : goal.loop-i-preserved
loop-i-preserved g c = (search rules, λ f h k q. let e = h _ _ c.by.ensures in let w = c.loop-i.invariant.1 f h in search rules)

pub returns : goal.returns
returns g c =
    λ f h.
    let s = c.args in
    let long = c.loop-i.invariant.0 ∙ c.requires.room in
    ext_get_or 0 _ _ (long ∙ sym (length-map s.line.now f))
    (λ k q. c.loop-i.invariant.1 f h k (omega (arith, long, q)) ∙ sym (get_or-map f s.line.now k 0 0 (omega (arith, long, q))))
