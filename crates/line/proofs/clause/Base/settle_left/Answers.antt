-- `Base::settle_left` meets its contract: the cells that are not left in the mask hold their messages, and the count lacks the costs of those that are.
-- Assumes nothing.
use mathlib.Core.Path.{subst}
use native.Mathlib.Omega.{arith}
use Rattle.laws.proofs.Masks.{mask_le}
use Rattle.degree.specs.Degree.{size}
use Rattle.words.specs.Working.Word.{value, width}
use Rattle.line.proofs.Walking.{Walk, walk_start, walk_turn, walk_end, some_left, none_left, mask_next}
use Rattle.line.proofs.clause.Base.settle_left.Goals as goal

pub loop-left-init : goal.loop-left-init
loop-left-init c = (
  omega (arith, c.requires, mask_le (value c.left_by_masks-left.result) width),
  λ d ys rs f B. (walk_start d ys rs f B.incoming B.channel B.own B.count (c.left_by_masks-left.ensures d ys rs f B)),
)

pub loop-left-preserved : goal.loop-left-preserved
loop-left-preserved c =
    let l = c.loop-left in
    let v = value l.left in
    let z = some_left {v = v} c.is_zero.ensures c.loop-left-test.true in
    let k = c.lowest-k.ensures in
    let m = c.message_at-m.ensures in (
      mask_next l.count _ k.1 z c.lowest-k.result.in_word k.0 c.rest-left.ensures m.0 l.invariant.0,
      λ d ys rs f B.
          walk_turn d ys rs f B.incoming B.channel z k.1 k.0 c.rest-left.ensures (l.invariant.1 d ys rs f B) (λ hk. m.1 d ys rs f hk B) (λ cs w. c.put-line.ensures (size d) cs w),
    )

pub returns : goal.returns
returns c =
    let l = c.loop-left in
    let z = none_left c.is_zero.ensures c.loop-left-test.false in (
      omega (arith, l.invariant.0),
      λ d ys rs f B. walk_end d ys rs f B.incoming B.channel (subst (Walk d ys rs f l.line l.count) z (l.invariant.1 d ys rs f B)),
    )
