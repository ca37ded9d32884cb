-- `Base::settle` meets its contract: by cases of the clause. All that it asks of its callees is at hand.
-- Assumes nothing.
use mathlib.Core.Path.{refl, sym, ◌∙◌}
use native.Mathlib.Omega.{arith}
use Rattle.line.specs.Working.Settled.{settled}
use Rattle.line.proofs.Settling.{equal_cell, few_of, fresh_count, reached_settled, channel_settled}
use Rattle.line.proofs.clause.Base.settle.Goals as goal

pub returns-in-Equal : goal.returns-in-Equal
unfolding settled
returns-in-Equal c = (
  omega arith,
  λ d ys rs f hk B g.
      let t = c.in-Equal.is in
      rw t (equal_cell hk B (sym t ∙ g) (c.cell_at.ensures.1 _ _ B.own), omega arith),
)

pub returns-in-Crowded : goal.returns-in-Crowded
unfolding settled
returns-in-Crowded c = (omega arith, λ d ys rs f hk B g. rw c.in-Crowded.is (refl, omega arith))

pub returns-in-Both : goal.returns-in-Both
unfolding settled
returns-in-Both c = (
  omega arith,
  λ d ys rs f hk B g.
      let t = c.in-Both.is in
      rw t (c.chosen_cell.ensures d ys rs f hk B (few_of hk B (sym t ∙ g) refl), omega arith),
)

pub returns-in-Neither : goal.returns-in-Neither
returns-in-Neither c = (
  omega arith,
  λ d ys rs f hk B g. channel_settled hk B c.args.count c.in-Neither.is (c.cell_at-in-Neither.ensures.1 _ rs B.channel),
)

pub returns-in-Agreeing : goal.returns-in-Agreeing
returns-in-Agreeing c = (
  omega arith,
  λ d ys rs f hk B g.
      reached_settled hk B c.args.count c.in-Agreeing.is g (c.reached_cell.ensures d ys rs f hk B),
)

pub returns-in-Open : goal.returns-in-Open
unfolding settled
returns-in-Open c = (
  omega arith,
  λ d ys rs f hk B g.
      let t = c.in-Open.is in
      rw t (c.open_cell.ensures.1 d ys rs f hk B (few_of hk B (sym t ∙ g) refl), omega arith),
)

pub returns-in-Afresh : goal.returns-in-Afresh
unfolding settled
returns-in-Afresh c = (
  c.fresh_cell.ensures.0,
  λ d ys rs f hk B g.
      let t = c.in-Afresh.is in
      let whole = c.fresh_cell.ensures.1 d ys rs f hk B in
      rw t (whole.0, fresh_count hk B _ _ (sym t ∙ g) whole.1),
)
