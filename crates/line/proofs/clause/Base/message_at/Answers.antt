-- `Base::message_at` meets its contract: the clause gives the message.
-- Assumes nothing.
use Rattle.line.proofs.Settling.{settled_message}
use Rattle.line.proofs.clause.Base.message_at.Goals as goal

pub returns : goal.returns
returns c =
    let a = c.args in (
      c.settle.ensures.0,
      λ d ys rs f hk B.
          let e = c.clause_at.ensures d ys rs f hk B in
          settled_message hk B a.count e (c.settle.ensures.1 d ys rs f hk B e),
    )
