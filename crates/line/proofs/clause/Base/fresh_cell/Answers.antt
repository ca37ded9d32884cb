-- `Base::fresh_cell` meets its contract: the cell of the whole line as it was decoded.
-- Assumes nothing.
use Rattle.line.proofs.clause.Base.fresh_cell.Goals as goal

pub returns : goal.returns
returns c =
    let whole = c.decode_packed-whole.ensures in (
      whole.0,
      λ d ys rs f hk B.
          let w = (rw (B.degree, B.filling) at whole.1) _ (c.replaced.ensures d ys rs f hk B) in
          (c.cell_at.ensures.1 _ _ w.0, w.1),
    )
