-- `Base::chosen_cell` meets its contract: the choice is by the replaced line.
-- Assumes nothing.
use mathlib.Core.Path.{refl}
use Rattle.line.specs.declared.side.Side.TheVariants.{One, Two}
use Rattle.line.proofs.Settling.{tried_few}
use Rattle.line.proofs.clause.Base.chosen_cell.Goals as goal

pub returns : goal.returns
returns c =
    λ d ys rs f hk B few.
    let z = c.replaced-z.ensures d ys rs f hk B in
    c.answer_at.ensures _ _ _ z (c.choose.ensures _ _ _ _ z (tried_few hk B few One refl) (tried_few hk B few Two refl))
