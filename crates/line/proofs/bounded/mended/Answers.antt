-- `line::bounded::mended` meets its contract: a word whose place is 0 is what is found.
-- Assumes nothing.
use mathlib.Core.Path.{refl}
use borrow.Author.Tests.{eqb-true}
use Rattle.laws.proofs.Tests.{and_true}
use Rattle.line.specs.Working.Tries.{found}
use Rattle.line.proofs.bounded.mended.Goals as goal

pub returns-then-place : goal.returns-then-place
returns-then-place c =
    let p = c.args.place in
    let z = and_true _ _ c.if-place.true in
    λ ws h. rw (eqb-true p.entry 0 z.0, eqb-true p.parity 0 z.1) (record { answer = found h; changed = refl })
