-- `Line::count_erasures` meets its contract: the ones of the erased word are the erasures, and 0 has none.
-- Assumes nothing.
use mathlib.Core.Path.{sym, ◌∙◌}
use native.Mathlib.Omega.{arith}
use borrow.Author.Tests.{eqb-true}
use Rattle.line.proofs.Packing.{no_erasures, erasures_of}
use Rattle.line.proofs.packed.Line.count_erasures.Goals as goal

pub returns-then-is_zero : goal.returns-then-is_zero
returns-then-is_zero c =
    let z = eqb-true _ 0 (sym c.is_zero.ensures ∙ c.if-is_zero.true) in
    (omega arith, λ n cs p. no_erasures p z)

pub returns-else-is_zero : goal.returns-else-is_zero
returns-else-is_zero c = (c.count_bits.ensures.0, λ n cs p. c.count_bits.ensures.1 ∙ erasures_of p)
