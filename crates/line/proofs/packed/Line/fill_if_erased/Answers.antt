-- `Line::fill_if_erased` meets its contract: without erasures there is nothing to fill.
-- Assumes nothing.
use mathlib.Core.Path.{sym, ◌∙◌}
use mathlib.Core.List.{[], ◌∷◌}
use borrow.Author.Tests.{eqb-true}
use Rattle.line.specs.declared.side.Side.{Side}
use Rattle.line.specs.declared.side.Side.TheVariants.{One, Two}
use Rattle.line.specs.Cells.{filled}
use Rattle.line.specs.Working.Packed.{PacksWord, side_word}
use Rattle.words.specs.Working.Word.{value}
use Rattle.line.proofs.Packing.{filled_none}
use Rattle.line.proofs.packed.Line.fill_if_erased.Goals as goal

pub returns-then-is_zero : goal.returns-then-is_zero
returns-then-is_zero c =
    let a = c.args in
    let none = eqb-true (value a.self.erased) 0 (sym c.is_zero.ensures ∙ c.if-is_zero.true) in
    let f = value a.filling in
    λ n cs p s.
    elim s as (λ (s : Side). PacksWord n (filled s cs f) (value (side_word s (a.self.ones ∷ a.self.ones ∷ [])))) [ One ↦ filled_none f p none One | Two ↦ filled_none f p none Two ]
