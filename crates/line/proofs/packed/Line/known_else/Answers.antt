-- `Line::known_else` meets its contract: bit by bit.
-- Assumes nothing.
use mathlib.Core.Path.{ap, ◌∙◌}
use lib.Bits.{bit_or}
use Rattle.words.specs.Working.Word.{value}
use Rattle.line.proofs.KnownCells.{known_packed}
use Rattle.line.proofs.packed.Line.known_else.Goals as goal

pub returns : goal.returns
returns c =
    let a = c.args.self in
    let ones = c.or_words.ensures ∙ ap (bit_or (value a.ones)) c.and_words.ensures in
    λ n cs es p q. known_packed p q ones c.and_words-2.ensures
