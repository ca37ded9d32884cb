-- `Line::count_differences` meets its contract: the ones of the xor under the known mask are the differences, and equal words have none.
-- Assumes nothing.
use mathlib.Core.Path.{sym, ap, ap₂, ◌∙◌}
use lib.Bits.{bit_and}
use lib.Count.{ones}
use Rattle.words.proofs.Halves.{same_words}
use Rattle.line.proofs.Packing.{no_differences, differences_of}
use Rattle.line.proofs.packed.Line.count_differences.Goals as goal

pub returns-then-eq : goal.returns-then-eq
returns-then-eq c =
    let e = same_words c.args.word c.args.self.ones (sym c.eq.ensures ∙ c.if-eq.true) in
    λ n cs ws p q. no_differences p q e

pub returns-else-eq : goal.returns-else-eq
returns-else-eq c =
    let e = c.and_words.ensures ∙ ap₂ bit_and c.xor_words.ensures c.not_word-known.ensures in
    λ n cs ws p q. c.count_bits.ensures.1 ∙ ap ones e ∙ differences_of p q
