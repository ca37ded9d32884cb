-- `line::encoding::unit_word` meets its contract: the three parts of the unit, added up.
-- Assumes nothing.
use mathlib.Core.Path.{ap, ap₂, ◌∙◌}
use Prim.Native.Nat.{ℕ, ◌+◌, ◌*◌, ◌/◌, ◌%◌, ◌^◌}
use native.Mathlib.Nat.{one-mul}
use lib.Bits.{bit_xor}
use Rattle.line.specs.Working.Units.{unit_of}
use Rattle.line.proofs.encoding.unit_word.Goals as goal

pub returns : goal.returns
unfolding unit_of
returns c =
    let s = c.args in
    c.xor_words-2.ensures
    ∙ ap₂ bit_xor c.from-check.ensures
    (c.xor_words.ensures
    ∙ ap₂ bit_xor
    (c.single-message.ensures ∙ one-mul (2 ^ (c.check_cells.result + s.a)) ∙ ap (λ (x : ℕ). 2 ^ (x + s.a)) c.check_cells.ensures)
    (c.single-parity.ensures ∙ ap (λ (x : ℕ). s.checks / 16384 % 2 * 2 ^ x) c.order_of-last.ensures))
