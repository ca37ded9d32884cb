-- `words::word::sums::byte_sum` meets its contract: the sums over both numbers of the word.
-- Assumes nothing.
use mathlib.Core.Path.{ap, ap₂, ◌∙◌}
use Prim.Native.Nat.{ℕ, ◌+◌, ◌/◌, ◌^◌}
use lib.Bits.{bit_xor}
use Rattle.laws.specs.Digits.{sum_over, digits}
use Rattle.words.specs.Working.Word.{value}
use Rattle.words.proofs.SumLaws.{low_blocks, high_blocks, sum_halves}
use Rattle.words.proofs.word.sums.byte_sum.Goals as goal

pub returns : goal.returns
returns c =
    let s = c.args in
    let v = value s.word.now in
    let low = c.eight_sum-sum.ensures in
    let high = c.sum_with.ensures in
    λ W t.
    high (λ i. W (64 + i)) (high_blocks W s.base s.table.now t)
    ∙ ap₂ (λ (x y : ℕ). bit_xor x (sum_over (λ i. W (64 + i)) (digits 64 y))) (low W (low_blocks W s.base s.table.now t)) c.high_of.ensures
    ∙ ap (λ (x : ℕ). bit_xor (sum_over W (digits 64 x)) (sum_over (λ i. W (64 + i)) (digits 64 (v / 2 ^ 64)))) c.low_of.ensures
    ∙ sum_halves W v
