-- `words::word::sums::eight_sum` meets its contract: after j bytes the sum is that of the first 8 j digits, and the rest of the number is what
-- lies above them.
-- Assumes nothing.
use mathlib.Core.Path.{◌≡◌, refl, sym}
use Prim.Native.Nat.{ℕ}
use native.Mathlib.Nat.{div-one}
use lib.Bits.{bit_xor}
use Rattle.laws.specs.Digits.{sum_over, digits}
use Rattle.words.proofs.SumLaws.{byte_next, rest_next}
use Rattle.words.proofs.word.sums.eight_sum.Goals as goal

start : (W : ℕ → ℕ) (number : ℕ) → 0 ≡ bit_xor 0 (sum_over W (digits 0 number))
unfolding sum_over digits
start W number = refl

pub loop-j-init : goal.loop-j-init
loop-j-init c = (sym (div-one _), λ W t. start W _)

pub loop-j-preserved : goal.loop-j-preserved
loop-j-preserved c =
    let l = c.loop-j in
    let s = c.args in (
      rest_next s.number l.rest l.j l.invariant.0,
      λ W t. byte_next W s.table.now s.base s.number 0 l.sum l.rest l.j t c.loop-j-test.true l.invariant.0 (l.invariant.1 W t),
    )
