-- `words::word::sums::sum_with` meets its contract: after j bytes the sum is that of the first 8 j digits, and the rest of the number is what
-- lies above them; where that is 0, so are the digits left.
-- Assumes nothing.
use mathlib.Core.Path.{◌≡◌, sym, ap, ◌∙◌}
use Prim.Native.Nat.{ℕ}
use native.Mathlib.Nat.{div-one}
use native.Mathlib.Omega.{arith}
use lib.Bits.{bit_xor, xor_zero_r}
use Rattle.laws.specs.Digits.{sum_over, digits}
use Rattle.words.proofs.SumLaws.{byte_next, rest_next, rest_some, sum_whole}
use Rattle.words.proofs.word.sums.sum_with.Goals as goal

start : (W : ℕ → ℕ) (sum number : ℕ) → sum ≡ bit_xor sum (sum_over W (digits 0 number))
unfolding sum_over digits
start W sum number = sym (xor_zero_r sum)

pub loop-rest-init : goal.loop-rest-init
loop-rest-init c = (omega arith, sym (div-one _), λ W t. start W _ _)

pub loop-rest-preserved : goal.loop-rest-preserved
loop-rest-preserved c =
    let l = c.loop-rest in
    let s = c.args in
    let h = rest_some s.number l.j (omega arith) l.invariant.0 (λ z. c.loop-rest-test.true (l.invariant.1 ∙ z)) in (
      omega arith,
      rest_next s.number l.rest l.j l.invariant.1,
      λ W t. byte_next W s.table.now s.base s.number s.sum l.all l.rest l.j t h l.invariant.1 (l.invariant.2 W t),
    )

pub returns : goal.returns
returns c =
    let l = c.loop-rest in
    let s = c.args in
    λ W t. l.invariant.2 W t ∙ ap (bit_xor s.sum) (sum_whole W s.number l.j l.invariant.0 (sym l.invariant.1 ∙ c.loop-rest-test.false))
