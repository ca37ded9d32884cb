-- `UnitTable::encoded_word` meets its contract. The loop's invariant: the sum is that of the cells passed.
-- Assumes nothing.
use Prim.Native.Nat.{ℕ}
use mathlib.Core.Path.{ap, ◌∙◌}
use mathlib.Core.Bool.{cond}
use native.Mathlib.Omega.{arith}
use lib.Bits.{bit_xor}
use lib.Dec.{eqb}
use lib.ListN.{get_or}
use Rattle.laws.specs.Digits.{sum_over}
use Rattle.words.specs.Working.Word.{value}
use Rattle.line.proofs.UnitLaws.{sum_next, sum_encodes}
use Rattle.line.proofs.encoding.UnitTable.encoded_word.Goals as goal

pub loop-a-init : goal.loop-a-init
unfolding sum_over
loop-a-init c = (omega arith, c.zero_word-sum.ensures)

pub loop-a-preserved : goal.loop-a-preserved
loop-a-preserved c =
    let l = c.loop-a in
    let s = c.args in (
      omega arith,
      sum_next s.self.now.words.now s.message.now l.a l.invariant.1
          (c.xor_where-sum.ensures ∙ ap (λ (u : ℕ). bit_xor (value l.sum) (cond (eqb (get_or s.message.now l.a 0) 1) u 0)) c.word.ensures),
    )

pub returns : goal.returns
returns c =
    let t = c.args.self.now in
    sum_encodes t.degree t.words.now c.args.message.now t.made c.requires c.loop-a.invariant.1 c.loop-a-test.false
