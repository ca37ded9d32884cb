-- `encoding::write_rows` meets its contract. The loop's invariant: the first i rows are written, the others as they were.
-- Assumes nothing.
use Prim.Native.Nat.{ℕ}
use mathlib.Core.Path.{◌≡◌, ◌∙◌}
use native.Mathlib.Omega.{arith}
use Rattle.laws.specs.Digits.{digits}
use Rattle.words.specs.Working.Pairs.{pairs_of}
use Rattle.words.proofs.PairLaws.{pairs_digits}
use Rattle.laws.proofs.DigitSums.{digits_length}
use Rattle.array.proofs.WrittenLines.{lining_start, lining_part, lining_put, lining_all}
use Rattle.array.proofs.encoding.write_rows.Goals as goal

-- what is spread beside a word of 0 are the digits of the other
written : {m n word none sum : ℕ} → m ≡ n → word ≡ sum → none ≡ 0 → pairs_of m word none ≡ digits n sum
written {n} {sum} e s z = rw (e, s, z) (pairs_digits n sum)

pub loop-i-init : goal.loop-i-init
loop-i-init c = lining_start (λ j z. digits_length _ _) (omega (arith, c.requires.3))

pub loop-i-preserved : goal.loop-i-preserved
loop-i-preserved c =
    let w = c.loop-i.invariant in
    let h = c.loop-i-test.true in
    lining_put w h _ (c.spread_pair.ensures ∙ written (lining_part w h) c.chosen_sum-word.ensures c.zero_word.ensures)

pub returns : goal.returns
returns c = lining_all c.loop-i.invariant c.requires.3 (omega arith)
