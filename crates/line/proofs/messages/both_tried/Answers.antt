-- `line::messages::both_tried` meets its contract: both fillings are decoded where the erasures are few.
-- Assumes nothing.
use native.Mathlib.Omega.{arith}
use Rattle.line.specs.declared.side.Side.TheVariants.{One, Two}
use Rattle.line.proofs.Choosing.{is_few}
use Rattle.line.proofs.messages.both_tried.Goals as goal

pub returns-then-erased-lt-DISTANCE : goal.returns-then-erased-lt-DISTANCE
returns-then-erased-lt-DISTANCE c =
    let one = c.counted-one.ensures in
    let two = c.counted-two.ensures in
    let w = c.fill_if_erased-words.ensures in (
      omega (arith, one.0, two.0),
      λ ys p e.
          let few = is_few ys _ e c.if-erased-lt-DISTANCE.true in
          record {
            one = λ _. one.1 _ (w _ ys p One);
            two = λ _. two.1 _ (w _ ys p Two);
            count = rw few (omega (arith, one.0, two.0));
          },
    )
