-- `line::decoding::try_packed` meets its contract: both filled words are tried, and the choice of the two answers is the line's; with as many erasures as
-- the designed distance or more it fails.
-- Assumes nothing.
use native.Mathlib.Omega.{arith}
use Rattle.line.specs.declared.side.Side.TheVariants.{One, Two}
use Rattle.words.specs.Working.Word.{value}
use Rattle.line.proofs.Choosing.{is_few, is_many}
use Rattle.line.proofs.EntryLaws.{few_tried, many_tried}
use Rattle.line.proofs.decoding.try_packed.Goals as goal

pub returns-then-count_erasures-lt-DISTANCE : goal.returns-then-count_erasures-lt-DISTANCE
returns-then-count_erasures-lt-DISTANCE c = (
  omega (arith, c.counted-one.ensures.0, c.counted-two.ensures.0),
  λ ys h.
      let few = is_few ys _ (c.count_erasures.ensures.1 _ ys h) c.if-count_erasures-lt-DISTANCE.true in
      let one = c.counted-one.ensures.1 _ (c.fill-words.ensures _ ys h One) in
      let two = c.counted-two.ensures.1 _ (c.fill-words.ensures _ ys h Two) in
      (few_tried c.args.tables.now.degree ys (value c.args.filling) few (c.choose.ensures _ ys _ _ h one.answer two.answer), rw few (omega (arith, c.counted-one.ensures.0, c.counted-two.ensures.0))),
)

pub returns-else-count_erasures-lt-DISTANCE : goal.returns-else-count_erasures-lt-DISTANCE
returns-else-count_erasures-lt-DISTANCE c = (
  omega arith,
  λ ys h.
      let many = is_many ys _ (c.count_erasures.ensures.1 _ ys h) c.if-count_erasures-lt-DISTANCE.false in
      (many_tried c.args.tables.now.degree ys (value c.args.filling) many, rw many (omega arith)),
)
