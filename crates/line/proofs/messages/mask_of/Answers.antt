-- `line::messages::mask_of` meets its contract: the cells left out are equal ones, or those settled by the channel.
-- Assumes nothing.
use Rattle.line.proofs.Masking.{few_mask, six_mask, more_mask}
use Rattle.line.proofs.messages.mask_of.Goals as goal

pub returns-then-erased-lt-DISTANCE : goal.returns-then-erased-lt-DISTANCE
returns-then-erased-lt-DISTANCE c = λ d ys rs f p q h. rw c.differing.ensures (few_mask d ys rs f p q h c.if-erased-lt-DISTANCE.true)

pub returns-then-erased-eq-DISTANCE : goal.returns-then-erased-eq-DISTANCE
returns-then-erased-eq-DISTANCE c = λ d ys rs f p q h. rw c.known_only_in.ensures (six_mask d ys rs f p q h c.if-erased-lt-DISTANCE.false c.if-erased-eq-DISTANCE.true)

pub returns-else-erased-eq-DISTANCE : goal.returns-else-erased-eq-DISTANCE
returns-else-erased-eq-DISTANCE c = λ d ys rs f p q h. rw c.zero_word.ensures (more_mask d ys rs f p q h c.if-erased-lt-DISTANCE.false c.if-erased-eq-DISTANCE.false)
