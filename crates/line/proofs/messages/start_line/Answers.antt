-- `line::messages::start_line` meets its contract: the choice of both fillings is the line's own decoding, or it fails.
-- Assumes nothing.
use Rattle.degree.specs.Degree.{size}
use Rattle.line.proofs.Choosing.{is_few, is_many}
use Rattle.line.proofs.Starting.{few_start, many_start}
use Rattle.line.proofs.messages.start_line.Goals as goal

pub returns-then-erased-lt-DISTANCE : goal.returns-then-erased-lt-DISTANCE
returns-then-erased-lt-DISTANCE c =
    λ d ys rs f p q e T.
    let n = size d in
    let few = is_few ys _ e c.if-erased-lt-DISTANCE.true in
    let own = c.choose.ensures n ys _ _ p (T.one few).answer (T.two few).answer in
    few_start d ys f rs few (c.or_back.ensures n _ _ (c.known_else.ensures n rs ys q p) own)

pub returns-else-erased-lt-DISTANCE : goal.returns-else-erased-lt-DISTANCE
returns-else-erased-lt-DISTANCE c = λ d ys rs f p q e T. many_start d ys f rs (is_many ys _ e c.if-erased-lt-DISTANCE.false) q
