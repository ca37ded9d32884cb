-- `Trial::leaving` meets its contract: bit by bit.
-- Assumes nothing.
use Rattle.line.proofs.OneCodeword.{stays_at}
use Rattle.line.proofs.clause.Trial.leaving.Goals as goal

pub returns-else-found-lt-RADIUS : goal.returns-else-found-lt-RADIUS
returns-else-found-lt-RADIUS c = λ k z. stays_at c.args.self.now c.args.found k c.xor_words-moved.ensures c.xor_words.ensures c.without.ensures z
