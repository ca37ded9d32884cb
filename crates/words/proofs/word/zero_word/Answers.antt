-- `words::word::zero_word` meets its contract: both halves are 0.
-- Assumes nothing.
use mathlib.Core.Path.{refl}
use Rattle.words.specs.Working.Word.{value}
use Rattle.words.proofs.word.zero_word.Goals as goal

pub returns : goal.returns
unfolding value
returns c = refl
