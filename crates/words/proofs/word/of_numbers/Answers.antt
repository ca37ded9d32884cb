-- `words::word::of_numbers` meets its contract: the value of a word is that sum.
-- Assumes nothing.
use mathlib.Core.Path.{refl}
use Rattle.words.specs.Working.Word.{value}
use Rattle.words.proofs.word.of_numbers.Goals as goal

pub returns : goal.returns
unfolding value
returns c = refl
