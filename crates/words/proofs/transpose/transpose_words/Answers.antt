-- `transpose::transpose_words` meets its contract: each mask passes its computed test, and the six stages transpose.
-- Assumes nothing.
use mathlib.Core.Path.{refl}
use Rattle.words.specs.Working.Network.{masked}
use Rattle.words.proofs.SwapLaws.{turned}
use Rattle.words.proofs.transpose.transpose_words.Goals as goal

pub stage-requires : goal.stage-requires
unfolding masked
stage-requires c = (c.requires, refl, tt)

pub stage-requires-2 : goal.stage-requires-2
unfolding masked
stage-requires-2 c = (c.stage.ensures.long, refl, tt)

pub stage-requires-3 : goal.stage-requires-3
unfolding masked
stage-requires-3 c = (c.stage-2.ensures.long, refl, tt)

pub stage-requires-4 : goal.stage-requires-4
unfolding masked
stage-requires-4 c = (c.stage-3.ensures.long, refl, tt)

pub stage-requires-5 : goal.stage-requires-5
unfolding masked
stage-requires-5 c = (c.stage-4.ensures.long, refl, tt)

pub stage-requires-6 : goal.stage-requires-6
unfolding masked
stage-requires-6 c = (c.stage-5.ensures.long, refl, tt)

pub returns : goal.returns
returns c =
    turned c.stage.ensures c.stage-2.ensures c.stage-3.ensures c.stage-4.ensures c.stage-5.ensures c.stage-6.ensures
