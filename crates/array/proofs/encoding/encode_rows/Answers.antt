-- `encoding::encode_rows` meets its contract. The loop's invariant: the first a words are those of the first a message rows.
-- Assumes nothing.
use Rattle.array.proofs.Loops.{encoding_next}
use Rattle.array.proofs.encoding.encode_rows.Goals as goal

pub loop-a-preserved : goal.loop-a-preserved
loop-a-preserved c =
    encoding_next c.loop-a.invariant c.loop-a-test.true _ c.put.ensures c.encoded_word-word.ensures
