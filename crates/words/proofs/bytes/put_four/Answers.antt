-- `bytes::put_four` meets its contract: the lowest four of the eight bytes that std makes.
-- Assumes nothing.
use mathlib.Core.Path.{refl, ap, ◌∙◌}
use lib.ListN.{take}
use Rattle.words.specs.Working.Bytes.{bytes_of}
use Rattle.words.proofs.ByteLaws.{four_bytes, put_bytes}
use Rattle.words.proofs.bytes.put_four.Goals as goal

pub returns : goal.returns
unfolding bytes_of
returns c =
    let s = c.args in
    put_bytes s.bytes.now (bytes_of 4 s.x) _ s.at 4 refl c.requires (c.copy_from_slice.ensures.after ∙ ap (take 4) c.to_le_bytes.ensures ∙ four_bytes s.x)
