-- What was read so far stands at the front of the buffer. The measure is the room that is left, and one more while there may be more
-- to read.
use Rattle.std.proofs.Common.{◌≡◌, ◌+◌, ◌-◌, ◌<◌, ◌≤◌, cond, false, length, take}
use Rattle.std.specs.Prelude.{OnOk}
use Rattle.std.specs.Io.KnownBytes.{Consumes, IsAtEnd}
use Rattle.sheet.proofs.read_input.Given as goal

abbrev pub invariant-loop-more : goal.invariant-loop-more
invariant-loop-more g l = record {
  within : l.got ≤ length l.buffer;
  same : length l.buffer ≡ length l.initial.buffer;
  bytes : Consumes (g.R.Read.remaining l.initial.input) (g.R.Read.remaining l.input) (take l.got l.buffer);
  whole : OnOk l.end (l.more ≡ false → l.got < length l.buffer → IsAtEnd (g.R.Read.remaining l.input));
}

abbrev pub decreases-loop-more : goal.decreases-loop-more
decreases-loop-more g l = length l.buffer - l.got + cond l.more 1 0
