-- `tallies::say` meets its contract. The loop's invariant: the numbers of the first bytes are counted, and the bytes are said.
use Rattle.std.proofs.Common.{◌≡◌, ◌≤◌}
use Rattle.std.specs.Io.KnownBytes.{Appends}
use Rattle.laws.specs.Sums.{sum_to}
use Rattle.second.specs.Working.Lines.{is_like}
use Rattle.second.specs.Working.Tallies.{said_text}
use Rattle.second.proofs.tallies.say.Given as goal

abbrev pub invariant-loop-byte : goal.invariant-loop-byte
invariant-loop-byte g l = record {
  count : l.said ≡ sum_to (is_like 35 l.line) l.byte-index;
  few : l.said ≤ l.byte-index;
  text : Appends (g.W.Write.contents l.initial.out) (g.W.Write.contents l.out) (said_text l.line l.numbers l.byte-index);
}
