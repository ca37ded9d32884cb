-- `writing::Output::put_lines` meets its contract. The loop's invariant: the first i lines are written.
-- Assumes nothing.
use Rattle.std.proofs.Common.{◌≡◌, ◌++◌}
use Rattle.array.specs.Arrays.{line, lines}
use Rattle.text.specs.Text.{line_text}
use Rattle.text.proofs.writing.Output.put_lines.Given as goal

abbrev pub invariant-loop-i : goal.invariant-loop-i
invariant-loop-i l = l.self ≡ l.initial.self ++ lines (λ i. line_text (line l.n l.cells i)) l.i
