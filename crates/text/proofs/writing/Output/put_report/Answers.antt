-- `writing::Output::put_report` meets its contract: the numbers are written, and then the lines.
-- Assumes nothing.
use Rattle.std.proofs.Common.{◌≡◌, rules}
use Rattle.laws.specs.Bits.{bit}
use Rattle.text.specs.Text.{report_text}
use Rattle.text.proofs.writing.Output.put_report.Goals as goal

pub returns : goal.returns
unfolding report_text
returns c = let e : c.from-shut.result ≡ bit c.args.report.closed = search rules in rw (c.put_lines.ensures, c.put_numbers.ensures.text, c.requires.0, e)
