-- `lines::pugdrel_bounded_distance` meets its contract: that of the entry below, for the part that is handed on.
-- Assumes nothing.
use Rattle.std.proofs.Common.{List, ℕ, ap, ◌∙◌}
use Rattle.line.specs.Bounded.{bounded}
use Rattle.pugdrel.specs.Reports.{told}
use Rattle.pugdrel.specs.Working.Numbers.{fits}
use Rattle.pugdrel.proofs.Answers.{word_refusal}
use Rattle.pugdrel.proofs.LineTelling.{word_handed}
use Rattle.pugdrel.proofs.lines.pugdrel_bounded_distance.Goals as goal

pub returns : goal.returns
returns c =
    let s = c.args in
    record {
      answer = c.bounded_distance-answer.result;
      done = word_handed 1 s.degree s.word.now (λ p d. bounded d p) (fits 2 s.report.now) c.lent-end.result c.lent-end.ensures c.bounded_distance-answer.ensures;
      refusal = c.refusal_of.ensures ∙ word_refusal c.bounded_distance-answer.result;
      report = c.tell.ensures ∙ ap (λ (n : List ℕ). told n s.report.now) c.found_numbers-numbers.ensures;
    }
