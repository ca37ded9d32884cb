-- `files::pugdrel_read_blocks` meets its contract: that of the entry below, for the part that is handed on.
-- Assumes nothing.
use Rattle.std.proofs.Common.{ℕ, [], ◌∷◌, ap, ◌∙◌}
use Rattle.pugdrel.specs.Reports.{told}
use Rattle.pugdrel.specs.Working.Numbers.{fits}
use Rattle.pugdrel.proofs.Answers.{read_refusal, read_number}
use Rattle.pugdrel.proofs.FileTelling.{read_handed}
use Rattle.pugdrel.proofs.files.pugdrel_read_blocks.Goals as goal

pub returns : goal.returns
returns c =
    let s = c.args in
    let a = c.read_blocks-answer.result in
    record {
      answer = a;
      done = read_handed s.file.now s.cells.now (fits 1 s.report.now) c.lent-end.result c.lent-end.ensures c.read_blocks-answer.ensures;
      refusal = c.refusal_of.ensures ∙ read_refusal a;
      report = c.tell.ensures ∙ ap (λ (x : ℕ). told (x ∷ []) s.report.now) (c.from.ensures ∙ c.unwrap_or.ensures ∙ read_number a);
    }
