-- `lines::pugdrel_decode_line` meets its contract: that of the entry below, for the part that is handed on.
-- Assumes nothing.
use Rattle.std.proofs.Common.{◌≡◌, ℕ, [], ◌∷◌, ap, ◌∙◌, rules}
use Rattle.laws.specs.Bits.{bit}
use Rattle.line.specs.Bounded.{bounded}
use Rattle.line.specs.Cells.{filling_word}
use Rattle.line.specs.Decoding.{decode}
use Rattle.pugdrel.specs.Reports.{told}
use Rattle.pugdrel.specs.Working.Numbers.{fits}
use Rattle.pugdrel.proofs.Answers.{line_refusal, line_found}
use Rattle.pugdrel.proofs.LineTelling.{line_handed}
use Rattle.pugdrel.proofs.lines.pugdrel_decode_line.Goals as goal

pub returns : goal.returns
returns c =
    let s = c.args in
    let a = c.decode_line-answer.result in
    let told_bit : c.from.result ≡ bit c.unwrap_or.result = search rules in
    record {
      answer = a;
      done = line_handed 2 s.degree s.cells.now (λ p d. decode (bounded d) p (filling_word s.filling_low s.filling_high)) (fits 1 s.report.now) c.lent-end.result c.lent-end.ensures c.decode_line-answer.ensures;
      refusal = c.refusal_of.ensures ∙ line_refusal a;
      report = c.tell.ensures ∙ ap (λ (x : ℕ). told (x ∷ []) s.report.now) (told_bit ∙ ap bit (c.unwrap_or.ensures ∙ line_found a));
    }
