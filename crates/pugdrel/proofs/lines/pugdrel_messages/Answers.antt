-- `lines::pugdrel_messages` meets its contract: that of the entry below, for the part that is handed on.
-- Assumes nothing.
use Rattle.std.proofs.Common.{ℕ, [], ◌∷◌, ap, ◌∙◌}
use Rattle.line.specs.Cells.{filling_word}
use Rattle.pugdrel.specs.Reports.{told}
use Rattle.pugdrel.specs.Working.Numbers.{fits}
use Rattle.pugdrel.proofs.Answers.{messages_refusal, messages_count}
use Rattle.pugdrel.proofs.Handing.{lent_part}
use Rattle.pugdrel.proofs.LineTelling.{messages_told}
use Rattle.pugdrel.proofs.lines.pugdrel_messages.Goals as goal

pub returns : goal.returns
returns c =
    let s = c.args in
    let a = c.line_messages-answer.result in
    messages_told s.degree s.incoming.now s.channel.now (filling_word s.filling_low s.filling_high) s.messages.now
    (lent_part (fits 1 s.report.now) s.incoming.now c.lent-end.ensures) c.line_messages-answer.ensures (c.refusal_of.ensures ∙ messages_refusal a)
    (c.tell.ensures ∙ ap (λ (x : ℕ). told (x ∷ []) s.report.now) (c.unwrap_or.ensures ∙ messages_count a))
