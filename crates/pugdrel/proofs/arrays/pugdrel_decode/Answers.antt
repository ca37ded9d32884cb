-- `arrays::pugdrel_decode` meets its contract: decode's promise for the part that is handed on is the one with the report's length
-- among the tests.
-- Assumes nothing.
use Rattle.std.proofs.Common.{ℕ, List, ap, ◌∙◌}
use Rattle.pugdrel.specs.Reports.{told}
use Rattle.pugdrel.specs.Working.Numbers.{fits}
use Rattle.pugdrel.proofs.Answers.{decode_refusal}
use Rattle.pugdrel.proofs.Handing.{lent_part}
use Rattle.pugdrel.proofs.ArrayTelling.{decode_told}
use Rattle.pugdrel.proofs.arrays.pugdrel_decode.Goals as goal

pub returns : goal.returns
returns c =
    let s = c.args in
    decode_told s.degree s.iterations s.received.now s.filling.now s.cells.now
    (lent_part (fits 3 s.report.now) s.received.now c.lent-end.ensures) c.decode-answer.ensures (c.refusal_of.ensures ∙ decode_refusal c.decode-answer.result)
    (c.tell.ensures ∙ ap (λ (n : List ℕ). told n s.report.now) c.report_numbers-numbers.ensures)
