-- `line::entry::decode_line` meets its contract: a call that is taken is answered by `decode_taken`, one that is refused
-- leaves all as it came.
-- Assumes nothing.
use mathlib.Core.List.{[]}
use Rattle.std.proofs.lemmas.Result.{err_from_is_err_and}
use Rattle.line.specs.Bounded.{bounded}
use Rattle.line.specs.Cells.{filling_word}
use Rattle.line.specs.Decoding.{decode}
use Rattle.line.specs.Refusals.{line_tests}
use Rattle.line.proofs.EntryLaws.{answered_taken, answered_refused}
use Rattle.line.proofs.Refusing.{line_taken}
use Rattle.line.proofs.entry.decode_line.Goals as goal

pub decode_taken-requires : goal.decode_taken-requires
decode_taken-requires c =
    let s = c.args in
    line_taken 2 s.degree s.cells.now _ c.in_ok-d.ensures

pub returns : goal.returns
returns c =
    let s = c.args in
    answered_taken (line_tests 2 s.degree s.cells.now []) s.degree (λ d. decode (bounded d) s.cells.now (filling_word s.filling_low s.filling_high))
    c.in_ok-d.ensures (rw c.of_numbers.ensures at c.decode_taken.ensures)

pub returns-in_err-d : goal.returns-in_err-d
returns-in_err-d c =
    let s = c.args in
    let p = err_from_is_err_and c.from_residual.result c.from_residual.ensures.1 in
    rw (p.1, p.2) (answered_refused (line_tests 2 s.degree s.cells.now []) s.degree (λ d. decode (bounded d) s.cells.now (filling_word s.filling_low s.filling_high)) _ c.in_err-d.ensures)
