-- `line::entry::bounded_distance` meets its contract: a call that is taken is answered by `bounded_taken`, one that is refused
-- leaves all as it came.
-- Assumes nothing.
use mathlib.Core.List.{[]}
use Rattle.std.proofs.lemmas.Result.{err_from_is_err_and}
use Rattle.line.specs.Bounded.{bounded}
use Rattle.line.specs.Refusals.{line_tests}
use Rattle.line.proofs.EntryLaws.{word_taken, word_refused}
use Rattle.line.proofs.Refusing.{line_taken}
use Rattle.line.proofs.entry.bounded_distance.Goals as goal

pub bounded_taken-requires : goal.bounded_taken-requires
bounded_taken-requires c =
    let s = c.args in
    line_taken 1 s.degree s.word.now _ c.in_ok-d.ensures

pub returns : goal.returns
returns c =
    let s = c.args in
    word_taken (line_tests 1 s.degree s.word.now []) s.degree (λ d. bounded d s.word.now) c.in_ok-d.ensures c.bounded_taken.ensures

pub returns-in_err-d : goal.returns-in_err-d
returns-in_err-d c =
    let s = c.args in
    let p = err_from_is_err_and c.from_residual.result c.from_residual.ensures.1 in
    rw (p.1, p.2) (word_refused (line_tests 1 s.degree s.word.now []) s.degree (λ d. bounded d s.word.now) _ c.in_err-d.ensures)
