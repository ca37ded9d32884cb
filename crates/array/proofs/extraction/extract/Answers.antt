-- `array::extraction::extract` meets its contract: the tests of a taken call say that what is lent is of the right form.
-- Assumes nothing.
use Rattle.std.proofs.Common.{sym, ◌∙◌}
use Rattle.std.proofs.lemmas.Result.{err_from_is_err_and}
use Rattle.line.proofs.Refusing.{given_taken, given_refused}
use Rattle.array.specs.Encoding.{extracted}
use Rattle.array.specs.Refusals.{coding_tests}
use Rattle.array.proofs.Refusing.{coding_taken}
use Rattle.array.proofs.extraction.extract.Goals as goal

pub extract_message-requires : goal.extract_message-requires
extract_message-requires c =
    let s = c.args in
    let t = coding_taken 2 s.degree s.message.now s.cells.now s.cells.now c.in_ok-d.d c.in_ok-d.ensures in
    (t.1, t.0)

pub returns : goal.returns
returns c =
    let s = c.args in
    let h = c.in_ok-d.ensures in
    record {
      refusal = sym h.0;
      message = c.extract_message.ensures ∙ sym (given_taken (coding_tests 2 s.degree s.message.now s.cells.now s.cells.now) s.degree (λ d. extracted d s.cells.now) s.message.now h);
    }

pub returns-in_err-d : goal.returns-in_err-d
returns-in_err-d c =
    let s = c.args in
    let h = c.in_err-d.ensures in
    let p = err_from_is_err_and c.from_residual.result c.from_residual.ensures.1 in
    rw (p.1, p.2)
    (record {
      refusal = h;
      message = sym (given_refused (coding_tests 2 s.degree s.message.now s.cells.now s.cells.now) s.degree (λ d. extracted d s.cells.now) s.message.now _ h);
    })
