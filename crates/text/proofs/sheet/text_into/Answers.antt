-- `text::sheet::text_into` meets its contract: what is printed for a text that is taken, and for one that is refused.
-- Assumes nothing.
use mathlib.Core.Path.{◌≡◌, ap, ◌∙◌}
use lib.ListN.{length}
use Rattle.text.specs.Text.{printed}
use Rattle.text.proofs.SheetLaws.{rest_is, sheet_takes, printed_taken, printed_refused}
use Rattle.text.proofs.sheet.text_into.Goals as goal
use Rattle.text.proofs.sheet.text_into.Goals.{in-Ok, in-Err}

pub taken_text-requires : goal.taken_text-requires
taken_text-requires c =
    (ap length (rest_is c.args.input.now) ∙ sheet_takes c.args.input.now c.in-Ok.d (rw c.in-Ok.is at c.sheet_test-call.ensures), c.new-text.ensures)

pub returns : goal.returns
returns c =
    let t = c.args.input.now in
    let e : c.match-call.text ≡ printed t =
    elim c.match-call.branch [
      | in-Ok w ↦
          let h = rw w.in-Ok.is at c.sheet_test-call.ensures in
          w.text-is ∙ w.taken_text.ensures ∙ rw (rest_is t) (printed_taken t w.in-Ok.d h)
      | in-Err w ↦ w.text-is ∙ w.put_refusal.ensures ∙ printed_refused t w.in-Err.why w.from.ensures (rw w.in-Err.is at c.sheet_test-call.ensures)
    ] in
    rw e at c.copy_to.ensures
