-- `read_and_print` meets its contract.
use Rattle.std.proofs.Common.{arith}
use Rattle.text.specs.Text.{printed}
use Rattle.sheet.proofs.Whole.{whole_input}
use Rattle.sheet.proofs.read_and_print.Goals as goal

pub returns : goal.returns
returns g c =
    let read = c.read_input-reading in
    whole_input printed read.result.end _ _ _ _ 65536 read.result.got read.new.buffer (omega (arith, read.ensures.within.1)) read.ensures.within.0 read.ensures.bytes read.ensures.whole c.in_ok-run.ensures
