-- `read_input` meets its contract.
use Rattle.std.proofs.Common.{◌∙◌, arith}
use Rattle.std.proofs.lemmas.Result.{on_ok_weaker}
use Rattle.sheet.proofs.Room.{part_length, whole_length, read_after, takes_more}
use Rattle.sheet.proofs.read_input.Goals as goal

pub loop-more-preserved : goal.loop-more-preserved
loop-more-preserved g c =
    let l = c.loop-more in
    let last = c.read_once-last in
    let y = last.new.buffer in
    let same = last.ensures.within.1 in
    let part = part_length l.buffer y l.got l.invariant.within same in
    let whole = whole_length l.buffer y l.got l.invariant.within same in
    record {
      within = rw whole (omega (arith, part, last.ensures.within.0));
      same = whole ∙ l.invariant.same;
      bytes = rw (read_after l.buffer y l.got l.invariant.within same last.result.got last.ensures.within.0) (takes_more _ _ _ _ _ l.invariant.bytes last.ensures.bytes);
      whole = on_ok_weaker last.result.end (λ h none more. h (grind arith) (omega (arith, part, whole, more))) last.ensures.end;
    }
