-- `lines::differences` meets its contract. Assumes nothing.
use Rattle.std.proofs.Common.{zip, sym, arith, rules}
use Rattle.std.proofs.lemmas.List.{take_all}
use Rattle.std.proofs.lemmas.Slice.Zip.{length-zip}
use Rattle.second.proofs.Loops.{difference_next}
use Rattle.second.proofs.lines.differences.Goals as goal

pub loop-i-preserved : goal.loop-i-preserved
loop-i-preserved c =
    let turn = c.loop-i in
    let s = c.args in
    (rw c.one_if-many.ensures.0 (difference_next s.line.now s.word.now turn.i (omega arith) (omega arith) turn.invariant.0), search rules)

pub returns : goal.returns
returns c =
    let turn = c.loop-i in
    let both = zip c.args.line.now c.args.word.now in
    (rw (sym (take_all turn.i both (rw (length-zip c.args.line.now c.args.word.now) (omega arith)))) turn.invariant.0, search rules)
