-- `tallies::write_bytes` meets its contract.
use Rattle.std.proofs.Common.{rules}
use Rattle.second.proofs.Parts.{front_more}
use Rattle.second.proofs.tallies.write_bytes.Goals as goal

pub loop-at-preserved : goal.loop-at-preserved
loop-at-preserved g c =
    let turn = c.loop-at in
    record {
      within = search rules;
      text = front_more c.args.bytes.now turn.at c.in_ok-at.field-0 _ _ _ turn.invariant.text c.in_ok-at.ensures.text;
    }
