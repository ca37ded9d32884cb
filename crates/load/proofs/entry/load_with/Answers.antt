-- `entry::load_with` meets its contract: what is written is the encoded sheet with its damage.
-- Assumes nothing.
use Rattle.load.proofs.Making.{damage_ready, load_made}
use Rattle.load.proofs.entry.load_with.Goals as goal

pub put_damage-requires : goal.put_damage-requires
put_damage-requires c =
    damage_ready c.args.d c.args.seed c.args.room.now c.args.cells.now c.requires.3 c.requires.1 c.put_order.ensures c.args.wrong c.args.unsure c.args.message.now c.encode_array.ensures c.requires.0 c.requires.2

pub returns : goal.returns
returns c =
    load_made c.args.d c.args.seed c.args.room.now c.args.cells.now c.requires.3 c.requires.1 c.put_order.ensures c.args.wrong c.args.unsure c.args.message.now c.encode_array.ensures c.put_damage.ensures
