-- `writing::write_block` meets its contract: header, rows and end, one behind the other.
-- Assumes nothing.
use native.Mathlib.Omega.{arith}
use Rattle.blocks.proofs.WrittenParts.{rows_asked, end_asked, block_written}
use Rattle.blocks.proofs.writing.write_block.Goals as goal

pub write_rows-written-requires : goal.write_rows-written-requires
write_rows-written-requires c =
    let r = c.rows_in in
    let h = c.write_header-header.ensures in
    rows_asked c.args.block c.args.number r.result c.args.cells.now c.args.bytes.now c.requires.0 (omega arith) c.requires.1 r.ensures c.requires.2 h.0 h.1

pub write_end-requires : goal.write_end-requires
write_end-requires c =
    let r = c.rows_in in
    let h = c.write_header-header.ensures in
    let w = c.write_rows-written.ensures in
    end_asked c.args.block c.args.number r.result c.args.cells.now c.args.bytes.now c.requires.0 (omega arith) c.requires.1 r.ensures c.requires.2 h.0 h.1 w.0 w.1

pub returns : goal.returns
returns c =
    let r = c.rows_in in
    let h = c.write_header-header.ensures in
    let w = c.write_rows-written.ensures in
    block_written c.args.block c.args.number r.result c.args.cells.now c.args.bytes.now c.requires.0 (omega arith) c.requires.1 r.ensures c.requires.2 h.0 h.1 w.0 w.1 _ c.write_end.ensures
