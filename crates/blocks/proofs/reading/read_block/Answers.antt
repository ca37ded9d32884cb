-- `reading::read_block` meets its contract: header, rows and filler, and the two sums of all of them.
-- Assumes nothing.
use native.Mathlib.Omega.{arith}
use mathlib.Core.Path.{refl}
use Rattle.blocks.specs.Blocks.{sound}
use Rattle.blocks.proofs.FileLaws.{rows_long}
use Rattle.blocks.proofs.ReadParts.{rows_part, filler_part, rows_room, filler_room, block_small, block_tested}
use Rattle.blocks.proofs.reading.read_block.Goals as goal

pub read_rows-rows-requires : goal.read_rows-rows-requires
read_rows-rows-requires c =
    let h = c.read_header-header.ensures in
    let k = c.args.bytes.now in
    let b = c.args.block in
    (rw (rows_part b k c.requires.0 c.requires.1) (rows_room b k c.requires.0 h.2 h.3), rw (rows_part b k c.requires.0 c.requires.1) (omega (arith, rows_long b k c.requires.0, c.requires.1)))

pub read_filler-filler-requires : goal.read_filler-filler-requires
read_filler-filler-requires c =
    let h = c.read_header-header.ensures in
    let k = c.args.bytes.now in
    let b = c.args.block in
    let r = rw (rows_part b k c.requires.0 c.requires.1) at c.read_rows-rows.ensures in
    rw (filler_part b k c.requires.0 c.requires.1) (filler_room b k c.requires.0 h.2 h.3 r.0 r.2)

pub returns : goal.returns
unfolding sound
returns c =
    let h = c.read_header-header.ensures in
    let k = c.args.bytes.now in
    let b = c.args.block in
    let r = rw (rows_part b k c.requires.0 c.requires.1) at c.read_rows-rows.ensures in
    let f = rw (filler_part b k c.requires.0 c.requires.1) at c.read_filler-filler.ensures in
    record {
      number = h.0;
      formed = h.1;
      summed = rw (c.reduced.ensures, c.reduced-2.ensures) (block_tested b k c.requires.0 h.2 h.3 r.0 r.2 f.0 f.2);
      sound = rw (c.at_most.ensures, r.1, f.1) refl;
      cells = r.1;
      bytes = block_small b k c.requires.0 h.2 h.3 r.0 r.2 f.0 f.2;
    }
