-- `line::bounded::bounded_word` meets its contract: the located positions and the parity say what bounded distance finds.
-- Assumes nothing.
use native.Mathlib.Omega.{arith}
use lib.Dec.{eqb}
use Rattle.line.proofs.RowLaws.{word_place}
use Rattle.line.proofs.Tries.{place_below, tried_bounded}
use Rattle.line.proofs.bounded.bounded_word.Goals as goal

pub mended-requires : goal.mended-requires
mended-requires c =
    let r = c.word_place.result in
    let w = c.word_place.ensures in
    (omega (arith, w.parity), place_below c.args.tables.now.degree _ _ r.entry (eqb r.parity 0) w.fits)

pub returns : goal.returns
returns c = λ ws p. tried_bounded c.args.tables.now.degree c.word_place.result {t = c.mended.result} p (word_place p c.word_place.ensures) (c.mended.ensures ws p)
