-- `line::bounded::counted` meets its contract: one decoding by the steps of `bounded_word`, and one is added.
-- Assumes nothing.
use mathlib.Core.Path.{refl}
use native.Mathlib.Omega.{arith}
use lib.Dec.{eqb}
use Rattle.line.proofs.RowLaws.{word_place}
use Rattle.line.proofs.Tries.{place_below, tried_bounded}
use Rattle.line.proofs.bounded.counted.Goals as goal

pub mended-value-requires : goal.mended-value-requires
mended-value-requires c =
    let r = c.word_place.result in
    let w = c.word_place.ensures in
    (omega (arith, w.parity), place_below c.args.tables.now.degree _ _ r.entry (eqb r.parity 0) w.fits)

pub returns : goal.returns
returns c =
    (refl, λ ws p. tried_bounded c.args.tables.now.degree c.word_place.result {t = c.mended-value.result} p (word_place p c.word_place.ensures) (c.mended-value.ensures ws p))
