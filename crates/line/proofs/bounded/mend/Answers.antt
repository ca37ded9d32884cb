-- `line::bounded::mend` meets its contract: three flips, each made or not, by the number of positions and the parity.
-- Assumes nothing.
use mathlib.Core.Path.{refl, ap, ap₂, ◌∙◌}
use Prim.Native.Nat.{◌/◌, ◌%◌}
use native.Mathlib.Omega.{arith}
use lib.Bits.{bit_xor}
use Rattle.degree.specs.Degree.{size}
use Rattle.field.specs.Working.Places.{positions_of}
use Rattle.words.specs.Working.Word.{value}
use Rattle.line.proofs.Packing.{flips_packed}
use Rattle.line.proofs.Tries.{last_below, some_mends, none_mends, first_below, second_below}
use Rattle.line.proofs.bounded.mend.Goals as goal

pub returns-then-changed-le-RADIUS : goal.returns-then-changed-le-RADIUS
returns-then-changed-le-RADIUS c =
    let a = c.args in
    let d = a.tables.now.degree in
    let n = size d in
    let low = c.single-low.ensures in
    let high = c.single-high.ensures in
    let end = rw c.order.ensures at c.single-end.ensures in
    let joined = c.xor_words-flips.ensures ∙ ap₂ bit_xor low (c.xor_words.ensures ∙ ap₂ bit_xor high end) in
    let number = a.place.entry / 16384 in
    let few = c.if-changed-le-RADIUS.true in
    let below = c.requires.1 in
    λ ws p.
    some_mends d ws _ _ number a.place.parity c.requires.0 few refl
    (flips_packed (a.place.entry % 128) (a.place.entry / 128 % 128) _ (omega arith) (omega arith) (omega arith)
    (c.xor_words-word.ensures ∙ ap (bit_xor (value a.word)) joined) p (λ _. last_below d)
    (second_below n a.place.entry a.place.parity c.requires.0 few below)
    (first_below n a.place.entry a.place.parity c.requires.0 few below))
    (positions_of a.place.entry) refl

pub returns-else-changed-le-RADIUS : goal.returns-else-changed-le-RADIUS
returns-else-changed-le-RADIUS c =
    let a = c.args in
    λ ws p. none_mends a.tables.now.degree ws _ _ (a.place.entry / 16384) a.place.parity c.requires.0 c.if-changed-le-RADIUS.false (positions_of a.place.entry) refl
