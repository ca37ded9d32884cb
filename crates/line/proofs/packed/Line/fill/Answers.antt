-- `Line::fill` meets its contract: the filling's bits go where the erased bits are; word two has them turned.
-- Assumes nothing.
use mathlib.Core.Path.{ap, ◌∙◌}
use mathlib.Core.List.{[], ◌∷◌}
use Prim.Native.Nat.{ℕ}
use lib.Bits.{bit_or, bit_xor}
use Rattle.line.specs.declared.side.Side.{Side}
use Rattle.line.specs.declared.side.Side.TheVariants.{One, Two}
use Rattle.line.specs.Cells.{filled}
use Rattle.line.specs.Working.Packed.{PacksWord, side_word}
use Rattle.words.specs.Working.Word.{value}
use Rattle.line.proofs.Packing.{packed_as, filled_one, filled_two}
use Rattle.line.proofs.packed.Line.fill.Goals as goal

pub returns : goal.returns
returns c =
    let a = c.args in
    let f = value a.filling in
    let one = c.or_words-one.ensures ∙ ap (bit_or (value a.self.ones)) c.and_words.ensures in
    let two = c.xor_words-two.ensures ∙ ap (λ (w : ℕ). bit_xor w (value a.self.erased)) one in
    λ n cs p s. elim s as (λ (s : Side). PacksWord n (filled s cs f) (value (side_word s (c.or_words-one.result ∷ c.xor_words-two.result ∷ [])))) [ One ↦ packed_as one (filled_one f p) | Two ↦ packed_as two (filled_two f p) ]
