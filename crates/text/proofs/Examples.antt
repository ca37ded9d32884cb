-- Examples that the checker computes: decimal numbers, and what is printed for a first line that is refused, for one that no line
-- follows, and for whole sheets with one fault and with two.
-- Assumes nothing.
use mathlib.Core.Path.{◌≡◌, refl}
use mathlib.Core.Bool.{cond}
use mathlib.Core.List.{List, [], ◌∷◌, ◌++◌}
use Prim.Native.Nat.{ℕ}
use lib.Dec.{eqb}
use lib.ListN.{replicate}
use Rattle.line.specs.Refusals.{given}
use Rattle.array.specs.Arrays.{lines}
use Rattle.text.specs.Text.{shaped, known, sheet_tests, decimal_digits, decimal, number_text, numbers_text, refusal_text, printed}

zero_is : decimal 0 ≡ 48 ∷ []
unfolding decimal_digits decimal
zero_is = refl

sixty_four_is : decimal 64 ≡ 54 ∷ 52 ∷ []
unfolding decimal_digits decimal
sixty_four_is = refl

hundred_is : decimal 100 ≡ 49 ∷ 48 ∷ 48 ∷ []
unfolding decimal_digits decimal
hundred_is = refl

-- the number and three zeros
abbrev refused : ℕ → List ℕ
refused c = c ∷ 32 ∷ 48 ∷ 32 ∷ 48 ∷ 32 ∷ 48 ∷ 10 ∷ []

-- an empty input, 4 without a newline, 04, 4 with a carriage return, 5 and 8
nothing : printed [] ≡ refused 49
unfolding printed given sheet_tests refusal_text numbers_text number_text decimal_digits decimal
nothing = refl

no_newline : printed (52 ∷ []) ≡ refused 49
unfolding printed given sheet_tests refusal_text numbers_text number_text decimal_digits decimal
no_newline = refl

zero_four : printed (48 ∷ 52 ∷ 10 ∷ []) ≡ refused 49
unfolding printed given sheet_tests refusal_text numbers_text number_text decimal_digits decimal
zero_four = refl

carriage : printed (52 ∷ 13 ∷ 10 ∷ []) ≡ refused 49
unfolding printed given sheet_tests refusal_text numbers_text number_text decimal_digits decimal
carriage = refl

five : printed (53 ∷ 10 ∷ []) ≡ refused 49
unfolding printed given sheet_tests refusal_text numbers_text number_text decimal_digits decimal
five = refl

eight : printed (56 ∷ 10 ∷ []) ≡ refused 49
unfolding printed given sheet_tests refusal_text numbers_text number_text decimal_digits decimal
eight = refl

-- no lines after 4, and none after 7, which is a degree (document 02, W-212)
no_lines : printed (52 ∷ 10 ∷ []) ≡ refused 51
unfolding printed given sheet_tests shaped refusal_text numbers_text number_text decimal_digits decimal
no_lines = refl

no_long_lines : printed (55 ∷ 10 ∷ []) ≡ refused 51
unfolding printed given sheet_tests shaped refusal_text numbers_text number_text decimal_digits decimal
no_long_lines = refl

-- ---- sheets of degree 4, by one of their lines

-- sixteen lines 0000000000000000, but line 9
abbrev sheet : List ℕ → List ℕ
sheet l = 52 ∷ 10 ∷ lines (λ i. cond (eqb i 9) l (replicate 16 48 ++ (10 ∷ []))) 16

-- what is printed of such sheets
abbrev printed_of : List (List ℕ)
printed_of =
    -- another character, in the first cell and in the last: 2 and a space
    printed (sheet (50 ∷ (replicate 15 48 ++ (10 ∷ []))))
    ∷ printed (sheet (replicate 15 48 ++ (32 ∷ 10 ∷ [])))
    -- a cell too few, a cell too many, a newline in a cell's place, another byte in a newline's
    ∷ printed (sheet (replicate 15 48 ++ (10 ∷ [])))
    ∷ printed (sheet (replicate 17 48 ++ (10 ∷ [])))
    ∷ printed (sheet (10 ∷ (replicate 15 48 ++ (10 ∷ []))))
    ∷ printed (sheet (replicate 16 48 ++ (49 ∷ [])))
    -- another character and a cell too few
    ∷ printed (sheet (50 ∷ (replicate 14 48 ++ (10 ∷ []))))
    ∷ []

-- "4 0 0 0" twice, then "3 0 0 0"
sheets_refused : printed_of ≡ refused 52 ∷ refused 52 ∷ refused 51 ∷ refused 51 ∷ refused 51 ∷ refused 51 ∷ refused 51 ∷ []
unfolding printed given sheet_tests shaped known refusal_text numbers_text number_text decimal_digits decimal lines
sheets_refused = refl
