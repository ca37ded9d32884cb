-- Document 01's table of refusals, by its examples, and calls with several faults, which give the lowest number.
-- Assumes nothing.
use mathlib.Core.Path.{◌≡◌, refl}
use mathlib.Core.Bool.{Bool}
use mathlib.Core.List.{List, [], ◌∷◌, map}
use Prim.Native.Nat.{ℕ}
use lib.ListN.{replicate, set}
use Rattle.line.specs.Refusals.{refusal, at_most, line_tests}
use Rattle.array.specs.Refusals.{coding_tests, row_tests, decode_tests}

-- so many zeros
abbrev blank : ℕ → List ℕ
blank n = replicate n 0

-- the tests of the calls
abbrev calls : List (List (ℕ × Bool))
calls =
    -- degree 5; degree 8
    decode_tests 5 1 (blank 1024) (blank 128) (blank 1024) []
    ∷ line_tests 2 8 (blank 256) []
    -- L = 21; L = 0; L = 20 is taken
    ∷ decode_tests 4 21 (blank 256) (blank 1344) (blank 256) []
    ∷ decode_tests 4 0 (blank 256) (blank 0) (blank 256) []
    ∷ decode_tests 4 20 (blank 256) (blank 1280) (blank 256) []
    -- degree 4, 255 cells; a number too many; one number a filling word
    ∷ decode_tests 4 1 (blank 255) (blank 64) (blank 256) []
    ∷ decode_tests 4 1 (blank 256) (blank 64) (blank 255) []
    ∷ decode_tests 4 1 (blank 256) (blank 65) (blank 256) []
    ∷ decode_tests 4 1 (blank 256) (blank 32) (blank 256) []
    -- degree 7: 128 cells a line, and not 64
    ∷ line_tests 2 7 (blank 128) []
    ∷ line_tests 2 7 (blank 64) []
    -- a cell 3; a cell 2 is taken; old cells of a slice that is only written are not tested
    ∷ decode_tests 4 1 (set (blank 256) 255 3) (blank 64) (blank 256) []
    ∷ decode_tests 4 1 (set (blank 256) 255 2) (blank 64) (blank 256) []
    ∷ decode_tests 4 1 (blank 256) (blank 64) (set (blank 256) 0 7) []
    -- in a message, a 2; in an array that is read, a 2 is taken; k by k is 49
    ∷ coding_tests 1 4 (set (blank 49) 48 2) (blank 256) (set (blank 49) 48 2)
    ∷ coding_tests 2 4 (blank 49) (set (blank 256) 0 2) (set (blank 256) 0 2)
    ∷ coding_tests 1 4 (blank 50) (blank 256) (blank 50)
    -- row n; row n - 1 is taken
    ∷ row_tests 4 (blank 256) 16 []
    ∷ row_tests 4 (blank 256) 15 []
    -- in a word for bounded distance, a 2; in a line, a 2 is taken
    ∷ line_tests 1 4 (set (blank 16) 0 2) []
    ∷ line_tests 2 4 (set (blank 16) 0 2) []
    -- several faults
    ∷ decode_tests 0 21 [] [] (blank 3) []
    ∷ decode_tests 4 21 (set (blank 255) 0 3) [] [] []
    ∷ decode_tests 4 1 (set (blank 255) 0 3) (blank 64) (blank 256) []
    ∷ []

pub table : map refusal calls ≡ 1 ∷ 1 ∷ 2 ∷ 2 ∷ 0 ∷ 3 ∷ 3 ∷ 3 ∷ 3 ∷ 0 ∷ 3 ∷ 4 ∷ 0 ∷ 0 ∷ 4 ∷ 0 ∷ 3 ∷ 3 ∷ 0 ∷ 4 ∷ 0 ∷ 1 ∷ 2 ∷ 3 ∷ []
unfolding decode_tests coding_tests row_tests line_tests at_most
table = refl
