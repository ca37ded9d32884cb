-- The text of a sheet: what the program `sheet` reads, and what it prints. Document 01, "Small lines, degree 4", the paragraph
-- on `sheet`; open points are settled by docs/DECISIONS.md. A text is a list of bytes.
use Rattle.std.specs.Prelude.{Bool, cond, not, ◌&&◌, ◌||◌, List, [], ◌∷◌, ◌++◌, map, ℕ, zero, suc, ◌+◌, ◌-◌, ◌*◌, ◌/◌, ◌%◌, ◌^◌, eqb, ltb, length, take, drop, get_or, replicate}
use Rattle.laws.specs.Bits.{bit}
use Rattle.laws.specs.Tests.{every}
use Rattle.degree.specs.declared.Degree.{Degree}
use Rattle.degree.specs.Degree.{size}
use Rattle.line.specs.Cells.{erasures}
use Rattle.line.specs.Refusals.{refusal, given, unnamed}
use Rattle.array.specs.Arrays.{line, lines}
use Rattle.array.specs.Plain.{plain, plain_count, closed}

-- byte p of a text; past its end a text reads 0, which is no character of a sheet
abbrev pub byte : List ℕ → ℕ → ℕ
byte t p = get_or t p 0

-- ---- what is read

-- the degree that the first line says, "just" a digit and a newline: 48 is the character 0, 10 the newline. Any other first line
-- says 0, which is no degree.
abbrev pub first_line : List ℕ → ℕ
first_line t = cond (eqb (byte t 1) 10) (byte t 0 - 48) 0

-- the byte total and the newline places of n lines, each of n cells and a newline: byte p is a newline exactly if it is the last of its line
unfoldable pub shaped : ℕ → List ℕ → Bool
shaped n t = eqb (length t) (n * (n + 1)) && every (λ p. cond (eqb (p % (n + 1)) n) (eqb (byte t p) 10) (not (eqb (byte t p) 10))) (length t)

-- no other character than a newline and those of cells: 48 is 0, 49 is 1, 63 is ?
unfoldable pub known : List ℕ → Bool
known t = every (λ p. eqb (byte t p) 10 || (eqb (byte t p) 48 || (eqb (byte t p) 49 || eqb (byte t p) 63))) (length t)

-- the tests of what is read, the lines being what follows the first 2 bytes: "A first line other than just 4 or 6 and a newline is 1",
-- but document 02, W-212: "takes a first line 7 as well". "Wrong byte totals or newline places are 3; another character is 4."
unfoldable pub sheet_tests : (input : List ℕ) → List (ℕ × Bool)
sheet_tests input =
    (1, unnamed (first_line input))
    ∷ (3, not (shaped (2 ^ first_line input) (drop 2 input)))
    ∷ (4, not (known (drop 2 input))) ∷ []

-- the cell that a character stands for: ? is 2, unsure
abbrev pub cell_of : ℕ → ℕ
cell_of b = cond (eqb b 49) 1 (cond (eqb b 63) 2 0)

-- the cells of n lines, row after row
unfoldable pub cells_of : ℕ → List ℕ → List ℕ
cells_of n t = lines (λ i. map cell_of (take n (drop (i * (n + 1)) t))) n

-- ---- what is printed

-- the digits of n, the highest first and at most k of them; 48 is the character 0
unfoldable pub decimal_digits : ℕ → ℕ → List ℕ
decimal_digits zero n = []
decimal_digits (suc k) n = cond (ltb n 10) ((48 + n) ∷ []) (decimal_digits k (n / 10) ++ ((48 + n % 10) ∷ []))

-- a number in decimal: no number has more than n + 1 digits
unfoldable pub decimal : ℕ → List ℕ
decimal n = decimal_digits (suc n) n

-- a number and the byte after it
unfoldable pub number_text : ℕ → ℕ → List ℕ
number_text n end = decimal n ++ (end ∷ [])

-- four numbers "in decimal with single spaces", and a newline
unfoldable pub numbers_text : ℕ → ℕ → ℕ → ℕ → List ℕ
numbers_text a b c e = number_text a 32 ++ (number_text b 32 ++ (number_text c 32 ++ number_text e 10))

-- the character of a cell
abbrev pub char_of : ℕ → ℕ
char_of c = cond (eqb c 0) 48 (cond (eqb c 1) 49 63)

-- a line of cells "in the same characters", and its newline
unfoldable pub line_text : List ℕ → List ℕ
line_text l = map char_of l ++ (10 ∷ [])

unfoldable pub array_text : ℕ → List ℕ → List ℕ
array_text n m = lines (λ i. line_text (line n m i)) n

-- "refusal number (0 for none), count, unsure cells and closed (1 or 0)", and "the n decoded lines follow"
unfoldable pub report_text : ℕ → List ℕ → ℕ → ℕ → Bool → List ℕ
report_text n m count unsure shut = numbers_text 0 count unsure (bit shut) ++ array_text n m

-- "unless refused": then closed is no, and every further number is 0
unfoldable pub refusal_text : ℕ → List ℕ
refusal_text number = numbers_text number 0 0 0

-- "It runs one iteration with zero filling": 2 n words
unfoldable pub decoded_text : Degree → List ℕ → List ℕ
decoded_text d r =
    let w : List ℕ = replicate (2 * size d) 0 in let m = plain d 1 r r w in
    report_text (size d) m (plain_count d 1 r r w) (erasures m) (closed d m)

-- what `sheet` prints for what it reads
unfoldable pub printed : List ℕ → List ℕ
printed t = given (first_line t) (sheet_tests t) (λ d. decoded_text d (cells_of (size d) (drop 2 t))) (refusal_text (refusal (sheet_tests t)))
