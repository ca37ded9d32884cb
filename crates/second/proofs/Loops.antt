-- One turn more of a loop over cells.
-- Assumes nothing.
use Rattle.std.proofs.Common.{◌≡◌, ℕ, suc, ◌+◌, ◌-◌, ◌%◌, ◌<◌, Bool, cond, not, ◌&&◌, ◌==◌, List, length, get_or, set, take, zip, sum_by, count_by, ap, sym, ◌∙◌, ap₂, add-one, arith}
use Rattle.std.proofs.lemmas.List.Sums.{sum_by_more}
use Rattle.std.proofs.lemmas.Slice.Zip.{get_or-zip, length-zip}
use lib.Bits.{bit_xor}
use Rattle.laws.specs.Sums.{sum_to}
use Rattle.laws.specs.Tests.{every}
use Rattle.std.specs.List.{swap}
use Rattle.second.specs.declared.loads.Mark.{Mark}
use Rattle.second.specs.Working.Codes.{times_alpha, power_of}
use Rattle.second.specs.Working.Arrays.{taken_line, with_line}
use Rattle.second.specs.Working.Encoding.{coefficient_of, divided, remainder_of, encoded_line, encoded_to}
use Rattle.second.specs.Working.Loops.{written, xored}
use Rattle.second.specs.Working.Blocks.{sum_a, sum_b, with_sums, summed}
use Rattle.second.specs.Working.Loads.{shifted, shifted_times, changed_to}

-- one value more is written
pub written_next : {A : Type 0} (p : ℕ → ℕ) (g : ℕ → A) (k : ℕ) (m : List A) {l : List A} → l ≡ written p g k m → set l (p k) (g k) ≡ written p g (k + 1) m
unfolding written
written_next {A} p g k m e = rw (add-one k) (ap (λ (x : List A). set x (p k) (g k)) e)

-- one number more is added by exclusive or
pub xored_next : (f : ℕ → ℕ) (k : ℕ) {x : ℕ} → x ≡ xored f k → bit_xor x (f k) ≡ xored f (k + 1)
unfolding xored
xored_next f k e = rw (add-one k) (ap (λ (y : ℕ). bit_xor y (f k)) e)

-- one number more is added
pub sum_next : (f : ℕ → ℕ) (k : ℕ) {x : ℕ} → x ≡ sum_to f k → x + f k ≡ sum_to f (k + 1)
unfolding sum_to
sum_next f k e = rw (add-one k) (ap (λ (y : ℕ). y + f k) e)

-- do a cell of a line, which is known, and one of a word differ?
abbrev pub differs : ℕ × ℕ → Bool
differs p = not (p.0 == 2) && not (p.0 == p.1)

-- one cell more is compared
pub difference_next : (line word : List ℕ) (i : ℕ) {many : ℕ} → i < length line → i < length word → many ≡ count_by differs (take i (zip line word))
    → many + cond (differs (get_or line i 0, get_or word i 0)) 1 0 ≡ count_by differs (take (i + 1) (zip line word))
difference_next line word i {many} a b e =
    let one : ℕ × ℕ → ℕ = λ p. cond (differs p) 1 0 in
    let before : ℕ = sum_by one (take i (zip line word)) in
    let within : i < length (zip line word) = rw (length-zip line word) (omega arith) in
    ap (λ (m : ℕ). m + one (get_or line i 0, get_or word i 0)) e
    ∙ sym (ap (λ (p : ℕ × ℕ). before + one p) (get_or-zip line word i (0, 0) a b))
    ∙ sym (sum_by_more one (zip line word) i (0, 0) within)

-- one power more
pub power_next : (n e : ℕ) {x : ℕ} → x ≡ power_of n e → times_alpha n x ≡ power_of n (e + 1)
unfolding power_of
power_next n e p = rw (add-one e) (ap (times_alpha n) p)

-- one step more of the division
pub remainder_next : (n : ℕ) (line : List ℕ) (j : ℕ) {rest : ℕ} → rest ≡ remainder_of n line j
    → divided n rest (coefficient_of n (n - 1 - 1 - j) line) ≡ remainder_of n line (j + 1)
unfolding remainder_of
remainder_next n line j e = rw (add-one j) (ap (λ (r : ℕ). divided n r (coefficient_of n (n - 1 - 1 - j) line)) e)

-- one line more is encoded
pub encoded_next : (n k : ℕ) (m : List ℕ) {l : List ℕ} → l ≡ encoded_to n k m → with_line n k (encoded_line n (taken_line n k l)) l ≡ encoded_to n (k + 1) m
unfolding encoded_to
encoded_next n k m e = rw (add-one k) (ap (λ (x : List ℕ). with_line n k (encoded_line n (taken_line n k x)) x) e)

-- one byte more is summed
pub sum_a_next : (byte : ℕ → ℕ) (k : ℕ) {a : ℕ} → a ≡ sum_a byte k → (a + byte k) % 255 ≡ sum_a byte (k + 1)
unfolding sum_a
sum_a_next byte k e = rw (add-one k) (ap (λ (x : ℕ). (x + byte k) % 255) e)

pub sum_b_next : (byte : ℕ → ℕ) (k : ℕ) {a b : ℕ} → a ≡ sum_a byte k → b ≡ sum_b byte k → (b + (a + byte k) % 255) % 255 ≡ sum_b byte (k + 1)
unfolding sum_b
sum_b_next byte k e f = rw (add-one k) (ap₂ (λ (x y : ℕ). (y + (x + byte k) % 255) % 255) e f)

-- all are tested
pub tested_all : (f : ℕ → Bool) (k n : ℕ) {x : Bool} → k ≡ n → x ≡ every f k → x ≡ every f n
tested_all f k n e h = h ∙ ap (every f) e

-- one block more has its sums
pub summed_next : (k : ℕ) (m : List ℕ) {l : List ℕ} → l ≡ summed k m → with_sums k l ≡ summed (k + 1) m
unfolding summed
summed_next k m e = rw (add-one k) (ap (with_sums k) e)

-- one draw more
pub shifted_next : (seed k : ℕ) {s : ℕ} → s ≡ shifted_times seed k → shifted s ≡ shifted_times seed (k + 1)
unfolding shifted_times
shifted_next seed k e = rw (add-one k) (ap shifted e)

-- one place more changes
pub changed_next : (draws : List ℕ) (k : ℕ) (m : List Mark) {l : List Mark} → l ≡ changed_to draws k m → swap l (k + 1) (get_or draws (k + 1) 0 % (k + 1 + 1)) ≡ changed_to draws (k + 1) m
unfolding changed_to
changed_next draws k m e = rw (add-one k) (ap (λ (x : List Mark). swap x (suc k) (get_or draws (suc k) 0 % (suc k + 1))) e)
