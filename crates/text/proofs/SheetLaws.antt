-- From the lines that are read to the text that is printed: each way through the tests, and the call of decode in between.
-- Assumes nothing.
use mathlib.Core.Path.{◌≡◌, refl, sym, ap, ◌∙◌}
use mathlib.Core.Bool.{Bool, true, false, cond, not}
use mathlib.Core.Logic.{dite}
use mathlib.Core.List.{List, [], ◌∷◌, map}
use Prim.Native.Nat.{ℕ, zero, suc, ◌+◌, ◌-◌, ◌*◌, ◌^◌, ◌<◌, ◌≤◌}
use native.Mathlib.Nat.{mul-le-mul}
use native.Mathlib.Decide.{dec_lt}
use native.Mathlib.Omega.{arith}
use borrow.Author.Tests.{eqb-true, not-false}
use lib.Dec.{eqb}
use lib.ListN.{length, take, drop, replicate, length-drop, get_or-eq_default, get_or-map}
use lib.Seq.{take_all}
use Rattle.laws.specs.Tests.{every}
use Rattle.degree.specs.declared.Degree.{Degree}
use Rattle.std.specs.Prelude.{None, Some, Result}
use Rattle.degree.specs.Degree.{bits, size, named}
use Rattle.line.specs.Cells.{Cells}
use Rattle.line.specs.declared.refusals.Refusal.{Refusal}
use Rattle.array.specs.declared.report.Report.{Report}
use Rattle.line.specs.Refusals.{number, refusal}
use Rattle.line.specs.Working.Calls.{Tested}
use Rattle.line.proofs.Refusing.{known_unknown, known_size, none_applies, given_taken, given_refused, tested_known}
use Rattle.laws.proofs.Tests.{and_true}
use Rattle.array.specs.Plain.{fillings}
use Rattle.array.specs.Working.Runs.{DecodingDone}
use Rattle.line.proofs.Bounds.{size_le}
use Rattle.array.proofs.Fillings.{fillings_zeros}
use Rattle.array.proofs.ArrayLaws.{length_lines, line_lines, line_at, each_cell}
use Rattle.text.specs.Text.{byte, first_line, shaped, known, cell_of, cells_of, sheet_tests, report_text, refusal_text, decoded_text, printed}
use Rattle.text.specs.Working.Characters.{placed, zeros}
use Rattle.text.proofs.WritingLaws.{cells_even}

-- ---- sizes

-- the lines of a sheet have 16512 bytes at most
pub sheet_le : (n : ℕ) → n ≤ 128 → n * (n + 1) ≤ 16512
sheet_le n h = let l : n + 1 ≤ 129 = omega arith in mul-le-mul h l

-- ---- the cells that are read make an array

pick_small : (p q : Bool) → cond p 1 (cond q 2 0) < 3
pick_small true q = omega arith
pick_small false true = omega arith
pick_small false false = omega arith

pub cells_array : (n : ℕ) (t : List ℕ) → length t ≡ n * (n + 1) → Cells 3 (n * n) (cells_of n t)
unfolding cells_of
cells_array n t e = record {
  long = long;
  small = each_cell (λ x. x < 3) n n (cells_of n t) (omega arith) long (λ a b p q. rw (← line_at n (cells_of n t) a b q, line_lines n row n a even p, get_or-map cell_of (take n (drop (a * (n + 1)) t)) b 0) (pick_small (eqb (byte (take n (drop (a * (n + 1)) t)) b) 49) (eqb (byte (take n (drop (a * (n + 1)) t)) b) 63)));
}
  where
    row : ℕ → List ℕ
    row i = map cell_of (take n (drop (i * (n + 1)) t))

    even : (i : ℕ) → i < n → length (row i) ≡ n
    even = cells_even cell_of n t e

    long : length (cells_of n t) ≡ n * n
    long = length_lines n row n even

-- ---- the filling

-- the numbers that are lent are 0
take_zeros : (k n : ℕ) → k ≤ n → take {A = ℕ} k (replicate n 0) ≡ replicate k 0
take_zeros zero n h = refl
take_zeros (suc k) zero h = absurd (omega arith)
take_zeros (suc k) (suc n) h = ap (λ (l : List ℕ). 0 ∷ l) (take_zeros k n (omega arith))

pub numbers_are : (d : Degree) {x : ℕ} → x ≡ size d → take {A = ℕ} (4 * x) (replicate 512 0) ≡ replicate (4 * size d) 0
numbers_are d e = rw e (take_zeros (4 * size d) 512 (omega (arith, size_le d refl)))

-- and so are the filling words
pub zero_fillings : (d : Degree) → fillings (replicate (4 * size d) 0) ≡ zeros d
zero_fillings d = let e : 4 * size d ≡ 2 * (2 * size d) = omega arith in rw e (fillings_zeros (2 * size d))

-- ---- what is printed for a decoding

pub report_is : (d : Degree) {n : ℕ} (t : List ℕ) {r after : List ℕ} {u : Report} → n ≡ size d → r ≡ cells_of n t → DecodingDone d 1 r (zeros d) after u
    → report_text n after u.count u.erasures u.closed ≡ decoded_text d (cells_of (size d) t)
unfolding decoded_text
report_is d t e f v = rw (v.cells, v.count, v.erasures, v.closed, f, e)

-- ---- the tests

module _ (t : List ℕ) where
  -- after the first line, the lines by their degree
  pub sheet_known : (d : Degree) (r : Result Degree Refusal) {rest : List ℕ} → rest ≡ drop 2 t → named (first_line t) ≡ Some d
      → Tested (bits d) ((3, not (shaped (size d) rest)) ∷ (4, not (known rest)) ∷ []) r → Tested (first_line t) (sheet_tests t) r
  unfolding sheet_tests
  sheet_known d r {rest} f e h =
      tested_known (first_line t) d ((3, not (shaped (size d) rest)) ∷ (4, not (known rest)) ∷ []) (sheet_tests t) r e
      (rw (e, known_size (first_line t) d e, f)) h

  -- a text that is taken has the length of its lines
  pub sheet_takes : (d : Degree) → (refusal (sheet_tests t) ≡ 0) × (named (first_line t) ≡ Some d) → length (drop 2 t) ≡ size d * (size d + 1)
  unfolding sheet_tests shaped
  sheet_takes d h =
      let n = 2 ^ first_line t in
      let p = none_applies (sheet_tests t) tt h.0 in
      let q = and_true (eqb (length (drop 2 t)) (n * (n + 1))) (every (λ p. placed n p (byte (drop 2 t) p)) (length (drop 2 t))) (not-false _ p.1.0) in
      rw (known_size (first_line t) d h.1) at (eqb-true (length (drop 2 t)) (n * (n + 1)) q.0)

  -- what is printed
  pub printed_taken : (d : Degree) → (refusal (sheet_tests t) ≡ 0) × (named (first_line t) ≡ Some d) → decoded_text d (cells_of (size d) (drop 2 t)) ≡ printed t
  unfolding printed
  printed_taken d h = sym (given_taken (sheet_tests t) (first_line t) (λ d. decoded_text d (cells_of (size d) (drop 2 t))) (refusal_text (refusal (sheet_tests t))) h)

  pub printed_refused : (why : Refusal) {x : ℕ} → x ≡ number why → number why ≡ refusal (sheet_tests t) → refusal_text x ≡ printed t
  unfolding printed
  printed_refused why e h =
      ap refusal_text (e ∙ h) ∙ sym (given_refused (sheet_tests t) (first_line t) (λ d. decoded_text d (cells_of (size d) (drop 2 t))) (refusal_text (refusal (sheet_tests t))) why h)

-- the test of shape at the degree's n
pub is_of : (d : Degree) {n : ℕ} {x y : Bool} → n ≡ size d → (t : List ℕ) → x ≡ shaped n t → x ≡ y → shaped (size d) t ≡ y
is_of d e t f g = ap (λ (k : ℕ). shaped k t) (sym e) ∙ sym f ∙ g

-- a first line that names a degree has two bytes
pub named_long : (t : List ℕ) (d : Degree) → named (first_line t) ≡ Some d → 2 ≤ length t
named_long t d e = dite (dec_lt (length t) 2) (λ q. absurd (short q)) (λ q. omega arith)
  where
    short : length t < 2 → ⊥
    short q = let f : named (first_line t) ≡ None = rw (get_or-eq_default t 0 {n = 1} (omega arith)) in known_unknown e f

pub rest_is : (t : List ℕ) → take (length t - 2) (drop 2 t) ≡ drop 2 t
rest_is t = take_all (length t - 2) (drop 2 t) (omega (arith, length-drop 2 t))
