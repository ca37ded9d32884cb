-- The tests of the load: a sum that wraps, and the tests of encode before those of the seed and of the cells to be hit.
-- Assumes nothing.
use Rattle.std.proofs.Common.{◌≡◌, ℕ, ◌+◌, ◌*◌, ◌%◌, ◌^◌, ◌<◌, ◌≤◌, Bool, ◌||◌, T, eqb, ltb, List, [], ◌∷◌, sym, ap, ◌∙◌, arith, ltb-false, le-ltb, lt-ltb}
use mathlib.Core.Logic.{dite}
use native.Mathlib.Decide.{dec_lt}
use Rattle.degree.specs.declared.Degree.{Degree}
use Rattle.std.specs.Prelude.{Some, Result}
use Rattle.degree.specs.Degree.{bits, size, named}
use Rattle.line.specs.declared.refusals.Refusal.{Refusal}
use Rattle.line.specs.Refusals.{number, refusal}
use Rattle.line.specs.Working.Calls.{Tested}
use Rattle.line.proofs.Refusing.{numbered, none_applies, refusal_more, refusal_first, refusal_rest, some_number, known_size, tested_known}
use Rattle.array.specs.Refusals.{coding_tests}
use Rattle.load.specs.Entries.{load_tests}

-- a sum of two numbers of 64 bits that wraps is below the first of them, so that it tells by itself that it wraps: the code, which asks
-- for the sum only where it fits, does without
pub sum_above : (area wrong unsure : ℕ) {sum : ℕ} → area < 2 ^ 64 → wrong < 2 ^ 64 → unsure < 2 ^ 64 → sum ≡ (wrong + unsure) % 2 ^ 64
    → (ltb sum wrong || ltb area sum) ≡ ltb area (wrong + unsure)
sum_above area wrong unsure {sum} ha hw hu e =
    dite (dec_lt (wrong + unsure) (2 ^ 64))
    (λ l. let s : sum ≡ wrong + unsure = omega arith in rw (s, le-ltb (wrong + unsure) wrong (omega arith)))
    (λ l. rw (lt-ltb sum wrong (omega arith), lt-ltb area (wrong + unsure) (omega arith)))

module _ (degree seed wrong unsure : ℕ) (message cells : List ℕ) where
  abbrev Before : List (ℕ × Bool)
  Before = coding_tests 1 degree message cells message

  -- the tests after 4
  abbrev Last : (n : ℕ) → List (ℕ × Bool)
  Last n = (8, eqb seed 0) ∷ (9, ltb (n * n) (wrong + unsure)) ∷ []

  before_numbered : T (numbered Before)
  unfolding coding_tests
  before_numbered = tt

  pub load_refused : (why : Refusal) → number why ≡ refusal Before → number why ≡ refusal (load_tests degree seed wrong unsure message cells)
  unfolding load_tests
  load_refused why h = h ∙ sym (refusal_more Before (Last (2 ^ degree)) (λ z. some_number why (h ∙ z)))

  pub load_last : (d : Degree) (r : Result Degree Refusal) → (refusal Before ≡ 0) × (named degree ≡ Some d) → Tested (bits d) (Last (size d)) r
      → Tested degree (load_tests degree seed wrong unsure message cells) r
  unfolding load_tests
  load_last d r h t =
      tested_known degree d (Last (size d)) (load_tests degree seed wrong unsure message cells) r h.1
      (ap (λ (n : ℕ). refusal (Last n)) (sym (known_size degree d h.1)) ∙ sym (refusal_rest Before (Last (2 ^ degree)) before_numbered h.0)) t

  -- what those of a taken call say: the tests of encode are passed, and there are as many cells as are to be hit
  pub load_takes : (d : Degree) → (refusal (load_tests degree seed wrong unsure message cells) ≡ 0) × (named degree ≡ Some d)
      → (refusal Before ≡ 0) × (wrong + unsure ≤ size d * size d)
  unfolding load_tests
  load_takes d h =
      let z = refusal_first Before (Last (2 ^ degree)) before_numbered h.0 in
      let l = none_applies (Last (2 ^ degree)) tt (sym (refusal_rest Before (Last (2 ^ degree)) before_numbered z) ∙ h.0) in
      (z, rw (known_size degree d h.1) at (ltb-false (2 ^ degree * 2 ^ degree) (wrong + unsure) l.1.0))
