-- The look-up of a row: a refused one gives an empty part, and the rows of an array, looked up one after the other, are the array.
-- Assumes nothing.
use mathlib.Core.Path.{◌≡◌, sym, ◌∙◌}
use mathlib.Core.List.{List, []}
use Prim.Native.Nat.{ℕ, ◌<◌}
use Rattle.degree.specs.declared.Degree.{Degree}
use Rattle.std.specs.Prelude.{Some, Result, Ok, Err, IfOk}
use Rattle.std.specs.Result.{result_unwrap_or}
use denote.Ref.{Bor}
use Rattle.line.specs.declared.refusals.Refusal.{Refusal}
use Rattle.line.specs.Refusals.{refusal_of}
use lib.Pow.{pow_pos}
use Rattle.degree.specs.Degree.{bits, size, named}
use Rattle.line.proofs.Refusing.{given_taken, given_refused}
use Rattle.array.specs.Arrays.{line, lines}
use Rattle.array.specs.Refusals.{row_tests}
use Rattle.array.specs.Entries.{row_refusal, row_part}
use Rattle.array.proofs.ArrayLaws.{lines_are}
use Rattle.array.proofs.Refusing.{row_taken}

positive : (d : Degree) → 0 < size d
positive d = pow_pos (bits d)

pub rows_whole : (d : Degree) (degree : ℕ) (cells : List ℕ) → named degree ≡ Some d → ((i : ℕ) → i < size d → row_refusal degree cells i ≡ 0)
    → lines (row_part degree cells) (size d) ≡ cells
rows_whole d degree cells e taken =
    lines_are (size d) (row_part degree cells) (size d) cells
    (row_taken degree cells 0 d (taken 0 (positive d), e)).0
    (λ i h. given_taken (row_tests degree cells i []) degree (λ c. line (size c) cells i) [] (taken i h, e))

-- the part that is found, or an empty one
pub part_or : (degree : ℕ) (cells : List ℕ) (index : ℕ) (r : Result (Bor (List ℕ)) Refusal) (none : Bor (List ℕ)) → refusal_of r ≡ row_refusal degree cells index
    → IfOk r (λ part. part.now ≡ row_part degree cells index) → none.now ≡ [] → (result_unwrap_or r none).now ≡ row_part degree cells index
part_or degree cells index (Ok part) none z h e = h
part_or degree cells index (Err why) none z h e = e ∙ sym (given_refused (row_tests degree cells index []) degree (λ d. line (size d) cells index) [] why z)
