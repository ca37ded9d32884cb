-- What the call of the text form tells, from what is written below.
-- Assumes nothing.
use mathlib.Core.Path.{◌≡◌, refl, sym, ap, ◌∙◌}
use mathlib.Core.Bool.{Bool, true, false, cond, not, ◌&&◌, ◌||◌}
use mathlib.Core.List.{List, [], ◌∷◌, ◌++◌}
use Prim.Native.Nat.{ℕ, ◌≤◌}
use native.Mathlib.Omega.{arith}
use borrow.Author.Tests.{eqb-true}
use lib.ListN.{length, drop}
use Rattle.laws.proofs.Tests.{and_true}
use Rattle.line.specs.Refusals.{refusal}
use Rattle.line.proofs.Refusing.{unless_taken, unless_refused_lem}
use Rattle.text.specs.Text.{printed}
use Rattle.text.specs.Writing.{Wrote}
use Rattle.pugdrel.specs.Reports.{told}
use Rattle.pugdrel.specs.Working.Numbers.{fits}
use Rattle.pugdrel.specs.SheetCall.{sheet_call, SheetTold}

pub output_room : (output report : List ℕ) → (fits 16596 output && fits 1 report) ≡ true → 16596 ≤ length output
output_room output report e = omega (arith, eqb-true (length output) 16596 (and_true (fits 16596 output) (fits 1 report) e).0)

-- the test applies where a length is wrong
applies : (a b : Bool) → ◌≡◌ {A = ℕ} (cond (not a || (not b || false)) 3 0) (cond (a && b) 0 3)
applies true true = refl
applies true false = refl
applies false b = refl

module _ (input before old : List ℕ) where
  sheet_number_lem : refusal (sheet_call before old) ≡ cond (fits 16596 before && fits 1 old) 0 3
  unfolding sheet_call
  sheet_number_lem = applies (fits 16596 before) (fits 1 old)

  pub sheet_taken : {after new : List ℕ} {n : ℕ} → (fits 16596 before && fits 1 old) ≡ true → Wrote before 0 (printed input) after n → new ≡ told (n ∷ []) old
      → SheetTold input before after old new 0
  sheet_taken {n} e wrote t =
      let long : n ≡ length (printed input) = omega (arith, wrote.place) in
      let zero : refusal (sheet_call before old) ≡ 0 = sheet_number_lem ∙ rw e in
      record {
        refusal = sym zero;
        bytes = wrote.bytes ∙ ap (λ (k : ℕ). printed input ++ drop k before) long ∙ sym (unless_taken (sheet_call before old) (printed input ++ drop (length (printed input)) before) before zero);
        report = t ∙ ap (λ (k : ℕ). told (k ∷ []) old) (long ∙ sym (unless_taken (sheet_call before old) (length (printed input)) 0 zero));
      }

  pub sheet_refused : {new : List ℕ} → (fits 16596 before && fits 1 old) ≡ false → new ≡ told (0 ∷ []) old → SheetTold input before before old new 3
  sheet_refused e t =
      let three : refusal (sheet_call before old) ≡ 3 = sheet_number_lem ∙ rw e in
      record {
        refusal = sym three;
        bytes = sym (unless_refused_lem (sheet_call before old) (printed input ++ drop (length (printed input)) before) before (λ z. omega arith));
        report = t ∙ ap (λ (k : ℕ). told (k ∷ []) old) (sym (unless_refused_lem (sheet_call before old) (length (printed input)) 0 (λ z. omega arith)));
      }
