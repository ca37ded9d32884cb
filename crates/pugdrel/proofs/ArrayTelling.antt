-- What the calls of an array tell, from what the entries below promise.
-- Assumes nothing.
use mathlib.Core.Path.{◌≡◌, refl, sym, ◌∙◌}
use mathlib.Core.Bool.{Bool, true, false, cond, true≢false, or-true}
use mathlib.Core.List.{List, [], ◌∷◌}
use Prim.Native.Nat.{ℕ, ◌*◌, ◌^◌, ◌≤◌}
use native.Mathlib.Nat.{mul-zero}
use native.Mathlib.Omega.{arith}
use borrow.Author.Tests.{eqb-true}
use lib.Dec.{eqb, leb}
use lib.ListN.{length}
use Rattle.degree.specs.declared.Degree.{Degree}
use Rattle.std.specs.Prelude.{Option, None, Some, Result}
use Rattle.line.specs.declared.refusals.Refusal.{Refusal}
use Rattle.array.specs.declared.report.Report.{Report}
use Rattle.degree.specs.Degree.{size, named}
use Rattle.line.specs.Cells.{erasures}
use Rattle.line.specs.Refusals.{refusal, at_degree, given, misfit}
use Rattle.line.proofs.Refusing.{some_none, none_applies}
use Rattle.array.specs.Arrays.{line}
use Rattle.array.specs.Plain.{fillings, plain, plain_count, closed}
use Rattle.array.specs.Refusals.{row_tests, decode_tests}
use Rattle.array.specs.Entries.{DecodeDone, decode_numbers, row_refusal, row_part}
use Rattle.array.proofs.ArrayLaws.{length_line}
use Rattle.array.proofs.Refusing.{row_taken, row_room}
use Rattle.pugdrel.specs.Reports.{told}
use Rattle.pugdrel.specs.Working.Numbers.{fits}
use Rattle.pugdrel.specs.ArrayCalls.{DecodeTold, row_call, RowTold}
use Rattle.pugdrel.specs.Working.Numbers.{report_numbers}
use Rattle.pugdrel.proofs.Handing.{no_array, Alike, same_refusal, same_given, taken_fits}

-- ---- decode

module _ (degree l : ℕ) (r w s : List ℕ) where
  abbrev Tests : List ℕ → List Bool → List (ℕ × Bool)
  Tests p more = decode_tests degree l p w s more

  decode_alike : Alike Tests r
  unfolding decode_tests
  decode_alike = record {
    right = refl;
    wrong = rw (no_array degree, or-true (misfit (length s) (2 ^ degree * 2 ^ degree)), or-true (misfit (length w) (4 * l * 2 ^ degree)), or-true (misfit (length r) (2 ^ degree * 2 ^ degree)));
    refused = λ z.
        let n = none_applies (Tests r (true ∷ [])) tt z in
        let k = 2 ^ degree in
        true≢false (some_none (misfit (length r) (k * k) ∷ misfit (length w) (4 * l * k) ∷ misfit (length s) (k * k) ∷ true ∷ []) n.1.1.0).1.1.1.0;
  }

  pub decode_told : {part after old new : List ℕ} {a : Result Report Refusal} {number : ℕ} → part ≡ cond (fits 3 old) r [] → DecodeDone degree l part w s [] after a
      → number ≡ (decode_numbers a).0 → new ≡ told (report_numbers a) old → DecodeTold degree l r w s after old new number
  decode_told {after} {old} {a} e done n t =
      let fit = fits 3 old in
      let done' = rw e at done in
      let number_is = done'.refusal ∙ same_refusal Tests r decode_alike fit in
      record {
        answer = a;
        done = record {
          refusal = number_is;
          count = done'.count ∙ same_given Tests r decode_alike fit degree (λ p d. plain_count d l p p (fillings w)) 0;
          most = done'.most;
          erasures = done'.erasures ∙ same_given Tests r decode_alike fit degree (λ p d. erasures (plain d l p p (fillings w))) 0;
          closed = done'.closed ∙ same_given Tests r decode_alike fit degree (λ p d. closed d (plain d l p p (fillings w))) false;
          cells = done'.cells ∙ same_given Tests r decode_alike fit degree (λ p d. plain d l p p (fillings w)) s;
          sent = λ d s' z k S near.
              let whole : DecodeDone degree l r w s [] after a = rw (taken_fits Tests r decode_alike fit (sym number_is ∙ z)) at done' in
              whole.sent d s' z k S near;
        };
        refusal = n;
        report = t;
      }

-- ---- the look-up of a row

module _ (degree : ℕ) (cells : List ℕ) (index : ℕ) where
  abbrev Lookup : List ℕ → List Bool → List (ℕ × Bool)
  Lookup p more = row_tests degree p index more

  row_alike : Alike Lookup cells
  unfolding row_tests
  row_alike = record {
    right = refl;
    wrong = rw (no_array degree, or-true (leb (2 ^ degree) index), or-true (misfit (length cells) (2 ^ degree * 2 ^ degree)));
    refused = λ z.
        let n = none_applies (Lookup cells (true ∷ [])) tt z in
        true≢false (some_none (misfit (length cells) (2 ^ degree * 2 ^ degree) ∷ leb (2 ^ degree) index ∷ true ∷ []) n.1.0).1.1.0;
  }

-- the part that a look-up gives starts at the row's number times its length: a row where it is taken, else no cells
module _ (degree : ℕ) (part : List ℕ) (index : ℕ) where
  abbrev Asked : List (ℕ × Bool)
  Asked = row_tests degree part index []

  abbrev Placed : (found : List ℕ) (start long : ℕ) → Type 0
  Placed found start long = (index * length found ≡ start) × (length found ≡ long) × (index * length found ≤ 16384)

  row_placed : Placed (row_part degree part index) (given degree Asked (λ d. index * size d) 0) (given degree Asked size 0)
  unfolding given
  row_placed = go (eqb (refusal Asked) 0) refl (named degree) refl
    where
      none : Placed [] 0 0
      none = (mul-zero index, refl, omega (arith, mul-zero index))

      found : (d : Degree) → (refusal Asked ≡ 0) × (named degree ≡ Some d) → Placed (line (size d) part index) (index * size d) (size d)
      found d e =
          let h = row_taken degree part index d e in
          let l = length_line (size d) (size d) part index h.1 h.0 in
          (rw l, l, rw l (omega (arith, row_room d index refl h.1)))

      go : (b : Bool) → eqb (refusal Asked) 0 ≡ b → (v : Option Degree) → named degree ≡ v
          → Placed (cond b (at_degree v (λ d. line (size d) part index) []) []) (cond b (at_degree v (λ d. index * size d) 0) 0) (cond b (at_degree v size 0) 0)
      go true e (Some d) f = found d (eqb-true (refusal Asked) 0 e, f)
      go true e None f = none
      go false e v f = none

  pub row_start : {found : List ℕ} → found ≡ row_part degree part index → index * length found ≤ 16384
  row_start e = rw e row_placed.2

  pub row_told : {cells found old new : List ℕ} {number : ℕ} → part ≡ cond (fits 2 old) cells [] → number ≡ row_refusal degree part index
      → found ≡ row_part degree part index → new ≡ told (index * length found ∷ length found ∷ []) old → RowTold degree cells index old new number
  row_told {cells} {found} {old} e n g t =
      let fit = fits 2 old in
      let alike = row_alike degree cells index in
      let start : index * length found ≡ given degree (row_call degree cells index old) (λ d. index * size d) 0 = rw g (row_placed.0 ∙ rw e (same_given (Lookup degree cells index) cells alike fit degree (λ p d. index * size d) 0)) in
      let long : length found ≡ given degree (row_call degree cells index old) size 0 = rw g (row_placed.1 ∙ rw e (same_given (Lookup degree cells index) cells alike fit degree (λ p. size) 0)) in
      record {
        refusal = n ∙ rw e (same_refusal (Lookup degree cells index) cells alike fit);
        report = t ∙ rw (start, long);
      }
