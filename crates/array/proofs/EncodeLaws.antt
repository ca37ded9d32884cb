-- What a call of encode answers, and the cells that it leaves.
-- Assumes nothing.
use mathlib.Core.Path.{◌≡◌, sym, ◌∙◌}
use mathlib.Core.Bool.{Bool}
use mathlib.Core.List.{List}
use Prim.Native.Nat.{ℕ}
use Rattle.degree.specs.declared.Degree.{Degree}
use Rattle.std.specs.Prelude.{Some}
use Rattle.degree.specs.Degree.{named}
use Rattle.line.specs.declared.refusals.Refusal.{Refusal}
use Rattle.line.specs.Refusals.{number, refusal}
use Rattle.line.proofs.Refusing.{known_one, some_number, given_taken, given_refused}
use Rattle.array.specs.Encoding.{encode_array, OneArray}
use Rattle.array.specs.Refusals.{coding_tests}
use Rattle.array.specs.Entries.{Encoded}
use Rattle.array.proofs.Refusing.{message_bits}
use Rattle.array.proofs.ArrayEncoding.{encode_one}

module _ (degree : ℕ) (message before : List ℕ) where
  abbrev Tests : List (ℕ × Bool)
  Tests = coding_tests 1 degree message before message

  pub encoded_taken : {d : Degree} {after : List ℕ} → (refusal Tests ≡ 0) × (named degree ≡ Some d) → after ≡ encode_array d message
      → Encoded degree message before after 0
  encoded_taken {d} {after} h e =
      record {
        refusal = sym h.0;
        cells = e ∙ sym (given_taken Tests degree (λ d. encode_array d message) before h);
        one = λ d' z k.
            let made : OneArray d message after = rw e (encode_one d message (message_bits degree message before d h)) in
            rw (known_one degree h.1 k) at made;
      }

  pub encoded_refused : {no : ℕ} (why : Refusal) → no ≡ number why → number why ≡ refusal Tests → Encoded degree message before before no
  encoded_refused why e h =
      record {
        refusal = e ∙ h;
        cells = sym (given_refused Tests degree (λ d. encode_array d message) before why h);
        one = λ d z k. absurd (some_number why (sym e ∙ z));
      }
