-- What the calls of one word or line tell, from what the entries below promise.
-- Assumes nothing.
use mathlib.Core.Path.{◌≡◌, refl, sym, ap, ◌∙◌}
use mathlib.Core.Bool.{Bool, true, false, cond, not, true≢false, or-true}
use mathlib.Core.List.{List, [], ◌∷◌, ◌++◌, append-nil}
use Prim.Native.Nat.{ℕ, ◌^◌}
use native.Mathlib.Omega.{arith}
use lib.ListN.{length, take, drop, drop_of_length-le}
use Rattle.degree.specs.declared.Degree.{Degree}
use Rattle.std.specs.Prelude.{Option, Result}
use Rattle.line.specs.declared.refusals.Refusal.{Refusal}
use Rattle.line.specs.Bounded.{Answer, Failed, or_back, bounded, changed}
use Rattle.line.specs.Decoding.{messages}
use Rattle.line.specs.Clauses.{count}
use Rattle.line.specs.Refusals.{refusal, given, misfit, line_tests, messages_tests}
use Rattle.line.specs.Entries.{is_found, Answered, WordAnswered, messages_numbers, MessagesDone}
use Rattle.line.proofs.Refusing.{some_none, none_applies, given_none}
use Rattle.pugdrel.specs.Reports.{told}
use Rattle.pugdrel.specs.Working.Numbers.{fits}
use Rattle.pugdrel.specs.LineCalls.{MessagesTold}
use Rattle.pugdrel.proofs.Handing.{no_line, Alike, same_refusal, same_given, lent_part}

-- ---- a word or a line, decoded in place: the part that is handed on, and the cells after it

module _ (bound degree : ℕ) (s : List ℕ) where
  line_alike : Alike (line_tests bound degree) s
  unfolding line_tests
  line_alike = record {
    right = refl;
    wrong = rw (no_line degree, or-true (misfit (length s) (2 ^ degree)));
    refused = λ z.
        let n = none_applies (line_tests bound degree s (true ∷ [])) tt z in
        true≢false (some_none (misfit (length s) (2 ^ degree) ∷ true ∷ []) n.1.0).1.0;
  }

  module _ (asked : List ℕ → Degree → Answer) where
    abbrev Given : List ℕ → List Bool → Answer
    Given p more = given degree (line_tests bound degree p more) (asked p) Failed

    -- cells of the part, followed by what is behind it
    whole : (fit : Bool) (x : ℕ) {q : List ℕ} → x ≡ cond fit (length s) 0 → q ≡ or_back (cond fit s []) (Given (cond fit s []) [])
        → q ++ drop x s ≡ or_back s (Given s (not fit ∷ []))
    whole true x {q} e h =
        rw (drop_of_length-le s {i = x} (omega arith), append-nil q) (h ∙ ap (or_back s) (same_given (line_tests bound degree) s line_alike true degree asked Failed))
    whole false x {q} e h =
        let none : Given [] [] ≡ Failed = given_none (line_tests bound degree [] []) degree (asked []) Failed (λ z. line_alike.refused (sym line_alike.wrong ∙ z)) in
        let none' : Given s (true ∷ []) ≡ Failed = given_none (line_tests bound degree s (true ∷ [])) degree (asked s) Failed line_alike.refused in
        rw (e, h, none, none')

    -- an answer to the part that is handed on is one to all cells
    pub line_handed : (fit : Bool) (x : ℕ) {q : List ℕ} {numbers : ℕ × Bool} → x ≡ cond fit (length s) 0
        → Answered (refusal (line_tests bound degree (take x s) [])) (Given (take x s) []) (take x s) q numbers
        → Answered (refusal (line_tests bound degree s (not fit ∷ []))) (Given s (not fit ∷ [])) s (q ++ drop x s) numbers
    line_handed fit x e done =
        let done' = rw (lent_part fit s e) at done in
        record {
          refusal = done'.refusal ∙ same_refusal (line_tests bound degree) s line_alike fit;
          found = done'.found ∙ ap is_found (same_given (line_tests bound degree) s line_alike fit degree asked Failed);
          cells = whole fit x e done'.cells;
        }

    -- and so is the number of cells changed
    changed_handed : (fit : Bool) {n : ℕ} → n ≡ changed (cond fit s []) (Given (cond fit s []) []) → n ≡ changed s (Given s (not fit ∷ []))
    changed_handed true h = h ∙ ap (changed s) (same_given (line_tests bound degree) s line_alike true degree asked Failed)
    changed_handed false h =
        let none : Given [] [] ≡ Failed = given_none (line_tests bound degree [] []) degree (asked []) Failed (λ z. line_alike.refused (sym line_alike.wrong ∙ z)) in
        let none' : Given s (true ∷ []) ≡ Failed = given_none (line_tests bound degree s (true ∷ [])) degree (asked s) Failed line_alike.refused in
        h ∙ rw (none, none')

    pub word_handed : (fit : Bool) (x : ℕ) {q : List ℕ} {a : Result (Option ℕ) Refusal} → x ≡ cond fit (length s) 0
        → WordAnswered (refusal (line_tests bound degree (take x s) [])) (Given (take x s) []) (take x s) q a
        → WordAnswered (refusal (line_tests bound degree s (not fit ∷ []))) (Given s (not fit ∷ [])) s (q ++ drop x s) a
    word_handed fit x e done = record {
      answer = line_handed fit x e done.answer;
      changed = changed_handed fit (rw (lent_part fit s e) at done.changed);
    }

-- ---- the messages of a line

module _ (degree : ℕ) (incoming channel : List ℕ) (filling : ℕ) (s : List ℕ) where
  abbrev Tests : List ℕ → List Bool → List (ℕ × Bool)
  Tests p more = messages_tests degree p channel s more

  messages_alike : Alike Tests incoming
  unfolding messages_tests
  messages_alike = record {
    right = refl;
    wrong = rw (no_line degree, or-true (misfit (length s) (2 ^ degree)), or-true (misfit (length channel) (2 ^ degree)), or-true (misfit (length incoming) (2 ^ degree)));
    refused = λ z.
        let n = none_applies (Tests incoming (true ∷ [])) tt z in
        let k = 2 ^ degree in
        true≢false (some_none (misfit (length incoming) k ∷ misfit (length channel) k ∷ misfit (length s) k ∷ true ∷ []) n.1.0).1.1.1.0;
  }

  pub messages_told : {part after old new : List ℕ} {a : Result ℕ Refusal} {number : ℕ} → part ≡ cond (fits 1 old) incoming []
      → MessagesDone degree part channel filling s [] after a → number ≡ (messages_numbers a).0 → new ≡ told ((messages_numbers a).1 ∷ []) old
      → MessagesTold degree incoming channel filling s after old new number
  messages_told {old} {a} e done n t =
      let fit = fits 1 old in
      let done' = rw e at done in
      record {
        answer = a;
        done = record {
          refusal = done'.refusal ∙ same_refusal Tests incoming messages_alike fit;
          count = done'.count ∙ same_given Tests incoming messages_alike fit degree (λ p d. count (bounded d) p channel filling) 0;
          most = done'.most;
          cells = done'.cells ∙ same_given Tests incoming messages_alike fit degree (λ p d. messages (bounded d) p channel filling) s;
        };
        refusal = n;
        report = t;
      }
