-- What was tried, and the answer that an entry gives.
-- Assumes nothing.
use mathlib.Core.Path.{◌≡◌, sym, ◌∙◌}
use mathlib.Core.Bool.{Bool, true, false}
use mathlib.Core.List.{List, []}
use native.Mathlib.Omega.{arith}
use Prim.Native.Nat.{ℕ}
use Rattle.degree.specs.declared.Degree.{Degree}
use Rattle.std.specs.Prelude.{Option, None, Some, Result, Ok, Err}
use Rattle.degree.specs.Degree.{size, named}
use Rattle.line.specs.declared.bounded.Correction.{Correction}
use Rattle.line.specs.declared.side.Side.TheVariants.{One, Two}
use Rattle.line.specs.declared.refusals.Refusal.{Refusal}
use Rattle.line.specs.Cells.{few, filled}
use Rattle.line.specs.Bounded.{Answer, Failed, bounded}
use Rattle.line.specs.Decoding.{choice, decode, messages}
use Rattle.line.specs.Clauses.{count}
use Rattle.line.specs.Working.Tries.{Answers, failed}
use Rattle.line.specs.Refusals.{number, refusal, given, messages_tests}
use Rattle.line.specs.Entries.{Answered, WordAnswered, MessagesDone}
use Rattle.line.proofs.Refusing.{given_taken, given_refused, known_size, messages_taken}
use Rattle.line.proofs.CountLaws.{count_le}

module _ (d : Degree) (ys : List ℕ) (f : ℕ) where
  pub few_tried : {t : Option Correction} → few ys ≡ true → Answers (size d) (choice ys (bounded d (filled One ys f)) (bounded d (filled Two ys f))) t → Answers (size d) (decode (bounded d) ys f) t
  unfolding decode
  few_tried e a = rw e a

  pub many_tried : few ys ≡ false → Answers (size d) (decode (bounded d) ys f) None
  unfolding decode
  many_tried e = rw e failed

-- ---- the answer to a tested call

module _ (tests : List (ℕ × Bool)) (degree : ℕ) (asked : Degree → Answer) where
  pub answered_taken : {d : Degree} {before after : List ℕ} {told : ℕ × Bool} → (refusal tests ≡ 0) × (named degree ≡ Some d)
      → Answered 0 (asked d) before after told → Answered (refusal tests) (given degree tests asked Failed) before after told
  answered_taken h a = rw (given_taken tests degree asked Failed h, h.0) a

  pub answered_refused : (why : Refusal) {before : List ℕ} → number why ≡ refusal tests
      → Answered (refusal tests) (given degree tests asked Failed) before before (number why, false)
  answered_refused why h =
      let e = given_refused tests degree asked Failed why h in
      record { refusal = h; found = rw e; cells = rw e }

  -- the same of a word, with the cells changed
  pub word_taken : {d : Degree} {before after : List ℕ} {r : Result (Option ℕ) Refusal} → (refusal tests ≡ 0) × (named degree ≡ Some d)
      → WordAnswered 0 (asked d) before after r → WordAnswered (refusal tests) (given degree tests asked Failed) before after r
  word_taken h a = rw (given_taken tests degree asked Failed h, h.0) a

  pub word_refused : (why : Refusal) {before : List ℕ} → number why ≡ refusal tests
      → WordAnswered (refusal tests) (given degree tests asked Failed) before before (Err why)
  word_refused why h = record { answer = answered_refused why h; changed = rw (given_refused tests degree asked Failed why h) }

-- ---- the answer to a call for messages

module _ (degree : ℕ) (incoming channel : List ℕ) (filling : ℕ) (before : List ℕ) where
  abbrev Asked : List (ℕ × Bool)
  Asked = messages_tests degree incoming channel before []

  pub messages_done : {d : Degree} {sent : ℕ} {after : List ℕ} → (refusal Asked ≡ 0) × (named degree ≡ Some d)
      → (sent ≡ count (bounded d) incoming channel filling) × (after ≡ messages (bounded d) incoming channel filling)
      → MessagesDone degree incoming channel filling before [] after (Ok sent)
  messages_done {d} h sent = record {
    refusal = sym h.0;
    count = sent.0 ∙ sym (given_taken Asked degree (λ d. count (bounded d) incoming channel filling) 0 h);
    most = rw (sent.0, known_size degree d h.1) (count_le d incoming channel filling (messages_taken degree incoming channel before d h).0);
    cells = sent.1 ∙ sym (given_taken Asked degree (λ d. messages (bounded d) incoming channel filling) before h);
  }

  pub messages_none : (why : Refusal) → number why ≡ refusal Asked → MessagesDone degree incoming channel filling before [] before (Err why)
  messages_none why h = record {
    refusal = h;
    count = sym (given_refused Asked degree (λ d. count (bounded d) incoming channel filling) 0 why h);
    most = omega arith;
    cells = sym (given_refused Asked degree (λ d. messages (bounded d) incoming channel filling) before why h);
  }
