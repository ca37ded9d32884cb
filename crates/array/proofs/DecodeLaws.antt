-- What a call of decode answers, and the cells that it leaves.
-- Assumes nothing.
use mathlib.Core.Path.{◌≡◌, sym, ◌∙◌}
use mathlib.Core.Bool.{Bool, false}
use mathlib.Core.List.{List, []}
use Prim.Native.Nat.{ℕ}
use native.Mathlib.Omega.{arith}
use Rattle.degree.specs.declared.Degree.{Degree}
use Rattle.std.specs.Prelude.{Some, Ok, Err}
use Rattle.degree.specs.Degree.{named}
use Rattle.line.specs.Cells.{erasures}
use Rattle.line.specs.declared.refusals.Refusal.{Refusal}
use Rattle.line.specs.Refusals.{number, refusal}
use Rattle.line.proofs.Refusing.{known_one, known_size, some_number, given_taken, given_refused}
use Rattle.array.specs.declared.report.Report.{Report}
use Rattle.array.specs.Plain.{fillings, plain, plain_count, closed}
use Rattle.array.specs.Refusals.{decode_tests}
use Rattle.array.specs.Entries.{DecodeDone}
use Rattle.array.specs.Working.Runs.{DecodingDone}
use Rattle.array.proofs.Refusing.{decode_takes}
use Rattle.array.proofs.Theorem.{plain_count_le}
use Rattle.array.proofs.SentArrays.{sent_theorem}

module _ (degree l : ℕ) (r w s : List ℕ) where
  abbrev Tests : List (ℕ × Bool)
  Tests = decode_tests degree l r w s []

  pub done_taken : {d₀ : Degree} {after : List ℕ} {t : Report} → (refusal Tests ≡ 0) × (named degree ≡ Some d₀) → DecodingDone d₀ l r (fillings w) after t
      → DecodeDone degree l r w s [] after (Ok t)
  done_taken {d₀} {after} {t} h k =
      let whole = (decode_takes degree l r w s d₀ h).0 in
      record {
        refusal = sym h.0;
        count = k.count ∙ sym (given_taken Tests degree (λ d. plain_count d l r r (fillings w)) 0 h);
        most = rw (k.count, known_size degree d₀ h.1) (plain_count_le d₀ l r r (fillings w) whole whole);
        erasures = k.erasures ∙ sym (given_taken Tests degree (λ d. erasures (plain d l r r (fillings w))) 0 h);
        closed = k.closed ∙ sym (given_taken Tests degree (λ d. closed d (plain d l r r (fillings w))) false h);
        cells = k.cells ∙ sym (given_taken Tests degree (λ d. plain d l r r (fillings w)) s h);
        sent = λ d s' z e S near.
            let f = decode_takes degree l r w s d (h.0, e) in
            let same : DecodingDone d l r (fillings w) after t = rw (known_one degree h.1 e) at k in
            let m = sent_theorem d s' r l (fillings w) S f.0 f.4 near in
            (same.cells ∙ m.cells, same.closed ∙ m.closing);
      }

  pub done_refused : (why : Refusal) → number why ≡ refusal Tests → DecodeDone degree l r w s [] s (Err why)
  done_refused why h =
      record {
        refusal = h;
        count = sym (given_refused Tests degree (λ d. plain_count d l r r (fillings w)) 0 why h);
        most = omega arith;
        erasures = sym (given_refused Tests degree (λ d. erasures (plain d l r r (fillings w))) 0 why h);
        closed = sym (given_refused Tests degree (λ d. closed d (plain d l r r (fillings w))) false why h);
        cells = sym (given_refused Tests degree (λ d. plain d l r r (fillings w)) s why h);
        sent = λ d s' z e S near. absurd (some_number why z);
      }
