-- Places that are numbered one after the other.
-- Assumes nothing.
use Rattle.std.proofs.Common.{◌≡◌, ℕ, ◌+◌, ◌<◌, ◌≤◌, List, length, set, sym, ◌∙◌, arith, length-set, get_or-set_other, get_or-set_same}
use mathlib.Core.Logic.{dite}
use native.Mathlib.Decide.{dec_lt}
use Rattle.line.specs.Cells.{cell}
use Rattle.line.specs.Decoding.{list_to}
use Rattle.line.proofs.LineLaw.{list_to_is}

-- the first i of n places are numbered
pub record Numbered (n : ℕ) (places : List ℕ) (i : ℕ) : Type 0 where
  pub long : length places ≡ n
  pub done : (k : ℕ) → k < i → cell places k ≡ k

pub numbered_next : {n : ℕ} {places : List ℕ} {i : ℕ} → Numbered n places i → i < length places → Numbered n (set places i i) (i + 1)
numbered_next {n} {places} {i} c h = record {
  long = length-set places i i ∙ c.long;
  done = λ k l.
      dite (dec_lt k i) (λ q. get_or-set_other places i k i 0 (λ z. omega arith) ∙ c.done k q)
      (λ q. let e : k ≡ i = omega arith in rw e (get_or-set_same places i i 0 h));
}

pub numbered_end : {n : ℕ} {places : List ℕ} {i : ℕ} → Numbered n places i → length places ≤ i → places ≡ list_to (λ p. p) n
numbered_end {n} {places} c h = sym (list_to_is (λ p. p) n places c.long (λ k l. sym (c.done k (omega (arith, c.long)))))
