-- What is said of a line, a byte a turn.
-- Assumes nothing.
use Rattle.std.proofs.Common.{◌≡◌, ℕ, zero, suc, ◌+◌, ◌-◌, ◌<◌, List, [], ◌++◌, length, None, Some, get_or, refl, sym, ap, ◌∙◌, add-one, append_assoc, append-nil, arith}
use Rattle.std.specs.Io.KnownBytes.{Appends}
use Rattle.std.specs.declared.option.Option.{Option}
use Rattle.laws.specs.Sums.{sum_to}
use Rattle.second.specs.Working.Lines.{is_like}
use Rattle.second.specs.Working.Tallies.{AppendsPart, said_byte, said_text}
use Rattle.second.proofs.Parts.{appends_more, part_after}

-- nothing is said yet
pub said_none : (line numbers : List ℕ) (a : Option (List ℕ)) → Appends a a (said_text line numbers 0)
unfolding said_text
said_none line numbers None = tt
said_none line numbers (Some x) = sym (append-nil x)

-- one byte more is said
pub said_next : (line numbers : List ℕ) (k said : ℕ) (a b c : Option (List ℕ)) → said ≡ sum_to (is_like 35 line) k → Appends a b (said_text line numbers k)
    → Appends b c (said_byte (get_or line k 0) numbers said) → Appends a c (said_text line numbers (k + 1))
unfolding said_text
said_next line numbers k said a b c e p q = rw (add-one k) (appends_more a b c _ _ p (rw e at q))

-- what is said of the first bytes stands at the front of what is said of more
said_rest : (line numbers : List ℕ) (j more k : ℕ) → k ≡ j + more → (rest : List ℕ) × (said_text line numbers k ≡ said_text line numbers j ++ rest)
unfolding said_text
said_rest line numbers j zero k e =
    let same : k ≡ j = omega arith in
    ([], ap (said_text line numbers) same ∙ sym (append-nil (said_text line numbers j)))
said_rest line numbers j (suc more) k e =
    let before = said_rest line numbers j more (j + more) refl in
    let byte = said_byte (get_or line (j + more) 0) numbers (sum_to (is_like 35 line) (j + more)) in
    let last : k ≡ suc (j + more) = omega arith in
    (before.0 ++ byte, ap (said_text line numbers) last ∙ ap (λ (l : List ℕ). l ++ byte) before.1 ∙ append_assoc _ before.0 byte)

-- a part of the next byte is said, and so a part of the line
pub said_part : (line numbers : List ℕ) (k said : ℕ) (a b c : Option (List ℕ)) → k < length line → said ≡ sum_to (is_like 35 line) k
    → Appends a b (said_text line numbers k) → AppendsPart b c (said_byte (get_or line k 0) numbers said) → AppendsPart a c (said_text line numbers (length line))
unfolding said_text
said_part line numbers k said a b c h e p q =
    let rest = said_rest line numbers (suc k) (length line - suc k) (length line) (omega arith) in
    part_after (said_text line numbers k) _ rest.0 a b c rest.1 p (rw e at q)
