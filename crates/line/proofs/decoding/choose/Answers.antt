-- `line::decoding::choose` meets its contract: by the tests that led to each answer.
-- Assumes nothing.
use mathlib.Core.Path.{sym, ◌∙◌}
use Rattle.words.proofs.Halves.{same_words}
use Rattle.line.proofs.Choosing.{same_word}
use Rattle.line.proofs.decoding.choose.Goals as goal

pub returns-then-eq : goal.returns-then-eq
returns-then-eq c =
    λ n ys p q h l m.
    let t = c.in-Some-Some in
    let e = same_words t.first.word t.second.word (sym c.eq.ensures ∙ c.if-eq.true) in
    rw t.is-0 (same_word ys h e (rw t.is-0 at l) (rw t.is-1 at m))
