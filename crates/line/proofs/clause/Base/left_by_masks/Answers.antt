-- `Base::left_by_masks` meets its contract: the mask is narrowed where the fillings decoded to one codeword, and where both failed.
-- Assumes nothing.
use mathlib.Core.Path.{sym, ◌∙◌}
use Rattle.degree.specs.Degree.{size}
use Rattle.words.specs.Working.Word.{value}
use Rattle.words.proofs.Halves.{same_words}
use Rattle.line.proofs.Choosing.{is_few}
use Rattle.line.proofs.OneCodeword.{own_mask}
use Rattle.line.proofs.NoCodeword.{failed_mask}
use Rattle.line.proofs.clause.Base.left_by_masks.Goals as goal

pub returns-then-self-ge-DISTANCE : goal.returns-then-self-ge-DISTANCE
returns-then-self-ge-DISTANCE c = λ d ys rs f B. c.mask_of-all.ensures d ys rs f B.incoming B.channel B.erased

pub returns-then-eq : goal.returns-then-eq
returns-then-eq c =
    λ d ys rs f B.
    let t = c.in-Some-Some in
    let few = is_few ys _ B.erased c.if-self-ge-DISTANCE.false in
    let all = c.mask_of-all in
    let one = c.leaving in
    let two = c.leaving-then-eq in
    let full = c.crowding-crowded in
    rw (c.and_words.ensures, c.or_words.ensures, c.or_words-leaving.ensures)
    (own_mask d ys rs f B few t.is-0 t.is-1 (same_words t.one.word t.two.word (sym c.eq.ensures ∙ c.if-eq.true))
    (value all.result) (value one.result) (value two.result) (value full.result)
    (all.ensures d ys rs f B.incoming B.channel B.erased) one.ensures two.ensures (full.ensures (size d) rs B.channel))

pub returns-else-eq : goal.returns-else-eq
returns-else-eq c = λ d ys rs f B. c.mask_of-all.ensures d ys rs f B.incoming B.channel B.erased

pub returns-in-None-None : goal.returns-in-None-None
returns-in-None-None c =
    λ d ys rs f B.
    let t = c.in-None-None in
    let few = is_few ys _ B.erased c.if-self-ge-DISTANCE.false in
    let all = c.mask_of-all in
    rw c.and_words-in-None-None.ensures
    (failed_mask d ys rs f B few t.is-0 t.is-1 (value all.result) (all.ensures d ys rs f B.incoming B.channel B.erased))

pub returns-in_default : goal.returns-in_default
returns-in_default c = λ d ys rs f B. c.mask_of-all.ensures d ys rs f B.incoming B.channel B.erased

pub returns-in_default-2 : goal.returns-in_default-2
returns-in_default-2 c = λ d ys rs f B. c.mask_of-all.ensures d ys rs f B.incoming B.channel B.erased
