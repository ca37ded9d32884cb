-- `Trial::seen_at` meets its contract: each part is read off the packed words.
-- Assumes nothing.
use mathlib.Core.Path.{◌∙◌}
use Rattle.degree.specs.Degree.{size}
use Rattle.line.specs.Cells.{filled}
use Rattle.line.proofs.Reaching.{channel_bit, reach_at, value_at, none_reach, none_value, same_at}
use Rattle.line.proofs.clause.Trial.seen_at.Goals as goal

pub returns-in-Some : goal.returns-in-Some
returns-in-Some c =
    λ d ys rs f s ly lr hk e H.
    let a = c.args in
    let n = size d in
    let found = c.in-Some.found in
    let before = c.word_cell-before.ensures.1 n (filled s ys f) H.before in
    let now = c.word_cell-bit.ensures.1 n (filled s rs f) H.channel ∙ channel_bit d ys rs f a.k.number ly lr hk s in
    let tried = rw c.in-Some.is at H.tried in
    record {
      reach = c.reaches.ensures ∙ rw (before, now) (reach_at d ys rs f a.k.number ly lr hk s found tried _ (c.word_cell-own.ensures.1 n));
      same = same_at d ys rs f a.k.number s before now;
      value = value_at d ys rs f a.k.number ly lr hk s found tried _ (c.word_cell-own.ensures.1 n);
      bit = now;
    }

pub returns-in-None : goal.returns-in-None
returns-in-None c =
    λ d ys rs f s ly lr hk e H.
    let a = c.args in
    let n = size d in
    let before = c.word_cell-before.ensures.1 n (filled s ys f) H.before in
    let now = c.word_cell-bit.ensures.1 n (filled s rs f) H.channel ∙ channel_bit d ys rs f a.k.number ly lr hk s in
    let tried = rw c.in-None.is at H.tried in
    record {
      reach = none_reach d ys rs f a.k.number ly lr hk s tried;
      same = same_at d ys rs f a.k.number s before now;
      value = e ∙ none_value d ys rs f a.k.number ly lr hk s tried;
      bit = now;
    }
