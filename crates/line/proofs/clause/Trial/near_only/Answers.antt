-- `Trial::near_only` meets its contract: what was found counts where it is in reach.
-- Assumes nothing.
use mathlib.Core.Path.{sym, ◌∙◌}
use Rattle.line.proofs.Settling.{near_some, near_none}
use Rattle.line.proofs.clause.Trial.near_only.Goals as goal

pub returns-then-seen : goal.returns-then-seen
returns-then-seen c =
    λ d ys rs f s ly lr hk e H.
    near_some d ys rs f _ s H.tried.answer (sym c.if-seen.true ∙ (c.seen_at-seen.ensures d ys rs f s ly lr hk e H).reach)

pub returns-else-seen : goal.returns-else-seen
returns-else-seen c =
    λ d ys rs f s ly lr hk e H.
    near_none d ys rs f _ s (sym c.if-seen.false ∙ (c.seen_at-seen.ensures d ys rs f s ly lr hk e H).reach)
