-- `line::refusals::at_most` meets its contract: what the fold holds after some cells is the test of those.
-- Assumes nothing.
use Rattle.std.proofs.Common.{rules, ◌≡◌, refl, subst}
use Rattle.std.proofs.lemmas.Fn.{fold_over, fronts, slice_gives}
use Rattle.line.specs.Refusals.{at_most}
use Rattle.line.proofs.Refusing.{at_most_push}
use Rattle.line.proofs.refusals.at_most.Goals as goal

pub returns : goal.returns
unfolding at_most
returns c = subst (λ l. c.fold.result ≡ at_most c.args.bound l) c.iter.ensures.rest
    (fold_over fronts (λ y. y.now) _ (λ ys a. a ≡ at_most c.args.bound ys) _ (λ ys a x b f' j k. let more = at_most_push c.args.bound ys x.now in search rules)
    _ _ _ _ (slice_gives c.iter.result) refl c.fold.ensures.ran)
