-- `loads::grown` meets its contract: the halves make the whole.
use Rattle.std.proofs.Common.{◌≡◌, ℕ, ◌+◌, ◌*◌, ◌%◌, ◌^◌, ap, ◌∙◌, arith}
use Rattle.std.proofs.Math.Nat.{mod-add-mod}
use Rattle.second.proofs.loads.grown.Goals as goal
use Rattle.second.specs.Working.Loads.{grown_times}

pub returns : goal.returns
unfolding grown_times
returns c =
    let k = c.args.k in
    let whole : k * 2654435769 * 2 ^ 32 + k * 2135587861 ≡ k * 11400714819323198485 = omega arith in
    rw (c.from-high.ensures, c.from-low.ensures) (mod-add-mod (k * 2654435769 * 2 ^ 32) (2 ^ 64) (k * 2135587861) ∙ ap (λ (x : ℕ). x % 2 ^ 64) whole)
