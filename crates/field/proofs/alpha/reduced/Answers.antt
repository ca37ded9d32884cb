-- `alpha::reduced` meets its contract: the powers repeat after n - 1.
-- Assumes nothing.
use mathlib.Core.Path.{◌≡◌, sym, ap, ◌∙◌}
use Prim.Native.Nat.{ℕ, ◌+◌, ◌-◌}
use native.Mathlib.Omega.{arith}
use Rattle.degree.specs.Degree.{order}
use Rattle.field.specs.Field.{power}
use Rattle.field.proofs.Powers.{power_period}
use Rattle.field.proofs.alpha.reduced.Goals as goal

pub returns-else-k-order : goal.returns-else-k-order
returns-else-k-order c =
    let a = c.args in
    let z : order a.d + (a.k - c.order_of-order.result) ≡ a.k = omega arith in
    (omega arith, sym (power_period a.d (a.k - c.order_of-order.result)) ∙ ap (λ (k : ℕ). power a.d k) z)
