-- The first that is found, among answers of which one, `none`, says that nothing is; `or_else a b` is a, or b where a is `none`.
use Rattle.std.specs.Prelude.{ℕ, zero, suc}

-- the first that is found of f 0, f 1, .. f (n - 1)
unfoldable pub first_of : {A : Type 0} → (A → A → A) → A → (ℕ → A) → ℕ → A
first_of or_else none f zero = none
first_of or_else none f (suc n) = or_else (first_of or_else none f n) (f n)
