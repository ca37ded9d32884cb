-- What is said of a half-made table. Internal: no public promise names this, and nothing here has to be believed.
use Rattle.std.specs.Prelude.{◌≡◌, List, ℕ, ◌<◌, get_or}
use Rattle.laws.specs.Digits.{sum_over, digits}

-- the first k entries of b are sums of the weights w
abbrev pub Block : List ℕ → ℕ → List ℕ → Type 0
Block w k b = (x : ℕ) → x < k → get_or b x 0 ≡ sum_over (λ i. get_or w i 0) (digits 8 x)
