-- What the tests of a call found.
use Rattle.std.specs.Prelude.{◌≡◌, Bool, List, ℕ, Some, Result, MatchResult}
use Rattle.degree.specs.declared.Degree.{Degree}
use Rattle.degree.specs.Degree.{named}
use Rattle.line.specs.declared.refusals.Refusal.{Refusal}
use Rattle.line.specs.Refusals.{number, refusal}

-- a call that was tested: a refused one has the number of the first test that applies; none applies to one that is taken
abbrev pub Tested : (degree : ℕ) → List (ℕ × Bool) → Result Degree Refusal → Type 0
Tested degree tests r = MatchResult r (λ d. (refusal tests ≡ 0) × (named degree ≡ Some d)) (λ why. number why ≡ refusal tests)
