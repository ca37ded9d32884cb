-- The degree of the field, and the numbers that go with it.
-- Document 01, "The code": degree v is 4 or 6, and by document 02, W-212, 7 too; n is 2 to the power v.
use Rattle.std.specs.Prelude.{◌≡◌, cond, ℕ, ◌-◌, ◌^◌, eqb, Option, None, Some, Result, MatchResult}
use Rattle.degree.specs.declared.Degree.{Degree}
use Rattle.degree.specs.declared.Degree.TheVariants.{Four, Six, Seven}
use Rattle.degree.specs.declared.UnknownDegree.{UnknownDegree}

-- v
abbrev pub bits : Degree → ℕ
bits Four = 4
bits Six = 6
bits Seven = 7

-- n: the cells of a word, and the elements of the field
abbrev pub size : Degree → ℕ
size d = 2 ^ bits d

-- n - 1: the powers of α, which are the elements but 0
abbrev pub order : Degree → ℕ
order d = size d - 1

-- the degree that a number names, if it names one (W-212: "Refusal 1 now tells degrees other than 4, 6 and 7")
abbrev pub named : ℕ → Option Degree
named v = cond (eqb v 4) (Some Four) (cond (eqb v 6) (Some Six) (cond (eqb v 7) (Some Seven) None))

-- the result is the degree that the number names, or where it names none an error that has the number
abbrev pub Names : ℕ → Result Degree UnknownDegree → Type 0
Names v r = MatchResult r (λ d. named v ≡ Some d) (λ e. (named v ≡ None) × (e.0 ≡ v))
