-- The numbers of refusals.
use Rattle.std.specs.Prelude.{ℕ, Result, Ok, Err}
use Rattle.second.specs.declared.refusals.Refusal.{Refusal}
use Rattle.second.specs.declared.refusals.Refusal.TheVariants.{Degree, Length, Cell, Form, Sum, Content, Seed, Hits}

abbrev pub number_of : (why : Refusal) → ℕ
number_of Degree = 1
number_of Length = 3
number_of Cell = 4
number_of Form = 5
number_of Sum = 6
number_of Content = 7
number_of Seed = 8
number_of Hits = 9

-- that of a call's answer: 0 where it is not refused
abbrev pub refusal_in : {A : Type 0} → Result A Refusal → ℕ
refusal_in (Ok x) = 0
refusal_in (Err why) = number_of why
