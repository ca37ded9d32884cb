-- The answer by what was found in a file of the right length.
use Rattle.std.specs.Prelude.{◌≡◌, Bool, not, List, [], ◌∷◌, ℕ, Result}
use Rattle.line.specs.Refusals.{refusal, unless_refused}
use Rattle.line.specs.declared.refusals.Refusal.{Refusal}
use Rattle.blocks.specs.declared.reading.Found.{Found}
use Rattle.blocks.specs.Entries.{read_numbers}

abbrev pub found_tests : Found → List (ℕ × Bool)
found_tests f = (5, not f.formed) ∷ (6, not f.summed) ∷ (7, not f.sound) ∷ []

abbrev pub Answers : Found → Result ℕ Refusal → Type 0
Answers f a = read_numbers a ≡ (refusal (found_tests f), unless_refused (found_tests f) f.number 0)
