-- The call of the text form.
use Rattle.std.specs.Prelude.{◌≡◌, Bool, List, [], ◌∷◌, ◌++◌, ℕ, length, drop}
use Rattle.line.specs.Refusals.{refusal, unless_refused, misfit, some}
use Rattle.text.specs.Text.{printed}
use Rattle.pugdrel.specs.Reports.{told}

-- the tests: no printed text is longer than 16596 bytes, and the report has one number
unfoldable pub sheet_call : (output report : List ℕ) → List (ℕ × Bool)
sheet_call output report = (3, some (misfit (length output) 16596 ∷ misfit (length report) 1 ∷ [])) ∷ []

-- what is printed for the input, after it what stood there, and its length; a refused call writes no byte
pub record SheetTold (input before after old new : List ℕ) (number : ℕ) : Type 0 where
  pub refusal : number ≡ refusal (sheet_call before old)
  pub bytes : after ≡ unless_refused (sheet_call before old) (printed input ++ drop (length (printed input)) before) before
  pub report : new ≡ told (unless_refused (sheet_call before old) (length (printed input)) 0 ∷ []) old
