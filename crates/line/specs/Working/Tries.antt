-- What the parts of bounded-distance decoding stand for. The contracts between the functions of this crate are put in these
-- words; nothing here has to be believed to read a contract of an entry.
use Rattle.std.specs.Prelude.{◌≡◌, Bool, true, false, List, ℕ, Option, None, Some, IfSome}
use Rattle.degree.specs.declared.Degree.{Degree}
use Rattle.field.specs.declared.locate.Positions.{Positions}
use Rattle.field.specs.declared.locate.Positions.TheVariants.{Zero, One, Two, Unfit}
use Rattle.degree.specs.Degree.{size, order}
use Rattle.line.specs.declared.bounded.Correction.{Correction}
use Rattle.line.specs.Bounded.{Answer, Found, Failed, bounded, changed}
use Rattle.line.specs.Cells.{flip}
use Rattle.line.specs.Working.Packed.{PacksWord}
use Rattle.words.specs.Working.Word.{value}

-- what is found for a word, from the error positions and whether its ones are even in number: the cells at the positions are
-- flipped, and the last cell too where the ones would stay odd in number, as long as that makes at most two
abbrev pub mended : Degree → List ℕ → Positions → (even : Bool) → Answer
mended d w Zero true = Found w
mended d w Zero false = Found (flip (order d) w)
mended d w (One i) true = Found (flip i (flip (order d) w))
mended d w (One i) false = Found (flip i w)
mended d w (Two i j) true = Found (flip i (flip j w))
mended d w (Two i j) false = Failed
mended d w Unfit even = Failed

-- the cells that are changed so
abbrev pub changes : Positions → (even : Bool) → ℕ
changes Zero true = 0
changes Zero false = 1
changes (One i) true = 2
changes (One i) false = 1
changes (Two i j) true = 2
changes (Two i j) false = 0
changes Unfit even = 0

-- what was tried gave this answer
pub data Answers (n : ℕ) : Answer → Option Correction → Type 0 where
  failed : Answers n Failed None
  found : {c : List ℕ} {m : Correction} → PacksWord n c (value m.word) → Answers n (Found c) (Some m)

-- what was tried gave what the positions and the parity say, and where something was found, so many cells were changed
pub record Mends (d : Degree) (ws : List ℕ) (p : Positions) (even : Bool) (t : Option Correction) : Type 0 where
  pub answer : Answers (size d) (mended d ws p even) t
  pub changed : IfSome t (λ m. m.changed ≡ changes p even)

-- what was tried gave what bounded-distance decoding of a word gives, and where something was found, so many cells were changed
pub record Decodes (d : Degree) (ws : List ℕ) (t : Option Correction) : Type 0 where
  pub answer : Answers (size d) (bounded d ws) t
  pub changed : IfSome t (λ m. m.changed ≡ changed ws (bounded d ws))
