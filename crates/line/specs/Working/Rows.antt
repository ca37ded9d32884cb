-- What is said of a lent row that is written where its packed line changed.
use Rattle.std.specs.Prelude.{◌≡◌, List, ℕ, length}
use Rattle.line.specs.declared.packed.Line.{Line}
use Rattle.line.specs.Working.Packed.{Packs}

-- a row that held one packed line holds another
pub record Updated (old new : Line) (before after : List ℕ) : Type 0 where
  pub long : length after ≡ length before
  pub cells : (n : ℕ) (cs : List ℕ) → Packs n before old → Packs n cs new → after ≡ cs
