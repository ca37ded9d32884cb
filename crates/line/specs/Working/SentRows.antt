-- What is said of a lent row that is replaced by its messages. It serves the crate above; no contract of an entry names this.
use Rattle.std.specs.Prelude.{◌≡◌, List, ℕ, ◌≤◌, length}
use Rattle.degree.specs.declared.Degree.{Degree}
use Rattle.degree.specs.Degree.{size}
use Rattle.line.specs.declared.packed.Line.{Line}
use Rattle.line.specs.declared.tally.Tally.{Tally}
use Rattle.line.specs.Bounded.{bounded}
use Rattle.line.specs.Decoding.{messages}
use Rattle.line.specs.Clauses.{count}
use Rattle.line.specs.Working.Packed.{Packs}

-- a row that a packed line holds, replaced by its messages, which are handed back packed, with the count of the line
pub record SentRow (d : Degree) (old channel : Line) (filling : ℕ) (before after : List ℕ) (s : Tally Line) : Type 0 where
  pub long : length after ≡ length before
  pub cells : (rs : List ℕ) → Packs (size d) before old → Packs (size d) rs channel → after ≡ messages (bounded d) before rs filling
  pub line : (rs : List ℕ) → Packs (size d) before old → Packs (size d) rs channel → Packs (size d) (messages (bounded d) before rs filling) s.value
  pub count : (rs : List ℕ) → Packs (size d) before old → Packs (size d) rs channel → s.count ≡ count (bounded d) before rs filling
  -- whatever the lines pack
  pub most : s.count ≤ 258
