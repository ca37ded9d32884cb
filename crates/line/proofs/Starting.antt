-- The line that the messages start from.
-- Assumes nothing.
use mathlib.Core.Path.{◌≡◌, refl}
use mathlib.Core.Bool.{true, false}
use mathlib.Core.List.{List}
use Prim.Native.Nat.{ℕ, ◌<◌}
use lib.ListN.{length}
use Rattle.degree.specs.declared.Degree.{Degree}
use Rattle.degree.specs.Degree.{size}
use Rattle.line.specs.declared.side.Side.TheVariants.{One, Two}
use Rattle.line.specs.declared.packed.Line.{Line}
use Rattle.line.specs.Cells.{cell, few, filled}
use Rattle.line.specs.Working.Packed.{Packs, known_else}
use Rattle.line.specs.Bounded.{Answer, Found, Failed, or_back, bounded}
use Rattle.line.specs.Decoding.{choice, decode, decoded}
use Rattle.line.specs.Working.Fillings.{start}
use Rattle.line.proofs.KnownCells.{known_equal}

module _ (d : Degree) (ys : List ℕ) (f : ℕ) {l : Line} where
  pub few_start : (rs : List ℕ) → few ys ≡ true → Packs (size d) (or_back (known_else rs ys) (choice ys (bounded d (filled One ys f)) (bounded d (filled Two ys f)))) l → Packs (size d) (start d ys rs f) l
  unfolding start decode
  few_start rs e p = rw e p

  pub many_start : (rs : List ℕ) → few ys ≡ false → Packs (size d) rs l → Packs (size d) (start d ys rs f) l
  unfolding start
  many_start rs e p = rw e p

-- where the channel has the incoming line's cell, it is the cell of the line's own decoding
pub equal_start : (d : Degree) (ys rs : List ℕ) (f : ℕ) → few ys ≡ true → (k : ℕ) → k < length rs → cell ys k ≡ cell rs k → cell (start d ys rs f) k ≡ cell (decoded (bounded d) ys f) k
unfolding start
equal_start d ys rs f e k h g = rw e (go (decode (bounded d) ys f))
  where
    go : (a : Answer) → cell (or_back (known_else rs ys) a) k ≡ cell (or_back ys a) k
    go (Found c) = refl
    go Failed = known_equal rs ys k h g
