-- What packed lines and words say of lists of cells: bit i stands for cell i.
use Rattle.std.specs.Prelude.{◌≡◌, Bool, cond, List, [], ◌∷◌, ℕ, ◌+◌, ◌*◌, ◌≤◌, eqb, length, get_or}
use Rattle.line.specs.declared.side.Side.{Side}
use Rattle.line.specs.declared.side.Side.TheVariants.{One, Two}
use Rattle.words.specs.declared.word.Word.{Word}
use Rattle.line.specs.declared.packed.Line.{Line}
use Rattle.words.specs.Working.Word.{value, width, no_cells}
use Rattle.line.specs.Cells.{Cells, bit, cell, is_erased}
use Rattle.line.specs.Decoding.{list_to}

-- a line of n cells, which are 0, 1 or 2
abbrev pub IsLine : ℕ → List ℕ → Type 0
IsLine = Cells 3

abbrev pub is_one : ℕ → Bool
is_one c = eqb c 1

-- the word whose bit i says whether p holds of element i
unfoldable pub pack_by : (ℕ → Bool) → List ℕ → ℕ
pack_by p [] = 0
pack_by p (x ∷ xs) = pack_by p xs * 2 + bit (p x)

-- a number packs n cells that are 0 or 1, as many as a word has room for
pub record PacksWord (n : ℕ) (ws : List ℕ) (w : ℕ) : Type 0 where
  pub room : n ≤ width
  pub cells : Cells 2 n ws
  pub ones : w ≡ pack_by is_one ws

-- a line packs n cells, as many as a word has room for
pub record Packs (n : ℕ) (cs : List ℕ) (l : Line) : Type 0 where
  pub room : n ≤ width
  pub cells : Cells 3 n cs
  pub ones : value l.ones ≡ pack_by is_one cs
  pub erased : value l.erased ≡ pack_by is_erased cs

-- the cells of a line where they are known, and those of another line elsewhere
unfoldable pub known_else : List ℕ → List ℕ → List ℕ
known_else cs es = list_to (λ k. cond (is_erased (cell cs k)) (cell es k) (cell cs k)) (length cs)

-- word one and word two of a pair
abbrev pub side_word : Side → List Word → Word
side_word One pair = get_or pair 0 no_cells
side_word Two pair = get_or pair 1 no_cells
