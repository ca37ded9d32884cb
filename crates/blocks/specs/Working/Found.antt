-- What one pass over a block, and over a file, finds.
use Rattle.std.specs.Prelude.{◌≡◌, ◌&&◌, List, ◌++◌, ℕ, ◌*◌, ◌<◌, eqb, take, drop}
use Rattle.laws.specs.Tests.{every}
use Rattle.line.specs.Cells.{cell}
use Rattle.blocks.specs.declared.reading.Found.{Found}
use Rattle.blocks.specs.Blocks.{block, rows_in, number_in, sheet_number, formed, summed, row_bytes, unpacked, sound, sheet_in}
use Rattle.blocks.specs.Working.Adding.{Bytes}

-- block b of bytes k, its cells c and what is found
pub record BlockRead (b : ℕ) (k c : List ℕ) (r : Found) : Type 0 where
  pub number : r.number ≡ number_in k
  pub formed : r.formed ≡ (eqb (cell k 0) b && eqb (cell k 1) 6)
  pub summed : r.summed ≡ summed k
  pub sound : r.sound ≡ sound k b
  pub cells : c ≡ unpacked (row_bytes k b)
  -- what was read fits bytes
  pub bytes : Bytes (take 510 k)

-- block b of file f, whose cells are put among those of the sheet, and what is found
pub record PartRead (b : ℕ) (f before after : List ℕ) (r : Found) : Type 0 where
  pub read : BlockRead b (block f b) (unpacked (row_bytes (block f b) b)) r
  pub put : after ≡ take (1984 * b) before ++ (unpacked (row_bytes (block f b) b) ++ drop (rows_in b * 64) (drop (1984 * b) before))

-- file f, its cells c and what is found
pub record FileRead (f c : List ℕ) (r : Found) : Type 0 where
  pub number : r.number ≡ sheet_number f
  pub formed : r.formed ≡ every (formed f) 3
  pub summed : r.summed ≡ every (λ b. summed (block f b)) 3
  pub sound : r.sound ≡ every (λ b. sound (block f b) b) 3
  pub cells : c ≡ sheet_in f
  pub bytes : (b : ℕ) → b < 3 → Bytes (take 510 (block f b))
