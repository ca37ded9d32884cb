-- `copying::copy_cells` meets its contract. The loop's invariant: the first i cells are copied.
-- Assumes nothing.
use Rattle.std.proofs.Common.{◌≡◌, ℕ, ◌<◌, length, get_or}
use Rattle.words.proofs.copying.copy_cells.Given as goal

abbrev pub invariant-loop-i : goal.invariant-loop-i
invariant-loop-i l = (length l.to ≡ length l.initial.to) × ((k : ℕ) → k < l.i → get_or l.to k 0 ≡ get_or l.from k 0)
