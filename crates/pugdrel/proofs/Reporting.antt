-- What a report holds after a call.
-- Assumes nothing.
use mathlib.Core.Path.{◌≡◌}
use mathlib.Core.List.{List}
use Prim.Native.Nat.{ℕ}
use borrow.Author.Tests.{eq-eqb, ne_eqb}
use lib.ListN.{length}
use Rattle.pugdrel.specs.Reports.{told}

module _ (numbers old : List ℕ) where
  pub told_new : length old ≡ length numbers → numbers ≡ told numbers old
  told_new e = rw (eq-eqb (length old) (length numbers) e)

  pub told_old : (length old ≡ length numbers → ⊥) → old ≡ told numbers old
  told_old h = rw (ne_eqb (length old) (length numbers) h)
