-- What `pugdrel_decode` promises, by examples of degree 4 with filling words of zero: the count, the unsure cells and closed, in this order.
-- Assumes nothing.
use mathlib.Core.Path.{refl}
use mathlib.Core.List.{List, [], ◌∷◌}
use Prim.Native.Nat.{ℕ}
use lib.ListN.{replicate}
use Rattle.line.specs.Refusals.{given}
use Rattle.array.specs.Refusals.{decode_tests}
use Rattle.array.proofs.SheetExamples.{zero_sheet, crowded_row, crowded_promised, all_unsure, unsure_promised}
use Rattle.pugdrel.specs.ArrayCalls.{DecodeTold}
use Rattle.pugdrel.proofs.Examples.{Tells, fitting, nines, sevens}

-- l iterations on the received array r
abbrev Promised : (l : ℕ) (r after : List ℕ) → List ℕ → ℕ → Type 0
Promised l r after = DecodeTold 4 l r (replicate 64 0) (sevens 256) after (nines 3)

pub decodings : (after : List ℕ)
    -- row 0 unsure, all else 0; all cells unsure; no iterations
    → Tells (Promised 1 crowded_row after) 0 (62 ∷ 0 ∷ 1 ∷ [])
    × Tells (Promised 1 all_unsure after) 0 (0 ∷ 256 ∷ 0 ∷ [])
    × Tells (Promised 0 zero_sheet after) 2 (0 ∷ 0 ∷ 0 ∷ [])
unfolding decode_tests given
decodings after = (
  fitting refl (λ a done. rw (crowded_promised refl refl done).0 (refl, refl)),
  fitting refl (λ a done. rw (unsure_promised refl refl done).0 (refl, refl)),
  fitting refl (λ a done. rw (done.count, done.erasures, done.closed) (done.refusal, refl)),
)
