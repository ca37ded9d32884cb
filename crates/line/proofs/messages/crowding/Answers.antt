-- `line::messages::crowding` meets its contract: one erasure short of the designed distance, the erased cells of the channel make it full.
-- Assumes nothing.
use mathlib.Core.Path.{ap, ◌∙◌}
use mathlib.Core.Bool.{Bool, ◌&&◌, and-false}
use Prim.Native.Nat.{◌+◌}
use lib.Dec.{eqb}
use Rattle.line.specs.Cells.{designed_distance}
use Rattle.line.proofs.Packing.{known_at}
use Rattle.line.proofs.messages.crowding.Goals as goal

pub returns-then-erased-eq-DISTANCE : goal.returns-then-erased-eq-DISTANCE
returns-then-erased-eq-DISTANCE c =
    λ n rs q k z.
    let e = eqb (c.args.erased + 1) designed_distance in
    ap (λ (x : Bool). e && x) (known_at k q z) ∙ and-false e
