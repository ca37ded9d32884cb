-- `tables::put_weights` meets its contract: a turn puts one weight more, and past the last cell nothing is put.
-- Assumes nothing.
use mathlib.Core.Path.{◌≡◌}
use Prim.Native.Nat.{◌*◌, ◌<◌}
use Rattle.degree.specs.Degree as degree
use Rattle.field.specs.Field.{power}
use Rattle.field.proofs.Filling.{WeightsTo}
use Rattle.field.proofs.tables.put_weights.Given as goal

abbrev pub invariant-loop-i : goal.invariant-loop-i
invariant-loop-i l = (l.cube < degree.order l.d) × (power l.d l.cube ≡ power l.d (3 * l.i)) × WeightsTo l.d l.i l.weights
