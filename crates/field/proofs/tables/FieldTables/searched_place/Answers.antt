-- `FieldTables::searched_place` meets its contract: the entry of what is searched, as far as it can be of use.
-- Assumes nothing.
use mathlib.Core.Path.{sym, subst, ◌∙◌}
use mathlib.Core.Bool.{false}
use native.Mathlib.Omega.{arith}
use Rattle.field.specs.Working.Positions.{located, Below}
use Rattle.field.proofs.Primitive.{primitive}
use Rattle.field.proofs.Locating.{located_below, usable_below}
use Rattle.field.proofs.tables.FieldTables.searched_place.Goals as goal
use Rattle.field.proofs.tables.FieldTables.searched_place.Goals.{then-parity-eq0, else-parity-eq0}

pub entry_of-requires : goal.entry_of-requires
entry_of-requires c =
    let a = c.args in
    let d = a.self.now.degree in
    let p = located d a.s1 a.s3 in
    let below = located_below d 128 a.s1 a.s3 (omega (arith, (primitive d).room)) in
    elim c.if-parity-eq0.branch [
      | then-parity-eq0 w ↦ subst (Below 128) (sym (w.positions-is ∙ w.locate-positions.ensures)) below
      | else-parity-eq0 w ↦ subst (Below 128) (sym (w.positions-is ∙ w.locate_single-positions.ensures)) (usable_below 128 false p below)
    ]
