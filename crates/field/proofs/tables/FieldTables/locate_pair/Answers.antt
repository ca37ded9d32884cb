-- `FieldTables::locate_pair` meets its contract: of the pairs that fit, the search finds the first.
-- Assumes nothing.
use mathlib.Core.Path.{◌∙◌}
use borrow.Author.Rules.{rules}
use Rattle.degree.specs.Degree.{order}
use Rattle.field.specs.Working.Fitting.{Paired}
use Rattle.field.proofs.Finding.{found_below}
use Rattle.field.proofs.Search.{pair_first}
use Rattle.field.proofs.tables.FieldTables.locate_pair.Goals as goal

pub returns : goal.returns
returns c =
    let a = c.args in
    let d = a.self.now.degree in
    c.unwrap_or.ensures
    ∙ pair_first d a.s1 a.s3 _ c.requires.3
    (found_below _ _ (order d) (Paired d a.s1 a.s3) (search rules) (λ x r q. search rules) _ _ (search rules) c.find_map.ensures.runs)
