-- `FieldTables::product` meets its contract: 0 with a factor 0, and else the power whose exponent is the sum of the two.
-- Assumes nothing.
use mathlib.Core.Path.{sym, ◌∙◌}
use Rattle.field.proofs.Products.{product_zero_left, product_zero_right}
use Rattle.field.proofs.Reading.{product_logs}
use Rattle.field.proofs.tables.FieldTables.product.Goals as goal

pub returns-then-x-eq0 : goal.returns-then-x-eq0
returns-then-x-eq0 c = rw c.if-x-eq0.true (sym (product_zero_left c.args.self.now.degree c.args.y))

pub returns-then-y-eq0 : goal.returns-then-y-eq0
returns-then-y-eq0 c = rw c.if-y-eq0.true (sym (product_zero_right c.args.self.now.degree c.args.x))

pub returns-else-y-eq0 : goal.returns-else-y-eq0
returns-else-y-eq0 c =
    let i = c.log-i in
    let j = c.log-j in
    let k = c.reduced-k in
    c.power.ensures
    ∙ product_logs c.args.self.now.degree i.result j.result k.result i.ensures.1 j.ensures.1 k.ensures.1
