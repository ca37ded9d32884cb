-- `line::encoding::checks_of` meets its contract: each fixed table of check cells passes the test of units, which is computed here,
-- over the table as it stands in the source.
-- Assumes nothing.
use mathlib.Core.Path.{refl}
use Rattle.degree.specs.declared.Degree.TheVariants.{Four, Six, Seven}
use Rattle.field.specs.Field.{double}
use Rattle.field.proofs.PowerTable.{products_from}
use Rattle.laws.specs.Digits.{sum_over, ones_in, digits}
use Rattle.line.specs.Encoding.{checks_for}
use Rattle.line.specs.Working.Units.{unit_of}
use Rattle.line.proofs.UnitLaws.{unit_word, units?, units_rule}
use Rattle.line.proofs.encoding.checks_of.Goals as goal

pub returns-in-Four : goal.returns-in-Four
unfolding unit_of units? unit_word checks_for sum_over ones_in digits products_from double
returns-in-Four c = rw c.in-Four.is (units_rule Four _ tt refl)

pub returns-in-Six : goal.returns-in-Six
unfolding unit_of units? unit_word checks_for sum_over ones_in digits products_from double
returns-in-Six c = rw c.in-Six.is (units_rule Six _ tt refl)

pub returns-in-Seven : goal.returns-in-Seven
unfolding unit_of units? unit_word checks_for sum_over ones_in digits products_from double
returns-in-Seven c = rw c.in-Seven.is (units_rule Seven _ tt refl)
