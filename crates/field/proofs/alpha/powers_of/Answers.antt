-- `alpha::powers_of` meets its contract: each fixed table of powers passes the test of the doubling rule, which is computed here, over the
-- table as it stands in the source.
-- Assumes nothing.
use mathlib.Core.Path.{refl}
use Rattle.degree.specs.declared.Degree.TheVariants.{Four, Six, Seven}
use Rattle.field.specs.Field.{double}
use Rattle.field.proofs.PowerTable.{powers_rule}
use Rattle.field.proofs.alpha.powers_of.Goals as goal

pub returns-in-Four : goal.returns-in-Four
unfolding double
returns-in-Four c = rw c.in-Four.is (powers_rule Four _ tt refl)

pub returns-in-Six : goal.returns-in-Six
unfolding double
returns-in-Six c = rw c.in-Six.is (powers_rule Six _ tt refl)

pub returns-in-Seven : goal.returns-in-Seven
unfolding double
returns-in-Seven c = rw c.in-Seven.is (powers_rule Seven _ tt refl)
