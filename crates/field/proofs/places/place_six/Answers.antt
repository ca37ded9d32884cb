-- `places::place_six` meets its contract: the table, as it stands in the source, passes the test of its rule, which is computed here
-- over all of its entries.
-- Assumes nothing.
use Rattle.field.specs.declared.places.TheConstants.{PLACES_SIX}
use Rattle.field.proofs.PlaceTable.{cubes_six, rows?, places?, places_six}
use Rattle.field.specs.Field.{double}
use Rattle.field.proofs.PowerTable.{products_from}
use Rattle.field.proofs.places.place_six.Goals as goal

pub returns : goal.returns
unfolding products_from double cubes_six rows? places?
returns c = places_six PLACES_SIX tt c.args.s1 c.args.s3 c.requires.0 c.requires.1
