-- `FieldTables::word_place` meets its contract: the entry of the word's check sums, and its parity.
-- Assumes nothing.
use Rattle.laws.specs.Digits.{digits}
use Rattle.words.specs.Working.Word.{value, width}
use Rattle.field.proofs.Reading.{place_parts}
use Rattle.field.proofs.Weights.{s1_lt, s3_lt}
use Rattle.field.proofs.tables.FieldTables.word_place.Goals as goal

pub place-entry-requires : goal.place-entry-requires
place-entry-requires c =
    let s = c.syndrome-s.ensures in
    let d = c.args.self.now.degree in
    let cells = digits width (value c.args.word.now) in
    (rw s.s1 (s1_lt d cells), rw s.s3 (s3_lt d cells))

pub returns : goal.returns
returns c = place_parts _ _ _ c.syndrome-s.ensures c.place-entry.ensures
