-- `writing::Output::put_decimal` calls itself: a number of two digits or more is written as the number without its last digit, and that
-- digit. The measure is the number.
-- Assumes nothing.
use Rattle.text.proofs.writing.Output.+put_decimal.Given as goal

abbrev pub decreases-put_decimal : goal.decreases-put_decimal
decreases-put_decimal l = l.number
