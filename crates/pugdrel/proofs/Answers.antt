-- The answer of an entry in numbers, by its cases: the refusal, and what is told of a call that is taken.
-- Assumes nothing.
use Rattle.std.proofs.Common.{◌≡◌, ℕ, Bool, false, refl}
use Rattle.std.specs.Prelude.{Option, None, Some, Result, Ok, Err}
use Rattle.std.specs.Result.{result_unwrap_or}
use Rattle.line.specs.declared.refusals.Refusal.{Refusal}
use Rattle.line.specs.Refusals.{refusal_of}
use Rattle.line.specs.Entries.{word_numbers, line_numbers, messages_numbers}
use Rattle.array.specs.declared.report.Report.{Report}
use Rattle.array.specs.Entries.{decode_numbers}
use Rattle.blocks.specs.Entries.{read_numbers}

pub decode_refusal : (a : Result Report Refusal) → refusal_of a ≡ (decode_numbers a).0
decode_refusal (Ok t) = refl
decode_refusal (Err why) = refl

pub word_refusal : (a : Result (Option ℕ) Refusal) → refusal_of a ≡ (word_numbers a).0
word_refusal (Ok None) = refl
word_refusal (Ok (Some n)) = refl
word_refusal (Err why) = refl

pub line_refusal : (a : Result Bool Refusal) → refusal_of a ≡ (line_numbers a).0
line_refusal (Ok found) = refl
line_refusal (Err why) = refl

pub line_found : (a : Result Bool Refusal) → result_unwrap_or a false ≡ (line_numbers a).1
line_found (Ok found) = refl
line_found (Err why) = refl

pub messages_refusal : (a : Result ℕ Refusal) → refusal_of a ≡ (messages_numbers a).0
messages_refusal (Ok n) = refl
messages_refusal (Err why) = refl

pub messages_count : (a : Result ℕ Refusal) → result_unwrap_or a 0 ≡ (messages_numbers a).1
messages_count (Ok n) = refl
messages_count (Err why) = refl

pub read_refusal : (a : Result ℕ Refusal) → refusal_of a ≡ (read_numbers a).0
read_refusal (Ok s) = refl
read_refusal (Err why) = refl

pub read_number : (a : Result ℕ Refusal) → result_unwrap_or a 0 ≡ (read_numbers a).1
read_number (Ok s) = refl
read_number (Err why) = refl
