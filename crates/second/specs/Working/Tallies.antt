-- Tallies: counts, which wrap past 64 bits, and how they are printed.
use Rattle.std.specs.Prelude.{ℕ, zero, suc, ◌+◌, ◌*◌, ◌/◌, ◌%◌, ◌^◌, ◌≤◌, cond, List, [], ◌∷◌, ◌++◌, length, take, ◌==◌, bit_xor, decimal, slice_index, slice_set}
use Rattle.std.specs.Io.KnownBytes.{Appends}
use Rattle.std.specs.declared.option.Option.{Option}
use Rattle.laws.specs.Sums.{sum_to}
use Rattle.second.specs.declared.lines.Clause.{Clause}
use Rattle.second.specs.declared.lines.Clause.TheVariants.{Equal, Crowded, Both, Neither, Agreeing, Unchanged, Open, Afresh, Channel}
use Rattle.second.specs.declared.tallies.Clauses.{Clauses}
use Rattle.second.specs.Working.Lines.{is_like}

-- one more
abbrev pub next : ℕ → ℕ
next count = (count + 1) % 2 ^ 64

-- how often each clause was met, in the order in which it is printed
abbrev pub counts_of : Clauses → List ℕ
counts_of met =
    met.equal ∷ met.crowded ∷ met.both ∷ met.neither ∷ met.agreeing ∷ met.unchanged ∷ met.open ∷ met.afresh ∷ met.channel ∷ []

-- the place there of a clause's count
abbrev pub clause_place : Clause → ℕ
clause_place Equal = 0
clause_place Crowded = 1
clause_place Both = 2
clause_place Neither = 3
clause_place Agreeing = 4
clause_place Unchanged = 5
clause_place Open = 6
clause_place Afresh = 7
clause_place Channel = 8

-- one more at a place, and all others as they were
abbrev pub ticked : (place : ℕ) → List ℕ → List ℕ
ticked place counts = slice_set counts place (next (slice_index counts place))

-- 64 bits, stirred by shifts
abbrev pub stirred : ℕ → ℕ
stirred a =
    let b = bit_xor a (a / 2 ^ 29) in
    let c = bit_xor b (b * 2 ^ 17 % 2 ^ 64) in
    bit_xor c (c / 2 ^ 32)

-- a number mixed into a sum: what comes of it hangs on both, and on the order of many
abbrev pub mixed : (sum value : ℕ) → ℕ
mixed sum value = stirred (((sum + value) % 2 ^ 64 + 11400714819323198485) % 2 ^ 64)

-- what is written for a byte of a line: for a '#' the number at a place, where places are counted modulo 32 and past the numbers that are
-- lent each is 0, and else the byte
abbrev pub said_byte : (byte : ℕ) (numbers : List ℕ) (place : ℕ) → List ℕ
said_byte byte numbers place = cond (byte == 35) (decimal (slice_index numbers (place % 32))) (byte ∷ [])

-- what is written for the first k bytes of a line: each '#' stands for the next of the numbers
unfoldable pub said_text : (line numbers : List ℕ) → ℕ → List ℕ
said_text line numbers zero = []
said_text line numbers (suc k) = said_text line numbers k ++ said_byte (slice_index line k) numbers (sum_to (is_like 35 line) k)

-- a stream whose bytes are known holds what it held, and then a part of the front of a text: none of it, some of it or all of it
abbrev pub AppendsPart : (old new : Option (List ℕ)) (text : List ℕ) → Type 0
AppendsPart old new text = (k : ℕ) × (k ≤ length text) × Appends old new (take k text)
