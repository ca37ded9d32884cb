-- Bits of machine words.
use Rattle.std.specs.Prelude.{Bool, true, false, ℕ, ◌/◌, ◌%◌, ◌^◌}

abbrev pub xorb : Bool → Bool → Bool
xorb true true = false
xorb true false = true
xorb false b = b

-- bit k of a word
abbrev pub bit_at : ℕ → ℕ → ℕ
bit_at w k = w / 2 ^ k % 2
