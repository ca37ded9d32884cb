-- The two sums before they are reduced, bytes, and the two ends of a block.
use Rattle.std.specs.Prelude.{List, [], ◌∷◌, ◌++◌, ℕ, ◌+◌, ◌*◌, ◌/◌, ◌%◌, ◌<◌, ◌≤◌, get_or, replicate}
use Rattle.blocks.specs.declared.sums.Sums.{Sums}

-- numbers that fit a byte
abbrev pub Bytes : List ℕ → Type 0
Bytes l = (i : ℕ) → get_or l i 0 < 256

abbrev pub both : Sums → ℕ × ℕ
both s = (s.a, s.b)

-- each byte is added to A, then A to B, and neither is reduced
unfoldable pub added : ℕ × ℕ → List ℕ → ℕ × ℕ
added s [] = s
added s (x ∷ xs) = added (s.0 + x, s.1 + (s.0 + x)) xs

-- n bytes more may be added to the sums of a block: those of 510 bytes are no larger than this
pub record Room (n : ℕ) (s : ℕ × ℕ) : Type 0 where
  pub first : s.0 + 255 * n ≤ 130050
  pub second : s.1 + 130050 * n ≤ 66325500

-- bytes 0 to 3 of block b of a sheet whose number is s
abbrev pub head_of : (b s : ℕ) → List ℕ
head_of b s = b ∷ 6 ∷ s / 256 ∷ s % 256 ∷ []

-- n bytes of zero behind those whose sums are s, and the sums of all of them as they are kept
abbrev pub end_of : ℕ × ℕ → ℕ → List ℕ
end_of s n = replicate n 0 ++ ((added s (replicate n 0)).0 % 255 ∷ (added s (replicate n 0)).1 % 255 ∷ [])
