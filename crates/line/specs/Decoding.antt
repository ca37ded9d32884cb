-- Line decoding (Algorithm 1 of source document 000, with 6 for its designed distance), and outgoing messages, here called
-- extrinsic messages. Both go over a decoder of full words, `dec`, which is `bounded d` in every contract.
use Rattle.std.specs.Prelude.{cond, List, [], ◌∷◌, ℕ, zero, suc, ltb, length, set}
use Rattle.line.specs.declared.side.Side.TheVariants.{One, Two}
use Rattle.line.specs.Cells.{cell, few, distance, filled}
use Rattle.line.specs.Bounded.{Answer, Found, Failed, or_back}

-- if both fail, it fails; if one succeeds, that codeword; if both do, the one with fewer differences at the known cells, at a
-- tie word one's
abbrev pub choice : List ℕ → Answer → Answer → Answer
choice y Failed Failed = Failed
choice y Failed (Found b) = Found b
choice y (Found a) Failed = Found a
choice y (Found a) (Found b) = cond (ltb (distance y b) (distance y a)) (Found b) (Found a)

-- a line with cell k put to what the channel has there
abbrev pub replaced : List ℕ → List ℕ → ℕ → List ℕ
replaced y r k = set y k (cell r k)

-- g 0, g 1, .. g (n - 1)
unfoldable pub list_to : (ℕ → ℕ) → ℕ → List ℕ
list_to g zero = []
list_to g (suc n) = g 0 ∷ list_to (λ k. g (suc k)) n

module _ (dec : List ℕ → Answer) where
  -- with 6 or more unsure cells it fails; otherwise both filled words are decoded
  unfoldable pub decode : List ℕ → ℕ → Answer
  decode y f = cond (few y) (choice y (dec (filled One y f)) (dec (filled Two y f))) Failed

  -- a line that fails is given back as it came
  abbrev pub decoded : List ℕ → ℕ → List ℕ
  decoded y f = or_back y (decode y f)

  -- the message at cell k of incoming line y with channel line r and filling word f: one decoding for each cell
  unfoldable pub message : List ℕ → List ℕ → ℕ → ℕ → ℕ
  message y r f k = cell (decoded (replaced y r k) f) k

  -- all messages of a line
  unfoldable pub messages : List ℕ → List ℕ → ℕ → List ℕ
  messages y r f = list_to (message y r f) (length y)
