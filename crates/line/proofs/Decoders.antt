-- What the laws of a line lean on: a decoder of full words that finds exactly the codewords within 2, of a code whose words
-- differ in at least 6 cells.
-- Assumes nothing.
use mathlib.Core.Path.{◌≡◌}
use mathlib.Core.List.{List}
use Prim.Native.Nat.{ℕ, ◌<◌, ◌≤◌}
use native.Mathlib.Omega.{arith}
use Rattle.line.specs.Cells.{IsWord, distance, designed_distance}
use Rattle.line.specs.Bounded.{Answer, Found, Failed}

pub record Decoder (n : ℕ) (Code : List ℕ → Type 0) (dec : List ℕ → Answer) : Type 0 where
  -- a codeword is a word
  pub word : {c : List ℕ} → Code c → IsWord n c
  -- what is found is a codeword within 2
  pub sound : {w c : List ℕ} → IsWord n w → dec w ≡ Found c → Code c × (distance w c ≤ 2)
  -- two codewords differ in 0 or in at least 6 cells
  pub spaced : {c e : List ℕ} → Code c → Code e → distance c e < designed_distance → c ≡ e
  -- a codeword within 2 is found
  pub complete : {w c : List ℕ} → IsWord n w → Code c → distance w c ≤ 2 → dec w ≡ Found c

-- no answer is both found and failed
pub found_failed : {a : Answer} {c : List ℕ} → a ≡ Found c → a ≡ Failed → ⊥
found_failed e h = let z : ◌≡◌ {A = ℕ} 0 1 = cc in omega arith
