-- The small lines of document 01, degree 4, as one table: P1 to P9 are decoded, P10 to P14 give messages and counts.
-- Assumes nothing.
use mathlib.Core.Path.{◌≡◌, refl, sym, ap, ◌∙◌}
use mathlib.Core.Bool.{Bool, true, false, cond}
use mathlib.Core.List.{List, [], ◌∷◌, map}
use Prim.Native.Nat.{ℕ, zero, suc, ◌+◌, ◌^◌}
use lib.Dec.{eqb}
use lib.ListN.{length, replicate, set}
use borrow.Author.Tests.{eqb-true}
use Rattle.degree.specs.declared.Degree.TheVariants.{Four}
use Rattle.field.specs.Field.{double, times_power}
use Rattle.laws.specs.Digits.{sum_over, ones_in}
use Rattle.line.specs.Cells.{cell, erasures, distance, filled, flip}
use Rattle.line.specs.Codeword.{is_codeword}
use Rattle.laws.specs.Searches.{first_of}
use Rattle.line.specs.Bounded.{Answer, Found, Failed, or_back, itself, one_flipped, two_flipped, within2, bounded}
use Rattle.line.specs.Decoding.{list_to, decode, decoded, message, messages}
use Rattle.laws.specs.Sums.{sum_to}
use Rattle.line.specs.Clauses.{reach, same, agrees, by_reach, clause, count}
use Rattle.line.proofs.LineLaw.{equal_message, list_to_is, list_to_length, list_to_cell}

-- x at the cells listed, else as in l
abbrev put : ℕ → List ℕ → List ℕ → List ℕ
put x [] l = l
put x (i ∷ is) l = set (put x is l) i x

-- 16 cells: ones and erasures at the cells listed, else 0
abbrev pub line : (ones erased : List ℕ) → List ℕ
line os es = put 1 os (put 2 es (replicate 16 0))

abbrev pub zeros : List ℕ
zeros = line [] []

abbrev pub word_g : List ℕ
word_g = line (0 ∷ 4 ∷ 6 ∷ 7 ∷ 8 ∷ 15 ∷ []) []

pub data Row : Type 0 where
  -- a line, its filling word and what it is decoded to
  Decodes : List ℕ → ℕ → Answer → Row
  -- an incoming line, the one cell at which the channel differs and its value there, the messages and the count; filling zero
  Sends : List ℕ → ℕ → ℕ → List ℕ → ℕ → Row

abbrev pub p3 : List ℕ
p3 = line (0 ∷ 4 ∷ 6 ∷ []) []

abbrev pub p4 : List ℕ
p4 = line [] (0 ∷ 4 ∷ 6 ∷ 7 ∷ 8 ∷ [])

abbrev pub p7 : List ℕ
p7 = line (0 ∷ 4 ∷ []) (6 ∷ 7 ∷ [])

abbrev pub p14 : List ℕ
p14 = line (4 ∷ 6 ∷ 7 ∷ 8 ∷ 15 ∷ []) (0 ∷ 1 ∷ 2 ∷ 3 ∷ 5 ∷ 9 ∷ [])

-- P1 to P14, in their order
abbrev rows : List Row
rows =
    Decodes zeros 0 (Found zeros)
    ∷ Decodes (line (0 ∷ 4 ∷ []) []) 0 (Found zeros)
    ∷ Decodes p3 0 Failed
    ∷ Decodes p4 0 (Found zeros)
    ∷ Decodes (set p4 15 1) 0 (Found word_g)
    ∷ Decodes (line [] (0 ∷ 4 ∷ 6 ∷ 7 ∷ 8 ∷ 15 ∷ [])) 0 Failed
    ∷ Decodes p7 0 (Found zeros)
    ∷ Decodes p7 (2 ^ 6 + 2 ^ 7) (Found word_g)
    ∷ Decodes p7 (2 ^ 6) Failed
    ∷ Sends (line (0 ∷ 4 ∷ []) []) 6 1 (line (6 ∷ []) []) 2
    ∷ Sends p3 6 0 (line (0 ∷ 4 ∷ []) []) 2
    ∷ Sends p3 6 2 (line (0 ∷ 4 ∷ []) []) 3
    ∷ Sends p4 15 2 (line [] (15 ∷ [])) 2
    ∷ Sends p14 0 0 (set p14 0 1) 2
    ∷ []

-- a row with what the definitions give in the place of its result
abbrev computed : Row → Row
computed (Decodes y f a) = Decodes y f (decode (bounded Four) y f)
computed (Sends y k x m c) = Sends y k x (messages (bounded Four) y (set y k x) 0) (count (bounded Four) y (set y k x) 0)

-- ---- the same with the incoming line decoded once: where the cells are equal, the replaced line is the incoming one

module _ (dec : List ℕ → Answer) (y r : List ℕ) (f : ℕ) where
  -- the messages from c, what the incoming line is decoded to
  abbrev short : List ℕ → ℕ → ℕ
  short c k = cond (eqb (cell y k) (cell r k)) (cell c k) (message dec y r f k)

  message_short : (k : ℕ) → message dec y r f k ≡ short (decoded dec y f) k
  message_short k = go (eqb (cell y k) (cell r k)) refl
    where
      go : (b : Bool) → eqb (cell y k) (cell r k) ≡ b
          → message dec y r f k ≡ cond b (cell (decoded dec y f) k) (message dec y r f k)
      go true e = equal_message dec y r f k (eqb-true (cell y k) (cell r k) e)
      go false e = refl

  messages_short : messages dec y r f ≡ list_to (short (decoded dec y f)) (length y)
  unfolding messages
  messages_short =
      list_to_is (message dec y r f) (length y) (list_to (short (decoded dec y f)) (length y))
      (list_to_length (short (decoded dec y f)) (length y))
      (λ k h. message_short k ∙ sym (list_to_cell (short (decoded dec y f)) (length y) k h))

-- a row computed so
abbrev quick : Row → Row
quick (Decodes y f a) = Decodes y f (decode (bounded Four) y f)
quick (Sends y k x m c) =
    Sends y k x (list_to (short (bounded Four) y (set y k x) 0 (decoded (bounded Four) y 0)) (length y)) (count (bounded Four) y (set y k x) 0)

computed_quick : (rs : List Row) → map computed rs ≡ map quick rs
computed_quick [] = refl
computed_quick (Decodes y f a ∷ rs) = rw (computed_quick rs)
computed_quick (Sends y k x m c ∷ rs) = rw (messages_short (bounded Four) y (set y k x) 0, computed_quick rs)

rows_quick : map quick rows ≡ rows
unfolding bounded within2 one_flipped two_flipped itself first_of flip is_codeword ones_in sum_over double times_power decode filled erasures distance list_to message count sum_to reach same agrees by_reach clause
rows_quick = refl

-- every row is as the definitions give it
pub table : map computed rows ≡ rows
table = computed_quick rows ∙ rows_quick

-- ---- the messages of P7 and P8, where the channel has the incoming line

-- the messages are then what the line is decoded to
messages_same : (dec : List ℕ → Answer) (y : List ℕ) (f : ℕ) (c : List ℕ) → decode dec y f ≡ Found c → length c ≡ length y → messages dec y y f ≡ c
unfolding messages
messages_same dec y f c e l =
    list_to_is (message dec y y f) (length y) c l (λ k h. equal_message dec y y f k refl ∙ ap (λ (a : Answer). cell (or_back y a) k) e)

-- what row i of the table is decoded to
abbrev answer : ℕ → List Row → Answer
answer i [] = Failed
answer zero (Decodes y f a ∷ rs) = a
answer zero (Sends y k x m c ∷ rs) = Failed
answer (suc i) (r ∷ rs) = answer i rs

pub p7_messages : messages (bounded Four) p7 p7 0 ≡ zeros
p7_messages = messages_same (bounded Four) p7 0 zeros (ap (answer 6) table) refl

pub p8_messages : messages (bounded Four) p7 p7 (2 ^ 6 + 2 ^ 7) ≡ word_g
p8_messages = messages_same (bounded Four) p7 (2 ^ 6 + 2 ^ 7) word_g (ap (answer 7) table) refl
