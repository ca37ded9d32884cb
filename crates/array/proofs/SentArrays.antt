-- Sent arrays: they are just the product codewords, so the plain decoding of an array near one ends with it. Document 00,
-- demand 3: for every sent array made by encoding, if in each received row twice the wrong bits plus the unsure ones, against
-- that array, is below 6, then the cells left are that array's and it is marked closed. Closed arrays are just the sent ones:
-- which of them was sent closed does not tell.
-- Assumes nothing.
use mathlib.Core.Path.{◌≡◌, ap, ◌∙◌}
use mathlib.Core.Bool.{true}
use mathlib.Core.Logic.{◌↔◌}
use mathlib.Core.List.{List}
use Prim.Native.Nat.{ℕ, ◌*◌, ◌<◌}
use Rattle.degree.specs.declared.Degree.{Degree}
use Rattle.degree.specs.Degree.{size}
use Rattle.line.specs.Working.Packed.{IsLine}
use Rattle.line.specs.Cells.{erasures}
use Rattle.array.specs.Plain.{plain, closed, RowCondition}
use Rattle.array.specs.Encoding.{extracted, ProductCodeword, SentArray}
use Rattle.array.specs.Working.Steps.{IsArray}
use Rattle.array.proofs.ClosedLaws.{IsClosed, closed_exactly}
use Rattle.array.proofs.Theorem.{sent_known, sent_closed, array_theorem, plain_cells}
use Rattle.array.proofs.ArrayEncoding.{encode_codeword, encode_holds, encode_extract, extract_word}

module _ (d : Degree) where
  pub sent_codeword : {s : List ℕ} → SentArray d s → ProductCodeword d s
  sent_codeword S = rw S.is (encode_codeword d S.message S.bits)

  pub codeword_sent : {s : List ℕ} → ProductCodeword d s → SentArray d s
  codeword_sent {s} S = record { message = extracted d s; bits = extract_word d s S; is = encode_extract d s S }

  -- closed is yes exactly if the array is one that encoding gives for some message
  pub closed_sent : (m : List ℕ) → IsArray d m → (closed d m ≡ true) ↔ SentArray d m
  closed_sent m a = (λ e. codeword_sent (product ((closed_exactly d m a).0 e)), λ S. sent_closed d m (sent_codeword S))
    where
      product : IsClosed d m → ProductCodeword d m
      product p = record { whole = a.long; rows = p.rows; columns = p.columns }

  -- so it is of what a decoding leaves
  pub left_sent : (l : ℕ) (r w : List ℕ) → IsArray d r → (closed d (plain d l r r w) ≡ true) ↔ SentArray d (plain d l r r w)
  left_sent l r w a = closed_sent (plain d l r r w) (plain_cells d l r r w a a)

  -- a sent array is known by its message
  pub sent_message : {s : List ℕ} (S : SentArray d s) → extracted d s ≡ S.message
  sent_message S = ap (extracted d) S.is ∙ encode_holds d S.message S.bits

  -- what the plain decoding leaves
  pub record EndsWith (s m : List ℕ) : Type 0 where
    pub cells : m ≡ s
    pub known : erasures m ≡ 0
    pub closing : closed d m ≡ true

  pub sent_theorem : (s r : List ℕ) (l : ℕ) (w : List ℕ) → SentArray d s → IsLine (size d * size d) r → 0 < l → RowCondition d r s
      → EndsWith s (plain d l r r w)
  sent_theorem s r l w S R h c =
      let C = sent_codeword S in
      let e = array_theorem d s C r R l w h c in
      record { cells = e; known = ap erasures e ∙ sent_known d s C; closing = ap (closed d) e ∙ sent_closed d s C }
