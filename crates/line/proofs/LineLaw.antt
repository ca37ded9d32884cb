-- The line law. Document 01, "One line": if twice the wrong known cells plus the unsure ones is below 6, the sent codeword comes
-- out under every filling. From it, the messages of a codeword, and of a received line with so few wrong and erased cells.
-- Assumes nothing.
use mathlib.Core.Path.{◌≡◌, refl, sym, ap, ap₂, ◌∙◌}
use mathlib.Core.Bool.{Bool, true, false, cond}
use mathlib.Core.List.{List, [], ◌∷◌}
use Prim.Native.Nat.{ℕ, zero, suc, ◌+◌, ◌-◌, ◌*◌, ◌/◌, ◌%◌, ◌<◌, ◌≤◌, suc-le-suc}
use native.Mathlib.Nat.{suc_inj, mod-lt, zero-lt-suc, le_of_suc-le-suc, not-suc-le-zero}
use native.Mathlib.Decide.{dec_le}
use native.Mathlib.Omega.{arith}
use lib.Dec.{ltb}
use lib.ListN.{length}
use lib.Seq.{set-get_or}
use borrow.Author.Tests.{ltb-true, ltb-false, lt-ltb}
use Rattle.degree.specs.declared.Degree.{Degree}
use Rattle.degree.specs.Degree.{size}
use Rattle.line.specs.declared.side.Side.TheVariants.{One, Two}
use Rattle.line.specs.Cells.{cell, Cells, IsWord, is_erased, bit, erasures, few, distance, filled, designed_distance}
use Rattle.line.specs.Working.OneCell.{differs, filled_cell}
use Rattle.line.specs.Working.Packed.{IsLine}
use Rattle.line.specs.Codeword.{Codeword}
use Rattle.line.specs.Bounded.{Answer, Found, Failed, or_back, bounded}
use Rattle.line.specs.Decoding.{choice, replaced, list_to, decode, decoded, message, messages}
use Rattle.line.proofs.CellLaws.{Bits, word_line, differs_le, filled_word, set_cells, erasures_set, distance_set, word_known, distance_self, triangle}
use Rattle.line.proofs.Decoders.{Decoder, found_failed}
use Rattle.line.proofs.Distances.{bounded_decoder}

-- ---- both filled words

-- at a cell both filled words together are wrong twice where the cell is wrong, once where it is erased
cell_sum : (y b c : ℕ) → y < 3 → b < 2 → c < 2
    → differs (filled_cell y b) c + differs (filled_cell y (1 - b)) c ≡ 2 * differs y c + bit (is_erased y)
cell_sum zero b c hy hb hc = omega arith
cell_sum (suc zero) b c hy hb hc = omega arith
cell_sum (suc (suc zero)) zero zero hy hb hc = refl
cell_sum (suc (suc zero)) zero (suc zero) hy hb hc = refl
cell_sum (suc (suc zero)) (suc zero) zero hy hb hc = refl
cell_sum (suc (suc zero)) (suc zero) (suc zero) hy hb hc = refl
cell_sum (suc (suc zero)) zero (suc (suc c)) hy hb hc = absurd (omega arith)
cell_sum (suc (suc zero)) (suc zero) (suc (suc c)) hy hb hc = absurd (omega arith)
cell_sum (suc (suc zero)) (suc (suc b)) c hy hb hc = absurd (omega arith)
cell_sum (suc (suc (suc y))) b c hy hb hc = absurd (omega arith)

-- the distances of both filled words: twice that of the line, and the erasures
filled_sum : (y c : List ℕ) (f : ℕ) → ((i : ℕ) → cell y i < 3) → Bits c → length c ≡ length y
    → distance (filled One y f) c + distance (filled Two y f) c ≡ 2 * distance y c + erasures y
unfolding distance filled erasures
filled_sum [] c f hy hc e = refl
filled_sum (y ∷ ys) [] f hy hc e = absurd (omega arith)
filled_sum (y ∷ ys) (c ∷ cs) f hy hc e =
    omega (arith, filled_sum ys cs (f / 2) (λ i. hy (suc i)) (λ i. hc (suc i)) (suc_inj e), cell_sum y (f % 2) c (hy 0) (mod-lt f (zero-lt-suc 1)) (hc 0))

-- ---- lists by their cells

-- a list g 0, g 1, .. that agrees with c at each cell is c
pub list_to_is : (g : ℕ → ℕ) (n : ℕ) (c : List ℕ) → length c ≡ n → ((k : ℕ) → k < n → g k ≡ cell c k) → list_to g n ≡ c
unfolding list_to
list_to_is g zero [] e h = refl
list_to_is g zero (c ∷ cs) e h = absurd (omega arith)
list_to_is g (suc n) [] e h = absurd (omega arith)
list_to_is g (suc n) (c ∷ cs) e h =
    ap₂ (λ (x : ℕ) (l : List ℕ). x ∷ l) (h 0 (zero-lt-suc n)) (list_to_is (λ k. g (suc k)) n cs (suc_inj e) (λ k l. h (suc k) (suc-le-suc l)))

-- it has n cells
pub list_to_length : (g : ℕ → ℕ) (n : ℕ) → length (list_to g n) ≡ n
unfolding list_to
list_to_length g zero = refl
list_to_length g (suc n) = ap suc (list_to_length (λ k. g (suc k)) n)

-- its cell k is g k
pub list_to_cell : (g : ℕ → ℕ) (n k : ℕ) → k < n → cell (list_to g n) k ≡ g k
unfolding list_to
list_to_cell g zero k h = absurd (not-suc-le-zero h)
list_to_cell g (suc n) zero h = refl
list_to_cell g (suc n) (suc k) h = list_to_cell (λ k. g (suc k)) n k (le_of_suc-le-suc h)

-- a list of numbers below a bound
pub list_to_cells : {b : ℕ} (g : ℕ → ℕ) (n : ℕ) → 0 < b → ((k : ℕ) → k < n → g k < b) → Cells b n (list_to g n)
unfolding list_to
list_to_cells {b} g n z h = record { long = list_to_length g n; small = λ i. go g n i h }
  where
    go : (g : ℕ → ℕ) (n i : ℕ) → ((k : ℕ) → k < n → g k < b) → cell (list_to g n) i < b
    go g zero i h = z
    go g (suc n) zero h = h 0 (zero-lt-suc n)
    go g (suc n) (suc i) h = go (λ k. g (suc k)) n i (λ k l. h (suc k) (suc-le-suc l))

-- ---- the laws

-- where the channel has the incoming line's cell, the message is the cell of the line's own decoding
pub equal_message : (dec : List ℕ → Answer) (y r : List ℕ) (f k : ℕ) → cell y k ≡ cell r k
    → message dec y r f k ≡ cell (decoded dec y f) k
unfolding message
equal_message dec y r f k e = rw (← e, set-get_or y k 0)

module _ (d : Degree) where
  D : Decoder (size d) (Codeword d) (bounded d)
  D = bounded_decoder d

  -- the line law: with twice the wrong known cells plus the erased ones below 6, the sent codeword comes out
  pub line_law : {y c : List ℕ} (f : ℕ) → IsLine (size d) y → Codeword d c → 2 * distance y c + erasures y < designed_distance → decode (bounded d) y f ≡ Found c
  unfolding decode
  line_law {y} {c} f l p h =
      rw (lt-ltb (erasures y) designed_distance (omega arith)) (pick (dec_le (distance (filled One y f) c) 2))
    where
      w : IsWord (size d) c
      w = D.word p

      long : length c ≡ length y
      long = w.long ∙ sym l.long

      -- a codeword no further off than the sent one is the sent one
      closer : (e : List ℕ) → Codeword d e → distance y e ≤ distance y c → e ≡ c
      closer e q k = sym (D.spaced p q (omega (arith, triangle y c e long ((D.word q).long ∙ sym l.long))))

      first : (b : Answer) → ((e : List ℕ) → b ≡ Found e → Codeword d e) → choice y (Found c) b ≡ Found c
      first Failed q = refl
      first (Found e) q = go (ltb (distance y e) (distance y c)) refl
        where
          go : (t : Bool) → ltb (distance y e) (distance y c) ≡ t → cond t (Found e) (Found c) ≡ Found c
          go true t = ap Found (closer e (q e refl) (omega (arith, ltb-true (distance y e) (distance y c) t)))
          go false t = refl

      second : (a : Answer) → ((e : List ℕ) → a ≡ Found e → Codeword d e) → choice y a (Found c) ≡ Found c
      second Failed q = refl
      second (Found e) q = go (ltb (distance y c) (distance y e)) refl
        where
          go : (t : Bool) → ltb (distance y c) (distance y e) ≡ t → cond t (Found c) (Found e) ≡ Found c
          go true t = refl
          go false t = ap Found (closer e (q e refl) (ltb-false (distance y c) (distance y e) t))

      pick : Dec (distance (filled One y f) c ≤ 2) → choice y (bounded d (filled One y f)) (bounded d (filled Two y f)) ≡ Found c
      pick (yes k) =
          rw (D.complete (filled_word One f l) p k) (first (bounded d (filled Two y f)) (λ e q. (D.sound (filled_word Two f l) q).0))
      pick (no k) =
          let k2 : distance (filled Two y f) c ≤ 2 = omega (arith, filled_sum y c f l.small w.small long) in
          rw (D.complete (filled_word Two f l) p k2) (second (bounded d (filled One y f)) (λ e q. (D.sound (filled_word One f l) q).0))

  -- what line decoding finds is a codeword
  pub decode_sound : {y c : List ℕ} (f : ℕ) → IsLine (size d) y → decode (bounded d) y f ≡ Found c → Codeword d c
  unfolding decode
  decode_sound {y} {c} f l e = go (few y) e
    where
      pick : (a b : Answer) → bounded d (filled One y f) ≡ a → bounded d (filled Two y f) ≡ b → choice y a b ≡ Found c → Codeword d c
      pick Failed Failed p q e = absurd (found_failed e refl)
      pick Failed (Found x) p q e = (D.sound (filled_word Two f l) (q ∙ e)).0
      pick (Found x) Failed p q e = (D.sound (filled_word One f l) (p ∙ e)).0
      pick (Found x) (Found z) p q e = nearer (ltb (distance y z) (distance y x)) e
        where
          nearer : (t : Bool) → cond t (Found z) (Found x) ≡ Found c → Codeword d c
          nearer true e = (D.sound (filled_word Two f l) (q ∙ e)).0
          nearer false e = (D.sound (filled_word One f l) (p ∙ e)).0

      go : (t : Bool) → cond t (choice y (bounded d (filled One y f)) (bounded d (filled Two y f))) Failed ≡ Found c → Codeword d c
      go true e = pick (bounded d (filled One y f)) (bounded d (filled Two y f)) refl refl e
      go false e = absurd (found_failed e refl)

  -- a line is decoded to a line
  pub decoded_line : {y : List ℕ} (f : ℕ) → IsLine (size d) y → IsLine (size d) (decoded (bounded d) y f)
  decoded_line {y} f l = go (decode (bounded d) y f) refl
    where
      go : (a : Answer) → decode (bounded d) y f ≡ a → IsLine (size d) (or_back y a)
      go (Found c) e = word_line (D.word (decode_sound f l e))
      go Failed e = l

  -- the messages of a line are a line
  pub messages_line : {y r : List ℕ} (f : ℕ) → IsLine (size d) y → IsLine (size d) r → IsLine (size d) (messages (bounded d) y r f)
  unfolding messages message
  messages_line {y} {r} f ly lr =
      rw ly.long (list_to_cells (message (bounded d) y r f) (size d) (omega arith) (λ k h. (decoded_line f (set_cells k (cell r k) (lr.small k) ly)).small k))

  -- the message of a codeword is the codeword's cell, whatever the channel's line is
  pub codeword_message : {c r : List ℕ} (f k : ℕ) → Codeword d c → IsLine (size d) r → k < size d → message (bounded d) c r f k ≡ cell c k
  unfolding message
  codeword_message {c} {r} f k p lr h =
      let w = D.word p in
      let k' : k < length c = rw w.long h in
      let found : decode (bounded d) (replaced c r k) f ≡ Found c =
      line_law f (set_cells k (cell r k) (lr.small k) (word_line w)) p (omega (arith, distance_set c c k (cell r k) k' k', distance_self c, erasures_set c k (cell r k) k', word_known c w.small, differs_le (cell r k) (cell c k))) in
      rw found

  -- so all messages of a codeword are the codeword
  pub codeword_messages : {c r : List ℕ} (f : ℕ) → Codeword d c → IsLine (size d) r → messages (bounded d) c r f ≡ c
  unfolding messages
  codeword_messages {c} {r} f p lr =
      list_to_is (message (bounded d) c r f) (length c) c refl (λ k h. codeword_message f k p lr (rw (D.word p).long at h))

  -- the message of a received line that the line law covers, with the same line as channel, is the sent codeword's cell
  pub received_message : {r c : List ℕ} (f k : ℕ) → IsLine (size d) r → Codeword d c → 2 * distance r c + erasures r < designed_distance
      → message (bounded d) r r f k ≡ cell c k
  received_message {r} {c} f k l p h = rw (equal_message (bounded d) r r f k refl, line_law f l p h)

  -- so all its messages are the sent codeword
  pub received_messages : {r c : List ℕ} (f : ℕ) → IsLine (size d) r → Codeword d c → 2 * distance r c + erasures r < designed_distance → messages (bounded d) r r f ≡ c
  unfolding messages
  received_messages {r} {c} f l p h =
      list_to_is (message (bounded d) r r f) (length r) c ((D.word p).long ∙ sym l.long) (λ k q. received_message f k l p h)
