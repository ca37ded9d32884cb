-- What holds after each turn of the loops over cells and words.
-- Assumes nothing.
use mathlib.Core.Path.{◌≡◌, refl, sym, ap, ◌∙◌, subst}
use mathlib.Core.List.{List}
use Prim.Native.Nat.{ℕ, ◌+◌, ◌-◌, ◌*◌, ◌<◌, ◌≤◌}
use native.Mathlib.Nat.{add_assoc, not-suc-le-zero}
use native.Mathlib.Omega.{arith}
use borrow.Rule.Slice.PartMut.{put_mid}
use lib.ListN.{length, take, drop, get_or, length-drop}
use lib.Seq.{length-take-le, get_or-take, get_or-drop, ext_get_or}
use Rattle.degree.specs.declared.Degree.{Degree}
use Rattle.degree.specs.Degree.{size}
use Rattle.words.specs.declared.word.grid.Grid.{Grid}
use Rattle.words.specs.Working.Grid.{word_in, WordPut}
use Rattle.words.specs.Working.Word.{width}
use Rattle.words.proofs.GridLaws.{put_next}
use Rattle.line.specs.Cells.{IsWord}
use Rattle.line.specs.Working.Packed.{PacksWord}
use Rattle.line.specs.Encoding.{message_size, encode_line}
use Rattle.array.specs.Arrays.{line, lines}
use Rattle.array.specs.Working.EncodedRows.{EncodedRows}
use Rattle.array.proofs.ArrayLaws.{Even, line_at, line_cells, length_line, line_room}
use Rattle.array.proofs.WrittenLines.{Lining, part_at, lining_start, lining_part, lining_put, lining_all}
use Rattle.line.proofs.Bounds.{square_le, message_le}

-- ---- the message rows, a row a turn

pub record Encoding (d : Degree) (k : ℕ) (m : List ℕ) (ws : Grid) (a : ℕ) : Type 0 where
  pub count : k ≡ message_size d
  pub low : a ≤ k
  pub words : (b : ℕ) → b < a → PacksWord (size d) (encode_line d (line k m b)) (word_in ws b)

pub encoding_start : (d : Degree) (k : ℕ) (m : List ℕ) (ws : Grid) → k ≡ message_size d → Encoding d k m ws 0
encoding_start d k m ws e = record {
  count = e;
  low = omega arith;
  words = λ b h. absurd (not-suc-le-zero h);
}

module _ {d : Degree} {k : ℕ} {m : List ℕ} {ws : Grid} {a : ℕ} (w : Encoding d k m ws a) where
  whole : IsWord (message_size d * message_size d) m → IsWord (k * k) m
  whole M = subst (λ (x : ℕ). IsWord (x * x) m) (sym w.count) M

  pub encoding_end : k ≤ a → EncodedRows d m ws
  encoding_end h = record {
    at = λ b q. subst (λ (x : ℕ). PacksWord (size d) (encode_line d (line x m b)) (word_in ws b)) w.count (w.words b (omega (arith, w.count)));
  }

  module _ (h : a < k) where
    encoding_part : take (a * k + k - a * k) (drop (a * k) m) ≡ line k m a
    encoding_part = part_at (a * k) k m refl

    -- there is a word for the row
    pub encoding_word : a < width
    encoding_word = omega (arith, message_le d w.count)

    -- the row lies within the message, and its end fits
    pub encoding_room : IsWord (message_size d * message_size d) m → (a * k + k ≤ length m) × (a * k + k ≤ 16384)
    encoding_room M =
        let r : a * k + k ≤ k * k = line_room k k a h in
        (omega (arith, (whole M).long), omega (arith, square_le k (message_le d w.count)))

    pub encoding_cells : IsWord (message_size d * message_size d) m → IsWord (message_size d) (take (a * k + k - a * k) (drop (a * k) m))
    encoding_cells M = subst (λ (x : ℕ). IsWord x (take (a * k + k - a * k) (drop (a * k) m))) w.count (rw encoding_part (line_cells k k a (whole M) h))

    pub encoding_next : {ws' : Grid} (word : ℕ) → WordPut ws a word ws' → PacksWord (size d) (encode_line d (take (a * k + k - a * k) (drop (a * k) m))) word → Encoding d k m ws' (a + 1)
    encoding_next {ws'} word p e = record {
      count = w.count;
      low = omega arith;
      words = put_next (λ b y. PacksWord (size d) (encode_line d (line k m b)) y) ws ws' a word p w.words (rw (← encoding_part) e);
    }

-- ---- message cells copied out of an array, a row a turn

-- k cells from p on of row p + i of an array of n by n cells
abbrev pub inner : (n k p : ℕ) → List ℕ → ℕ → List ℕ
inner n k p a i = take k (drop p (line n a (p + i)))

pub record Taking (n k p : ℕ) (a old new : List ℕ) (i : ℕ) : Type 0 where
  pub room : p + k ≤ n
  pub small : n ≤ 128
  pub whole : length a ≡ n * n
  pub lining : Lining k (inner n k p a) k old new i

-- the cells as they stand in the array
inner_part : (n k p : ℕ) (a : List ℕ) (i : ℕ) → p + k ≤ n → i < k → length a ≡ n * n
    → take k (drop ((p + i) * n + p) a) ≡ inner n k p a i
inner_part n k p a i r h l =
    let place : (p + i) * n + n ≤ n * n = line_room n n (p + i) (omega arith) in
    let row : length (line n a (p + i)) ≡ n = length_line n n a (p + i) (omega arith) l in
    let left : length (take k (drop ((p + i) * n + p) a)) ≡ k = length-take-le k (drop ((p + i) * n + p) a) (rw length-drop (omega arith)) in
    let right : length (inner n k p a i) ≡ k = length-take-le k (drop p (line n a (p + i))) (rw length-drop (omega arith)) in
    ext_get_or 0 (take k (drop ((p + i) * n + p) a)) (inner n k p a i) (left ∙ sym right)
    (λ j q.
    let z : j < k = omega arith in
    get_or-take k (drop ((p + i) * n + p) a) j 0 z ∙ get_or-drop ((p + i) * n + p) a j 0
    ∙ ap (λ (x : ℕ). get_or a x 0) (add_assoc ((p + i) * n) p j)
    ∙ sym (get_or-take k (drop p (line n a (p + i))) j 0 z ∙ get_or-drop p (line n a (p + i)) j 0 ∙ line_at n a (p + i) (p + j) (omega arith)))

inner_length : (n k p : ℕ) (a : List ℕ) → p + k ≤ n → length a ≡ n * n → Even k (inner n k p a) k
inner_length n k p a r l i h =
    length-take-le k (drop p (line n a (p + i))) (rw length-drop (omega (arith, length_line n n a (p + i) (omega arith) l)))

pub taking_start : (n k p : ℕ) (a old : List ℕ) → p + k ≤ n → n ≤ 128 → length a ≡ n * n → length old ≡ k * k
    → Taking n k p a old old 0
taking_start n k p a old r s l m = record {
  room = r;
  small = s;
  whole = l;
  lining = lining_start (inner_length n k p a r l) (omega arith);
}

module _ {n k p : ℕ} {a old new : List ℕ} {i : ℕ} (w : Taking n k p a old new i) (h : i < k) where
  abbrev from : ℕ
  from = (p + i) * n + p

  abbrev to : ℕ
  to = i * k

  -- the part that is read lies within the array, and the part that is written within the message
  pub taking_source : from + k ≤ n * n
  taking_source = omega (arith, w.room, line_room n n (p + i) (omega (arith, w.room)))

  -- both ends fit
  pub taking_fits : (from + k ≤ 16384) × (to + k ≤ 16384)
  taking_fits =
      let l : k ≤ 128 = omega (arith, w.room, w.small) in
      (omega (arith, taking_source, square_le n w.small), omega (arith, line_room k k i h, square_le k l))

  source_part : take (from + k - from) (drop from a) ≡ inner n k p a i
  source_part = part_at from k a refl ∙ inner_part n k p a i w.room h w.whole

  pub taking_part : length (take (from + k - from) (drop from a)) ≡ length (take (to + k - to) (drop to new))
  taking_part = ap length source_part ∙ w.lining.even i h ∙ sym (lining_part w.lining h)

  pub taking_next : (y : List ℕ) → y ≡ take (from + k - from) (drop from a) → Taking n k p a old (put_mid to (to + k - to) new y) (i + 1)
  taking_next y e = record {
    room = w.room;
    small = w.small;
    whole = w.whole;
    lining = lining_put w.lining h y (e ∙ source_part);
  }

pub taking_end : {n k p : ℕ} {a old new : List ℕ} {i : ℕ} → Taking n k p a old new i → length old ≡ k * k → k ≤ i
    → new ≡ lines (inner n k p a) k
taking_end w = lining_all w.lining
