-- A list written into a lent slice, and lines written one after the other, a line a turn.
-- Assumes nothing.
use mathlib.Core.Path.{◌≡◌, refl, sym, ap, ap₂, ◌∙◌}
use mathlib.Core.List.{List, ◌++◌, append_assoc, append-nil}
use Prim.Native.Nat.{ℕ, ◌+◌, ◌-◌, ◌*◌, ◌<◌, ◌≤◌}
use native.Mathlib.Nat.{add-sub_cancel_left, mul-le-mul_right}
use native.Mathlib.Numerals.{add-one}
use native.Mathlib.Omega.{arith}
use borrow.Rule.Slice.PartMut.{put_mid}
use lib.ListN.{length, take, drop, length-append, length-drop, take-append-drop, drop_of_length-le}
use lib.Seq.{length-take-le, take_at, drop_at, drop-drop}
use Rattle.array.specs.Arrays.{lines}
use Rattle.array.proofs.ArrayLaws.{Even, length_lines, line_room}

-- ---- one part

-- the part of k cells that is lent from `from` on
module _ (from k : ℕ) (l : List ℕ) where
  pub part_at : {at : ℕ} → from ≡ at → take (from + k - from) (drop from l) ≡ take k (drop at l)
  part_at e = ap₂ (λ (x y : ℕ). take x (drop y l)) (add-sub_cancel_left from k) e

  pub part_length : from + k ≤ length l → length (take (from + k - from) (drop from l)) ≡ k
  part_length h = ap length (part_at refl) ∙ length-take-le k (drop from l) (rw length-drop (omega arith))

-- `old` with `text` from `at` on
abbrev pub written : List ℕ → ℕ → List ℕ → List ℕ
written old at text = take at old ++ (text ++ drop (at + length text) old)

module _ (old : List ℕ) (at : ℕ) (text : List ℕ) (h : at + length text ≤ length old) where
  front : length (take at old ++ text) ≡ at + length text
  front = length-append (take at old) text ∙ omega (arith, length-take-le at old (omega arith))

  split : written old at text ≡ (take at old ++ text) ++ drop (at + length text) old
  split = sym (append_assoc (take at old) text (drop (at + length text) old))

  -- it keeps its length
  pub written_length : length (written old at text) ≡ length old
  written_length =
      ap length split ∙ length-append (take at old ++ text) (drop (at + length text) old) ∙ omega (arith, front, length-drop (at + length text) old)

  -- two lists, one after the other
  pub written_then : (more : List ℕ) → written (written old at text) (at + length text) more ≡ written old at (text ++ more)
  written_then more =
      let e = at + length text in
      let low : take e (written old at text) ≡ take at old ++ text = ap (take e) split ∙ take_at (take at old ++ text) (drop e old) e front in
      let back : drop e (written old at text) ≡ drop e old = ap (drop e) split ∙ drop_at (take at old ++ text) (drop e old) e front in
      let end : e + length more ≡ at + length (text ++ more) = omega (arith, length-append text more) in
      let high : drop (e + length more) (written old at text) ≡ drop (at + length (text ++ more)) old =
      sym (drop-drop (length more) e (written old at text)) ∙ ap (drop (length more)) back ∙ drop-drop (length more) e old ∙ ap (λ (x : ℕ). drop x old) end in
      rw (low, high, append_assoc, append_assoc)

-- from end to end
pub written_all : (old text : List ℕ) → length text ≡ length old → written old 0 text ≡ text
written_all old text e = ap (λ (x : List ℕ). text ++ x) (drop_of_length-le old {i = 0 + length text} (omega arith)) ∙ append-nil text

-- ---- lines

-- the first i of k lines of n cells are new and all else is as it was
pub record Lining (n : ℕ) (g : ℕ → List ℕ) (k : ℕ) (old new : List ℕ) (i : ℕ) : Type 0 where
  pub even : Even n g k
  pub room : k * n ≤ length old
  pub low : i ≤ k
  pub so_far : new ≡ written old 0 (lines g i)

module _ {n : ℕ} {g : ℕ → List ℕ} {k : ℕ} {old : List ℕ} where
  pub lining_start : Even n g k → k * n ≤ length old → Lining n g k old old 0
  unfolding lines
  lining_start even h = record { even = even; room = h; low = omega arith; so_far = sym (take-append-drop 0 old) }

  module _ {new : List ℕ} {i : ℕ} (w : Lining n g k old new i) where
    lines_length : length (lines g i) ≡ i * n
    lines_length = length_lines n g i (λ j q. w.even j (omega (arith, w.low)))

    lining_within : 0 + length (lines g i) ≤ length old
    lining_within = omega (arith, lines_length, w.room, mul-le-mul_right {m = i} {n = k} n w.low)

    pub lining_length : length new ≡ length old
    lining_length = ap length w.so_far ∙ written_length old 0 (lines g i) lining_within

    -- line i lies within the slice
    pub lining_free : i < k → i * n + n ≤ length new
    lining_free h = omega (arith, line_room k n i h, w.room, lining_length)

    pub lining_part : i < k → length (take (i * n + n - i * n) (drop (i * n) new)) ≡ n
    lining_part h = part_length (i * n) n new (lining_free h)

    pub lining_next : {new' : List ℕ} → i < k → new' ≡ written new (i * n) (g i) → Lining n g k old new' (i + 1)
    unfolding lines
    lining_next h e = record {
      even = w.even;
      room = w.room;
      low = omega arith;
      so_far =
          let here : i * n ≡ 0 + length (lines g i) = omega (arith, lines_length) in
          e ∙ rw (here, w.so_far, add-one i) (written_then old 0 (lines g i) lining_within (g i));
    }

    -- what is put into the place of line i, which comes back between the parts that were not lent
    pub lining_put : i < k → (y : List ℕ) → y ≡ g i → Lining n g k old (put_mid (i * n) (i * n + n - i * n) new y) (i + 1)
    lining_put h y e = lining_next h (rw (e, w.even i h, add-sub_cancel_left (i * n) n, drop-drop n (i * n) new) refl)

    pub lining_end : k ≤ i → new ≡ written old 0 (lines g k)
    lining_end h = let e : i ≡ k = omega (arith, w.low) in w.so_far ∙ ap (λ (x : ℕ). written old 0 (lines g x)) e

-- a slice that is lines from end to end
pub lining_all : {n : ℕ} {g : ℕ → List ℕ} {k : ℕ} {old new : List ℕ} {i : ℕ} → Lining n g k old new i → length old ≡ k * n → k ≤ i → new ≡ lines g k
lining_all {n} {g} {k} {old} w l h =
    lining_end w h ∙ written_all old (lines g k) (length_lines n g k w.even ∙ sym l)
