-- One pass over bytes: the sums so far, and what was written so far.
-- Assumes nothing.
use mathlib.Core.Path.{◌≡◌, refl, sym, ap, ◌∙◌}
use mathlib.Core.List.{List, [], ◌∷◌, ◌++◌, append_assoc}
use Prim.Native.Nat.{ℕ, zero, suc, ◌+◌, ◌*◌, ◌<◌, ◌≤◌}
use native.Mathlib.Numerals.{add-one}
use native.Mathlib.Omega.{arith}
use mathlib.Core.Bool.{Bool, true, ◌&&◌}
use lib.Dec.{eqb, leb}
use Rattle.std.proofs.lemmas.Bool.Decides.{nat_tests}
use Rattle.line.specs.Refusals.{at_most}
use Rattle.line.proofs.Refusing.{at_most_push}
use lib.ListN.{length, get_or, take, drop, set}
use lib.Seq.{sets, sets-eq, take-suc, take_all, length-take-le}
use Rattle.line.specs.Cells.{cell}
use Rattle.words.specs.Working.Bytes.{joined, bytes_of}
use Rattle.array.proofs.WrittenLines.{written, written_then, written_length, written_all}
use Rattle.blocks.specs.declared.sums.Sums.{Sums}
use Rattle.blocks.specs.Working.Adding.{Bytes, both, added, Room}
use Rattle.blocks.specs.Blocks.{unpacked}
use Rattle.blocks.proofs.AddingLaws.{added_next, room_fewer, room_added}
use Rattle.blocks.proofs.PackedCells.{length_unpacked, unpacked_next, four_bytes}

-- ---- the sums

-- i bytes of xs were added to the sums that there were at the start
pub record Summing (xs : List ℕ) (start s : Sums) (i : ℕ) : Type 0 where
  pub low : i ≤ length xs
  pub sums : both s ≡ added (both start) (take i xs)
  pub small : Bytes (take i xs)

pub summing_start : (xs : List ℕ) (s : Sums) → Summing xs s s 0
unfolding added
summing_start xs s = record { low = omega arith; sums = refl; small = λ i. omega arith }

bytes_snoc : (xs : List ℕ) (x : ℕ) → Bytes xs → x < 256 → Bytes (xs ++ (x ∷ []))
bytes_snoc [] x h l zero = l
bytes_snoc [] x h l (suc i) = omega arith
bytes_snoc (y ∷ xs) x h l zero = h 0
bytes_snoc (y ∷ xs) x h l (suc i) = bytes_snoc xs x (λ j. h (suc j)) l i

module _ {xs : List ℕ} {start s : Sums} {i : ℕ} (w : Summing xs start s i) where
  -- there is room for the next byte
  pub summing_room : Room (length xs) (both start) → i < length xs → Room 1 (both s)
  summing_room r h =
      rw w.sums
      (room_added 1 (both start) (take i xs) w.small (room_fewer (length (take i xs) + 1) (length xs) (both start) (omega (arith, length-take-le i xs w.low)) r))

  pub summing_next : {t : Sums} (x : ℕ) → x ≡ get_or xs i 0 → i < length xs → both t ≡ added (both s) (x ∷ []) → x < 256 → Summing xs start t (i + 1)
  summing_next x e h f l = record {
    low = omega arith;
    sums = f ∙ rw (w.sums, e) (added_next (both start) xs i h);
    small = rw (add-one i, take-suc xs i 0 h) (bytes_snoc (take i xs) (get_or xs i 0) w.small (rw e at l));
  }

  -- all were added
  pub summing_end : length xs ≤ i → (both s ≡ added (both start) xs) × Bytes xs
  summing_end h = (rw (take_all i xs h) at w.sums, rw (take_all i xs h) at w.small)

-- ---- bytes that are all 0

zero_least : (x : ℕ) → eqb x 0 ≡ leb x 0
zero_least x = grind (arith, nat_tests)

pub zeros_start : (xs : List ℕ) → true ≡ at_most 0 (take 0 xs)
unfolding at_most
zeros_start xs = refl

pub zeros_next : (xs : List ℕ) (i : ℕ) {zero : Bool} → i < length xs → zero ≡ at_most 0 (take i xs) → (zero && eqb (get_or xs i 0) 0) ≡ at_most 0 (take (i + 1) xs)
zeros_next xs i h e =
    rw (e, zero_least (get_or xs i 0), add-one i, take-suc xs i 0 h) (sym (at_most_push 0 (take i xs) (get_or xs i 0)))

-- ---- what was written

pub nothing_written : (old : List ℕ) → old ≡ written old 0 []
nothing_written old = refl

-- the next entries, behind those written from the start on
put_next : (old text vs : List ℕ) (at : ℕ) → at ≡ length text → at + length vs ≤ length old
    → sets (written old 0 text) at vs ≡ written old 0 (text ++ vs)
put_next old text vs at e h =
    let long = written_length old 0 text (omega arith) in
    let here : at ≡ 0 + length text = omega arith in
    sets-eq vs (written old 0 text) at (omega (arith, long))
    ∙ append_assoc (take at (written old 0 text)) vs (drop (at + length vs) (written old 0 text))
    ∙ ap (λ (k : ℕ). written (written old 0 text) k vs) here
    ∙ written_then old 0 text (omega arith) vs

-- the first i entries of xs
pub record Putting (xs old new : List ℕ) (i : ℕ) : Type 0 where
  pub low : i ≤ length xs
  pub room : length old ≡ length xs
  pub so_far : new ≡ written old 0 (take i xs)

pub putting_start : (xs old : List ℕ) → length old ≡ length xs → Putting xs old old 0
putting_start xs old e = record { low = omega arith; room = e; so_far = nothing_written old }

module _ {xs old new : List ℕ} {i : ℕ} (w : Putting xs old new i) where
  first_long : length (take i xs) ≡ i
  first_long = length-take-le i xs w.low

  pub putting_long : length new ≡ length old
  putting_long = ap length w.so_far ∙ written_length old 0 (take i xs) (omega (arith, first_long, w.low, w.room))

  pub putting_next : (x : ℕ) → x ≡ get_or xs i 0 → i < length xs → Putting xs old (set new i x) (i + 1)
  putting_next x e h = record {
    low = omega arith;
    room = w.room;
    so_far =
        ap (λ (l : List ℕ). set l i x) w.so_far
        ∙ put_next old (take i xs) (x ∷ []) i (sym first_long) (omega (arith, w.room))
        ∙ rw (e, add-one i, take-suc xs i 0 h) refl;
  }

  pub putting_end : length xs ≤ i → new ≡ xs
  putting_end h = w.so_far ∙ rw (take_all i xs h) (written_all old xs (sym w.room))

-- ---- rows put apart

-- the cells of the first i bytes
pub record PuttingApart (xs old new : List ℕ) (i : ℕ) : Type 0 where
  pub low : i ≤ length xs
  pub room : length old ≡ length xs * 4
  pub so_far : new ≡ written old 0 (unpacked (take i xs))

pub apart_start : (xs old : List ℕ) → length old ≡ length xs * 4 → PuttingApart xs old old 0
unfolding unpacked
apart_start xs old e = record { low = omega arith; room = e; so_far = nothing_written old }

module _ {xs old new : List ℕ} {i : ℕ} (w : PuttingApart xs old new i) where
  apart_first : length (unpacked (take i xs)) ≡ 4 * i
  apart_first = length_unpacked (take i xs) ∙ omega (arith, length-take-le i xs w.low)

  pub apart_long : length new ≡ length old
  apart_long = ap length w.so_far ∙ written_length old 0 (unpacked (take i xs)) (omega (arith, apart_first, w.low, w.room))

  pub apart_next : {new' : List ℕ} {y : ℕ} (x : ℕ) → x ≡ get_or xs i 0 → i < length xs → y ≡ joined (unpacked (x ∷ [])) → new' ≡ sets new (4 * i) (bytes_of 4 y)
      → PuttingApart xs old new' (i + 1)
  apart_next {y} x e h f g = record {
    low = omega arith;
    room = w.room;
    so_far =
        g
        ∙ ap (λ (v : ℕ). sets new (4 * i) (bytes_of 4 v)) f
        ∙ ap (sets new (4 * i)) (four_bytes x)
        ∙ ap (λ (l : List ℕ). sets l (4 * i) (unpacked (x ∷ []))) w.so_far
        ∙ put_next old (unpacked (take i xs)) (unpacked (x ∷ [])) (4 * i) (sym apart_first) (omega (arith, w.room, length_unpacked (x ∷ [])))
        ∙ rw e (ap (written old 0) (sym (unpacked_next xs i h)));
  }

  pub apart_end : length xs ≤ i → new ≡ unpacked xs
  apart_end h = w.so_far ∙ rw (take_all i xs h) (written_all old (unpacked xs) (length_unpacked xs ∙ sym w.room))

-- ---- a few bytes

pub take_four : (l : List ℕ) → 4 ≤ length l → take 4 l ≡ cell l 0 ∷ cell l 1 ∷ cell l 2 ∷ cell l 3 ∷ []
take_four [] h = absurd (omega arith)
take_four (a ∷ []) h = absurd (omega arith)
take_four (a ∷ b ∷ []) h = absurd (omega arith)
take_four (a ∷ b ∷ c ∷ []) h = absurd (omega arith)
take_four (a ∷ b ∷ c ∷ e ∷ l) h = refl
