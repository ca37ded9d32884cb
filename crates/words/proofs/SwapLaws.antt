-- Masked swaps: what a pair of rows, a block and a stage do, and the stages one after the other.
-- Assumes nothing.
use mathlib.Core.Path.{◌≡◌, refl, sym, ap, ap₂, ◌∙◌}
use mathlib.Core.List.{List}
use mathlib.Core.Logic.{dite}
use Prim.Native.Nat.{ℕ, zero, suc, ◌+◌, ◌*◌, ◌/◌, ◌%◌, ◌^◌, ◌<◌, ◌≤◌}
use native.Mathlib.Nat.{suc-mul, add-mul, mul_assoc, one-mul, zero-mul, zero-add, add_assoc, mul-le-mul_right, mod-lt, mod-eq_of_lt}
use native.Mathlib.Decide.{dec_lt}
use native.Mathlib.Numerals.{add-one}
use native.Mathlib.Omega.{arith}
use lib.Bits.{bit_and, bit_xor, and_zero_r, and_le_r, xor_mod, xor_comm, xor_zero_r}
use lib.Dec.{T, eqb, eqb→eq}
use lib.ListN.{length, get_or, set, length-set, get_or-eq_default}
use lib.Pow.{pow_pos}
use lib.Seq.{get_or-set_same, get_or-set_other}
use Rattle.laws.specs.Working.Bits.{bit_at}
use Rattle.laws.specs.Tests.{every}
use Rattle.laws.proofs.Xor.{bit_ind, digit_lt}
use Rattle.laws.proofs.Bits.{xor_at, and_at, bit_at_lt, shr_at, shl_at, shl_low, mod_at}
use Rattle.laws.proofs.Tests.{every_at, and_left, and_right}
use Rattle.words.specs.Working.Network.{cell_at, mixed, upper, lower, names_at, masked, Swapped, Crossed, Turned}

-- ---- a pair of rows

-- the code's two words are the pair's
pub exchanged : (j m x y : ℕ) → x < 2 ^ 64 → y < 2 ^ 64 → m < 2 ^ 64
    → (bit_xor x (mixed j m x y * 2 ^ j % 2 ^ 64) ≡ upper j m x y) × (bit_xor y (mixed j m x y) ≡ lower j m x y)
unfolding upper lower
exchanged j m x y hx hy hm =
    let t : mixed j m x y < 2 ^ 64 = omega (arith, and_le_r (bit_xor (x / 2 ^ j) y) m) in (
      sym (xor_mod x (mixed j m x y * 2 ^ j) 64 ∙ ap (λ (z : ℕ). bit_xor z (mixed j m x y * 2 ^ j % 2 ^ 64)) (mod-eq_of_lt hx)),
      sym (xor_mod y (mixed j m x y) 64 ∙ ap₂ bit_xor (mod-eq_of_lt hy) (mod-eq_of_lt t)),
    )

-- adding where x and y differ makes x of y
other : {x y : ℕ} → x < 2 → y < 2 → bit_xor x (bit_and (bit_xor x y) 1) ≡ y
other {y} h k =
    bit_ind (λ (x : ℕ). bit_xor x (bit_and (bit_xor x y) 1) ≡ y) (bit_ind (λ (y : ℕ). bit_xor 0 (bit_and (bit_xor 0 y) 1) ≡ y) refl refl k)
    (bit_ind (λ (y : ℕ). bit_xor 1 (bit_and (bit_xor 1 y) 1) ≡ y) refl refl k) h

module _ (j m x y : ℕ) where
  -- bit c of what differs, and of the two words
  mixed_at : (c : ℕ) → bit_at (mixed j m x y) c ≡ bit_and (bit_xor (bit_at x (j + c)) (bit_at y c)) (bit_at m c)
  mixed_at c = and_at (bit_xor (x / 2 ^ j) y) m c ∙ ap (λ (z : ℕ). bit_and z (bit_at m c)) (xor_at (x / 2 ^ j) y c ∙ ap (λ (z : ℕ). bit_xor z (bit_at y c)) (shr_at x j c))

  lower_at : (c : ℕ) → c < 64 → bit_at (lower j m x y) c ≡ bit_xor (bit_at y c) (bit_and (bit_xor (bit_at x (j + c)) (bit_at y c)) (bit_at m c))
  unfolding lower
  lower_at c h = mod_at (bit_xor y (mixed j m x y)) 64 c h ∙ xor_at y (mixed j m x y) c ∙ ap (bit_xor (bit_at y c)) (mixed_at c)

  upper_at : (c : ℕ) → j + c < 64 → bit_at (upper j m x y) (j + c) ≡ bit_xor (bit_at x (j + c)) (bit_and (bit_xor (bit_at x (j + c)) (bit_at y c)) (bit_at m c))
  unfolding upper
  upper_at c h =
      mod_at (bit_xor x (mixed j m x y * 2 ^ j)) 64 (j + c) h ∙ xor_at x (mixed j m x y * 2 ^ j) (j + c)
      ∙ ap (bit_xor (bit_at x (j + c))) (shl_at (mixed j m x y) j c ∙ mixed_at c)

  -- at a column that m names the rows change places, at the others they keep their bits
  lower_taken : (c : ℕ) → c < 64 → bit_at m c ≡ 1 → bit_at (lower j m x y) c ≡ bit_at x (j + c)
  lower_taken c h e =
      lower_at c h ∙ ap₂ (λ (u v : ℕ). bit_xor (bit_at y c) (bit_and u v)) (xor_comm (bit_at x (j + c)) (bit_at y c)) e ∙ other (bit_at_lt y c) (bit_at_lt x (j + c))

  lower_kept : (c : ℕ) → c < 64 → bit_at m c ≡ 0 → bit_at (lower j m x y) c ≡ bit_at y c
  lower_kept c h e = lower_at c h ∙ rw (e, and_zero_r, xor_zero_r)

  upper_taken : (c : ℕ) → j + c < 64 → bit_at m c ≡ 1 → bit_at (upper j m x y) (j + c) ≡ bit_at y c
  upper_taken c h e = upper_at c h ∙ ap (λ (v : ℕ). bit_xor (bit_at x (j + c)) (bit_and (bit_xor (bit_at x (j + c)) (bit_at y c)) v)) e ∙ other (bit_at_lt x (j + c)) (bit_at_lt y c)

  upper_kept : (c : ℕ) → j + c < 64 → bit_at m c ≡ 0 → bit_at (upper j m x y) (j + c) ≡ bit_at x (j + c)
  upper_kept c h e = upper_at c h ∙ rw (e, and_zero_r, xor_zero_r)

  -- the bits below j of the upper row stand
  upper_low : (c : ℕ) → c < j → c < 64 → bit_at (upper j m x y) c ≡ bit_at x c
  unfolding upper
  upper_low c h l =
      mod_at (bit_xor x (mixed j m x y * 2 ^ j)) 64 c l ∙ xor_at x (mixed j m x y * 2 ^ j) c ∙ ap (bit_xor (bit_at x c)) (shl_low (mixed j m x y) j c h) ∙ xor_zero_r (bit_at x c)

  -- both are words of 64 bits
  upper_small : upper j m x y < 2 ^ 64
  unfolding upper
  upper_small = mod-lt (bit_xor x (mixed j m x y * 2 ^ j)) (pow_pos 64)

  lower_small : lower j m x y < 2 ^ 64
  unfolding lower
  lower_small = mod-lt (bit_xor y (mixed j m x y)) (pow_pos 64)

-- ---- a block, a pair of rows a turn

module _ (j m g i : ℕ) (a b : List ℕ) (s : Swapped j m g i a b) (less : i < j) (room : g + 2 * j ≤ 64) where
  abbrev x : ℕ
  x = get_or b (g + i) 0

  abbrev y : ℕ
  y = get_or b (g + (j + i)) 0

  -- the pair at hand is as it was
  x_same : x ≡ get_or a (g + i) 0
  x_same = s.rest (g + i) (λ p q. (λ e. omega arith, λ e. omega arith))

  y_same : y ≡ get_or a (g + (j + i)) 0
  y_same = s.rest (g + (j + i)) (λ p q. (λ e. omega arith, λ e. omega arith))

  -- one pair more
  pub swapped_next : (u v : ℕ) → u ≡ upper j m x y → v ≡ lower j m x y → Swapped j m g (i + 1) a (set (set b (g + i) u) (g + (j + i)) v)
  swapped_next u v eu ev = record {
    long = length-set (set b (g + i) u) (g + (j + i)) v ∙ length-set b (g + i) u ∙ s.long;
    most = omega arith;
    up = λ p h. dite (dec_lt p i)
        (λ l. away (g + p) (λ e. omega arith) (λ e. omega arith) ∙ s.up p l)
        (λ l. let e : p ≡ i = omega arith in rw (e, ← x_same, ← y_same) (at_up ∙ eu));
    down = λ p h. dite (dec_lt p i)
        (λ l. away (g + (j + p)) (λ e. omega arith) (λ e. omega arith) ∙ s.down p l)
        (λ l. let e : p ≡ i = omega arith in rw (e, ← x_same, ← y_same) (at_down ∙ ev));
    rest = λ r f. away r (f i (omega arith)).0 (f i (omega arith)).1 ∙ s.rest r (λ p h. f p (omega arith));
  }
    where
      away : (r : ℕ) → (r ≡ g + i → ⊥) → (r ≡ g + (j + i) → ⊥) → get_or (set (set b (g + i) u) (g + (j + i)) v) r 0 ≡ get_or b r 0
      away r p q = get_or-set_other (set b (g + i) u) (g + (j + i)) r v 0 q ∙ get_or-set_other b (g + i) r u 0 p

      at_up : get_or (set (set b (g + i) u) (g + (j + i)) v) (g + i) 0 ≡ u
      at_up = get_or-set_other (set b (g + i) u) (g + (j + i)) (g + i) v 0 (λ e. omega arith) ∙ get_or-set_same b (g + i) u 0 (omega (arith, s.long))

      at_down : get_or (set (set b (g + i) u) (g + (j + i)) v) (g + (j + i)) 0 ≡ v
      at_down = get_or-set_same (set b (g + i) u) (g + (j + i)) v 0 (omega (arith, s.long, length-set b (g + i) u))

-- ---- a stage, a block a turn

-- the first k blocks done
pub record Staged (j m k : ℕ) (a b : List ℕ) : Type 0 where
  pub long : length b ≡ 64
  pub up : (x p : ℕ) → x < k → p < j → get_or b (x * (2 * j) + p) 0 ≡ upper j m (get_or a (x * (2 * j) + p) 0) (get_or a (x * (2 * j) + (j + p)) 0)
  pub down : (x p : ℕ) → x < k → p < j → get_or b (x * (2 * j) + (j + p)) 0 ≡ lower j m (get_or a (x * (2 * j) + p) 0) (get_or a (x * (2 * j) + (j + p)) 0)
  pub rest : (r : ℕ) → k * (2 * j) ≤ r → get_or b r 0 ≡ get_or a r 0

-- a block has room below the last
pub block_room : (j g q k : ℕ) → g ≡ q * (2 * j) → q < k → g + 2 * j ≤ k * (2 * j)
block_room j g q k e h = omega (arith, suc-mul q (2 * j), mul-le-mul_right {m = suc q} {n = k} (2 * j) h)

-- one block more
pub staged_next : (j m g q : ℕ) (a b c : List ℕ) → g ≡ q * (2 * j) → Staged j m q a b → Swapped j m g j b c → Staged j m (q + 1) a c
staged_next j m g q a b c e d s = record {
  long = s.long;
  up = λ x p h l. dite (dec_lt x q)
      (λ z. before (x * (2 * j) + p) (omega (arith, block_room j (x * (2 * j)) x q refl z)) ∙ d.up x p z l)
      (λ z. let f : x ≡ q = omega arith in rw (f, ← e, ← d.rest (g + p) (omega arith), ← d.rest (g + (j + p)) (omega arith)) (s.up p l));
  down = λ x p h l. dite (dec_lt x q)
      (λ z. before (x * (2 * j) + (j + p)) (omega (arith, block_room j (x * (2 * j)) x q refl z)) ∙ d.down x p z l)
      (λ z. let f : x ≡ q = omega arith in rw (f, ← e, ← d.rest (g + p) (omega arith), ← d.rest (g + (j + p)) (omega arith)) (s.down p l));
  rest = λ r h. let z : g + 2 * j ≤ r = omega (arith, suc-mul q (2 * j), add-one q) in
      s.rest r (λ p l. (λ f. omega arith, λ f. omega arith)) ∙ d.rest r (omega arith);
}
  where
    before : (r : ℕ) → r < g → get_or c r 0 ≡ get_or b r 0
    before r h = s.rest r (λ p l. (λ f. omega arith, λ f. omega arith))

-- ---- a stage, bit by bit

module _ (k j m : ℕ) (t : T (masked k j m)) where
  -- what the mask's test says of a block's column
  names_at_lem : (y q : ℕ) → y < k → q < j → T (names_at j m y q)
  unfolding masked
  names_at_lem y q h l = every_at (names_at j m y) j (every_at (λ y. every (names_at j m y) j) k t h) l

  named : (y q : ℕ) → y < k → q < j → bit_at m (y * (2 * j) + q) ≡ 1
  named y q h l = eqb→eq (bit_at m (y * (2 * j) + q)) 1 (and_left (eqb (bit_at m (y * (2 * j) + q)) 1) (eqb (bit_at m (y * (2 * j) + (j + q))) 0) (names_at_lem y q h l))

  unnamed : (y q : ℕ) → y < k → q < j → bit_at m (y * (2 * j) + (j + q)) ≡ 0
  unnamed y q h l = eqb→eq (bit_at m (y * (2 * j) + (j + q))) 0 (and_right (eqb (bit_at m (y * (2 * j) + q)) 1) (eqb (bit_at m (y * (2 * j) + (j + q))) 0) (names_at_lem y q h l))

  module _ (a b : List ℕ) (full : k * (2 * j) ≡ 64) (d : Staged j m k a b) where
    -- a square of blocks x and y: row p of its upper and of its lower half, column q of its left and of its right half
    module _ (x y p q : ℕ) (hx : x < k) (hy : y < k) (hp : p < j) (hq : q < j) where
      abbrev above : ℕ
      above = x * (2 * j) + p

      abbrev below : ℕ
      below = x * (2 * j) + (j + p)

      abbrev left : ℕ
      left = y * (2 * j) + q

      abbrev right : ℕ
      right = y * (2 * j) + (j + q)

      abbrev u : ℕ
      u = get_or a above 0

      abbrev l : ℕ
      l = get_or a below 0

      inside : right < 64
      inside = omega (arith, block_room j (y * (2 * j)) y k refl hy)

      across : right ≡ j + left
      across = omega arith

      -- the quarters on the diagonal stand: where the upper one lies nothing comes, for the columns j before it, if any, are not named
      upper_left : cell_at b above left ≡ cell_at a above left
      upper_left = ap (λ (w : ℕ). bit_at w left) (d.up x p hx hp) ∙ stands y hy
        where
          stands : (y : ℕ) → y < k → bit_at (upper j m u l) (y * (2 * j) + q) ≡ bit_at u (y * (2 * j) + q)
          stands zero h = rw (zero-mul, zero-add) (upper_low j m u l q hq (omega (arith, inside)))
          stands (suc z) h =
              let e : suc z * (2 * j) + q ≡ j + (z * (2 * j) + (j + q)) = omega (arith, suc-mul z (2 * j)) in
              let f : j + (z * (2 * j) + (j + q)) < 64 = omega (arith, block_room j (suc z * (2 * j)) (suc z) k refl h) in
              rw e (upper_kept j m u l (z * (2 * j) + (j + q)) f (unnamed z q (omega arith) hq))

      lower_right : cell_at b below right ≡ cell_at a below right
      lower_right = ap (λ (w : ℕ). bit_at w right) (d.down x p hx hp) ∙ lower_kept j m u l right inside (unnamed y q hy hq)

      -- the other two change places
      upper_right : cell_at b above right ≡ cell_at a below left
      upper_right = ap₂ bit_at (d.up x p hx hp) across ∙ upper_taken j m u l left (omega (arith, inside)) (named y q hy hq)

      lower_left : cell_at b below left ≡ cell_at a above right
      lower_left =
          ap (λ (w : ℕ). bit_at w left) (d.down x p hx hp) ∙ lower_taken j m u l left (omega (arith, inside)) (named y q hy hq) ∙ ap (bit_at u) (sym across)

    -- the words of all blocks are the stage
    pub crossed : Crossed k j a b
    crossed = record { long = d.long; small = small; bits = bits }
      where
        small : (x r p : ℕ) → x < k → r < 2 → p < j → get_or b (x * (2 * j) + (r * j + p)) 0 < 2 ^ 64
        small x r p hx hr hp =
            bit_ind (λ (r : ℕ). get_or b (x * (2 * j) + (r * j + p)) 0 < 2 ^ 64)
            (rw (zero-mul, zero-add, d.up x p hx hp) (upper_small j m (get_or a (x * (2 * j) + p) 0) (get_or a (x * (2 * j) + (j + p)) 0)))
            (rw (one-mul, d.down x p hx hp) (lower_small j m (get_or a (x * (2 * j) + p) 0) (get_or a (x * (2 * j) + (j + p)) 0))) hr

        bits : (x y r s p q : ℕ) → x < k → y < k → r < 2 → s < 2 → p < j → q < j
            → cell_at b (x * (2 * j) + (r * j + p)) (y * (2 * j) + (s * j + q)) ≡ cell_at a (x * (2 * j) + (s * j + p)) (y * (2 * j) + (r * j + q))
        bits x y r s p q hx hy hr hs hp hq =
            bit_ind (λ (r : ℕ). (s : ℕ) → s < 2 → Bit r s)
            (λ s h. bit_ind (Bit 0) (simp (zero-mul, zero-add) (upper_left x y p q hx hy hp hq)) (simp (zero-mul, zero-add, one-mul) (upper_right x y p q hx hy hp hq)) h)
            (λ s h. bit_ind (Bit 1) (simp (zero-mul, zero-add, one-mul) (lower_left x y p q hx hy hp hq)) (simp one-mul (lower_right x y p q hx hy hp hq)) h) hr s hs
          where
            Bit : ℕ → ℕ → Type 0
            Bit r s = cell_at b (x * (2 * j) + (r * j + p)) (y * (2 * j) + (s * j + q)) ≡ cell_at a (x * (2 * j) + (s * j + p)) (y * (2 * j) + (r * j + q))

-- ---- stage after stage

-- of k by k squares of j by j bits each stands where its mirror image stood, itself not transposed
abbrev pub Mirrored : (k j : ℕ) → List ℕ → List ℕ → Type 0
Mirrored k j a b = (x y p q : ℕ) → x < k → y < k → p < j → q < j → cell_at b (x * j + p) (y * j + q) ≡ cell_at a (y * j + p) (x * j + q)

-- one square is the whole, and stands
mirrored_none : (a : List ℕ) → Mirrored 1 64 a a
mirrored_none a x y p q hx hy hp hq =
    let e : x ≡ y = omega arith in
    rw e

-- a block of j is a half of a block of 2 j
halves : (x j p : ℕ) → x * j + p ≡ x / 2 * (2 * j) + (x % 2 * j + p)
halves x j p =
    let e : x ≡ x / 2 * 2 + x % 2 = omega arith in
    ap (λ (z : ℕ). z * j + p) e ∙ ap (λ (z : ℕ). z + p) (add-mul (x / 2 * 2) (x % 2) j ∙ ap (λ (z : ℕ). z + x % 2 * j) (mul_assoc (x / 2) 2 j))
    ∙ add_assoc (x / 2 * (2 * j)) (x % 2 * j) p

-- a place in a half lies in its block
half_lt : (r j p : ℕ) → r < 2 → p < j → r * j + p < 2 * j
half_lt r j p h l = bit_ind (λ (r : ℕ). r * j + p < 2 * j) (omega arith) (omega arith) h

-- a stage mirrors the quarters of each square
mirrored_next : (k j : ℕ) (a b c : List ℕ) → Mirrored k (2 * j) a b → Crossed k j b c → Mirrored (k * 2) j a c
mirrored_next k j a b c d s x y p q hx hy hp hq =
    ap₂ (cell_at c) (halves x j p) (halves y j q)
    ∙ s.bits (x / 2) (y / 2) (x % 2) (y % 2) p q (omega arith) (omega arith) (digit_lt x) (digit_lt y) hp hq
    ∙ d (x / 2) (y / 2) (y % 2 * j + p) (x % 2 * j + q) (omega arith) (omega arith) (half_lt (y % 2) j p (digit_lt y) hp) (half_lt (x % 2) j q (digit_lt x) hq)
    ∙ sym (ap₂ (cell_at a) (halves y j p) (halves x j q))

-- six stages transpose
pub turned : {a b c d e f g : List ℕ} → Crossed 1 32 a b → Crossed 2 16 b c → Crossed 4 8 c d → Crossed 8 4 d e → Crossed 16 2 e f → Crossed 32 1 f g → Turned a g
turned {a} {b} {c} {d} {e} {f} {g} s₁ s₂ s₃ s₄ s₅ s₆ = record { long = s₆.long; small = small; bits = bits }
  where
    whole : Mirrored 64 1 a g
    whole =
        mirrored_next 32 1 a f g (mirrored_next 16 2 a e f (mirrored_next 8 4 a d e (mirrored_next 4 8 a c d (mirrored_next 2 16 a b c
        (mirrored_next 1 32 a a b (mirrored_none a) s₁) s₂) s₃) s₄) s₅) s₆

    one : (i : ℕ) → i * 1 + 0 ≡ i
    one i = omega arith

    bits : (i j : ℕ) → i < 64 → j < 64 → cell_at g i j ≡ cell_at a j i
    bits i j h k = ap₂ (cell_at g) (sym (one i)) (sym (one j)) ∙ whole i j 0 0 h k (omega arith) (omega arith) ∙ ap₂ (cell_at a) (one j) (one i)

    small : (i : ℕ) → get_or g i 0 < 2 ^ 64
    small i =
        dite (dec_lt i 64)
        (λ h. let e : i / 2 * (2 * 1) + (i % 2 * 1 + 0) ≡ i = omega arith in rw e at (s₆.small (i / 2) (i % 2) 0 (omega arith) (digit_lt i) (omega arith)))
        (λ h. rw (get_or-eq_default g 0 {n = i} (omega (arith, s₆.long))) (omega arith))
