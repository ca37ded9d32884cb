-- Arrays: where a cell stands, lines of an array, the transposed array, and arrays known by their lines.
-- Assumes nothing.
use mathlib.Core.Path.{◌≡◌, sym, ap, ap₂, ◌∙◌}
use mathlib.Core.Logic.{◌⊎◌, inl, inr, dite}
use mathlib.Core.List.{List, [], ◌∷◌, ◌++◌}
use Prim.Native.Nat.{ℕ, zero, suc, ◌+◌, ◌*◌, ◌/◌, ◌%◌, ◌<◌, ◌≤◌}
use native.Mathlib.Nat.{add-zero, zero-mul, suc-mul, mod-eq_of_lt, div-eq_of_lt, mul-add-mod_self_right, mul-add-div_right, mod-lt, div-add-mod', div-lt_iff_lt-mul, mul-le-mul_right, eq-or-lt_of_le, le_of_suc-le-suc}
use native.Mathlib.Decide.{dec_lt}
use native.Mathlib.Omega.{arith}
use lib.ListN.{length, take, drop, get_or, length-append, length-drop, get_or-eq_default}
use lib.Seq.{get_or-take, get_or-drop, length-take-le, ext_get_or, drop_at, take_all, drop-append-le, take-append-le}
use Rattle.line.specs.Cells.{cell, Cells}
use Rattle.array.specs.Arrays.{line, lines, transpose}
use Rattle.line.proofs.LineLaw.{list_to_length, list_to_cell}

-- what holds of each line
abbrev pub Each : (List ℕ → Type 0) → ℕ → ℕ → List ℕ → Type 0
Each P n k m = (i : ℕ) → i < k → P (line n m i)

-- ---- a cell's place

pub line_room : (k n i : ℕ) → i < k → i * n + n ≤ k * n
line_room k n i h = omega (arith, suc-mul i n, mul-le-mul_right {m = suc i} {n = k} n h)

pub cell_room : (k n a b : ℕ) → a < k → b < n → a * n + b < k * n
cell_room k n a b p q = omega (arith, line_room k n a p)

pub line_at : (n : ℕ) (m : List ℕ) (i j : ℕ) → j < n → get_or (line n m i) j 0 ≡ get_or m (i * n + j) 0
line_at n m i j h = rw (get_or-take, get_or-drop)

pub length_line : (k n : ℕ) (m : List ℕ) (i : ℕ) → i < k → length m ≡ k * n → length (line n m i) ≡ n
length_line k n m i h l = length-take-le n (drop (i * n) m) (rw (length-drop, l) (omega (arith, line_room k n i h)))

positive : (k n i : ℕ) → i < k * n → 0 < n
positive zero zero i q = omega arith
positive (suc k) zero i q = omega arith
positive k (suc n) i q = omega arith

-- what holds of each cell within, and of 0, holds of all
pub each_cell : (P : ℕ → Type 0) (k n : ℕ) (m : List ℕ) → P 0 → length m ≡ k * n → ((a b : ℕ) → a < k → b < n → P (get_or m (a * n + b) 0)) → (i : ℕ) → P (get_or m i 0)
each_cell P k n m z l h i =
    dite (dec_lt i (length m))
    (λ q.
    let s : 0 < n = positive k n i (omega (arith, q, l)) in
    rw div-add-mod' at (h (i / n) (i % n) ((div-lt_iff_lt-mul s).1 (omega (arith, q, l))) (mod-lt i s)))
    (λ q. rw (get_or-eq_default m 0 {n = i} (omega arith)) z)

-- ---- two arrays are equal by their cells, and by their lines

pub array_ext : (k n : ℕ) (x y : List ℕ) → length x ≡ k * n → length y ≡ k * n
    → ((a b : ℕ) → a < k → b < n → get_or x (a * n + b) 0 ≡ get_or y (a * n + b) 0) → x ≡ y
array_ext k n x y lx ly h = ext_get_or 0 x y (lx ∙ sym ly) cells
  where
    cells : (i : ℕ) → i < length x → get_or x i 0 ≡ get_or y i 0
    cells i q =
        let z : 0 < n = positive k n i (omega (arith, q, lx)) in
        let s = h (i / n) (i % n) ((div-lt_iff_lt-mul z).1 (omega (arith, q, lx))) (mod-lt i z) in
        rw div-add-mod' at s

pub lines_ext : (k n : ℕ) (x y : List ℕ) → length x ≡ k * n → length y ≡ k * n → ((i : ℕ) → i < k → line n x i ≡ line n y i) → x ≡ y
lines_ext k n x y lx ly h =
    array_ext k n x y lx ly (λ a b p q. sym (line_at n x a b q) ∙ ap (λ (l : List ℕ). get_or l b 0) (h a p) ∙ line_at n y a b q)

-- ---- the transposed array

pub length_transpose : (r c : ℕ) (m : List ℕ) → length (transpose r c m) ≡ c * r
unfolding transpose
length_transpose r c m = list_to_length _ (c * r)

pub transpose_at : (r c : ℕ) (m : List ℕ) (a b : ℕ) → a < c → b < r → get_or (transpose r c m) (a * r + b) 0 ≡ get_or m (b * c + a) 0
unfolding transpose
transpose_at r c m a b p q =
    let e : (a * r + b) % r ≡ b = mul-add-mod_self_right a r b ∙ mod-eq_of_lt q in
    let d : (a * r + b) / r ≡ a = mul-add-div_right (omega arith) a b ∙ ap (λ (x : ℕ). a + x) (div-eq_of_lt q) ∙ add-zero a in
    list_to_cell (λ p. get_or m (p % r * c + p / r) 0) (c * r) (a * r + b) (cell_room c r a b p q) ∙ rw (e, d)

pub transpose_transpose : (r c : ℕ) (m : List ℕ) → length m ≡ r * c → transpose c r (transpose r c m) ≡ m
transpose_transpose r c m l =
    array_ext r c (transpose c r (transpose r c m)) m (length_transpose c r (transpose r c m)) l (λ a b p q. transpose_at c r (transpose r c m) a b p q ∙ transpose_at r c m b a q p)

-- ---- lines made one after the other

-- n cells in each
abbrev pub Even : ℕ → (ℕ → List ℕ) → ℕ → Type 0
Even n g k = (i : ℕ) → i < k → length (g i) ≡ n

pub length_lines : (n : ℕ) (g : ℕ → List ℕ) (k : ℕ) → Even n g k → length (lines g k) ≡ k * n
unfolding lines
length_lines n g zero h = sym (zero-mul n)
length_lines n g (suc k) h =
    length-append (lines g k) (g k) ∙ ap₂ (λ (x y : ℕ). x + y) (length_lines n g k (λ i q. h i (omega arith))) (h k (omega arith)) ∙ sym (suc-mul k n)

pub line_lines : (n : ℕ) (g : ℕ → List ℕ) (k i : ℕ) → Even n g k → i < k → line n (lines g k) i ≡ g i
unfolding lines
line_lines n g zero i h q = absurd (omega arith)
line_lines n g (suc k) i h q = pick (eq-or-lt_of_le (le_of_suc-le-suc q)) (line_lines n g k i (λ i q. h i (omega arith)))
  where
    len : length (lines g k) ≡ k * n
    len = length_lines n g k (λ i q. h i (omega arith))

    pick : (i ≡ k) ⊎ (i < k) → (i < k → line n (lines g k) i ≡ g i) → line n (lines g k ++ g k) i ≡ g i
    pick (inl e) ih = rw (e, drop_at (lines g k) (g k) (k * n) len) (take_all n (g k) (omega (arith, h k (omega arith))))
    pick (inr l) ih =
        rw (drop-append-le (i * n) (lines g k) (g k), take-append-le n (drop (i * n) (lines g k)) (g k), fit l, room l) (ih l)
      where
        fit : i < k → i * n ≤ length (lines g k)
        fit l = omega (arith, len, line_room k n i l)

        room : i < k → n ≤ length (drop (i * n) (lines g k))
        room l = rw length-drop (omega (arith, len, line_room k n i l))

-- lines are known by what they are
pub lines_are : (n : ℕ) (g : ℕ → List ℕ) (k : ℕ) (m : List ℕ) → length m ≡ k * n → ((i : ℕ) → i < k → g i ≡ line n m i) → lines g k ≡ m
lines_are n g k m l h =
    lines_ext k n (lines g k) m (length_lines n g k even) l (λ i q. line_lines n g k i even q ∙ h i q)
  where
    even : Even n g k
    even i q = ap length (h i q) ∙ length_line k n m i q l

-- ---- cells below a bound

pub take_small : (b n : ℕ) (l : List ℕ) → ((i : ℕ) → cell l i < b) → (i : ℕ) → cell (take n l) i < b
take_small b zero l h i = omega (arith, h i)
take_small b (suc n) [] h i = h i
take_small b (suc n) (x ∷ l) h zero = h zero
take_small b (suc n) (x ∷ l) h (suc i) = take_small b n l (λ j. h (suc j)) i

-- the cells of a line are below the array's bound
pub line_small : (b n : ℕ) (m : List ℕ) (i : ℕ) → ((j : ℕ) → cell m j < b) → (j : ℕ) → cell (line n m i) j < b
line_small b n m i h = take_small b n (drop (i * n) m) (λ j. rw get_or-drop (h (i * n + j)))

pub line_cells : {b : ℕ} (k n i : ℕ) {m : List ℕ} → Cells b (k * n) m → i < k → Cells b n (line n m i)
line_cells {b} k n i {m} a h = record { long = length_line k n m i h a.long; small = line_small b n m i a.small }

pub transpose_cells : {b : ℕ} (r c : ℕ) {m : List ℕ} → Cells b (r * c) m → Cells b (c * r) (transpose r c m)
transpose_cells {b} r c {m} a = record {
  long = length_transpose r c m;
  small = each_cell (λ x. x < b) c r (transpose r c m) (omega (arith, a.small 0)) (length_transpose r c m) (λ i j p q. rw (transpose_at r c m i j p q) (a.small (j * c + i)));
}
