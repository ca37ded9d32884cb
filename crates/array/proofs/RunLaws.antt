-- The iterations, one a turn.
-- Assumes nothing.
use mathlib.Core.Path.{◌≡◌, refl, sym, ap, ap₂, ◌∙◌}
use mathlib.Core.List.{List}
use Prim.Native.Nat.{ℕ, suc, ◌+◌, ◌-◌, ◌*◌, ◌<◌, ◌≤◌}
use native.Mathlib.Nat.{suc-mul, zero-mul, sub-zero, zero-add, add-zero, add_assoc, mul_comm, mul_assoc, mul-le-mul_right, mul-le-mul}
use native.Mathlib.Omega.{arith}
use lib.ListN.{length, take, drop, length-drop}
use lib.Seq.{take_all}
use Rattle.degree.specs.declared.Degree.{Degree}
use Rattle.degree.specs.Degree.{size}
use Rattle.line.proofs.RowLaws.{size_room}
use Rattle.array.specs.Arrays.{transpose}
use Rattle.array.specs.Halves.{row_half, column_half, row_count, column_count}
use Rattle.array.specs.declared.packing.PackedRows.{PackedRows}
use Rattle.array.specs.Working.PackedRows.{Held}
use Rattle.array.specs.Plain.{fillings, plain, plain_count}
use Rattle.array.specs.Working.Steps.{StepDone}
use Rattle.array.specs.Working.Runs.{Started}
use Rattle.array.proofs.Fillings.{fillings_drop, next_fillings}

-- the rest of a slice from a place on, as a lent part gives it
abbrev rest_from : ℕ → List ℕ → List ℕ
rest_from k w = take (length w - k) (drop k w)

tail : (k : ℕ) (w : List ℕ) → rest_from k w ≡ drop k w
tail k w = take_all (length w - k) (drop k w) (rw length-drop (omega arith))

pub tail_room : (k n : ℕ) (w : List ℕ) → k + n ≤ length w → n ≤ length (rest_from k w)
tail_room k n w h = rw (tail k w, length-drop) (omega arith)

-- an iteration, from its halves
pub iteration_done : (d : Degree) (w : List ℕ) {n : ℕ} {m : List ℕ} {rows across down : PackedRows} {s : List ℕ} {halfway : PackedRows} {t : List ℕ} {rows' : PackedRows} {k j : ℕ} → n ≡ size d
    → (k ≤ 33024) × ((r : List ℕ) → Held (size d) m rows → Held (size d) r across → StepDone (size d) (row_half d m r (fillings w)) (row_count d m r (fillings w)) s halfway k)
    → (j ≤ 33024) × ((r : List ℕ) → Held (size d) s halfway → Held (size d) (transpose (size d) (size d) r) down → StepDone (size d) (column_half d s r (fillings (rest_from (2 * n) w))) (column_count d s r (fillings (rest_from (2 * n) w))) t rows' j)
    → (k + j ≤ 66048) × ((r : List ℕ) → Started (size d) m r rows across down → StepDone (size d) (plain d 1 m r (fillings w)) (plain_count d 1 m r (fillings w)) t rows' (k + j))
unfolding plain plain_count
iteration_done d w {n} {m} {rows} {across} {down} {s} {halfway} {t} {rows'} {k} {j} z p q = (
  omega (arith, p.0, q.0),
  λ r g.
      let a = p.1 r g.held g.across in
      let b = q.1 r (rw a.cells a.held) g.down in
      let rest : fillings (rest_from (2 * n) w) ≡ drop (size d) (fillings w) = ap fillings (tail (2 * n) w) ∙ sym (fillings_drop n w) ∙ ap (λ (x : ℕ). drop x (fillings w)) z in
      let e = rw (rest, a.cells) at b.cells in
      let f = rw (rest, a.cells) at b.sum in
      record {
        cells = e;
        held = rw (← e, b.cells) b.held;
        sum = ap₂ (λ (x y : ℕ). x + y) a.sum f ∙ sym (add-zero _);
      },
)

-- what is left of the plain decoding of m₀, from m on, ends with what all of it ends with
pub record RunLeft (d : Degree) (l : ℕ) (m₀ r w m : List ℕ) (rows : PackedRows) (count k : ℕ) : Type 0 where
  pub held : Held (size d) m rows
  pub cells : plain d (l - k) m r (fillings (drop (k * (4 * size d)) w)) ≡ plain d l m₀ r (fillings w)
  pub sum : count + plain_count d (l - k) m r (fillings (drop (k * (4 * size d)) w)) ≡ plain_count d l m₀ r (fillings w)

-- k of l iterations of m₀ are done. The count is small whatever the words hold.
pub record RunAt (d : Degree) (l : ℕ) (m₀ : List ℕ) (rows₀ across down : PackedRows) (w m : List ℕ) (rows : PackedRows) (count k : ℕ) : Type 0 where
  pub low : k ≤ l
  pub long : length m ≡ length m₀
  pub small : count ≤ 66048 * k
  pub done : (r : List ℕ) → Started (size d) m₀ r rows₀ across down → RunLeft d l m₀ r w m rows count k

pub run_start : (d : Degree) (l : ℕ) (m : List ℕ) (rows across down : PackedRows) (w : List ℕ) → RunAt d l m rows across down w m rows 0 0
run_start d l m rows across down w = record {
  low = omega arith;
  long = refl;
  small = omega arith;
  done = λ r s. record { held = s.held; cells = rw (sub-zero, zero-mul); sum = rw (sub-zero, zero-mul, zero-add) };
}

-- the numbers of one iteration, l times
filling_length : (l n : ℕ) → 4 * l * n ≡ l * (4 * n)
filling_length l n = ap (λ (x : ℕ). x * n) (mul_comm 4 l) ∙ mul_assoc l 4 n

module _ {d : Degree} {l : ℕ} {m₀ : List ℕ} {rows₀ across down : PackedRows} {w m : List ℕ} {rows : PackedRows} {count k n : ℕ} (s : RunAt d l m₀ rows₀ across down w m rows count k) (z : n ≡ size d) where
  -- the numbers of the iteration at hand are there, and few
  pub run_room : length w ≡ 4 * l * size d → k < l → l ≤ 20 → (k * (4 * n) + 4 * size d ≤ length w) × (k * (4 * n) + 4 * n ≤ 10240)
  run_room e h q =
      let n' : ℕ = 4 * size d in
      let f : length w ≡ l * n' = e ∙ filling_length l (size d) in
      let g : l * n' ≤ 20 * 512 = mul-le-mul {n₁ = l} {m₁ = n'} {n₂ = 20} {m₂ = 512} q (omega (arith, size_room d)) in
      let i : k * n' + n' ≤ l * n' = omega (arith, suc-mul k n', mul-le-mul_right {m = suc k} {n = l} n' h) in
      rw z (omega (arith, f, g, i), omega (arith, f, g, i))

  pub run_next : {m' : List ℕ} {rows' : PackedRows} {j : ℕ} → k < l → length m' ≡ length m
      → (j ≤ 66048) × ((r : List ℕ) → Started (size d) m r rows across down → StepDone (size d) (plain d 1 m r (fillings (rest_from (k * (4 * n)) w))) (plain_count d 1 m r (fillings (rest_from (k * (4 * n)) w))) m' rows' j)
      → RunAt d l m₀ rows₀ across down w m' rows' (count + j) (k + 1)
  unfolding plain plain_count
  run_next {m'} {rows'} {j} h same p = record {
    low = omega arith;
    long = same ∙ s.long;
    small = omega (arith, s.small, p.0);
    done = λ r g.
        let at : ℕ = k * (4 * size d) in
        let t = s.done r g in
        let u = rw z at p in
        let q = u.1 r (record { held = t.held; across = g.across; down = g.down }) in
        let e = rw (tail at w) at q.cells in
        let f = rw (tail at w, add-zero) at q.sum in
        let left : l - k ≡ suc (l - (k + 1)) = omega arith in
        let place : (k + 1) * (4 * size d) ≡ at + 4 * size d = omega (arith, suc-mul k (4 * size d)) in
        let next : fillings (drop (at + 4 * size d) w) ≡ drop (size d + size d) (fillings (drop at w)) = next_fillings (size d) at w in
        record {
          held = rw q.cells q.held;
          cells = rw (place, e, next) (sym (ap (λ (x : ℕ). plain d x m r (fillings (drop at w))) left) ∙ t.cells);
          sum = rw (place, e, f, next, add_assoc) (sym (ap (λ (x : ℕ). count + plain_count d x m r (fillings (drop at w))) left) ∙ t.sum);
        };
  }

  pub run_end : l ≤ k → (r : List ℕ) → Started (size d) m₀ r rows₀ across down → StepDone (size d) (plain d l m₀ r (fillings w)) (plain_count d l m₀ r (fillings w)) m rows count
  unfolding plain plain_count
  run_end h r g =
      let t = s.done r g in
      let y : l - k ≡ 0 = omega arith in
      let e : m ≡ plain d l m₀ r (fillings w) = rw y at t.cells in
      let f : count + plain_count d 0 m r (fillings (drop (k * (4 * size d)) w)) ≡ plain_count d l m₀ r (fillings w) = rw y at t.sum in
      record { cells = e; held = rw (← e) t.held; sum = sym (add-zero count) ∙ f }
