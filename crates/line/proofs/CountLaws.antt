-- The count of a line is at most two more than its cells.
-- Assumes nothing.
use mathlib.Core.Path.{◌≡◌, refl}
use mathlib.Core.Bool.{Bool, true, false, cond, not, ◌&&◌, ◌||◌}
use mathlib.Core.List.{List, [], ◌∷◌}
use Prim.Native.Nat.{ℕ, ◌+◌, ◌*◌, ◌≤◌}
use native.Mathlib.Omega.{arith}
use lib.Dec.{eqb}
use lib.ListN.{length}
use borrow.Author.Tests.{eqb-true}
use Rattle.degree.specs.declared.Degree.{Degree}
use Rattle.degree.specs.declared.Degree.TheVariants.{Four, Six, Seven}
use Rattle.degree.specs.Degree.{size}
use Rattle.laws.specs.Sums.{sum_to}
use Rattle.laws.proofs.Sums.{sum_le, sum_constant, sum_first}
use Rattle.line.specs.declared.side.Side.TheVariants.{One, Two}
use Rattle.line.specs.declared.clause.Clause.TheVariants.{Equal, Crowded, Both, Neither, Agreeing, Unchanged, Open, Afresh, Channel}
use Rattle.line.specs.Cells.{cell, is_erased, bit, erasures, few, designed_distance}
use Rattle.line.specs.Working.Packed.{IsLine}
use Rattle.line.specs.Bounded.{Answer, bounded}
use Rattle.line.specs.Decoding.{replaced}
use Rattle.line.specs.Clauses.{cost, first_fit, reach, same, agrees, by_reach, clause, count}

-- ---- erasures as a sum

-- twice the erasures
sum_erasures : (y : List ℕ) → sum_to (λ k. 2 * bit (is_erased (cell y k))) (length y) ≡ 2 * erasures y
unfolding sum_to erasures
sum_erasures [] = refl
sum_erasures (c ∷ cs) =
    omega (arith, sum_first (λ k. 2 * bit (is_erased (cell (c ∷ cs) k))) (length cs), sum_erasures cs)

-- ---- the cost of a clause

-- a clause by the reach costs at most one decoding
first_fit_cost : (a b u g h p q : Bool) → cost (first_fit a b u g h p q) ≤ 1
first_fit_cost a b u g h p q =
    go (a && b) (not (a || b) && not u) (a && g) (b && h) (a && q) (b && p)
  where
    go : (s t v w x z : Bool)
        → cost (cond s Both (cond t Neither (cond v (Agreeing One) (cond w (Agreeing Two) (cond x (Unchanged One)
        (cond z (Unchanged Two) (Open (cond (a || p) Two One)))))))) ≤ 1
    go true t v w x z = omega arith
    go false true v w x z = omega arith
    go false false true w x z = omega arith
    go false false false true x z = omega arith
    go false false false false true z = omega arith
    go false false false false false true = omega arith
    go false false false false false false = omega arith

module _ (dec : List ℕ → Answer) (y r : List ℕ) (f : ℕ) where
  -- with fewer than 6 erasures a cell costs at most one decoding more
  pub few_cost : few y ≡ true → (k : ℕ) → cost (clause dec y r f k) ≤ 1
  unfolding clause by_reach
  few_cost e k = rw e (go (eqb (cell y k) (cell r k)) (few (replaced y r k)))
    where
      go : (p q : Bool) → cost (cond p Equal (cond q (by_reach dec y r f k) Crowded)) ≤ 1
      go true q = omega arith
      go false true =
          first_fit_cost (reach dec y r f k One) (reach dec y r f k Two) (is_erased (cell r k))
          (agrees dec y r f k One) (agrees dec y r f k Two) (same dec y r f k One) (same dec y r f k Two)
      go false false = omega arith

  -- with 6 an erased cell costs at most two, with more nothing costs any
  pub many_cost : few y ≡ false → (k : ℕ)
      → cost (clause dec y r f k) ≤ cond (eqb (erasures y) designed_distance) (2 * bit (is_erased (cell y k))) 0
  unfolding clause
  many_cost e k = rw e (go (eqb (erasures y) designed_distance) (is_erased (cell y k)) (not (is_erased (cell r k))))
    where
      go : (p q t : Bool) → cost (cond (p && (q && t)) Afresh Channel) ≤ cond p (2 * cond q 1 0) 0
      go true true true = omega arith
      go true true false = omega arith
      go true false t = omega arith
      go false q t = omega arith

  -- the count of a line of at least 10 cells
  count_length : 10 ≤ length y → count dec y r f ≤ length y + 2
  unfolding count
  count_length h = go (few y) refl (eqb (erasures y) designed_distance) refl
    where
      go : (p : Bool) → few y ≡ p → (q : Bool) → eqb (erasures y) designed_distance ≡ q
          → cond p 2 0 + sum_to (λ k. cost (clause dec y r f k)) (length y) ≤ length y + 2
      go true e q eq =
          omega (arith, sum_le (λ k. cost (clause dec y r f k)) (λ k. 1) (length y) (λ k l. few_cost e k), sum_constant 1 (length y))
      go false e true eq =
          omega (arith, sum_le (λ k. cost (clause dec y r f k)) (λ k. 2 * bit (is_erased (cell y k))) (length y) (λ k l. rw eq at (many_cost e k)), sum_erasures y, eqb-true (erasures y) designed_distance eq)
      go false e false eq =
          omega (arith, sum_le (λ k. cost (clause dec y r f k)) (λ k. 0) (length y) (λ k l. rw eq at (many_cost e k)), sum_constant 0 (length y))

-- every degree has lines of at least 10 cells
size_least : (d : Degree) → 10 ≤ size d
size_least Four = omega arith
size_least Six = omega arith
size_least Seven = omega arith

-- the count of a line is at most two more than its cells
pub count_le : (d : Degree) (y r : List ℕ) (f : ℕ) → IsLine (size d) y → count (bounded d) y r f ≤ size d + 2
count_le d y r f l = omega (arith, size_least d, l.long, count_length (bounded d) y r f (rw l.long (size_least d)))
