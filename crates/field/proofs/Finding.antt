-- What `find_map` over the numbers below n gives: its first answer, where the calls before gave none; or none of the calls gave one.
-- Assumes nothing.
use mathlib.Core.Path.{◌≡◌, ap, ◌∙◌, subst}
use mathlib.Core.Bool.{true}
use Prim.Native.Nat.{ℕ, ◌+◌, ◌<◌}
use native.Mathlib.Nat.{zero-add}
use native.Mathlib.Omega.{arith}
use denote.Param.Members.{Mut}
use Rattle.std.specs.Prelude.{Option, None, Some, MatchOption, IsSomeAnd, IfSome}
use Rattle.std.specs.Fn.{Called}
use Rattle.std.specs.Option.{option_map}
use Rattle.std.specs.Iterator.Runs.{Run, SomeRun, ItemsCountUp, CallKeepsClosure, AllItemsGive, IsFirstToGive}
use Rattle.std.specs.declared.ops.Range.{Range}
use Rattle.std.proofs.iter.Yields.{nat_range_steps}
use Rattle.std.proofs.iter.runs.Sources.{range_runs}

-- what stands at a place of which P holds
there : (P : ℕ → Type 0) (n : ℕ) (o : Option ℕ) → option_map (λ y. y) o ≡ Some n → IsSomeAnd o P → P n
there P n None e h = absurd h
there P n (Some x) e h = let q : x ≡ n = cc in subst P q h

if_there : (P : ℕ → Type 0) (n : ℕ) (o : Option ℕ) → option_map (λ y. y) o ≡ Some n → IfSome o P → P n
if_there P n None e h = absurd cc
if_there P n (Some x) e h = let q : x ≡ n = cc in subst P q h

module _ {F R : Type 0} (g : Mut F (ℕ × Unit {0}) (Option R)) (f : F) (n : ℕ) (Q : ℕ → Option R → Type 0)
    (keeps : CallKeepsClosure g f) (says : (x : ℕ) (r : Option R) → Called g f (x, tt) r f → Q x r) where
  -- of a run over the numbers below n
  module _ (p : Run nat_range_steps) (from : p.from ≡ record { start = 0; end = n }) where
    counts : ItemsCountUp p 0 n
    counts = subst (λ (x : Range ℕ). ItemsCountUp p x.start x.end) from (range_runs p p.seen)

    item : (k : ℕ) → k < p.len → option_map (λ y. y) (p.at k) ≡ Some k
    item k l = counts.3 k l ∙ ap Some (zero-add k)

    told : (r : Option R)
        → MatchOption r ((p.whole ≡ true) × AllItemsGive p g f None) (λ y. (i : ℕ) × (i < p.len) × (p.len ≡ i + 1) × IsFirstToGive p g f (Some y) None i)
        → MatchOption r ((k : ℕ) → k < n → Q k None) (λ y. (i : ℕ) × (i < n) × Q i (Some y) × ((k : ℕ) → k < i → Q k None))
    told None h = λ k l. says k None (if_there (λ x. Called g f (x, tt) None f) k (p.at k) (item k (omega (arith, counts.1 h.0))) (h.1 keeps k))
    told (Some y) h =
        let first = h.3 keeps in (
          h.0,
          omega (arith, counts.0),
          says h.0 (Some y) (there (λ x. Called g f (x, tt) (Some y) f) h.0 (p.at h.0) (item h.0 h.1) first.0),
          λ k l. says k None (there (λ x. Called g f (x, tt) None f) k (p.at k) (item k (omega (arith, h.1))) (first.1 k l)),
        )

  pub found_below : (s : Range ℕ) (r : Option R) → s ≡ record { start = 0; end = n }
      → SomeRun nat_range_steps s (λ p. MatchOption r ((p.whole ≡ true) × AllItemsGive p g f None) (λ y. (i : ℕ) × (i < p.len) × (p.len ≡ i + 1) × IsFirstToGive p g f (Some y) None i))
      → MatchOption r ((k : ℕ) → k < n → Q k None) (λ y. (i : ℕ) × (i < n) × Q i (Some y) × ((k : ℕ) → k < i → Q k None))
  found_below s r e h = told h.0 (h.1 ∙ e) r h.2
