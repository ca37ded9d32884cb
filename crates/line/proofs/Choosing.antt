-- Answers in packed words: the choice of two, and giving a line back.
-- Assumes nothing.
use mathlib.Core.Path.{◌≡◌, sym, subst}
use mathlib.Core.Bool.{true, false}
use mathlib.Core.List.{List}
use Prim.Native.Nat.{ℕ, ◌≤◌, ◌<◌}
use native.Mathlib.Nat.{le_refl}
use native.Mathlib.Omega.{arith}
use borrow.Author.Tests.{lt-ltb, le-ltb}
use Rattle.line.specs.declared.packed.Line.{Line}
use Rattle.line.specs.declared.bounded.Correction.{Correction}
use Rattle.std.specs.Prelude.{Some}
use Rattle.line.specs.Cells.{erasures, few, distance, designed_distance}
use Rattle.line.specs.Bounded.{Answer}
use Rattle.line.specs.Decoding.{choice}
use Rattle.line.specs.Working.Packed.{Packs, PacksWord}
use Rattle.words.specs.Working.Word.{value}
use Rattle.line.specs.Working.Tries.{Answers, found}
use Rattle.line.proofs.Packing.{differences_of}

-- ---- the choice of two answers

module _ {n : ℕ} (zs : List ℕ) where
  module _ {a b : Correction} where
    -- both were found, at distances ra and rb
    module _ {ra rb : ℕ} (fa : (c : List ℕ) → PacksWord n c (value a.word) → ra ≡ distance zs c) (fb : (c : List ℕ) → PacksWord n c (value b.word) → rb ≡ distance zs c) where
      pub nearer_first : ra ≤ rb → {p q : Answer} → Answers n p (Some a) → Answers n q (Some b) → Answers n (choice zs p q) (Some a)
      nearer_first h (found {c} v) (found {c = e} w) = rw (le-ltb (distance zs e) (distance zs c) (omega (arith, fa c v, fb e w))) (found v)

    -- one codeword needs no measuring
    pub same_word : {z : Line} → Packs n zs z → value a.word ≡ value b.word → {p q : Answer} → Answers n p (Some a) → Answers n q (Some b) → Answers n (choice zs p q) (Some a)
    same_word h e l m =
        nearer_first (λ c w. differences_of h w) (λ c w. differences_of h (subst (PacksWord n c) (sym e) w)) (le_refl _) l m

-- ---- fewer erasures than the designed distance, or not

module _ (ys : List ℕ) (e : ℕ) (h : e ≡ erasures ys) where
  pub is_few : e < designed_distance → few ys ≡ true
  is_few l = lt-ltb (erasures ys) designed_distance (omega arith)

  pub is_many : designed_distance ≤ e → few ys ≡ false
  is_many l = le-ltb (erasures ys) designed_distance (omega arith)
