-- How many cells bounded-distance decoding changes. Document 02, W-202: "0, 1 or 2, and 0 where it fails".
-- Assumes nothing.
use mathlib.Core.Path.{◌≡◌, refl, sym, ap, ◌∙◌, subst}
use mathlib.Core.Logic.{◌⊎◌, inl, inr, ◌↔◌}
use mathlib.Core.List.{List, [], ◌∷◌, map}
use Prim.Native.Nat.{ℕ, ◌≤◌}
use native.Mathlib.Omega.{arith}
use Rattle.laws.specs.Searches.{first_of}
use Rattle.laws.specs.Digits.{sum_over, ones_in}
use Rattle.degree.specs.declared.Degree.{Degree}
use Rattle.degree.specs.declared.Degree.TheVariants.{Four}
use Rattle.degree.specs.Degree.{size}
use Rattle.field.specs.Field.{double, times_power}
use Rattle.line.specs.Cells.{IsWord, distance, flip}
use Rattle.line.specs.Codeword.{Codeword, is_codeword}
use Rattle.line.specs.Bounded.{Answer, Found, Failed, itself, one_flipped, two_flipped, within2, bounded, changed}
use Rattle.line.proofs.CellLaws.{distance_self}
use Rattle.line.proofs.Flips.{distance_zero}
use Rattle.line.proofs.Distances.{finds_exactly}
use Rattle.line.proofs.Examples.{line}

module _ (d : Degree) {w : List ℕ} (l : IsWord (size d) w) where
  -- the distance of the word from the codeword that is within 2 of it
  pub changed_far : {c : List ℕ} → Codeword d c → distance w c ≤ 2 → changed w (bounded d w) ≡ distance w c
  changed_far q h = ap (changed w) ((finds_exactly d l).1 (q, h))

  -- at most 2
  pub changed_most : changed w (bounded d w) ≤ 2
  changed_most = go (bounded d w) refl
    where
      go : (a : Answer) → bounded d w ≡ a → changed w a ≤ 2
      go (Found c) e = ((finds_exactly d l).0 e).1
      go Failed e = omega arith

  -- 0 exactly if the word was a codeword or nothing was found
  pub changed_none : (changed w (bounded d w) ≡ 0) ↔ (Codeword d w ⊎ (bounded d w ≡ Failed))
  changed_none = (go (bounded d w) refl, back)
    where
      go : (a : Answer) → bounded d w ≡ a → changed w a ≡ 0 → Codeword d w ⊎ (bounded d w ≡ Failed)
      go (Found c) e z =
          let q = ((finds_exactly d l).0 e).0 in
          let same : w ≡ c = distance_zero w c l.small q.word.small (l.long ∙ sym q.word.long) z in
          inl (subst (Codeword d) (sym same) q)
      go Failed e z = inr e

      back : Codeword d w ⊎ (bounded d w ≡ Failed) → changed w (bounded d w) ≡ 0
      back (inl q) =
          let near : distance w w ≤ 2 = omega (arith, distance_self w) in
          changed_far q near ∙ distance_self w
      back (inr e) = ap (changed w) e

-- from none to three cells of a codeword of degree 4 wrong, the last cell among them or not
abbrev tries : List (List ℕ)
tries = [] ∷ (4 ∷ []) ∷ (15 ∷ []) ∷ (0 ∷ 4 ∷ []) ∷ (0 ∷ 15 ∷ []) ∷ (0 ∷ 4 ∷ 6 ∷ []) ∷ []

pub changes : map (λ (wrong : List ℕ). changed (line wrong []) (bounded Four (line wrong []))) tries ≡ 0 ∷ 1 ∷ 1 ∷ 2 ∷ 2 ∷ 0 ∷ []
unfolding bounded within2 one_flipped two_flipped itself first_of flip is_codeword ones_in sum_over double times_power distance
changes = refl
