-- What the reader of files tells, from what the entry below promises.
-- Assumes nothing.
use mathlib.Core.Path.{◌≡◌, refl, sym, ap, ◌∙◌}
use mathlib.Core.Bool.{Bool, true, false, cond, not, true≢false, or-true}
use mathlib.Core.List.{List, [], ◌∷◌, ◌++◌, append-nil}
use Prim.Native.Nat.{ℕ}
use native.Mathlib.Omega.{arith}
use lib.Dec.{eqb}
use lib.ListN.{length, take, drop, drop_of_length-le}
use Rattle.line.specs.Refusals.{refusal, misfit}
use Rattle.line.proofs.Refusing.{some_none, none_applies, unless_refused_lem}
use Rattle.std.specs.Prelude.{Result}
use Rattle.line.specs.declared.refusals.Refusal.{Refusal}
use Rattle.blocks.specs.Blocks.{sheet_number, sheet_in}
use Rattle.blocks.specs.Entries.{read_tests, ReadDone}
use Rattle.pugdrel.proofs.Handing.{Alike, lent_part}

module _ (f s : List ℕ) where
  read_alike : Alike (read_tests f) s
  unfolding read_tests
  read_alike = record {
    right = refl;
    wrong = rw (or-true (misfit (length s) 4096)) refl;
    refused = λ z.
        let n = none_applies (read_tests f s (true ∷ [])) tt z in
        true≢false (some_none (misfit (length s) 4096 ∷ true ∷ []) n.0).1.0;
  }

  fitting : {q : List ℕ} {a : Result ℕ Refusal} → ReadDone f s [] q a → ReadDone f s (false ∷ []) q a
  fitting done = record {
    refusal = done.refusal ∙ read_alike.right;
    number = done.number ∙ ap (λ (n : ℕ). cond (eqb n 0) (sheet_number f) 0) read_alike.right;
    cells = done.cells ∙ ap (λ (n : ℕ). cond (eqb n 0) (sheet_in f) s) read_alike.right;
    written = done.written;
  }

  -- an empty slice is refused, and so is a report that does not fit
  unfitting : {q : List ℕ} {a : Result ℕ Refusal} → ReadDone f [] [] q a → ReadDone f s (true ∷ []) (q ++ s) a
  unfitting {q} {a} done =
      let none : refusal (read_tests f [] []) ≡ 0 → ⊥ = λ z. read_alike.refused (sym read_alike.wrong ∙ z) in
      let stayed : q ≡ [] = done.cells ∙ unless_refused_lem (read_tests f [] []) (sheet_in f) [] none in
      record {
        refusal = done.refusal ∙ read_alike.wrong;
        number = done.number ∙ unless_refused_lem (read_tests f [] []) (sheet_number f) 0 none ∙ sym (unless_refused_lem (read_tests f s (true ∷ [])) (sheet_number f) 0 read_alike.refused);
        cells = ap (λ (l : List ℕ). l ++ s) stayed ∙ sym (unless_refused_lem (read_tests f s (true ∷ [])) (sheet_in f) s read_alike.refused);
        written = λ z. absurd (none (sym done.refusal ∙ z));
      }

  -- an answer for the part that is handed on is one for all cells
  pub read_handed : (fit : Bool) (x : ℕ) {q : List ℕ} {a : Result ℕ Refusal} → x ≡ cond fit (length s) 0 → ReadDone f (take x s) [] q a
      → ReadDone f s (not fit ∷ []) (q ++ drop x s) a
  read_handed true x {q} e done =
      let whole = rw (lent_part true s e) at done in
      rw (drop_of_length-le s {i = x} (omega arith), append-nil q) (fitting whole)
  read_handed false x e done = let none = rw (lent_part false s e) at done in rw e (unfitting none)
