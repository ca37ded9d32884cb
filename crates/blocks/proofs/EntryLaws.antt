-- What the reader and the writer promise, from what their parts found and wrote.
-- Assumes nothing.
use mathlib.Core.Path.{◌≡◌, refl, sym, ap, ◌∙◌}
use mathlib.Core.Bool.{Bool, true, false, not, cond, ◌&&◌, ◌||◌, or-false}
use mathlib.Core.List.{List, [], ◌∷◌}
use Prim.Native.Nat.{ℕ, ◌<◌}
use lib.Dec.{eqb}
use lib.ListN.{length}
use borrow.Author.Tests.{eq-eqb, ne_eqb, not-false}
use Rattle.line.specs.declared.refusals.Refusal.{Refusal}
use Rattle.line.specs.Cells.{Cells}
use Rattle.line.specs.Refusals.{number, refusal, unless_refused, misfit, at_most}
use Rattle.line.proofs.Refusing.{cells_small, some_none, fits, some_number, none_applies, unless_taken, unless_refused_lem}
use Rattle.std.specs.Prelude.{Result, Ok, Err}
use Rattle.blocks.specs.declared.reading.Found.{Found}
use Rattle.blocks.specs.Blocks.{file_of, sheet_number, sheet_in, is_file}
use Rattle.blocks.specs.Entries.{read_tests, write_tests, read_numbers, ReadDone, WriteDone}
use Rattle.blocks.specs.Working.Found.{FileRead}
use Rattle.blocks.specs.Working.Answers.{found_tests, Answers}
use Rattle.blocks.proofs.FileLaws.{read_back, written_back}

-- ---- the answer by what was found

module _ (found : Found) where
  abbrev Told : ℕ → ℕ → Type 0
  Told n s = ◌≡◌ {A = ℕ × ℕ} (n, s) (refusal (found_tests found), unless_refused (found_tests found) found.number 0)

  pub not_formed : not found.formed ≡ true → Told 5 0
  not_formed a = rw a refl

  pub not_summed : not found.formed ≡ false → not found.summed ≡ true → Told 6 0
  not_summed a b = rw (a, b) refl

  pub not_sound : not found.formed ≡ false → not found.summed ≡ false → not found.sound ≡ true → Told 7 0
  not_sound a b c = rw (a, b, c) refl

  pub all_passed : not found.formed ≡ false → not found.summed ≡ false → not found.sound ≡ false → Told 0 found.number
  all_passed a b c = rw (a, b, c) refl

-- ---- a file of the right length, read into as many cells as it should be

module _ (f before sheet : List ℕ) (found : Found) (lf : length f ≡ 1536) (lb : length before ≡ 4096) (r : FileRead f sheet found) where
  -- its tests are those of what was found
  tests_are : refusal (read_tests f before []) ≡ refusal (found_tests found)
  unfolding read_tests is_file
  tests_are = rw (eq-eqb (length before) 4096 lb, eq-eqb (length f) 1536 lf, r.formed, r.summed, r.sound) refl

  -- it is taken where all three are passed
  unless_found : {A : Type 0} (asked refused : A) → cond ((found.formed && found.summed) && found.sound) asked refused ≡ unless_refused (read_tests f before []) asked refused
  unless_found asked refused =
      go found.formed found.summed found.sound asked refused ∙ ap (λ (n : ℕ). cond (eqb n 0) asked refused) (sym tests_are)
    where
      go : {A : Type 0} (x y z : Bool) (asked refused : A)
          → cond ((x && y) && z) asked refused ≡ unless_refused ((5, not x) ∷ (6, not y) ∷ (7, not z) ∷ []) asked refused
      go true true true asked refused = refl
      go true true false asked refused = refl
      go true false z asked refused = refl
      go false y z asked refused = refl

  read_answered : {after : List ℕ} {a : Result ℕ Refusal} → after ≡ cond ((found.formed && found.summed) && found.sound) sheet before → Answers found a
      → ReadDone f before [] after a
  read_answered {after} {a} handed told =
      let number-told : (read_numbers a).1 ≡ unless_refused (read_tests f before []) (sheet_number f) 0 =
      ap (λ (p : ℕ × ℕ). p.1) told ∙ ap (λ (n : ℕ). cond (eqb n 0) found.number 0) (sym tests_are) ∙ ap (λ (n : ℕ). unless_refused (read_tests f before []) n 0) r.number in
      let cells_told : after ≡ unless_refused (read_tests f before []) (sheet_in f) before =
      handed ∙ unless_found sheet before ∙ ap (λ (l : List ℕ). unless_refused (read_tests f before []) l before) r.cells in
      record {
        refusal = ap (λ (p : ℕ × ℕ). p.0) told ∙ sym tests_are;
        number = number-told;
        cells = cells_told;
        written = λ q.
            let z : refusal (found_tests found) ≡ 0 = sym (ap (λ (p : ℕ × ℕ). p.0) told) ∙ q in
            let e : refusal (read_tests f before []) ≡ 0 = tests_are ∙ z in
            let none = none_applies (found_tests found) tt z in
            rw (number-told ∙ unless_taken (read_tests f before []) (sheet_number f) 0 e, cells_told ∙ unless_taken (read_tests f before []) (sheet_in f) before e)
            (written_back f lf
            (sym r.formed ∙ not-false found.formed none.0)
            (sym r.summed ∙ not-false found.summed none.1.0)
            (sym r.sound ∙ not-false found.sound none.1.1.0)
            r.bytes);
      }

  -- a file that is taken is handed over, one that is refused is not
  pub read_taken : {s : ℕ} → Answers found (Ok s) → ReadDone f before [] sheet (Ok s)
  read_taken told =
      let z : refusal (read_tests f before []) ≡ 0 = tests_are ∙ sym (ap (λ (p : ℕ × ℕ). p.0) told) in
      read_answered (sym (unless_found sheet before ∙ unless_taken (read_tests f before []) sheet before z)) told

  pub read_refused : (why : Refusal) → Answers found (Err why) → ReadDone f before [] before (Err why)
  read_refused why told =
      let n : number why ≡ refusal (read_tests f before []) = ap (λ (p : ℕ × ℕ). p.0) told ∙ sym tests_are in
      read_answered (sym (unless_found sheet before ∙ unless_refused_lem (read_tests f before []) sheet before (λ z. some_number why (n ∙ z)))) told

-- ---- a read that is refused for a length

module _ (f before : List ℕ) (why : Refusal) (e : number why ≡ refusal (read_tests f before [])) where
  pub refused_at_once : ReadDone f before [] before (Err why)
  refused_at_once = record {
    refusal = e;
    number = sym (unless_refused_lem (read_tests f before []) (sheet_number f) 0 (λ z. some_number why (e ∙ z)));
    cells = sym (unless_refused_lem (read_tests f before []) (sheet_in f) before (λ z. some_number why (e ∙ z)));
    written = λ z. absurd (some_number why z);
  }

pub wrong_cells : (f before : List ℕ) → (length before ≡ 4096 → ⊥) → 3 ≡ refusal (read_tests f before [])
unfolding read_tests
wrong_cells f before h = rw (ne_eqb (length before) 4096 h) refl

pub wrong_file : (f before : List ℕ) → length before ≡ 4096 → (length f ≡ 1536 → ⊥) → 5 ≡ refusal (read_tests f before [])
unfolding read_tests is_file
wrong_file f before e h = rw (eq-eqb (length before) 4096 e, ne_eqb (length f) 1536 h) refl

-- ---- the writer

module _ (s : ℕ) (cells before : List ℕ) where
  abbrev Asked : List (ℕ × Bool)
  Asked = (3, misfit (length cells) 4096 || misfit (length before) 1536) ∷ (4, not (at_most 2 cells)) ∷ []

  asked_are : refusal Asked ≡ refusal (write_tests cells before)
  unfolding write_tests
  asked_are = rw (or-false (misfit (length before) 1536)) refl

  pub write_asked : refusal Asked ≡ 0 → Cells 3 4096 cells × (length before ≡ 1536)
  unfolding write_tests
  write_asked z =
      let n = none_applies (write_tests cells before) tt (sym asked_are ∙ z) in
      let l = some_none (misfit (length cells) 4096 ∷ misfit (length before) 1536 ∷ []) n.0 in
      (record { long = fits (length cells) 4096 l.0; small = cells_small 2 cells n.1.0 }, fits (length before) 1536 l.1.0)

  pub write_taken : {after : List ℕ} → s < 65536 → refusal Asked ≡ 0 → after ≡ file_of s cells → WriteDone s cells before after 0
  write_taken h z e =
      let t : refusal (write_tests cells before) ≡ 0 = sym asked_are ∙ z in
      record {
        refusal = sym t;
        bytes = e ∙ sym (unless_taken (write_tests cells before) (file_of s cells) before t);
        read = λ q. rw e (read_back s cells h (write_asked z).0);
      }

  pub write_refused : (why : Refusal) {no : ℕ} → number why ≡ refusal Asked → no ≡ number why → WriteDone s cells before before no
  write_refused why e n =
      let t : number why ≡ refusal (write_tests cells before) = e ∙ asked_are in
      record {
        refusal = n ∙ t;
        bytes = sym (unless_refused_lem (write_tests cells before) (file_of s cells) before (λ z. some_number why (t ∙ z)));
        read = λ q. absurd (some_number why (sym n ∙ q));
      }
