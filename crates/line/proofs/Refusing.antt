-- The tests of a call: what it gives by the number of the first that applies, and what a taken call's tests say of its input.
-- Assumes nothing.
use mathlib.Core.Path.{◌≡◌, refl, sym, ap, ◌∙◌}
use mathlib.Core.Bool.{Bool, true, false, cond, not, ◌&&◌, ◌||◌, and_assoc, and-true, or-false, true≢false}
use mathlib.Core.List.{List, [], ◌∷◌, ◌++◌}
use Prim.Native.Nat.{ℕ, zero, suc, ◌^◌, ◌<◌}
use native.Mathlib.Omega.{arith}
use Rattle.std.specs.Prelude.{Option, None, Some, Result, Ok, Err}
use lib.Dec.{T, eqb, leb}
use lib.ListN.{length}
use borrow.Author.Tests.{leb-true, eqb-true, eq-eqb, ne_eqb, not-false}
use Rattle.laws.proofs.Tests.{and_true}
use Rattle.degree.specs.declared.Degree.{Degree}
use Rattle.degree.specs.declared.Degree.TheVariants.{Four, Six, Seven}
use Rattle.degree.specs.Degree.{bits, size, named}
use Rattle.line.specs.declared.refusals.Refusal.{Refusal}
use Rattle.line.specs.declared.refusals.Refusal.TheVariants.{BadDegree, BadIterations, BadLength, BadCell, BadFile, BadSum, BadContent, BadSeed, TooMany}
use Rattle.line.specs.Cells.{cell, Cells}
use Rattle.line.specs.Refusals.{number, refusal, unless_refused, given, misfit, some, at_most, line_tests, messages_tests}
use Rattle.line.specs.Working.Calls.{Tested}

-- ---- no cell above a bound

-- one cell more at the end
pub at_most_push : (bound : ℕ) (cells : List ℕ) (c : ℕ) → at_most bound (cells ++ c ∷ []) ≡ (at_most bound cells && leb c bound)
unfolding at_most
at_most_push bound [] c = and-true (leb c bound)
at_most_push bound (b ∷ bs) c = ap (λ t. leb b bound && t) (at_most_push bound bs c) ∙ sym (and_assoc (leb b bound) (at_most bound bs) (leb c bound))

-- cells that pass the test are below the next number
pub at_most_small : (bound : ℕ) (cells : List ℕ) → at_most bound cells ≡ true → (i : ℕ) → cell cells i < suc bound
unfolding at_most
at_most_small bound [] e i = omega arith
at_most_small bound (c ∷ cs) e zero = omega (arith, leb-true c bound (and_true (leb c bound) (at_most bound cs) e).0)
at_most_small bound (c ∷ cs) e (suc i) = at_most_small bound cs (and_true (leb c bound) (at_most bound cs) e).1 i

-- so the cells of a slice that was tested are
pub cells_small : (bound : ℕ) (cells : List ℕ) → not (at_most bound cells) ≡ false → (i : ℕ) → cell cells i < suc bound
cells_small bound cells e = at_most_small bound cells (not-false (at_most bound cells) e)

-- ---- several conditions

-- none of them holds
abbrev pub NoneOf : List Bool → Type 0
NoneOf [] = Unit {0}
NoneOf (b ∷ bs) = (b ≡ false) × NoneOf bs

pub some_none : (bs : List Bool) → some bs ≡ false → NoneOf bs
some_none [] e = tt
some_none (true ∷ bs) e = absurd (true≢false e)
some_none (false ∷ bs) e = (refl, some_none bs e)

-- a slice that fits
pub fits : (has asked : ℕ) → misfit has asked ≡ false → has ≡ asked
fits has asked e = eqb-true has asked (not-false (eqb has asked) e)

-- ---- the degree that a number names

-- no number names a degree and none
pub known_unknown : {v : Option Degree} {d : Degree} → v ≡ Some d → v ≡ None → ⊥
known_unknown e h = let z : ◌≡◌ {A = ℕ} 0 1 = cc in omega arith

module _ (degree : ℕ) where
  -- the number of the degree that it names is itself
  pub known_bits : (d : Degree) → named degree ≡ Some d → degree ≡ bits d
  known_bits d e = go (eqb degree 4) (eqb degree 6) (eqb degree 7) refl refl refl e
    where
      go : (p q r : Bool) → eqb degree 4 ≡ p → eqb degree 6 ≡ q → eqb degree 7 ≡ r → cond p (Some Four) (cond q (Some Six) (cond r (Some Seven) None)) ≡ Some d → degree ≡ bits d
      go true q r a b c e = let h : Four ≡ d = cc in eqb-true degree 4 a ∙ ap bits h
      go false true r a b c e = let h : Six ≡ d = cc in eqb-true degree 6 b ∙ ap bits h
      go false false true a b c e = let h : Seven ≡ d = cc in eqb-true degree 7 c ∙ ap bits h
      go false false false a b c e = absurd (known_unknown e refl)

  -- it names one degree
  pub known_one : {d d' : Degree} → named degree ≡ Some d → named degree ≡ Some d' → d ≡ d'
  known_one {d} {d'} e e' = one (sym e ∙ e')
    where
      one : Some d ≡ Some d' → d ≡ d'
      one h = cc

  -- 2 to its power is n
  pub known_size : (d : Degree) → named degree ≡ Some d → 2 ^ degree ≡ size d
  known_size d e = ap (λ (v : ℕ). 2 ^ v) (known_bits d e)

pub bits_named : (d : Degree) → named (bits d) ≡ Some d
bits_named Four = refl
bits_named Six = refl
bits_named Seven = refl

-- ---- the number of the first test that applies

-- no refusal has the number 0
pub some_number : (why : Refusal) → number why ≡ 0 → ⊥
some_number BadDegree e = omega arith
some_number BadIterations e = omega arith
some_number BadLength e = omega arith
some_number BadCell e = omega arith
some_number BadFile e = omega arith
some_number BadSum e = omega arith
some_number BadContent e = omega arith
some_number BadSeed e = omega arith
some_number TooMany e = omega arith

-- no test has the number 0
abbrev pub numbered : List (ℕ × Bool) → Bool
numbered [] = true
numbered ((zero, b) ∷ ts) = false
numbered ((suc k, b) ∷ ts) = numbered ts

-- whether each applies
abbrev pub applying : List (ℕ × Bool) → List Bool
applying [] = []
applying (t ∷ ts) = t.1 ∷ applying ts

-- a number of 0 says that none applies
pub none_applies : (ts : List (ℕ × Bool)) → T (numbered ts) → refusal ts ≡ 0 → NoneOf (applying ts)
none_applies [] n e = tt
none_applies ((zero, b) ∷ ts) n e = absurd n
none_applies ((suc k, true) ∷ ts) n e = absurd (omega arith)
none_applies ((suc k, false) ∷ ts) n e = (refl, none_applies ts n e)

-- further tests change nothing where one applies
pub refusal_more : (ts us : List (ℕ × Bool)) → (refusal ts ≡ 0 → ⊥) → refusal (ts ++ us) ≡ refusal ts
refusal_more [] us h = absurd (h refl)
refusal_more ((k, true) ∷ ts) us h = refl
refusal_more ((k, false) ∷ ts) us h = refusal_more ts us h

-- tests of which none applies begin with some of which none does
pub refusal_first : (ts us : List (ℕ × Bool)) → T (numbered ts) → refusal (ts ++ us) ≡ 0 → refusal ts ≡ 0
refusal_first [] us n e = refl
refusal_first ((k, true) ∷ ts) us n e = e
refusal_first ((zero, false) ∷ ts) us n e = absurd n
refusal_first ((suc k, false) ∷ ts) us n e = refusal_first ts us n e

-- further ones then say all
pub refusal_rest : (ts us : List (ℕ × Bool)) → T (numbered ts) → refusal ts ≡ 0 → refusal (ts ++ us) ≡ refusal us
refusal_rest [] us n e = refl
refusal_rest ((zero, b) ∷ ts) us n e = absurd n
refusal_rest ((suc k, true) ∷ ts) us n e = absurd (omega arith)
refusal_rest ((suc k, false) ∷ ts) us n e = refusal_rest ts us n e

-- ---- what a call gives

module _ {A : Type 0} (tests : List (ℕ × Bool)) where
  pub unless_taken : (asked refused : A) → refusal tests ≡ 0 → unless_refused tests asked refused ≡ asked
  unless_taken asked refused e = rw (eq-eqb (refusal tests) 0 e)

  pub unless_refused_lem : (asked refused : A) → (refusal tests ≡ 0 → ⊥) → unless_refused tests asked refused ≡ refused
  unless_refused_lem asked refused h = rw (ne_eqb (refusal tests) 0 h)

  module _ (degree : ℕ) (asked : Degree → A) (refused : A) where
    pub given_taken : {d : Degree} → (refusal tests ≡ 0) × (named degree ≡ Some d) → given degree tests asked refused ≡ asked d
    unfolding given
    given_taken h = rw (eq-eqb (refusal tests) 0 h.0, h.1)

    pub given_none : (refusal tests ≡ 0 → ⊥) → given degree tests asked refused ≡ refused
    unfolding given
    given_none h = rw (ne_eqb (refusal tests) 0 h)

    pub given_refused : (why : Refusal) → number why ≡ refusal tests → given degree tests asked refused ≡ refused
    given_refused why h = given_none (λ z. some_number why (h ∙ z))

-- ---- a call that is tested

-- by its degree, when the tests before were passed and those after say the same
pub tested_known : (degree : ℕ) (d : Degree) (ts us : List (ℕ × Bool)) (r : Result Degree Refusal) → named degree ≡ Some d → refusal ts ≡ refusal us
    → Tested (bits d) ts r → Tested degree us r
tested_known degree d ts us (Ok k) e same h = (sym same ∙ h.0, ap named (known_bits degree d e) ∙ h.1)
tested_known degree d ts us (Err why) e same h = h ∙ same

-- ---- the tests of lines by their degree, and what those of a taken call say of its input

module _ (bound degree : ℕ) (cells : List ℕ) where
  pub line_known : (d : Degree) (r : Result Degree Refusal) {n : ℕ} → named degree ≡ Some d → n ≡ size d
      → Tested (bits d) ((3, misfit (length cells) n) ∷ (4, not (at_most bound cells)) ∷ []) r → Tested degree (line_tests bound degree cells []) r
  unfolding line_tests
  line_known d r {n} e f h =
      tested_known degree d ((3, misfit (length cells) n) ∷ (4, not (at_most bound cells)) ∷ []) (line_tests bound degree cells []) r e
      (rw (e, known_size degree d e, f, or-false (misfit (length cells) (size d)))) h

  pub line_unknown : named degree ≡ None → 1 ≡ refusal (line_tests bound degree cells [])
  unfolding line_tests
  line_unknown e = rw e

  pub line_taken : (d : Degree) → (refusal (line_tests bound degree cells []) ≡ 0) × (named degree ≡ Some d) → Cells (suc bound) (size d) cells
  unfolding line_tests
  line_taken d h =
      let n = none_applies (line_tests bound degree cells []) tt h.0 in
      let l = some_none (misfit (length cells) (2 ^ degree) ∷ []) n.1.0 in
      record { long = fits (length cells) (2 ^ degree) l.0 ∙ known_size degree d h.1; small = cells_small bound cells n.1.1.0 }

module _ (degree : ℕ) (incoming channel messages : List ℕ) where
  pub messages_unknown : named degree ≡ None → 1 ≡ refusal (messages_tests degree incoming channel messages [])
  unfolding messages_tests
  messages_unknown e = rw e

  pub messages_taken : (d : Degree) → (refusal (messages_tests degree incoming channel messages []) ≡ 0) × (named degree ≡ Some d)
      → Cells 3 (size d) incoming × Cells 3 (size d) channel × (length messages ≡ size d)
  unfolding messages_tests
  messages_taken d h =
      let k = 2 ^ degree in
      let e = known_size degree d h.1 in
      let n = none_applies (messages_tests degree incoming channel messages []) tt h.0 in
      let l = some_none (misfit (length incoming) k ∷ misfit (length channel) k ∷ misfit (length messages) k ∷ []) n.1.0 in (
        record { long = fits (length incoming) k l.0 ∙ e; small = cells_small 2 incoming n.1.1.0 },
        record { long = fits (length channel) k l.1.0 ∙ e; small = cells_small 2 channel n.1.1.1.0 },
        fits (length messages) k l.1.1.0 ∙ e,
      )

-- the tests of messages after the degree's: of the lengths and the incoming line, and then of the channel line
module _ (d : Degree) (incoming channel messages : List ℕ) {n : ℕ} (e : n ≡ size d) where
  abbrev Before : List (ℕ × Bool)
  Before = (3, misfit (length incoming) n || (misfit (length channel) n || misfit (length messages) n)) ∷ (4, not (at_most 2 incoming)) ∷ []

  abbrev Last : List (ℕ × Bool)
  Last = (4, not (at_most 2 channel)) ∷ []

  -- they are those of the call
  messages_tests_lem : refusal (Before ++ Last) ≡ refusal (messages_tests (bits d) incoming channel messages [])
  unfolding messages_tests
  messages_tests_lem = rw (e, bits_named d, or-false (misfit (length messages) (size d)))

  pub messages_refused : (why : Refusal) → number why ≡ refusal Before → number why ≡ refusal (messages_tests (bits d) incoming channel messages [])
  messages_refused why h = h ∙ sym (refusal_more Before Last (λ z. some_number why (h ∙ z))) ∙ messages_tests_lem

  pub messages_last : (r : Result Degree Refusal) → refusal Before ≡ 0 → Tested (bits d) Last r → Tested (bits d) (messages_tests (bits d) incoming channel messages []) r
  messages_last r z h =
      tested_known (bits d) d Last (messages_tests (bits d) incoming channel messages []) r (bits_named d) (sym (refusal_rest Before Last tt z) ∙ messages_tests_lem) h
