-- Encoding a line: it gives a codeword, the only one that holds the message. The check cells and the two check sums are
-- linear functions of each other that undo each other: a test at each of the 2v digits, which the checker computes once for
-- each degree. A further degree adds a line to `passes`.
-- Assumes nothing.
use mathlib.Core.Path.{◌≡◌, refl, sym, ap, ap₂, ◌∙◌}
use mathlib.Core.Bool.{Bool, ◌&&◌}
use mathlib.Core.Logic.{dite}
use mathlib.Core.List.{List, [], ◌∷◌, ◌++◌, append_assoc}
use Prim.Native.Nat.{ℕ, zero, suc, ◌+◌, ◌-◌, ◌*◌, ◌%◌, ◌^◌, ◌<◌}
use native.Mathlib.Nat.{mul-one, zero-mul, suc-mul, mul-le-mul_right}
use native.Mathlib.Decide.{dec_lt}
use native.Mathlib.Omega.{arith}
use lib.Bits.{bit_xor, xor_self, xor_zero_r, xor_lt}
use lib.Dec.{T, eqb, ltb, eqb→eq, ltb→lt}
use lib.ListN.{length, get_or, take, drop, length-append, length-drop, get_or-append}
use lib.Pow.{pow_pos, pow-add}
use lib.Seq.{length-take-le, take_at, drop_at, take-add, take_all, take-suc, get_or-append-add, get_or_at, get_or-take, get_or-drop}
use Rattle.laws.specs.Working.Bits.{bit_at}
use Rattle.laws.proofs.Bits.{bit_one, bit_at_lt}
use Rattle.laws.proofs.Tests.{every, and_left, and_right, every_at}
use Rattle.laws.proofs.Xor.{xor_eq, digit_lt}
use Rattle.degree.specs.declared.Degree.{Degree}
use Rattle.degree.specs.declared.Degree.TheVariants.{Four, Six, Seven}
use Rattle.degree.specs.Degree.{bits, size, order}
use Rattle.field.specs.Field.{double, times_power, power}
use Rattle.laws.specs.Digits.{sum_over, ones_in, digits}
use Rattle.laws.specs.Working.Digits.{pack}
use Rattle.field.proofs.Powers.{power_lt}
use Rattle.line.specs.Codeword.{Codeword}
use Rattle.line.proofs.CellLaws.{Bits, take_bits}
use Rattle.line.proofs.Distances.{word_parity}
use Rattle.line.specs.Encoding.{check_size, message_size, check_table, sums, checks_for, check_cells, encode_line}
use Rattle.line.specs.Working.OneCell.{message_of}
use Rattle.laws.proofs.DigitSums.{sum_lt, sum_ones, sum_append, digits_length}
use Rattle.laws.proofs.Linear.{one, sum_step, sum_map, then_adds, digit_adds, sum_digits, digits_adds, digits_bits, digits_at, digits_pack, pack_lt, digits_inverse, sum_beside, sum_both, unit, unit_lt, sum_unit}

-- ---- the test of a table

module _ (d : Degree) where
  abbrev entry : ℕ → ℕ
  entry j = get_or (check_table d) j 0

  -- the check cells of entry j have the check sums 2^j
  abbrev there? : ℕ → Bool
  there? j = eqb (sum_digits (sums d) (check_size d) (entry j)) (2 ^ j)

  -- the check sums of check cell i have the check cell i
  abbrev back? : ℕ → Bool
  back? i = eqb (checks_for d (sums d i)) (2 ^ i)

  unfoldable inverse? : Bool
  inverse? = ltb (check_size d) (size d) && (every there? (check_size d) && every back? (check_size d))

  pub record Inverse : Type 0 where
    pub there : (j : ℕ) → j < check_size d → sum_digits (sums d) (check_size d) (entry j) ≡ 2 ^ j
    pub back : (i : ℕ) → i < check_size d → checks_for d (sums d i) ≡ 2 ^ i
    -- the check cells, the message cells and the parity cell are all cells
    pub room : check_size d + message_size d + 1 ≡ size d

  told : T inverse? → Inverse
  unfolding inverse?
  told t =
      let fits : T (ltb (check_size d) (size d)) = search (and_left, and_right) in
      let go : T (every there? (check_size d)) = search (and_left, and_right) in
      let come : T (every back? (check_size d)) = search (and_left, and_right) in
      record {
        there = λ j h. eqb→eq _ _ (every_at there? (check_size d) go h);
        back = λ i h. eqb→eq _ _ (every_at back? (check_size d) come h);
        room = omega (arith, ltb→lt (check_size d) (size d) fits);
      }

passes : (d : Degree) → T (inverse? d)
unfolding inverse? sums checks_for sum_over digits double times_power
passes Four = tt
passes Six = tt
passes Seven = tt

pub inverse : (d : Degree) → Inverse d
inverse d = told d (passes d)

-- ---- parts of a word

bits_append : (a b : List ℕ) → Bits a → Bits b → Bits (a ++ b)
bits_append [] b p q i = q i
bits_append (x ∷ a) b p q zero = p zero
bits_append (x ∷ a) b p q (suc i) = bits_append a b (λ j. p (suc j)) q i

bits_one : {b : ℕ} → b < 2 → Bits (b ∷ [])
bits_one h zero = h
bits_one h (suc i) = omega arith

-- the parity of a word with one more cell
parity_last : (w : List ℕ) (b : ℕ) → b < 2 → ones_in (w ++ (b ∷ [])) % 2 ≡ bit_xor (ones_in w % 2) b
unfolding sum_over
parity_last w b h =
    sym (sum_ones (w ++ (b ∷ []))) ∙ sum_append (λ i. 1) w (b ∷ [])
    ∙ ap₂ bit_xor (sum_ones w) (sum_step (λ i. 1) b [] ∙ xor_zero_r (one b * 1) ∙ mul-one (one b) ∙ bit_one h)

module _ (d : Degree) where
  -- the message cells of a word of n cells
  pub message_at : (w : List ℕ) (j : ℕ) → j < message_size d → get_or (message_of d w) j 0 ≡ get_or w (check_size d + j) 0
  message_at w j h = rw (get_or-take, get_or-drop)

  pub length_message : (w : List ℕ) → length w ≡ size d → length (message_of d w) ≡ message_size d
  length_message w l = length-take-le (message_size d) (drop (check_size d) w) (rw length-drop (omega (arith, (inverse d).room)))

  -- ---- the two check sums in one number

  sums_lt : (i : ℕ) → sums d i < 2 ^ check_size d
  unfolding sums
  sums_lt i =
      rw pow-add (omega (arith, power_lt d i, power_lt d (3 * i), mul-le-mul_right {m = suc (power d (3 * i))} {n = size d} (size d) (power_lt d (3 * i)), suc-mul (power d (3 * i)) (size d)))

  -- what message cell a adds
  abbrev after : ℕ → ℕ
  after a = sums d (check_size d + a)

  after_lt : (m : List ℕ) → sum_over after m < 2 ^ check_size d
  after_lt m = sum_lt (check_size d) after (λ i. sums_lt (check_size d + i)) m

  split : (w : List ℕ) → sum_over (sums d) w ≡ sum_over (λ i. power d (3 * i)) w * size d + sum_over (λ i. power d i) w
  unfolding sums
  split w = sum_beside (bits d) (λ i. power d (3 * i)) (λ i. power d i) w (λ i. power_lt d i)

  -- both check sums are 0 exactly if the one number is
  both_zero : (w : List ℕ) → sum_over (λ i. power d i) w ≡ 0 → sum_over (λ i. power d (3 * i)) w ≡ 0 → sum_over (sums d) w ≡ 0
  both_zero w a b = split w ∙ rw (a, b, zero-mul)

  zero_both : (w : List ℕ) → sum_over (sums d) w ≡ 0 → (sum_over (λ i. power d i) w ≡ 0) × (sum_over (λ i. power d (3 * i)) w ≡ 0)
  zero_both w e =
      let z = sym (split w) ∙ e in
      let h : sum_over (λ i. power d (3 * i)) w * size d ≡ 0 = omega arith in
      (omega arith, factor (size d) (pow_pos (bits d)) h)
    where
      factor : {x : ℕ} (y : ℕ) → 0 < y → x * y ≡ 0 → x ≡ 0
      factor {x = zero} y h e = refl
      factor {x = suc x} y h e = absurd (omega (arith, suc-mul x y))

  -- ---- the check cells

  pub length_checks : (m : List ℕ) → length (check_cells d m) ≡ check_size d
  unfolding check_cells
  length_checks m = digits_length (check_size d) (checks_for d (sum_over after m))

  checks_bits : (m : List ℕ) → Bits (check_cells d m)
  unfolding check_cells
  checks_bits m = digits_bits (check_size d) (checks_for d (sum_over after m))

  abbrev body : List ℕ → List ℕ
  body m = check_cells d m ++ m

  pub length_body : (m : List ℕ) → length (body m) ≡ check_size d + length m
  length_body m = length-append (check_cells d m) m ∙ ap (λ (x : ℕ). x + length m) (length_checks m)

  -- the check sums of 2v cells and a message after them
  sum_parts : (a m : List ℕ) → length a ≡ check_size d → sum_over (sums d) (a ++ m) ≡ bit_xor (sum_over (sums d) a) (sum_over after m)
  sum_parts a m l = sum_append (sums d) a m ∙ ap (λ (q : ℕ). bit_xor (sum_over (sums d) a) (sum_over (λ i. sums d (q + i)) m)) l

  -- the check cells make them 0
  body_sum : (m : List ℕ) → sum_over (sums d) (body m) ≡ 0
  unfolding check_cells checks_for
  body_sum m =
      sum_parts (check_cells d m) m (length_checks m)
      ∙ ap (λ (x : ℕ). bit_xor x (sum_over after m)) (digits_inverse (entry d) (sums d) (check_size d) (inverse d).there (sum_over after m) (after_lt m))
      ∙ xor_self (sum_over after m)

  -- and no others do
  checks_only : (a m : List ℕ) → length a ≡ check_size d → Bits a → sum_over (sums d) (a ++ m) ≡ 0 → a ≡ check_cells d m
  unfolding check_cells checks_for
  checks_only a m l h e =
      let same : digits (check_size d) (pack a) ≡ a = ap (λ (q : ℕ). digits q (pack a)) (sym l) ∙ digits_pack a h in
      let s : sum_digits (sums d) (check_size d) (pack a) ≡ sum_over after m = ap (sum_over (sums d)) same ∙ xor_eq (sym (sum_parts a m l) ∙ e) in
      let q : pack a < 2 ^ check_size d = rw (← l) (pack_lt a) in
      sym same ∙ ap (digits (check_size d)) (sym (digits_inverse (sums d) (entry d) (check_size d) (inverse d).back (pack a) q)) ∙ ap (λ (x : ℕ). digits (check_size d) (checks_for d x)) s

  -- ---- a line

  module _ (m : List ℕ) (l : length m ≡ message_size d) where
    length_front : length (body m) ≡ order d
    length_front = length_body m ∙ omega (arith, l, (inverse d).room)

    -- an encoded line is a codeword
    pub line_codeword : Bits m → Codeword d (encode_line d m)
    unfolding encode_line
    line_codeword h =
        let b = body m in
        let x = ones_in b % 2 in
        let z = zero_both b (body_sum m) in
        let long : length (b ++ (x ∷ [])) ≡ size d = length-append b (x ∷ []) ∙ omega (arith, length_front, (inverse d).room) in
        let small : Bits (b ++ (x ∷ [])) = bits_append b (x ∷ []) (bits_append (check_cells d m) m (checks_bits m) h) (bits_one (digit_lt (ones_in b))) in
        let front : take (order d) (b ++ (x ∷ [])) ≡ b = take_at b (x ∷ []) (order d) length_front in
        record {
          word = record { long = long; small = small };
          first = ap (sum_over (λ i. power d i)) front ∙ z.0;
          third = ap (sum_over (λ i. power d (3 * i))) front ∙ z.1;
          even = word_parity d (record { long = long; small = small }) ∙ parity_last b x (digit_lt (ones_in b)) ∙ xor_self x;
        }

    -- that holds the message
    pub line_holds : message_of d (encode_line d m) ≡ m
    unfolding encode_line
    line_holds =
        rw (append_assoc, drop_at (check_cells d m) (m ++ (ones_in (body m) % 2 ∷ [])) (check_size d) (length_checks m))
        (take_at m (ones_in (body m) % 2 ∷ []) (message_size d) l)

  -- and the only one
  pub line_only : (c : List ℕ) → Codeword d c → c ≡ encode_line d (message_of d c)
  unfolding encode_line
  line_only c C =
      let a = take (check_size d) c in
      let m = message_of d c in
      let b = get_or c (order d) 0 in
      let n = C.word.long in
      let r = (inverse d).room in
      let e : check_size d + message_size d ≡ order d = omega arith in
      let front : take (order d) c ≡ a ++ m = ap (λ (q : ℕ). take q c) (sym e) ∙ take-add (check_size d) (message_size d) c in
      let whole : c ≡ (a ++ m) ++ (b ∷ []) =
      sym (take_all (suc (order d)) c (omega arith)) ∙ take-suc c (order d) 0 (omega arith) ∙ ap (λ (x : List ℕ). x ++ (b ∷ [])) front in
      let ea : a ≡ check_cells d m =
      checks_only a m (length-take-le (check_size d) c (omega arith)) (take_bits (check_size d) c C.word.small) (ap (sum_over (sums d)) (sym front) ∙ both_zero (take (order d) c) C.first C.third) in
      let eb : ones_in (a ++ m) % 2 ≡ b =
      xor_eq (sym (parity_last (a ++ m) b (C.word.small (order d))) ∙ ap (λ (w : List ℕ). ones_in w % 2) (sym whole) ∙ sym (word_parity d C.word) ∙ C.even) in
      whole ∙ ap (λ (x : ℕ). (a ++ m) ++ (x ∷ [])) (sym eb) ∙ ap (λ (x : List ℕ). (x ++ m) ++ (ones_in (x ++ m) % 2 ∷ [])) ea

  -- two codewords that hold one message are equal
  pub same_message : (c e : List ℕ) → Codeword d c → Codeword d e → message_of d c ≡ message_of d e → c ≡ e
  same_message c e C E h = line_only c C ∙ ap (encode_line d) h ∙ sym (line_only e E)

  -- ---- each cell of an encoded line is a sum over the message

  -- cell i of what k bits are encoded to is the sum of a weight over them
  pub record Summed (i : ℕ) : Type 0 where
    pub weight : ℕ → ℕ
    pub small : (a : ℕ) → weight a < 2
    pub same : (m : List ℕ) → length m ≡ message_size d → Bits m → get_or (encode_line d m) i 0 ≡ sum_over weight m

  check : (i : ℕ) → i < check_size d → Summed i
  unfolding encode_line check_cells checks_for
  check i h = record {
    weight = λ a. bit_at (checks_for d (after a)) i;
    small = λ a. bit_at_lt (checks_for d (after a)) i;
    same = λ m l b.
        get_or-append (body m) (ones_in (body m) % 2 ∷ []) 0 i (omega (arith, length_body m))
        ∙ get_or-append (check_cells d m) m 0 i (omega (arith, length_checks m))
        ∙ digits_at (check_size d) (checks_for d (sum_over after m)) i h
        ∙ sum_map (λ x. bit_at (sum_digits (entry d) (check_size d) x) i) after m (then_adds (digit_adds i) (digits_adds (entry d) (check_size d)));
  }

  copy : (c : ℕ) → c < message_size d → Summed (check_size d + c)
  unfolding encode_line
  copy c h = record {
    weight = unit c;
    small = unit_lt c;
    same = λ m l b.
        let s = get_or-append-add (check_cells d m) m c 0 in
        get_or-append (body m) (ones_in (body m) % 2 ∷ []) 0 (check_size d + c) (omega (arith, length_body m))
        ∙ (rw (length_checks m) at s)
        ∙ sym (sum_unit c m ∙ bit_one (b c));
  }

  -- the parity of the check cells for s
  abbrev check_parity : ℕ → ℕ
  check_parity s = sum_digits (λ i. 1) (check_size d) (sum_digits (entry d) (check_size d) s)

  last : Summed (order d)
  unfolding encode_line check_cells checks_for
  last = record {
    weight = λ a. bit_xor (check_parity (after a)) 1;
    small = λ a. xor_lt 1 (check_parity (after a)) 1 (sum_lt 1 (λ i. 1) (λ i. omega arith) (digits (check_size d) (checks_for d (after a)))) (omega arith);
    same = λ m l b.
        get_or_at (body m) (ones_in (body m) % 2) [] 0 (order d) (length_front m l)
        ∙ sym (sum_ones (body m)) ∙ sum_append (λ i. 1) (check_cells d m) m
        ∙ ap (λ (x : ℕ). bit_xor x (sum_over (λ i. 1) m)) (sum_map check_parity after m (then_adds (digits_adds (λ i. 1) (check_size d)) (digits_adds (entry d) (check_size d))))
        ∙ sym (sum_both (λ a. check_parity (after a)) (λ i. 1) m);
  }

  pub summed : (i : ℕ) → i < size d → Summed i
  summed i h =
      let r = (inverse d).room in
      dite (dec_lt i (check_size d)) (check i)
      (λ u. dite (dec_lt i (order d))
      (λ v. let e : check_size d + (i - check_size d) ≡ i = omega arith in rw e at (copy (i - check_size d) (omega arith)))
      (λ v. let e : order d ≡ i = omega arith in rw e at last))
