-- The short clauses give the message. Write w and w' for a filled word before and after the replacement at k; they differ at
-- most at k. If a codeword found for w' is not the one found for w, it has the cell of w' at k: else w would be nearer to it
-- by one, so it would be found for w and be in reach. All clauses follow from that.
-- Assumes nothing.
use mathlib.Core.Path.{◌≡◌, refl, sym, ap, ◌∙◌, subst}
use mathlib.Core.Bool.{Bool, true, false, cond, not, ◌&&◌, true≢false}
use mathlib.Core.Logic.{◌≢◌, ◌⊎◌, inl, inr}
use mathlib.Core.List.{List}
use Prim.Native.Nat.{ℕ, ◌+◌, ◌<◌, ◌≤◌}
use native.Mathlib.Decide.{ℕ_discrete}
use native.Mathlib.Omega.{arith}
use lib.Dec.{eqb, ltb}
use lib.ListN.{length, set}
use lib.Seq.{get_or-set_same, set-get_or}
use borrow.Author.Tests.{eqb-true, eqb-false, eq-eqb, ne_eqb, ltb-true, ltb-false, leb-true, le-leb}
use Rattle.degree.specs.declared.Degree.{Degree}
use Rattle.degree.specs.Degree.{size}
use Rattle.line.specs.declared.side.Side.{Side}
use Rattle.line.specs.declared.side.Side.TheVariants.{One, Two}
use Rattle.line.specs.declared.clause.Clause.{Clause}
use Rattle.line.specs.declared.clause.Clause.TheVariants.{Equal, Crowded, Neither, Agreeing, Unchanged, Open, Afresh, Channel}
use Rattle.line.specs.Cells.{cell, IsWord, is_erased, bit, erasures, few, distance, filling_bit, filled, designed_distance, radius}
use Rattle.line.specs.Working.OneCell.{filled_cell}
use Rattle.line.specs.Working.Packed.{IsLine}
use Rattle.line.specs.Bounded.{Answer, Found, Failed, or_back, bounded}
use Rattle.line.specs.Decoding.{choice, replaced, decode, decoded, message}
use Rattle.line.specs.Clauses.{other, near, first_fit, reach, same, answer_cell, agrees, by_reach, clause}
use Rattle.line.specs.Working.Settled.{if_near, open_choice, settled}
use Rattle.line.proofs.CellLaws.{differs_equal, differs_other, filling_bit_lt, filled_known, filled_erased, filled_lt, bits_from, filled_length, filled_cell_lem, filled_set, filled_word, set_cells, erasures_set, distance_set, erased_or_known}
use Rattle.line.proofs.Decoders.{Decoder, found_failed}
use Rattle.line.proofs.Distances.{bounded_decoder}
use Rattle.line.proofs.LineLaw.{equal_message}

module _ {n : ℕ} {Code : List ℕ → Type 0} {dec : List ℕ → Answer} (D : Decoder n Code dec) where
  -- ---- a word, with the bit q put at k
  module _ (w : List ℕ) (k q : ℕ) (l : IsWord n w) (hk : k < n) (hq : q < 2) where
    -- in reach: the same codeword is found
    reached_same : near (dec w) (set w k q) ≡ true → dec (set w k q) ≡ dec w
    reached_same t = go (dec w) refl t
      where
        go : (a : Answer) → dec w ≡ a → near a (set w k q) ≡ true → dec (set w k q) ≡ a
        go Failed e t = absurd (true≢false (sym t))
        go (Found c) e t = D.complete (set_cells k q hq l) (D.sound l e).0 (leb-true (distance (set w k q) c) radius t)

    is_near : {c : List ℕ} → dec w ≡ Found c → distance (set w k q) c ≤ radius → near (dec w) (set w k q) ≡ true
    is_near {c} e h = rw e (le-leb (distance (set w k q) c) radius h)

    -- not in reach, and the word unchanged: nothing is found
    unchanged_fails : near (dec w) (set w k q) ≡ false → cell w k ≡ q → dec (set w k q) ≡ Failed
    unchanged_fails f e = ap dec back ∙ go (dec w) refl
      where
        back : set w k q ≡ w
        back = ap (set w k) (sym e) ∙ set-get_or w k 0

        go : (a : Answer) → dec w ≡ a → a ≡ Failed
        go Failed e = refl
        go (Found c) e = absurd (true≢false (sym (is_near e (rw back (D.sound l e).1)) ∙ f))

    -- not in reach: what is found has the bit q at k
    found_bit : near (dec w) (set w k q) ≡ false → {c : List ℕ} → dec (set w k q) ≡ Found c → cell c k ≡ q
    found_bit f {c} e = go (ℕ_discrete (cell w k) q) (ℕ_discrete (cell c k) q)
      where
        s : Code c × (distance (set w k q) c ≤ 2)
        s = D.sound (set_cells k q hq l) e

        lc : IsWord n c
        lc = D.word s.0

        go : Dec (cell w k ≡ q) → Dec (cell c k ≡ q) → cell c k ≡ q
        go a (yes h) = h
        go (yes h) (no g) = absurd (found_failed e (unchanged_fails f h))
        go (no h) (no g) =
            let equal : cell w k ≡ cell c k = omega (arith, l.small k, lc.small k) in
            let nearer : distance w c ≤ 2 =
            omega (arith, distance_set w c k q (rw l.long hk) (rw lc.long hk), s.1, differs_other {b = q} {c = cell c k} hq (λ z. g (sym z)), differs_equal equal) in
            absurd (true≢false (sym (is_near (D.complete l s.0 nearer) s.1) ∙ f))

  -- ---- a line, with the channel's cell put at k
  module _ (y r : List ℕ) (f k : ℕ) (ly : IsLine n y) (lr : IsLine n r) (hk : k < n) where
    -- the replaced line, a filled word before and after, and the bit that comes in
    abbrev pub z : List ℕ
    z = replaced y r k

    abbrev pub was : Side → List ℕ
    was s = filled s y f

    abbrev pub now : Side → List ℕ
    now s = filled s z f

    abbrev pub new : Side → ℕ
    new s = filled_cell (cell r k) (filling_bit s (bits_from k f))

    pub now_is : (s : Side) → now s ≡ set (was s) k (new s)
    now_is s = filled_set s y f k (cell r k)

    k_in : k < length y
    k_in = rw ly.long hk

    pub now_cell : (s : Side) → cell (now s) k ≡ new s
    now_cell s = rw (now_is s) (get_or-set_same (was s) k (new s) 0 (rw (filled_length s y f) k_in))

    was_cell : (s : Side) → cell (was s) k ≡ filled_cell (cell y k) (filling_bit s (bits_from k f))
    was_cell s = filled_cell_lem s y f k k_in

    pub new_lt : (s : Side) → new s < 2
    new_lt s = filled_lt (cell r k) (filling_bit s (bits_from k f)) (lr.small k) (filling_bit_lt s (bits_from k f))

    pub z_cell : cell z k ≡ cell r k
    z_cell = get_or-set_same y k (cell r k) 0 k_in

    reached_at : (s : Side) → reach dec y r f k s ≡ true → dec (now s) ≡ dec (was s)
    unfolding reach
    reached_at s e =
        ap dec (now_is s) ∙ reached_same (was s) k (new s) (filled_word s f ly) hk (new_lt s) (rw (now_is s) at e)

    unchanged_at : (s : Side) → reach dec y r f k s ≡ false → same dec y r f k s ≡ true → dec (now s) ≡ Failed
    unfolding reach same
    unchanged_at s e h =
        ap dec (now_is s)
        ∙ unchanged_fails (was s) k (new s) (filled_word s f ly) hk (new_lt s) (rw (now_is s) at e) (eqb-true (cell (was s) k) (cell (now s) k) h ∙ now_cell s)

    found_at : (s : Side) → reach dec y r f k s ≡ false → {c : List ℕ} → dec (now s) ≡ Found c → cell c k ≡ new s
    unfolding reach
    found_at s e {c} h =
        found_bit (was s) k (new s) (filled_word s f ly) hk (new_lt s) (rw (now_is s) at e) (ap dec (sym (now_is s)) ∙ h)

    -- the choice, with the answer of side s first
    abbrev by : Side → Answer → Answer → Answer
    by One a b = choice z a b
    by Two a b = choice z b a

    abbrev cell_of : Answer → ℕ
    cell_of a = cell (or_back z a) k

    by_alone : (s : Side) (c : List ℕ) → by s (Found c) Failed ≡ Found c
    by_alone One c = refl
    by_alone Two c = refl

    either : (t : Bool) (c e : List ℕ) (v : ℕ) → cell c k ≡ v → cell e k ≡ v → cell_of (cond t (Found c) (Found e)) ≡ v
    either true c e v p q = p
    either false c e v p q = q

    -- answers that have v at k
    choice_cell : (v : ℕ) (a b : Answer) → cell z k ≡ v → ((c : List ℕ) → a ≡ Found c → cell c k ≡ v)
        → ((c : List ℕ) → b ≡ Found c → cell c k ≡ v) → cell_of (choice z a b) ≡ v
    choice_cell v Failed Failed e g h = e
    choice_cell v Failed (Found x) e g h = h x refl
    choice_cell v (Found c) Failed e g h = g c refl
    choice_cell v (Found c) (Found x) e g h = either (ltb (distance z x) (distance z c)) x c v (h x refl) (g c refl)

    by_cell : (s : Side) (v : ℕ) (c : List ℕ) (b : Answer) → cell c k ≡ v → ((x : List ℕ) → b ≡ Found x → cell x k ≡ v)
        → cell_of (by s (Found c) b) ≡ v
    by_cell One v c Failed e h = e
    by_cell Two v c Failed e h = e
    by_cell One v c (Found x) e h = either (ltb (distance z x) (distance z c)) x c v (h x refl) e
    by_cell Two v c (Found x) e h = either (ltb (distance z c) (distance z x)) c x v e (h x refl)

    open_is : (s : Side) → open_choice dec y r f k (other s) ≡ by s (if_near (dec (was s)) (now s)) (dec (now (other s)))
    open_is One = refl
    open_is Two = refl

    if_near_lem : (s : Side) (b : Bool) → reach dec y r f k s ≡ b → if_near (dec (was s)) (now s) ≡ cond b (dec (was s)) Failed
    unfolding reach
    if_near_lem s b e = rw e

    -- the clause settles the cell, side s taken first
    abbrev Settles : Side → Clause → Type 0
    Settles s c = cell_of (by s (dec (now s)) (dec (now (other s)))) ≡ settled dec y r f k c

    -- only filling s is in reach
    one_reached : (s : Side) → reach dec y r f k s ≡ true → reach dec y r f k (other s) ≡ false
        → (p : Bool) → agrees dec y r f k s ≡ p → (q : Bool) → same dec y r f k (other s) ≡ q
        → Settles s (cond p (Agreeing s) (cond q (Unchanged s) (Open (other s))))
    unfolding agrees settled reach
    one_reached s e h p ep q eq = rw (reached_at s e) (go (dec (was s)) refl e p ep q eq)
      where
        go : (a : Answer) → dec (was s) ≡ a → near a (now s) ≡ true
            → (p : Bool) → eqb (answer_cell dec y r f k (dec (was s))) (cell (now (other s)) k) ≡ p
            → (q : Bool) → same dec y r f k (other s) ≡ q
            → cell_of (by s (dec (was s)) (dec (now (other s))))
            ≡ settled dec y r f k (cond p (Agreeing s) (cond q (Unchanged s) (Open (other s))))
        go Failed ea t p ep q eq = absurd (true≢false (sym t))
        go (Found c) ea t true ep q eq =
            let v : cell c k ≡ cell (now (other s)) k = ap (answer_cell dec y r f k) (sym ea) ∙ eqb-true _ _ ep in
            rw ea (by_cell s (cell c k) c (dec (now (other s))) refl (λ x g. found_at (other s) h g ∙ sym (now_cell (other s)) ∙ sym v))
        go (Found c) ea t false ep true eq = rw (unchanged_at (other s) h eq, ea) (ap cell_of (by_alone s c))
        go (Found c) ea t false ep false eq =
            ap cell_of (ap (λ (a : Answer). by s a (dec (now (other s)))) (sym (if_near_lem s true e)) ∙ sym (open_is s))

    -- an erased cell comes in: the two bits for it are opposite, so one filling is unchanged
    opposite : cell y k ≢ cell r k → cell r k ≡ 2 → same dec y r f k One ≡ false → same dec y r f k Two ≡ true
    unfolding same
    opposite g e h =
        let known : cell y k ≢ 2 = λ p. g (p ∙ sym e) in
        let small = ly.small k in
        let bit = filling_bit_lt One (bits_from k f) in
        let differ : cell (was One) k ≢ cell (now One) k = eqb-false _ _ h in
        let equal : cell (was Two) k ≡ cell (now Two) k =
        omega (
          arith,
          was_cell One,
          was_cell Two,
          now_cell One,
          now_cell Two,
          filled_known {c = cell y k} (filling_bit One (bits_from k f)) known,
          filled_known {c = cell y k} (filling_bit Two (bits_from k f)) known,
          filled_erased {c = cell r k} (filling_bit One (bits_from k f)) e,
          filled_erased {c = cell r k} (filling_bit Two (bits_from k f)) e,
        ) in
        eq-eqb _ _ equal

    -- no filling is in reach
    none_reached : cell y k ≢ cell r k → reach dec y r f k One ≡ false → reach dec y r f k Two ≡ false
        → (p : Bool) → is_erased (cell r k) ≡ p → (q : Bool) → same dec y r f k One ≡ q
        → Settles One (cond (not p) Neither (Open (cond q Two One)))
    unfolding settled
    none_reached g e h true ep true eq = rw (unchanged_at One e eq, if_near_lem One false e)
    none_reached g e h true ep false eq =
        rw (unchanged_at Two h (opposite g (eqb-true (cell r k) 2 ep) eq), if_near_lem Two false h)
    none_reached g e h false ep q eq =
        let known : (s : Side) → new s ≡ cell r k =
        λ s. filled_known {c = cell r k} (filling_bit s (bits_from k f)) (eqb-false (cell r k) 2 ep) in
        choice_cell (cell r k) (dec (now One)) (dec (now Two)) z_cell (λ c m. found_at One e m ∙ known One) (λ c m. found_at Two h m ∙ known Two)

    two_reached : reach dec y r f k One ≡ false → reach dec y r f k Two ≡ true → (b : Bool) → same dec y r f k One ≡ b
        → Settles One (cond (agrees dec y r f k Two) (Agreeing Two) (cond b (Unchanged Two) (Open (cond b Two One))))
    two_reached e h true eb = one_reached Two h e (agrees dec y r f k Two) refl true eb
    two_reached e h false eb = one_reached Two h e (agrees dec y r f k Two) refl false eb

    -- the clauses that ask for the reach
    by_reach_lem : cell y k ≢ cell r k → Settles One (by_reach dec y r f k)
    unfolding by_reach settled
    by_reach_lem g = go (reach dec y r f k One) refl (reach dec y r f k Two) refl
      where
        go : (p : Bool) → reach dec y r f k One ≡ p → (q : Bool) → reach dec y r f k Two ≡ q
            → Settles One (first_fit p q (is_erased (cell r k)) (agrees dec y r f k One) (agrees dec y r f k Two) (same dec y r f k One) (same dec y r f k Two))
        go true e true h = rw (reached_at One e, reached_at Two h)
        go true e false h = one_reached One e h (agrees dec y r f k One) refl (same dec y r f k Two) refl
        go false e true h = two_reached e h (same dec y r f k One) refl
        go false e false h = none_reached g e h (is_erased (cell r k)) refl (same dec y r f k One) refl

    pub changed : erasures z + bit (is_erased (cell y k)) ≡ erasures y + bit (is_erased (cell r k))
    changed = erasures_set y k (cell r k) k_in

    -- an erasure more than 5 came in by the replacement
    crowded : few y ≡ true → few z ≡ false → cell r k ≡ 2
    crowded e h = go (erased_or_known (cell r k))
      where
        go : ((cell r k ≡ 2) × (bit (is_erased (cell r k)) ≡ 1)) ⊎ ((cell r k ≢ 2) × (bit (is_erased (cell r k)) ≡ 0)) → cell r k ≡ 2
        go (inl p) = p.0
        go (inr p) = absurd (omega (arith, changed, ltb-true (erasures y) designed_distance e, ltb-false (erasures z) designed_distance h))

    -- the cell is decoded afresh
    abbrev is_afresh : Bool
    is_afresh = eqb (erasures y) designed_distance && (is_erased (cell y k) && not (is_erased (cell r k)))

    -- 6 or more erasures before the replacement and fewer after it
    afresh : few y ≡ false → few z ≡ true → is_afresh ≡ true
    afresh e h = go (erased_or_known (cell y k)) (erased_or_known (cell r k))
      where
        many : designed_distance ≤ erasures y
        many = ltb-false (erasures y) designed_distance e

        less : erasures z < designed_distance
        less = ltb-true (erasures z) designed_distance h

        go : ((cell y k ≡ 2) × (bit (is_erased (cell y k)) ≡ 1)) ⊎ ((cell y k ≢ 2) × (bit (is_erased (cell y k)) ≡ 0))
            → ((cell r k ≡ 2) × (bit (is_erased (cell r k)) ≡ 1)) ⊎ ((cell r k ≢ 2) × (bit (is_erased (cell r k)) ≡ 0))
            → is_afresh ≡ true
        go (inl p) (inr q) =
            let six : erasures y ≡ designed_distance = omega (arith, changed, many, less) in
            rw (eq-eqb (erasures y) designed_distance six, eq-eqb (cell y k) 2 p.0, ne_eqb (cell r k) 2 q.0)
        go (inl p) (inl q) = absurd (omega (arith, changed, many, less))
        go (inr p) q = absurd (omega (arith, changed, many, less))

    -- the message is what the clause gives
    pub message_settled : message dec y r f k ≡ settled dec y r f k (clause dec y r f k)
    unfolding message clause settled decode
    message_settled = go (few y) refl (eqb (cell y k) (cell r k)) refl (few z) refl is_afresh refl
      where
        m : Bool → ℕ
        m t = cell_of (cond t (choice z (dec (now One)) (dec (now Two))) Failed)

        go : (p : Bool) → few y ≡ p → (q : Bool) → eqb (cell y k) (cell r k) ≡ q → (t : Bool) → few z ≡ t
            → (u : Bool) → is_afresh ≡ u
            → m t ≡ settled dec y r f k (cond p (cond q Equal (cond t (by_reach dec y r f k) Crowded)) (cond u Afresh Channel))
        go true ep true eq t et u eu =
            subst (λ (t : Bool). m t ≡ cell (decoded dec y f) k) et (equal_message dec y r f k (eqb-true (cell y k) (cell r k) eq))
        go true ep false eq true et u eu = by_reach_lem (eqb-false (cell y k) (cell r k) eq)
        go true ep false eq false et u eu = z_cell ∙ crowded ep et
        go false ep q eq t et true eu = subst (λ (t : Bool). m t ≡ cell (decoded dec z f) k) et refl
        go false ep q eq true et false eu = absurd (true≢false (sym (afresh ep et) ∙ eu))
        go false ep q eq false et false eu = z_cell

-- document 01, "Outgoing messages": the first clause that fits settles the cell
pub clause_settles : (d : Degree) (y r : List ℕ) (f k : ℕ) → IsLine (size d) y → IsLine (size d) r → k < size d
    → message (bounded d) y r f k ≡ settled (bounded d) y r f k (clause (bounded d) y r f k)
clause_settles d = message_settled (bounded_decoder d)
