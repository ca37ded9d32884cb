-- Reading into the part of a buffer that is still free.
-- Assumes nothing.
use Rattle.std.proofs.Common.{◌≡◌, ℕ, ◌+◌, ◌-◌, ◌≤◌, List, ◌++◌, Some, None, length, take, drop, refl, sym, ap, subst, ◌∙◌, append_assoc, length-drop, arith}
use Rattle.std.proofs.Math.Seq.{take-append-add}
use Rattle.std.proofs.lemmas.List.{take-take, length-take-le}
use Rattle.std.proofs.lemmas.Slice.{take-put_mid}
use Rattle.std.specs.Io.KnownBytes.{Consumes}
use Rattle.std.specs.declared.option.Option.{Option}
use mathlib.Core.Bool.{Bool, true, false, cond, ◌&&◌, false≢true}
use mathlib.Core.Logic.{dite}
use Prim.Native.Nat.{◌<◌}
use native.Mathlib.Decide.{dec_lt}
use borrow.Author.Tests.{ltb-true, lt-ltb, le-ltb}
use lib.Dec.{ltb}
use borrow.Rule.Slice.PartMut.{put_mid, same_len_mid}

module _ (b y : List ℕ) (got : ℕ) (fits : got ≤ length b) (same : length y ≡ length (take (length b - got) (drop got b))) where
  -- the part is as long as the room that is left
  pub part_length : length y ≡ length b - got
  part_length = same ∙ length-take-le (length b - got) (drop got b) (omega (arith, length-drop got b))

  -- the buffer keeps its length
  pub whole_length : length (put_mid got (length b - got) b y) ≡ length b
  whole_length = same_len_mid got (length b - got) b y same

  -- what is read comes after what was read before
  pub read_after : (n : ℕ) → n ≤ length y → take (got + n) (put_mid got (length b - got) b y) ≡ take got b ++ take n y
  read_after n h =
      let front : length (take got b) ≡ got = length-take-le got b fits in
      sym (take-take (got + n) (got + length y) (put_mid got (length b - got) b y) (omega arith))
      ∙ ap (take (got + n)) (take-put_mid got (length b - got) b y (got + length y) refl fits)
      ∙ subst (λ (k : ℕ). take (k + n) (take got b ++ y) ≡ take got b ++ take n y) front (take-append-add (take got b) y n)

module _ (b y : List ℕ) (got : ℕ) (more : Bool) (free : (more && ltb got (length b)) ≡ true)
    (same : length y ≡ length (take (length b - got) (drop got b))) where
  -- the loop goes on only while there may be more, and room
  going : (m : Bool) → (m && ltb got (length b)) ≡ true → (m ≡ true) × (got < length b)
  going true e = (refl, ltb-true got (length b) e)
  going false e = absurd (false≢true e)

  pub room : got < length b
  room = (going more free).1

  -- each turn reads something, or is the last
  pub less : (k : ℕ) → k ≤ length y
      → length (put_mid got (length b - got) b y) - (got + k) + cond (ltb 0 k) 1 0 < length b - got + cond more 1 0
  less k h =
      let fits : got ≤ length b = omega (arith, room) in
      let long = part_length b y got fits same in
      rw (whole_length b y got fits same, (going more free).0)
      (dite (dec_lt 0 k) (λ z. rw (lt-ltb 0 k z) (omega (arith, long, room))) (λ z. rw (le-ltb 0 k (omega (arith, z))) (omega (arith, long, room))))

-- bytes are taken, and then more
pub takes_more : (a b c : Option (List ℕ)) (s t : List ℕ) → Consumes a b s → Consumes b c t → Consumes a c (s ++ t)
takes_more None b c s t p q = tt
takes_more (Some x) None c s t p q = absurd p
takes_more (Some x) (Some y) None s t p q = absurd q
takes_more (Some x) (Some y) (Some z) s t p q = p ∙ ap (λ (l : List ℕ). s ++ l) q ∙ sym (append_assoc s t z)
