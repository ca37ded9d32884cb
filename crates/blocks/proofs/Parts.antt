-- Parts of a slice: the entries of a part, and parts that are written one behind the other.
-- Assumes nothing.
use mathlib.Core.Path.{◌≡◌, refl, sym, ap, ap₂, ◌∙◌}
use mathlib.Core.List.{List, [], ◌∷◌, ◌++◌, append_assoc, append-nil}
use Prim.Native.Nat.{ℕ, zero, suc, ◌+◌, ◌-◌, ◌<◌}
use native.Mathlib.Nat.{zero-add, suc-add}
use native.Mathlib.Omega.{arith}
use borrow.Rule.Slice.PartMut.{put_mid}
use lib.ListN.{length, get_or, take, drop, length-append, length-drop, drop_of_length-le}
use lib.Seq.{take_at, drop_at, get_or-drop, take-nil, drop-drop}
use Rattle.array.proofs.ArrayLaws.{take_small}

-- what holds of all entries holds of a part
pub small_part : (bound n k : ℕ) (l : List ℕ) → ((i : ℕ) → get_or l i 0 < bound) → (i : ℕ) → get_or (take n (drop k l)) i 0 < bound
small_part bound n k l h = take_small bound n (drop k l) (λ i. rw (get_or-drop k l i 0) (h (k + i)))

pub drop_take : (n m : ℕ) (l : List ℕ) → drop n (take (n + m) l) ≡ take m (drop n l)
drop_take zero m l = ap (λ (k : ℕ). take k l) (zero-add m)
drop_take (suc n) m [] = rw (take-nil {A = ℕ} (suc n + m), take-nil {A = ℕ} m) refl
drop_take (suc n) m (x ∷ l) = rw (suc-add n m) (drop_take n m l)

-- ---- written one behind the other: `front` stands, and from e on the slice is old

module _ (front old part : List ℕ) (e : ℕ) (here : length front ≡ e) where
  pub put_behind : (n : ℕ) → length part ≡ n → put_mid e n (front ++ drop e old) part ≡ (front ++ part) ++ drop (e + n) old
  put_behind n l =
      ap₂ (λ (x y : List ℕ). x ++ (part ++ drop n y)) (take_at front (drop e old) e here) (drop_at front (drop e old) e here)
      ∙ ap (λ (x : List ℕ). front ++ (part ++ x)) (drop-drop n e old)
      ∙ sym (append_assoc front part (drop (e + n) old))

  -- the last part
  pub put_last : length old ≡ e + length part → put_mid e (length (front ++ drop e old) - e) (front ++ drop e old) part ≡ front ++ part
  put_last l =
      let n : length (front ++ drop e old) - e ≡ length part = omega (arith, length-append front (drop e old), length-drop e old) in
      ap (λ (x : ℕ). put_mid e x (front ++ drop e old) part) n
      ∙ put_behind (length part) refl
      ∙ ap (λ (x : List ℕ). (front ++ part) ++ x) (drop_of_length-le old {i = e + length part} (omega arith))
      ∙ append-nil (front ++ part)

-- three parts, which fill the slice
module _ (p q r : ℕ) (old one two three : List ℕ) (e1 : length one ≡ p) (e2 : length two ≡ q) (e3 : length three ≡ r) (e : length old ≡ p + q + r) where
  pub three_parts : put_mid (p + q) r (put_mid p q (one ++ drop p old) two) three ≡ (one ++ two) ++ three
  three_parts =
      let both_long : length (one ++ two) ≡ p + q = length-append one two ∙ omega arith in
      rw (put_behind one old two p e1 q e2) (put_behind (one ++ two) old three (p + q) both_long r e3)
      ∙ ap (λ (x : List ℕ). ((one ++ two) ++ three) ++ x) (drop_of_length-le old {i = p + q + r} (omega arith))
      ∙ append-nil ((one ++ two) ++ three)
