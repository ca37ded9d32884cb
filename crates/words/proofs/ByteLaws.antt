-- Bytes joined to words and put back: eight are four and four, and joined bytes are the bytes of their word.
-- Assumes nothing.
use mathlib.Core.Path.{◌≡◌, refl, sym, ap, ◌∙◌}
use mathlib.Core.List.{List, [], ◌∷◌, ◌++◌, append_assoc}
use Prim.Native.Nat.{ℕ, zero, suc, ◌+◌, ◌-◌, ◌*◌, ◌/◌, ◌%◌, ◌^◌, ◌≤◌, ◌<◌}
use native.Mathlib.Nat.{add-zero, add-suc, pow-suc}
use native.Mathlib.Omega.{arith}
use lib.ListN.{length, get_or, take, drop, length-drop}
use lib.Pow.{shr-shr}
use borrow.Rule.Slice.PartMut.{put_mid}
use lib.Seq.{drop-cons, sets, sets-eq, take_all, length-take-le}
use Rattle.std.proofs.lemmas.List.{drop-drop}
use Rattle.std.specs.Simd.{first_chunks}
use Rattle.std.specs.Int.{w64, from_le_bytes, to_le_bytes}
use Rattle.words.specs.Working.Bytes.{joined, bytes_of, gathered}

-- ---- bytes joined

-- n elements from at + k on
abbrev from : List ℕ → (at k n : ℕ) → List ℕ
from s at k zero = []
from s at k (suc n) = get_or s (at + k) 0 ∷ from s at (suc k) n

run : (s : List ℕ) (at k n : ℕ) → at + k + n ≤ length s → take n (drop (at + k) s) ≡ from s at k n
run s at k zero h = refl
run s at k (suc n) h =
    let l : at + k < length s = omega arith in
    rw (drop-cons s (at + k) 0 l) (ap {B = List ℕ} (λ r. get_or s (at + k) 0 ∷ r) (rw (add-suc at k) at (run s at (suc k) n (omega arith))))

pub joined_four : (s : List ℕ) (at : ℕ) → at + 4 ≤ length s
    → joined (take 4 (drop at s)) ≡ get_or s at 0 + get_or s (at + 1) 0 * 256 + get_or s (at + 2) 0 * 65536 + get_or s (at + 3) 0 * 16777216
unfolding joined
joined_four s at h =
    let e = rw (add-zero at) at (run s at 0 4 (omega arith)) in
    ap joined e ∙ omega arith

-- eight bytes of a list cut in eights
pub eight_at : (k : ℕ) (s : List ℕ) (i : ℕ) → i < k → get_or (first_chunks 8 k s) i [] ≡ take 8 (drop (8 * i) s)
eight_at zero s i h = absurd (omega arith)
eight_at (suc k) s zero h = refl
eight_at (suc k) s (suc i) h =
    let e : 8 + 8 * i ≡ 8 * suc i = omega arith in
    eight_at k (drop 8 s) i (omega arith) ∙ ap (take 8) (drop-drop (8 * i) 8 s ∙ ap (λ (n : ℕ). drop n s) e)

-- eight bytes read as std does
pub joined_eight : (bs : List ℕ) → length bs ≡ 8 → from_le_bytes w64 bs ≡ joined bs
unfolding joined
joined_eight bs h =
    let e : bs ≡ from bs 0 0 8 = sym (take_all 8 bs (omega arith)) ∙ run bs 0 0 8 (omega arith) in
    sym (ap joined e ∙ omega arith)

-- eight bytes of a list cut in k eights, read
pub read_at : (k : ℕ) (s : List ℕ) (i : ℕ) → i < k → 8 * i + 8 ≤ length s → (eights : List (List ℕ)) → eights ≡ first_chunks 8 k s → (x : ℕ) → x ≡ from_le_bytes w64 (get_or eights i [])
    → x ≡ joined (take 8 (drop (8 * i) s))
read_at k s i h room eights e x q =
    let p : get_or eights i [] ≡ take 8 (drop (8 * i) s) = ap (λ (l : List (List ℕ)). get_or l i []) e ∙ eight_at k s i h in
    q ∙ ap (from_le_bytes w64) p ∙ joined_eight (take 8 (drop (8 * i) s)) (length-take-le 8 (drop (8 * i) s) (rw length-drop (omega arith)))

-- ---- the bytes of a word put

-- the bytes that std writes
pub eight_bytes : (x : ℕ) → to_le_bytes w64 x ≡ bytes_of 8 x
unfolding bytes_of
eight_bytes x = rw (shr-shr x 8 8, shr-shr x 16 8, shr-shr x 24 8, shr-shr x 32 8, shr-shr x 40 8, shr-shr x 48 8)

pub four_bytes : (x : ℕ) → take 4 (to_le_bytes w64 x) ≡ bytes_of 4 x
unfolding bytes_of
four_bytes x = rw (shr-shr x 8 8, shr-shr x 16 8)

-- bytes written over those from `at` on
pub put_bytes : (s vs ys : List ℕ) (at n : ℕ) → length vs ≡ n → at + n ≤ length s → ys ≡ vs → put_mid at (at + n - at) s ys ≡ sets s at vs
put_bytes s vs ys at n l h e =
    let k : at + n - at ≡ n = omega arith in
    let p = sets-eq vs s at (omega (arith, l)) ∙ append_assoc (take at s) vs (drop (at + length vs) s) in
    rw (k, e) (ap (λ (r : List ℕ). take at s ++ (vs ++ r)) (drop-drop n at s) ∙ sym (rw l at p))

-- ---- joined, and taken apart again

-- the lowest byte of a word, and the others
pub low_and_rest : (r : ℕ) {b : ℕ} → b < 256 → ((r * 256 + b) % 256 ≡ b) × ((r * 256 + b) / 256 ≡ r)
low_and_rest r h = (omega arith, omega arith)

pub bytes_joined : (bs : List ℕ) → ((i : ℕ) → get_or bs i 0 < 256) → bytes_of (length bs) (joined bs) ≡ bs
unfolding joined bytes_of
bytes_joined [] h = refl
bytes_joined (b ∷ bs) h =
    let e = low_and_rest (joined bs) {b = b} (h 0) in
    rw (e.0, e.1) (ap {B = List ℕ} (λ r. b ∷ r) (bytes_joined bs (λ i. h (suc i))))

-- the lowest bits of n bytes are n bits
pub gathered_lt : (n x : ℕ) → gathered n x < 2 ^ n
unfolding gathered
gathered_lt zero x = omega arith
gathered_lt (suc n) x = rw (pow-suc 2 n) (omega (arith, gathered_lt n (x / 256)))
