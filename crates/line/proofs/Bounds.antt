-- The sizes of a degree are small, so that what the code reckons with them fits.
-- Assumes nothing.
use mathlib.Core.Path.{◌≡◌}
use Prim.Native.Nat.{ℕ, ◌+◌, ◌*◌, ◌≤◌}
use native.Mathlib.Nat.{mul-le-mul}
use native.Mathlib.Omega.{arith}
use Rattle.degree.specs.declared.Degree.{Degree}
use Rattle.degree.specs.Degree.{size}
use Rattle.field.proofs.Primitive.{primitive}
use Rattle.line.specs.Encoding.{check_size, message_size}
use Rattle.line.proofs.LineEncoding.{inverse}

pub product_le : (x y : ℕ) → x ≤ 128 → y ≤ 128 → x * y ≤ 16384
product_le x y h l = mul-le-mul h l

pub square_le : (x : ℕ) → x ≤ 128 → x * x ≤ 16384
square_le x h = product_le x x h h

pub size_le : (d : Degree) {x : ℕ} → x ≡ size d → x ≤ 128
size_le d e = omega (arith, (primitive d).room)

pub message_le : (d : Degree) {x : ℕ} → x ≡ message_size d → x ≤ 128
message_le d e = omega (arith, (primitive d).room)

-- the check cells and the message cells are cells
pub room_le : (d : Degree) {n k p : ℕ} → n ≡ size d → k ≡ message_size d → p ≡ check_size d → p + k ≤ n
room_le d a b c = omega (arith, (inverse d).room)
