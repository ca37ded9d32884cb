-- What is read off the tables: logarithms, products, and a word's place.
-- Assumes nothing.
use mathlib.Core.Path.{◌≡◌, sym, ap, ap₂, ◌∙◌}
use mathlib.Core.List.{List}
use mathlib.Core.Logic.{◌≢◌}
use Prim.Native.Nat.{ℕ, ◌+◌, ◌<◌}
use lib.Dec.{eqb}
use lib.ListN.{get_or}
use Rattle.degree.specs.declared.Degree.{Degree}
use Rattle.degree.specs.Degree.{size, order}
use Rattle.field.specs.Field.{power}
use Rattle.field.specs.declared.syndrome.Syndrome.{Syndrome}
use Rattle.field.specs.Working.Checks.{IsSyndrome}
use Rattle.field.specs.Working.Places.{positions_of, IsPlace}
use Rattle.field.specs.Working.Positions.{located, usable}
use Rattle.field.specs.Working.Products.{product}
use Rattle.field.specs.Working.Tables.{Logs}
use Rattle.field.proofs.Primitive.{primitive}
use Rattle.field.proofs.Products.{product_powers}

module _ (d : Degree) where
  -- the entry of an element that is not 0 is its exponent
  pub log_at : (t : List ℕ) → Logs d t → (x : ℕ) → x < size d → x ≢ 0 → (get_or t x 0 < order d) × (power d (get_or t x 0) ≡ x)
  log_at t l x h f =
      let i = (primitive d).found x h f in
      let e : get_or t x 0 ≡ i.0 = ap (λ (y : ℕ). get_or t y 0) (sym i.2) ∙ l i.0 i.1 in
      (rw e i.1, ap (λ (k : ℕ). power d k) e ∙ i.2)

  -- a product by the exponents of its factors
  pub product_logs : (i j k : ℕ) {x y : ℕ} → power d i ≡ x → power d j ≡ y → power d k ≡ power d (i + j) → power d k ≡ product d x y
  product_logs i j k ex ey e = e ∙ sym (product_powers d i j) ∙ ap₂ (λ (a b : ℕ). product d a b) ex ey

-- the entry of a word's check sums and its parity are its place
pub place_parts : (d : Degree) (cells : List ℕ) (e : ℕ) {s : Syndrome} → IsSyndrome d cells s
    → usable (eqb s.parity 0) (positions_of e) ≡ usable (eqb s.parity 0) (located d s.s1 s.s3) → IsPlace d cells (record { entry = e; parity = s.parity })
place_parts d cells e {s} q f = record { parity = q.parity; fits = rw (← q.s1, ← q.s3) f }
