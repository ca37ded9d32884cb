-- What a load is for: decoding takes it, and where few cells are hit it gives the encoded sheet back.
-- Assumes nothing.
use Rattle.std.proofs.Common.{ℕ, ◌+◌, ◌-◌, ◌*◌, ◌<◌, ◌≤◌, List, [], ◌∷◌, take, drop, refl, arith}
use Rattle.degree.specs.declared.Degree.{Degree}
use Rattle.degree.specs.declared.Degree.TheVariants.{Four, Six, Seven}
use Rattle.degree.specs.Degree.{size}
use Rattle.line.specs.Cells.{cell, Cells, IsWord, designed_distance}
use Rattle.line.specs.Encoding.{message_size}
use Rattle.line.proofs.CellLaws.{set_cells, word_line}
use Rattle.array.specs.Encoding.{encode_array, SentArray}
use Rattle.array.specs.Plain.{plain}
use Rattle.array.proofs.SentArrays.{EndsWith, sent_theorem}
use Rattle.load.specs.Load.{order, changed, damaged, loaded}
use Rattle.load.proofs.Hits.{all_hit}
use Rattle.load.proofs.EntryLaws.{places_once, encoded_word}

-- ---- a load is n by n cells, each 0, 1 or 2

changed_cells : {n : ℕ} (f : ℕ → ℕ) (ps m : List ℕ) → ((c : ℕ) → f c < 3) → Cells 3 n m → Cells 3 n (changed f ps m)
unfolding changed
changed_cells f [] m h a = a
changed_cells f (p ∷ ps) m h a = changed_cells f ps _ h (set_cells p (f (cell m p)) (h (cell m p)) a)

module _ (d : Degree) (seed wrong unsure : ℕ) (message : List ℕ) (bits : IsWord (message_size d * message_size d) message) where
  pub loaded_cells_lem : Cells 3 (size d * size d) (loaded d seed wrong unsure message)
  unfolding loaded damaged
  loaded_cells_lem =
      let places : List ℕ = order (size d * size d) seed in
      changed_cells (λ c. 2) (take unsure (drop wrong places)) (changed (λ c. 1 - c) (take wrong places) (encode_array d message)) (λ c. omega arith)
      (changed_cells (λ c. 1 - c) (take wrong places) (encode_array d message) (λ c. omega arith) (word_line (encoded_word d bits)))

  -- ---- so few hits that the row condition holds whatever the seed

  few_cells : (d : Degree) → designed_distance ≤ size d * size d
  few_cells Four = omega arith
  few_cells Six = omega arith
  few_cells Seven = omega arith

  pub few_mended : (l : ℕ) (w : List ℕ) → 2 * wrong + unsure < designed_distance → 0 < l
      → EndsWith d (encode_array d message) (plain d l (loaded d seed wrong unsure message) (loaded d seed wrong unsure message) w)
  unfolding loaded
  few_mended l w h p =
      let sent : SentArray d (encode_array d message) = record { message = message; bits = bits; is = refl } in
      sent_theorem d (encode_array d message) (loaded d seed wrong unsure message) l w sent loaded_cells_lem p
      ((all_hit d wrong unsure (places_once d seed) (encoded_word d bits) (omega (arith, few_cells d))).near h)
