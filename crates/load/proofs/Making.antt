-- A sheet with its damage, made step by step: the order of its places in the first part of a room, the encoded sheet, the cells that are hit.
-- Assumes nothing.
use Rattle.std.proofs.Common.{◌≡◌, ℕ, ◌+◌, ◌*◌, ◌<◌, ◌≤◌, List, ◌++◌, length, take, drop, sym, refl, ap, ◌∙◌, ap₂, arith, length-append, length-take-le, take_at}
use Rattle.degree.specs.declared.Degree.{Degree}
use Rattle.degree.specs.Degree.{size}
use Rattle.line.specs.Cells.{IsWord}
use Rattle.line.specs.Encoding.{message_size}
use Rattle.line.proofs.Bounds.{square_le, size_le}
use Rattle.array.specs.Encoding.{encode_array}
use Rattle.load.specs.Load.{order, damaged, loaded}
use Rattle.load.specs.Working.Within.{Within}
use Rattle.load.proofs.Shuffles.{once_within}
use Rattle.load.proofs.EntryLaws.{some_cells, places_once, encoded_word}

module _ (d : Degree) (seed : ℕ) (room cells : List ℕ) (lr : length room ≡ 16384) (lc : length cells ≡ size d * size d) where
  -- the places have room
  pub places_room : length cells ≤ length room
  places_room = omega (arith, square_le (size d) (size_le d refl))

  pub places_length : length (take (length cells) room) ≡ length cells
  places_length = length-take-le (length cells) room places_room

  pub places_some : (0 < length (take (length cells) room)) × (length (take (length cells) room) ≤ 65536)
  places_some = (rw places_length (omega (arith, some_cells d)), rw places_length (omega (arith, places_room)))

  module _ {places : List ℕ} (e : places ≡ order (length (take (length cells) room)) seed) where
    abbrev kept : List ℕ
    kept = take (length cells) (places ++ drop (length cells) room)

    -- the order is what stands there
    is_order : places ≡ order (size d * size d) seed
    is_order = e ∙ ap (λ (m : ℕ). order m seed) (places_length ∙ lc)

    order_fits : length places ≡ length cells
    order_fits = ap length is_order ∙ (places_once d seed).long ∙ sym lc

    pub kept_order : kept ≡ order (size d * size d) seed
    kept_order = take_at places (drop (length cells) room) (length cells) order_fits ∙ is_order

    pub kept_room : length cells ≤ length (places ++ drop (length cells) room)
    kept_room = rw length-append (omega (arith, order_fits))

    pub kept_length : length cells ≡ length kept
    kept_length = rw (kept_order, (places_once d seed).long) lc

    module _ (wrong unsure : ℕ) (message : List ℕ) {sheet : List ℕ} (s : sheet ≡ encode_array d message) where
      pub damage_ready : IsWord (message_size d * message_size d) message → wrong + unsure ≤ size d * size d
          → (wrong + unsure ≤ length kept) × Within (length sheet) kept × IsWord (length sheet) sheet
      damage_ready m h =
          let w : IsWord (size d * size d) sheet = rw s (encoded_word d m) in
          (omega (arith, kept_length), rw (kept_order, w.long) (once_within (places_once d seed)), rw w.long w)

      pub load_made : {after : List ℕ} → after ≡ damaged wrong unsure kept sheet → after ≡ loaded d seed wrong unsure message
      unfolding loaded
      load_made a = a ∙ ap₂ (damaged wrong unsure) kept_order s
