-- What a call of the load answers, and the cells that it leaves.
-- Assumes nothing.
use Rattle.std.proofs.Common.{◌≡◌, ℕ, ◌+◌, ◌*◌, ◌<◌, ◌≤◌, Bool, List, length, sym, ◌∙◌, arith}
use Rattle.degree.specs.declared.Degree.{Degree}
use Rattle.degree.specs.declared.Degree.TheVariants.{Four, Six, Seven}
use Rattle.std.specs.Prelude.{Some}
use Rattle.degree.specs.Degree.{size, named}
use Rattle.line.specs.declared.refusals.Refusal.{Refusal}
use Rattle.line.specs.Cells.{IsWord}
use Rattle.line.specs.Encoding.{message_size}
use Rattle.line.specs.Refusals.{number, refusal}
use Rattle.line.proofs.Refusing.{known_one, some_number, given_taken, given_refused}
use Rattle.array.specs.Encoding.{encode_array}
use Rattle.array.proofs.Refusing.{coding_taken, message_bits}
use Rattle.array.proofs.ArrayEncoding.{encode_codeword}
use Rattle.array.proofs.Theorem.{sent_bits}
use Rattle.load.specs.Load.{order, loaded}
use Rattle.load.specs.Entries.{load_tests, EachOnce, Hit, Loaded}
use Rattle.load.proofs.Shuffles.{order_once}
use Rattle.load.proofs.Hits.{all_hit}
use Rattle.load.proofs.Refusing.{load_takes}

-- a sheet has cells
pub some_cells : (d : Degree) → 0 < size d * size d
some_cells Four = omega arith
some_cells Six = omega arith
some_cells Seven = omega arith

-- its places, shuffled, are held once each
pub places_once : (d : Degree) (seed : ℕ) → EachOnce (size d * size d) (order (size d * size d) seed)
places_once d seed = order_once (size d * size d) seed (some_cells d)

-- an encoded array is a word
pub encoded_word : (d : Degree) {message : List ℕ} → IsWord (message_size d * message_size d) message → IsWord (size d * size d) (encode_array d message)
encoded_word d {message} m = sent_bits d (encode_array d message) (encode_codeword d message m)

module _ (degree seed wrong unsure : ℕ) (message before : List ℕ) where
  abbrev Tests : List (ℕ × Bool)
  Tests = load_tests degree seed wrong unsure message before

  pub load_ready : (d : Degree) → (refusal Tests ≡ 0) × (named degree ≡ Some d)
      → IsWord (message_size d * message_size d) message × (length before ≡ size d * size d) × (wrong + unsure ≤ size d * size d)
  load_ready d h =
      let t = load_takes degree seed wrong unsure message before d h in
      (message_bits degree message before d (t.0, h.1), (coding_taken 1 degree message before message d (t.0, h.1)).1, t.1)

  pub loaded_taken : {d : Degree} {after : List ℕ} → (refusal Tests ≡ 0) × (named degree ≡ Some d) → after ≡ loaded d seed wrong unsure message
      → Loaded degree seed wrong unsure message before after 0
  unfolding loaded
  loaded_taken {d} {after} h e =
      let t = load_ready d h in
      let hit : Hit d wrong unsure (order (size d * size d) seed) (encode_array d message) after =
      rw e (all_hit d wrong unsure (places_once d seed) (encoded_word d t.0) t.2) in
      record {
        refusal = sym h.0;
        cells = e ∙ sym (given_taken Tests degree (λ d. loaded d seed wrong unsure message) before h);
        places = λ d'. places_once d' seed;
        hit = λ d' z k. rw (known_one degree h.1 k) at hit;
      }

  pub loaded_refused : {no : ℕ} (why : Refusal) → no ≡ number why → number why ≡ refusal Tests → Loaded degree seed wrong unsure message before before no
  loaded_refused why e h =
      record {
        refusal = e ∙ h;
        cells = sym (given_refused Tests degree (λ d. loaded d seed wrong unsure message) before why h);
        places = λ d. places_once d seed;
        hit = λ d z k. absurd (some_number why (sym e ∙ z));
      }
