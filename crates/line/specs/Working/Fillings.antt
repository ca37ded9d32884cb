-- What the parts of a line's work stand for: fillings, and what they say at a cell. The contracts between the functions of this
-- crate are put in these words; nothing here has to be believed to read a contract of an entry.
use Rattle.std.specs.Prelude.{◌≡◌, Bool, true, false, cond, not, ◌&&◌, ◌||◌, List, ℕ, ◌-◌, ◌^◌, ◌<◌, eqb, ltb, Option, Some, None}
use Rattle.laws.specs.Working.Bits.{bit_at}
use Rattle.degree.specs.declared.Degree.{Degree}
use Rattle.degree.specs.Degree.{size}
use Rattle.line.specs.declared.side.Side.{Side}
use Rattle.line.specs.declared.side.Side.TheVariants as side
use Rattle.line.specs.declared.bounded.Correction.{Correction}
use Rattle.words.specs.declared.word.Word.{Word}
use Rattle.line.specs.declared.clause.Both.{Both}
use Rattle.line.specs.declared.clause.Trial.{Trial}
use Rattle.line.specs.declared.clause.Seen.{Seen}
use Rattle.line.specs.declared.clause.Base.{Base}
use Rattle.line.specs.Cells.{cell, erasures, few, filled, designed_distance, radius}
use Rattle.line.specs.Bounded.{bounded, or_back}
use Rattle.line.specs.Decoding.{decode, message}
use Rattle.line.specs.Clauses.{reach, same, answer_cell, after, cost, clause}
use Rattle.line.specs.Working.Packed.{Packs, PacksWord, known_else}
use Rattle.words.specs.Working.Word.{value}
use Rattle.line.specs.Working.Tries.{Decodes}

module _ (d : Degree) (ys rs : List ℕ) (f : ℕ) where
  -- a filling of the incoming line, and of the channel line by the same bits, and what it gave
  pub record TrialOf (s : Side) (h : Trial) : Type 0 where
    pub before : PacksWord (size d) (filled s ys f) (value h.before)
    pub channel : PacksWord (size d) (filled s rs f) (value h.channel)
    pub tried : Decodes d (filled s ys f) h.tried

  -- what a filling says at cell k
  pub record Sees (k : ℕ) (s : Side) (v : Seen) : Type 0 where
    pub reach : v.reach ≡ reach (bounded d) ys rs f k s
    pub same : v.same ≡ same (bounded d) ys rs f k s
    pub value : v.value ≡ answer_cell (bounded d) ys rs f k (bounded d (filled s ys f))
    pub bit : v.bit ≡ cell (after (bounded d) ys rs f k s) k

  -- the line that the messages start from: with few erasures what the line decodes to, or where that fails its cells with those that
  -- the channel knows put in
  unfoldable pub start : List ℕ
  start = cond (few ys) (or_back (known_else rs ys) (decode (bounded d) ys f)) rs

  -- what is known of a line before its cells are settled; of its fillings only where it has few erasures
  pub record Based (b : Base) : Type 0 where
    pub degree : b.tables.now.degree ≡ d
    pub incoming : Packs (size d) ys b.incoming
    pub channel : Packs (size d) rs b.channel
    pub filling : value b.filling ≡ f
    pub erased : b.erased ≡ erasures ys
    pub own : Packs (size d) start b.own
    pub one : few ys ≡ true → TrialOf side.One b.one
    pub two : few ys ≡ true → TrialOf side.Two b.two
    pub count : b.count ≡ cond (few ys) 2 0

  -- the messages of the cells whose bit is not set in a mask are the cells of that line, and cost nothing
  pub record Masks (m : ℕ) : Type 0 where
    pub small : m < 2 ^ size d
    pub rest : (k : ℕ) → k < size d → bit_at m k ≡ 0 → (cell start k ≡ message (bounded d) ys rs f k) × (cost (clause (bounded d) ys rs f k) ≡ 0)

-- a codeword that was found stays in reach at cell k: it lies nearer than the radius, or the filled bit is unchanged, or the change does
-- not lead away from it
abbrev pub stays : Trial → Correction → ℕ → Bool
stays h found k =
    let before = bit_at (value h.before) k in
    ltb found.changed radius || (eqb before (bit_at (value h.channel) k) || not (eqb (bit_at (value found.word) k) before))

-- both fillings of a line tried, where it has few erasures, and counted
pub record BothOf (d : Degree) (ys : List ℕ) (f : ℕ) (t : Both) : Type 0 where
  pub one : few ys ≡ true → Decodes d (filled side.One ys f) t.one
  pub two : few ys ≡ true → Decodes d (filled side.Two ys f) t.two
  pub count : t.count ≡ cond (few ys) 2 0

-- both fillings decoded to one codeword nearer than the radius, and one erasure more is not too many
abbrev pub are_quiet : (erased : ℕ) (one two : Option Correction) → Bool
are_quiet erased (Some one) (Some two) =
    (ltb erased (designed_distance - 1) && (ltb one.changed radius && ltb two.changed radius)) && eqb (value one.word) (value two.word)
are_quiet erased (Some one) None = false
are_quiet erased None two = false

-- of both fillings of a line
abbrev pub quiet : (erased : ℕ) → Both → Bool
quiet erased t = are_quiet erased t.one t.two

-- the same, with the codeword
pub record Quiet (erased : ℕ) (t : Both) (w : Word) : Type 0 where
  pub one : Correction
  pub two : Correction
  pub first : t.one ≡ Some one
  pub second : t.two ≡ Some two
  pub room : erased < designed_distance - 1
  pub near_one : one.changed < radius
  pub near_two : two.changed < radius
  pub same : value one.word ≡ value two.word
  pub is : w ≡ one.word

-- the answer of a filling
abbrev pub tried_of : Base → Side → Option Correction
tried_of b side.One = b.one.tried
tried_of b side.Two = b.two.tried
