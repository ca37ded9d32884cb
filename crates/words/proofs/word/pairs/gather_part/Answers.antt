-- `words::word::pairs::gather_part` meets its contract: the bits of the bytes passed are gathered, eight more a turn.
-- Assumes nothing.
use mathlib.Core.Path.{◌≡◌, refl, sym, ap, ◌∙◌}
use Prim.Native.Nat.{ℕ, ◌≤◌, ◌<◌, ◌+◌, ◌*◌, ◌/◌, ◌%◌, ◌^◌}
use native.Mathlib.Omega.{arith}
use lib.Bits.{bit_or}
use lib.ListN.{length}
use lib.Pow.{shl_exact}
use Rattle.words.specs.Working.Bytes.{gathered}
use Rattle.words.specs.Working.Pairs.{bits_of}
use Rattle.words.proofs.ByteLaws.{gathered_lt, read_at}
use Rattle.words.proofs.PairLaws.{first_more, second_more}
use Rattle.words.proofs.word.pairs.gather_part.Goals as goal

-- a gathered byte is shifted to its place, and nothing of it is lost
shifted : (w at x : ℕ) {g : ℕ} → g ≡ gathered 8 x → at + 8 ≤ 64 → bit_or w (g * 2 ^ at % 2 ^ 64) ≡ bit_or w (g * 2 ^ at)
shifted w at x {g} e h =
    let small : g < 256 = rw e (gathered_lt 8 x) in
    ap (bit_or w) (shl_exact {a = g} 8 at 64 small (omega arith))

pub loop-i-init : goal.loop-i-init
unfolding bits_of
loop-i-init c = (refl, refl)

pub loop-i-preserved : goal.loop-i-preserved
loop-i-preserved c =
    let x = c.from_le_bytes-x in
    let l = c.loop-i in
    let bytes = c.args.bytes.now in
    let few : length bytes / 8 ≡ length c.as_chunks.result.0.now = sym c.as_chunks.ensures.front_len in
    let here : l.i < length bytes / 8 = omega (arith, c.loop-i-test.true) in
    let room : 8 * l.i + 8 ≤ length bytes = omega arith in
    let fits : 8 * l.i + 8 ≤ 64 = omega (arith, c.requires.0) in
    let next : 8 * l.i + 8 ≡ 8 * (l.i + 1) = omega arith in
    let e = read_at _ bytes l.i here room _ c.as_chunks.ensures.front x.result x.ensures in
    let g = c.gather in
    let h = c.gather-in-loop-i in
    rw (← next) (
      shifted l.first (8 * l.i) _ g.ensures fits ∙ first_more bytes (8 * l.i) room c.requires.2 l.first x.result g.result e l.invariant.0 g.ensures,
      shifted l.second (8 * l.i) _ h.ensures fits ∙ second_more bytes (8 * l.i) room c.requires.2 l.second x.result h.result e l.invariant.1 h.ensures,
    )
