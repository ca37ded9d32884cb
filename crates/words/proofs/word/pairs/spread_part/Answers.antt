-- `words::word::pairs::spread_part` meets its contract: the bytes passed are those that the words say, eight more a turn.
-- Assumes nothing.
use mathlib.Core.Path.{◌≡◌, sym, ◌∙◌}
use mathlib.Core.List.{append-nil}
use Prim.Native.Nat.{◌≤◌, ◌+◌, ◌-◌, ◌*◌, ◌%◌}
use native.Mathlib.Omega.{arith}
use lib.ListN.{length, take}
use lib.Seq.{take_all, length-sets}
use Rattle.words.specs.Working.Pairs.{pairs_of}
use Rattle.words.proofs.ByteLaws.{eight_bytes, put_bytes}
use Rattle.words.proofs.PairLaws.{spread_turn, put_pairs, length_pairs}
use Rattle.words.proofs.word.pairs.spread_part.Goals as goal

pub loop-i-preserved : goal.loop-i-preserved
loop-i-preserved c =
    let p = c.copy_from_slice in
    let y = c.spread-in-loop-i.ensures.0 in
    let x = c.spread.ensures.0 in
    let l = c.loop-i in
    let n = length c.args.bytes.now in
    let room : 8 * l.i + 8 ≤ length l.bytes = omega (arith, l.invariant.0) in
    let next : 8 * l.i + 8 ≡ 8 * (l.i + 1) = omega arith in
    let vs = pairs_of 8 (l.a % 256) (l.b % 256) in
    let e = put_bytes l.bytes vs p.new.self (8 * l.i) 8 (length_pairs 8 (l.a % 256) (l.b % 256)) room (p.ensures.after ∙ c.to_le_bytes.ensures ∙ eight_bytes _ ∙ put_pairs l.a l.b x y) in
    rw e (rw length-sets l.invariant.0, rw (← next) (spread_turn l.bytes n (8 * l.i) l.a l.b room l.invariant.0 ∙ l.invariant.1))

pub returns : goal.returns
unfolding pairs_of
returns c =
    let l = c.loop-i in
    let n = length c.args.bytes.now in
    let all : length l.bytes ≤ 8 * l.i = omega (arith, l.invariant.0, c.requires) in
    let none : n - 8 * l.i ≡ 0 = omega (arith, l.invariant.0) in
    sym (take_all (8 * l.i) l.bytes all) ∙ sym (append-nil (take (8 * l.i) l.bytes)) ∙ rw none at l.invariant.1
