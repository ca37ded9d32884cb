-- `line::messages::messages_of` meets its contract: one codeword that stays in reach is the message of every cell, else the cells are settled.
-- Assumes nothing.
use native.Mathlib.Omega.{arith}
use Rattle.degree.specs.Degree.{size}
use Rattle.words.specs.Working.Word.{value}
use Rattle.line.proofs.Choosing.{is_few}
use Rattle.line.proofs.OneCodeword.{quiet_mask, quiet_start}
use Rattle.line.proofs.Walking.{walk_start, walk_end}
use Rattle.line.proofs.messages.messages_of.Goals as goal

pub returns-in-Some : goal.returns-in-Some
returns-in-Some c =
    let a = c.args in
    let d = a.tables.now.degree in
    let erased = c.count_erasures-erased.result in
    let w = c.in-Some.ensures in (
      omega (arith, c.both_tried-t.ensures.0),
      λ ys rs p q.
          let f = value a.filling in
          let e = c.count_erasures-erased.ensures.1 (size d) ys p in
          let T = c.both_tried-t.ensures.1 ys p e in
          let few = is_few ys erased e (omega (arith, w.room)) in
          let one = rw w.first at (T.one few) in
          let two = rw w.second at (T.two few) in
          walk_end d ys rs f p q
          (walk_start d ys rs f p q
          (quiet_start d ys rs f p q one two few w.same (rw w.is at c.full.ensures))
          T.count
          (quiet_mask d ys rs f p q one two few w.same (omega (arith, w.room, e)) w.near_one w.near_two)),
    )

pub returns-in-None : goal.returns-in-None
returns-in-None c =
    let d = c.args.tables.now.degree in (
      c.settle_left.ensures.0,
      λ ys rs p q.
          let e = c.count_erasures-erased.ensures.1 (size d) ys p in
          c.settle_left.ensures.1 d ys rs (value c.args.filling) (c.base_of.ensures.1 ys rs p q e (c.both_tried-t.ensures.1 ys p e)),
    )
