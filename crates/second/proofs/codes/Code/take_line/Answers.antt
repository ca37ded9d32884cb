-- `codes::Code::take_line` meets its contract. The loop's invariant: the first cells are written. Assumes nothing.
use Rattle.std.proofs.Common.{◌≡◌, get_or, replicate, refl, arith, rules}
use Rattle.second.specs.Working.Loops.{written}
use Rattle.second.specs.Working.Arrays.{place_of, taken_line}
use Rattle.second.proofs.Loops.{written_next}
use Rattle.second.proofs.codes.Code.take_line.Goals as goal

pub loop-j-init : goal.loop-j-init
unfolding written
loop-j-init c = (search rules, refl)

pub loop-j-preserved : goal.loop-j-preserved
loop-j-preserved c =
    let turn = c.loop-j in
    let s = c.args in
    (search rules, rw c.place.ensures.0 (written_next (λ k. k) (λ k. get_or s.cells.now (place_of s.self.n s.i k) 0) turn.j (replicate 128 0) turn.invariant.1))

pub returns : goal.returns
unfolding taken_line
returns c = let all : c.loop-j.j ≡ c.args.self.n = omega arith in rw all at c.loop-j.invariant.1
