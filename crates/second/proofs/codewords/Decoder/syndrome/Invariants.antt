-- `codewords::Decoder::syndrome` meets its contract. The loop's invariant: the weights of the first cells are added. Assumes nothing.
use Rattle.std.proofs.Common.{◌≡◌, ◌≤◌, cond, eqb, get_or}
use Rattle.second.specs.Working.Loops.{xored}
use Rattle.second.proofs.codewords.Decoder.syndrome.Given as goal

abbrev pub invariant-loop-i : goal.invariant-loop-i
invariant-loop-i l = (l.i ≤ l.self.code.n) × (l.sum ≡ xored (λ k. cond (eqb (get_or l.word k 0) 1) (get_or l.self.weights k 0) 0) l.i)
