-- `transpose::exchange` meets its contract: its words are below 2 ^ 64, so the cut to 64 bits changes nothing but the shifted word.
-- Assumes nothing.
use native.Mathlib.Omega.{arith}
use Rattle.words.proofs.SwapLaws.{exchanged}
use Rattle.words.proofs.transpose.exchange.Goals as goal

pub returns : goal.returns
returns c = exchanged c.args.j c.args.m c.args.x c.args.y (omega arith) (omega arith) (omega arith)
