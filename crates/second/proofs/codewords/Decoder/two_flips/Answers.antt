-- `codewords::Decoder::two_flips` meets its contract. Assumes nothing.
use Rattle.std.proofs.lemmas.Option.{IfSome_then}
use Rattle.second.proofs.codewords.Decoder.two_flips.Goals as goal

pub returns : goal.returns
returns c = IfSome_then c.one_flip.result c.one_flip.ensures (λ found h b. h (c.flip.ensures b))
