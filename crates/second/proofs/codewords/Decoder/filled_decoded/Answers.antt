-- `codewords::Decoder::filled_decoded` meets its contract. Assumes nothing.
use Rattle.std.proofs.lemmas.Option.{IfSome_then}
use Rattle.second.proofs.codewords.Decoder.filled_decoded.Goals as goal

pub returns : goal.returns
returns c = IfSome_then c.bounded_distance.result c.bounded_distance.ensures (λ word h b. h (c.fill.ensures b))
