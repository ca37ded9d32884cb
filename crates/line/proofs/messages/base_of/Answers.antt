-- `line::messages::base_of` meets its contract: what is known of a line before its cells are settled.
-- Assumes nothing.
use mathlib.Core.Path.{refl}
use Rattle.degree.specs.Degree.{size}
use Rattle.words.specs.Working.Word.{value}
use Rattle.line.specs.declared.side.Side.TheVariants.{One, Two}
use Rattle.line.proofs.messages.base_of.Goals as goal

pub returns : goal.returns
returns c =
    let a = c.args in
    let d = a.tables.now.degree in
    let n = size d in
    let w = c.fill-words.ensures in
    let v = c.fill-channel.ensures in (
      refl,
      λ ys rs p q e T. record {
        degree = refl;
        incoming = p;
        channel = q;
        filling = refl;
        erased = e;
        own = c.start_line.ensures d ys rs (value a.filling) p q e T;
        one = λ few. record { before = w n ys p One; channel = v n rs q One; tried = T.one few };
        two = λ few. record { before = w n ys p Two; channel = v n rs q Two; tried = T.two few };
        count = T.count;
      },
    )
