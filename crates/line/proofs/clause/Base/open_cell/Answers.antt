-- `Base::open_cell` meets its contract: one filling is decoded once more, the other counts where it is in reach.
-- Assumes nothing.
use Rattle.degree.specs.Degree.{size}
use Rattle.line.specs.declared.side.Side.TheVariants.{One, Two}
use Rattle.line.specs.Cells.{filled}
use Rattle.line.specs.Decoding.{replaced}
use Rattle.line.specs.Working.Settled.{settled}
use Rattle.line.specs.Working.Packed.{PacksWord}
use Rattle.words.specs.Working.Word.{value}
use Rattle.line.proofs.clause.Base.open_cell.Goals as goal

pub returns : goal.returns
unfolding settled
returns c =
    let a = c.args in (
      c.counted-again.ensures.0,
      λ d ys rs f hk B few.
          let n = size d in
          let z = c.replaced-z.ensures d ys rs f hk B in
          let e = c.cell_at-c.ensures.1 n rs B.channel in
          let zs = replaced ys rs a.k.number in
          let ly = B.incoming.cells in
          let lr = B.channel.cells in
          let w : PacksWord n (filled a.s zs f) (value c.word_of.result) =
          rw c.word_of.ensures (rw B.filling at (c.fill-words.ensures n zs z a.s)) in
          let t = (rw B.degree at c.counted-again.ensures.1) (filled a.s zs f) w in
          let one = c.near_only-one.ensures d ys rs f One ly lr hk e (B.one few) in
          let two = c.near_only-two.ensures d ys rs f Two ly lr hk e (B.two few) in
          c.answer_at-message.ensures n zs _ z (c.choose_with-best.ensures n zs _ _ _ z t.answer one two),
    )
