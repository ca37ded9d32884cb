-- `writing::Output::put_lines` meets its contract. The loop's invariant: the first i lines are written.
-- Assumes nothing.
use Rattle.std.proofs.Common.{◌≡◌, ◌+◌, ◌*◌, length, refl, sym, ap, ◌∙◌, arith, add-one, append_assoc, append-nil, length-append}
use Rattle.array.specs.Arrays.{line, lines}
use Rattle.array.proofs.ArrayLaws.{length_lines, line_room}
use Rattle.array.proofs.WrittenLines.{part_at, part_length}
use Rattle.text.specs.Text.{line_text, array_text}
use Rattle.text.proofs.WritingLaws.{lines_even}
use Rattle.text.proofs.writing.Output.put_lines.Goals as goal

pub loop-i-init : goal.loop-i-init
unfolding lines
loop-i-init c = sym (append-nil _)

pub put_line-requires : goal.put_line-requires
put_line-requires c =
    let n = c.args.n in
    let m = c.args.cells.now in
    let i = c.loop-i.i in
    let inside = c.loop-i-test.true in
    let so_far = length_lines (n + 1) (λ j. line_text (line n m j)) i (λ j h. lines_even n m c.requires.1 j (omega arith)) in
    let row = part_length (i * n) n m (omega (arith, line_room n n i inside, c.requires.1)) in
    omega (arith, ap length c.loop-i.invariant ∙ length-append c.args.self.now (lines (λ j. line_text (line n m j)) i), so_far, row, line_room n (n + 1) i inside, c.requires.2)

pub loop-i-preserved : goal.loop-i-preserved
unfolding lines
loop-i-preserved c =
    let n = c.args.n in
    let m = c.args.cells.now in
    let i = c.loop-i.i in
    rw (c.put_line.ensures, part_at (i * n) n m refl, c.loop-i.invariant, add-one) (append_assoc c.args.self.now (lines (λ j. line_text (line n m j)) i) (line_text (line n m i)))

pub returns : goal.returns
unfolding array_text
returns c = let e : c.loop-i.i ≡ c.args.n = omega arith in rw (c.loop-i.invariant, e)
