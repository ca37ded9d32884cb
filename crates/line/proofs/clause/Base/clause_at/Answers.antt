-- `Base::clause_at` meets its contract: by cases of document 01's conditions.
-- Assumes nothing.
use mathlib.Core.Path.{sym, ◌∙◌}
use mathlib.Core.Bool.{true, false}
use Rattle.degree.specs.Degree.{size}
use Rattle.line.specs.declared.side.Side.TheVariants.{One, Two}
use Rattle.line.proofs.Choosing.{is_few, is_many}
use Rattle.line.proofs.Reaching.{equal_clause, crowded_clause, reach_clause, many_clause, fit_clause}
use Rattle.line.proofs.clause.Base.clause_at.Goals as goal

pub returns-then-a-c : goal.returns-then-a-c
returns-then-a-c c =
    λ d ys rs f hk B.
    let p = B.incoming in
    let q = B.channel in
    equal_clause d ys rs f _ p.cells q.cells hk (is_few ys _ B.erased c.if-self-lt-DISTANCE.true)
    (sym (c.cell_at-a.ensures.1 (size d) ys p) ∙ c.if-a-c.true ∙ c.cell_at-c.ensures.1 (size d) rs q)

pub returns-then-self-c : goal.returns-then-self-c
returns-then-self-c c =
    λ d ys rs f hk B.
    let p = B.incoming in
    let q = B.channel in
    let e = c.cell_at-c.ensures.1 (size d) rs q in
    crowded_clause d ys rs f _ p.cells q.cells hk (is_few ys _ B.erased c.if-self-lt-DISTANCE.true)
    (λ g. c.if-a-c.false (c.cell_at-a.ensures.1 (size d) ys p ∙ g ∙ sym e))
    (rw (B.erased, e) at c.if-self-c.true)

pub returns-else-self-c : goal.returns-else-self-c
returns-else-self-c c =
    λ d ys rs f hk B.
    let p = B.incoming in
    let q = B.channel in
    let few = is_few ys _ B.erased c.if-self-lt-DISTANCE.true in
    let e = c.cell_at-c.ensures.1 (size d) rs q in
    let one = c.seen_at.ensures d ys rs f One p.cells q.cells hk e (B.one few) in
    let two = c.seen_at-else-self-c.ensures d ys rs f Two p.cells q.cells hk e (B.two few) in
    c.by_reach.ensures ∙ rw e (fit_clause d ys rs f _ p.cells q.cells hk _ _ one two)
    ∙ reach_clause d ys rs f _ p.cells q.cells hk few (λ g. c.if-a-c.false (c.cell_at-a.ensures.1 (size d) ys p ∙ g ∙ sym e))
    (rw (B.erased, e) at c.if-self-c.false)

pub returns-then-fresh : goal.returns-then-fresh
returns-then-fresh c =
    λ d ys rs f hk B.
    let p = B.incoming in
    let q = B.channel in
    many_clause d ys rs f _ p.cells q.cells hk (is_many ys _ B.erased c.if-self-lt-DISTANCE.false) true
    (rw (B.erased, c.cell_at-a.ensures.1 (size d) ys p, c.cell_at-c.ensures.1 (size d) rs q) at (sym c.fresh.ensures ∙ c.if-fresh.true))

pub returns-else-fresh : goal.returns-else-fresh
returns-else-fresh c =
    λ d ys rs f hk B.
    let p = B.incoming in
    let q = B.channel in
    many_clause d ys rs f _ p.cells q.cells hk (is_many ys _ B.erased c.if-self-lt-DISTANCE.false) false
    (rw (B.erased, c.cell_at-a.ensures.1 (size d) ys p, c.cell_at-c.ensures.1 (size d) rs q) at (sym c.fresh.ensures ∙ c.if-fresh.false))
