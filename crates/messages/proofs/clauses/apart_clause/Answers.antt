-- `apart_clause`: test by test.
use Rattle.link.proofs.Judging.{apart-test}
use Rattle.messages.specs.Clauses.{apart_clause}
use Rattle.messages.proofs.clauses.apart_clause.Goals as goal

pub returns-then-l : goal.returns-then-l
unfolding apart_clause
returns-then-l c =
    let l = c.args.l in
    rw (apart-test l.idx_prev l.idx_prev_alt, c.if-l.true)

pub returns-then-l-2 : goal.returns-then-l-2
unfolding apart_clause
returns-then-l-2 c =
    let l = c.args.l in
    rw (apart-test l.idx_prev l.idx_prev_alt, c.if-l.false, apart-test l.idx_next l.idx_next_alt, c.if-l-2.true)

pub returns : goal.returns
unfolding apart_clause
returns c =
    let l = c.args.l in
    rw (apart-test l.idx_prev l.idx_prev_alt, c.if-l.false, apart-test l.idx_next l.idx_next_alt, c.if-l-2.false)
