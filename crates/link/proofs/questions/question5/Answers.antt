-- `question5`: from k on, after the link `before`, the first no is that of the whole list.
use Rattle.std.proofs.Common.{false, length, sym, ◌∙◌}
use native.Mathlib.Nat.{sub-zero}
use Rattle.link.specs.Questions.{number_at, question5}
use Rattle.link.proofs.Judging.{follow-pass, follow-fail, follow-end}
use Rattle.link.proofs.questions.question5.Goals as goal
use Rattle.link.proofs.questions.question5.Goals.{in-Some+else-not-link_follows, in_default}

pub loop-k-init : goal.loop-k-init
unfolding question5
loop-k-init c = rw (sub-zero (length c.args.list.now))

pub returns-then-not-link_follows : goal.returns-then-not-link_follows
returns-then-not-link_follows c =
    let a = c.args in
    let o = c.loop-k in
    let l = c.link_numbers-l in
    sym (follow-fail a.links.now (number_at false a.list.now) o.before o.k (length a.list.now) c.loop-k-test.true l.result l.ensures (rw c.in-Some.is (sym c.link_follows.ensures ∙ c.if-not-link_follows.true))) ∙ o.invariant

pub loop-k-preserved : goal.loop-k-preserved
loop-k-preserved c =
    let a = c.args in
    let o = c.loop-k in
    let l = c.link_numbers-l in
    elim c.match-before.branch [
      | in-Some+else-not-link_follows w ↦ rw w.before-is (sym (follow-pass a.links.now (number_at false a.list.now) o.before o.k (length a.list.now) c.loop-k-test.true l.result l.ensures (rw w.in-Some.is (sym w.link_follows.ensures ∙ w.if-not-link_follows.false))) ∙ o.invariant)
      | in_default w ↦ rw w.before-is (sym (follow-pass a.links.now (number_at false a.list.now) o.before o.k (length a.list.now) c.loop-k-test.true l.result l.ensures (rw w.in_default.is)) ∙ o.invariant)
    ]

pub returns : goal.returns
returns c =
    let a = c.args in
    let o = c.loop-k in
    sym (follow-end a.links.now (number_at false a.list.now) o.before o.k (length a.list.now) c.loop-k-test.false) ∙ o.invariant
