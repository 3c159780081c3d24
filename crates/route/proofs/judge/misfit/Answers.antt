-- `misfit`: the first misfit from field k on is the first of all.
use Rattle.std.proofs.Common.{◌∙◌, ap, not, arith}
use Rattle.route.proofs.Filled.{field-asked}
use Rattle.route.proofs.Forms.{misfit-next, misfit-here, misfit-none, misfit-more}
use Rattle.route.proofs.judge.misfit.Goals as goal

pub returns-then-not-field_fits : goal.returns-then-not-field_fits
returns-then-not-field_fits c =
    let l = c.loop-asks in
    misfit-here c.args.text.now c.args.at l.k c.args.form.now l.asks-index _ c.field_fits.result (omega arith) c.field_fits.ensures (ap not c.if-not-field_fits.true) ∙ l.invariant.0

pub loop-asks-preserved : goal.loop-asks-preserved
loop-asks-preserved c =
    let l = c.loop-asks in
    (misfit-next c.args.text.now c.args.at l.k c.args.form.now l.asks-index _ c.field_fits.result (omega arith) c.field_fits.ensures (ap not c.if-not-field_fits.false) ∙ l.invariant.0, omega arith)

pub returns-then-is_empty : goal.returns-then-is_empty
returns-then-is_empty c =
    let l = c.loop-asks in
    misfit-none c.args.text.now c.args.at l.k c.args.form.now l.asks-index (omega arith) (field-asked c.args.text.now c.args.at l.k c.bytes_at.result.now c.is_empty.result c.bytes_at.ensures c.is_empty.ensures ∙ c.if-is_empty.true) ∙ l.invariant.0

pub returns : goal.returns
returns c =
    let l = c.loop-asks in
    misfit-more c.args.text.now c.args.at l.k c.args.form.now l.asks-index (omega arith) (field-asked c.args.text.now c.args.at l.k c.bytes_at.result.now c.is_empty.result c.bytes_at.ensures c.is_empty.ensures ∙ c.if-is_empty.false) ∙ l.invariant.0
