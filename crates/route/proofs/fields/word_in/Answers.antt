-- `word_in`: what the word means by the entries that are left is what it means by all.
use Rattle.std.proofs.Common.{◌∙◌, arith}
use Rattle.route.proofs.Codes.{told-none, told-is, told-next}
use Rattle.route.proofs.fields.word_in.Goals as goal

pub returns-then-is_word : goal.returns-then-is_word
returns-then-is_word g c =
    let l = c.loop-entry in
    told-is (λ e. record { word = e.0.now; code = e.1 }) c.args.w.now c.args.table.now l.entry-index c.entry-item.result c.is_word.result (omega arith) c.entry-item.is c.is_word.ensures c.if-is_word.true ∙ l.invariant

pub loop-entry-preserved : goal.loop-entry-preserved
loop-entry-preserved g c =
    let l = c.loop-entry in
    told-next (λ e. record { word = e.0.now; code = e.1 }) c.args.w.now c.args.table.now l.entry-index c.entry-item.result c.is_word.result (omega arith) c.entry-item.is c.is_word.ensures c.if-is_word.false ∙ l.invariant

pub returns : goal.returns
returns g c =
    let l = c.loop-entry in
    told-none (λ e. record { word = e.0.now; code = e.1 }) c.args.w.now c.args.table.now l.entry-index (omega arith) ∙ l.invariant
