-- `kind_of`: the first field looked up among the keywords.
use Rattle.route.specs.Codes.{kind_of}
use Rattle.route.proofs.Filled.{field-asked}
use Rattle.route.proofs.kinds.kind_of.Goals as goal

pub returns-then-is_empty : goal.returns-then-is_empty
unfolding kind_of
returns-then-is_empty c =
    rw (field-asked c.args.text.now c.args.at 0 c.bytes_at-w.result.now c.is_empty.result c.bytes_at-w.ensures c.is_empty.ensures, c.if-is_empty.true)

pub returns : goal.returns
unfolding kind_of
returns c =
    rw (field-asked c.args.text.now c.args.at 0 c.bytes_at-w.result.now c.is_empty.result c.bytes_at-w.ensures c.is_empty.ensures, c.if-is_empty.false, c.unwrap_or.ensures, c.word_in.ensures, c.bytes_at-w.ensures)
