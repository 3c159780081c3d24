-- `train_of`: field by field.
use Rattle.route.specs.Filled.{train_of}
use Rattle.route.proofs.fill.train_of.Goals as goal

pub returns : goal.returns
unfolding train_of
returns c = rw (c.float_at.ensures, c.float_at-2.ensures, c.float_at-3.ensures, c.float_at-4.ensures, c.count_at.ensures, c.unwrap_or.ensures, c.type_of.ensures, c.bytes_at.ensures, c.float_at-5.ensures, c.float_at-6.ensures, c.float_at-7.ensures)
