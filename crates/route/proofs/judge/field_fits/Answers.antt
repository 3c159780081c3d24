-- `field_fits`: what is wanted, one by one.
use Rattle.route.specs.Forms.{field_fits}
use Rattle.route.proofs.judge.field_fits.Goals as goal

pub returns-in-Number : goal.returns-in-Number
unfolding field_fits
returns-in-Number c = rw (c.in-Number.is, c.is_some.ensures, c.number_at.ensures)

pub returns-in-Whole : goal.returns-in-Whole
unfolding field_fits
returns-in-Whole c = rw (c.in-Whole.is, c.is_some-in-Whole.ensures, c.whole_at.ensures)

pub returns-in-TrainType : goal.returns-in-TrainType
unfolding field_fits
returns-in-TrainType c = rw (c.in-TrainType.is, c.is_some-in-TrainType.ensures, c.type_of.ensures, c.bytes_at-w.ensures)

pub returns-in-SetPlace : goal.returns-in-SetPlace
unfolding field_fits
returns-in-SetPlace c = rw (c.in-SetPlace.is, c.is_some-in-SetPlace.ensures, c.place_of.ensures, c.bytes_at-w.ensures)

pub returns-in-Tail : goal.returns-in-Tail
unfolding field_fits
returns-in-Tail c = rw (c.in-Tail.is, c.is_some-in-Tail.ensures, c.head_code.ensures, c.bytes_at-w.ensures)

pub returns-in-Figure : goal.returns-in-Figure
unfolding field_fits
returns-in-Figure c = rw (c.in-Figure.is, c.is_some-in-Figure.ensures, c.figure_code.ensures, c.bytes_at-w.ensures)

pub returns-in-Comparison : goal.returns-in-Comparison
unfolding field_fits
returns-in-Comparison c = rw (c.in-Comparison.is, c.is_some-in-Comparison.ensures, c.comparison_code.ensures, c.bytes_at-w.ensures)

pub returns-in-Direction : goal.returns-in-Direction
unfolding field_fits
returns-in-Direction c = rw (c.in-Direction.is, c.is_some-in-Direction.ensures, c.direction_of.ensures, c.bytes_at-w.ensures)
