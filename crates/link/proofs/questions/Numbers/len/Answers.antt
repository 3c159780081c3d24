-- `len`: by the kind of list.
use Rattle.std.proofs.Common.{true, false, sym}
use Rattle.link.specs.Questions.{number_at}
use Rattle.link.proofs.Loops.{length-range}
use Rattle.link.proofs.questions.Numbers.len.Goals as goal

pub returns-in-Listed : goal.returns-in-Listed
returns-in-Listed c = rw c.in-Listed.is (sym (length-range (number_at false c.in-Listed.field-0.now) 0 c.in-Listed.count))

pub returns-in-OfPoints : goal.returns-in-OfPoints
returns-in-OfPoints c = rw c.in-OfPoints.is (sym (length-range (number_at true c.in-OfPoints.field-0.now) 0 c.in-OfPoints.count))
