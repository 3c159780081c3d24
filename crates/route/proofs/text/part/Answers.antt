-- `part`: test by test.
use Rattle.route.proofs.Places.{bytes-outside, bytes-none, bytes_inside}
use Rattle.route.proofs.text.part.Goals as goal

pub returns-then-text-to : goal.returns-then-text-to
returns-then-text-to c = bytes-outside c.args.text.now c.args.s c.if-text-to.true

pub returns-then-to-from : goal.returns-then-to-from
returns-then-to-from c = bytes-none c.args.text.now c.args.s c.if-text-to.false c.if-to-from.true

pub returns : goal.returns
returns c = bytes_inside c.args.text.now c.args.s c.if-text-to.false
