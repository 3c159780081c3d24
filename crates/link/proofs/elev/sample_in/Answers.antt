-- `sample_in`: the two entries.
use Rattle.link.proofs.Formed.{sample-read}
use Rattle.link.proofs.elev.sample_in.Goals as goal

pub returns : goal.returns
returns c = sample-read c.args.col.now c.args.i _ c.requires
