-- `half_rev`: computed from what `rev` gives.
use Rattle.si.proofs.Computed.{half-rev}
use Rattle.si.proofs.half_rev.Goals as goal

pub returns : goal.returns
returns c = rw c.rev.ensures half-rev
