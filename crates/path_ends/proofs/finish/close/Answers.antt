-- `close`: the last record is read, and the one after it stored.
use lib.Ieee.{of_bits}
use Rattle.lookup.proofs.Coeffs.{infinity}
use Rattle.path_ends.proofs.finish.close.Goals as goal

pub returns : goal.returns
unfolding of_bits
returns c = cc infinity
