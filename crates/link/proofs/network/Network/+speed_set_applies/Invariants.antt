-- `speed_set_applies`: the first condition and then the rest. The measure is what is left.
use Rattle.link.proofs.network.Network.+speed_set_applies.Given as goal

abbrev pub decreases-speed_set_applies : goal.decreases-speed_set_applies
decreases-speed_set_applies l = l.left
