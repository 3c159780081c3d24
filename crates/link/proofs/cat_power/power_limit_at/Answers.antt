-- `power_limit_at`: the three entries and the district under their names.
use Rattle.link.proofs.cat_power.power_limit_at.Goals as goal

pub returns : goal.returns
returns c = rw (c.record_at-t.ensures, c.get.ensures)
