-- `put_coeff`: the three entries side by side.
use Rattle.column.specs.Records.{put_record}
use Rattle.lookup.proofs.path_res_coeff.put_coeff.Goals as goal

pub returns : goal.returns
unfolding put_record
returns c = c.put_record.ensures
