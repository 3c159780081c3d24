-- `put_number`: the record is read, and stored with another number.
use Rattle.path_reindex.proofs.reindex.put_number.Goals as goal

pub returns : goal.returns
returns c = cc
