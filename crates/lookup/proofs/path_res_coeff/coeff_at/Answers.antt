-- `coeff_at`: the three entries under their names.
use mathlib.Core.Path.{ap, ◌∙◌}
use Rattle.column.specs.Records.{record_at}
use Rattle.column.specs.declared.Three.{Three}
use Rattle.lookup.specs.Coeff.{res_coeff_record}
use Rattle.lookup.proofs.path_res_coeff.coeff_at.Goals as goal

pub returns : goal.returns
unfolding record_at
returns c = c.from.ensures ∙ ap (λ (t : Three). res_coeff_record t.0 t.1 t.2) c.record_at.ensures
