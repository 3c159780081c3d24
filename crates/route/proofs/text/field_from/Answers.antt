-- `field_from`: both ends by std's search.
use Rattle.std.proofs.Common.{◌+◌}
use Rattle.route.specs.Text.{is_blank, in_field, field_from}
use Rattle.route.proofs.Places.{past-found}
use Rattle.route.proofs.text.field_from.Goals as goal

pub returns : goal.returns
unfolding field_from
returns c =
    let from = past-found is_blank c.args.text.now c.args.at c.rest-blanks.result.now c.first_unblank.result c.unwrap_or.result c.rest-blanks.ensures c.first_unblank.ensures c.unwrap_or.ensures in
    let to = past-found in_field c.args.text.now (c.args.at + c.unwrap_or.result) c.rest-field.result.now c.first_outside.result c.unwrap_or-2.result c.rest-field.ensures c.first_outside.ensures c.unwrap_or-2.ensures in
    rw (to, from)
