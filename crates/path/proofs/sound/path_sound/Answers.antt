-- `path_sound`: one record of each kind, counts within the columns, and then the other clauses.
use mathlib.Core.Path.{sym, ◌∙◌}
use Rattle.path.specs.Records.{lent}
use Rattle.path.proofs.Clauses.{sound_none, sound-past, sound_more}
use Rattle.path.proofs.sound.path_sound.Goals as goal

pub one_of_each-requires : goal.one_of_each-requires
one_of_each-requires c = tt

pub returns-then-not-one_of_each : goal.returns-then-not-one_of_each
returns-then-not-one_of_each c =
    let a = c.args in
    let l = lent a.cols.now in
    sym (sound_none a.p l (sym c.one_of_each.ensures ∙ c.if-not-one_of_each.true))

pub within_bounds-requires : goal.within_bounds-requires
within_bounds-requires c = tt

pub returns-then-not-within_bounds : goal.returns-then-not-within_bounds
returns-then-not-within_bounds c =
    let a = c.args in
    let l = lent a.cols.now in
    sym (sound-past a.p l (sym c.one_of_each.ensures ∙ c.if-not-one_of_each.false) (sym c.within_bounds.ensures ∙ c.if-not-within_bounds.true))

pub sound_path-requires : goal.sound_path-requires
sound_path-requires c = record { p_value = sym c.one_of_each.ensures ∙ c.if-not-one_of_each.false; in_columns = sym c.within_bounds.ensures ∙ c.if-not-within_bounds.false }

pub returns : goal.returns
returns c =
    let a = c.args in
    let l = lent a.cols.now in
    c.sound_path.ensures ∙ sym (sound_more a.p l (sym c.one_of_each.ensures ∙ c.if-not-one_of_each.false) (sym c.within_bounds.ensures ∙ c.if-not-within_bounds.false))
