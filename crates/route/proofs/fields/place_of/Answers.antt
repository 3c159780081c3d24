-- `place_of`: the place for all trains, or one more than the type's number.
use Rattle.std.proofs.Common.{sym, ap, ◌∙◌, suc, map, Some, option_map, add-one, arith}
use Rattle.link.specs.Train.{type_number}
use Rattle.route.specs.Codes.{types, place_of_type, ◌is◌}
use Rattle.route.proofs.Codes.{first-is, first-not, code-map, type-number-up-to}
use Rattle.route.proofs.fields.place_of.Goals as goal

pub returns-then-is_word : goal.returns-then-is_word
returns-then-is_word c = first-is ("all" is 0) (map place_of_type types) c.args.w.now c.is_word.result c.is_word.ensures c.if-is_word.true

pub returns-in_err-train_type : goal.returns-in_err-train_type
returns-in_err-train_type c =
    let rest = sym (code-map (λ t. suc (type_number t)) types c.args.w.now) ∙ first-not ("all" is 0) (map place_of_type types) c.args.w.now c.is_word.result c.is_word.ensures c.if-is_word.false in
    c.from_residual.ensures ∙ ap (option_map (λ t. suc (type_number t))) (sym (c.in_err-train_type.was) ∙ c.type_of.ensures) ∙ rest

pub overflow_add-result : goal.overflow_add-result
overflow_add-result c = omega (arith, type-number-up-to c.in_ok-train_type.train_type, c.type_number.ensures)

pub returns : goal.returns
returns c =
    let rest = sym (code-map (λ t. suc (type_number t)) types c.args.w.now) ∙ first-not ("all" is 0) (map place_of_type types) c.args.w.now c.is_word.result c.is_word.ensures c.if-is_word.false in
    ap Some (add-one c.type_number.result ∙ ap suc c.type_number.ensures) ∙ ap (option_map (λ t. suc (type_number t))) (sym (c.in_ok-train_type.was) ∙ c.type_of.ensures) ∙ rest
