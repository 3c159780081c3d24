-- `word_in`: what the word means by the entries that are left is what it means by all.
use Rattle.std.proofs.Common.{◌≡◌, map, drop}
use Rattle.route.specs.Codes as codes
use Rattle.route.proofs.fields.word_in.Given as goal

abbrev pub invariant-loop-entry : goal.invariant-loop-entry
invariant-loop-entry g l =
    codes.code_of (map (λ e. record { word = e.0.now; code = e.1 }) (drop l.entry-index l.table)) l.w ≡ codes.code_of (map (λ e. record { word = e.0.now; code = e.1 }) l.table) l.w
