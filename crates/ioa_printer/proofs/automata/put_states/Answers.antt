use Rattle.std.proofs.Common.{rules, ◌≡◌, ◌∷◌, map, ap}
use Rattle.ioa_trees.specs.Views.{view_variable}
use Rattle.ioa_printer.proofs.Printed.{states_put}
use Rattle.ioa_printer.proofs.automata.put_states.Goals as goal

pub returns : goal.returns
returns c =
    let found : c.args.variables.now ≡ c.in-Some.first.now ∷ c.in-Some.others.now = search rules in
    states_put _ _ _ _ _ _ _ (ap (map view_variable) found) c.in_ok-put_word.ensures c.in_ok-put_variable.ensures c.in_ok-put_more_variables.ensures
