use Rattle.std.proofs.Common.{◌<◌, subst, arith}
use Rattle.io_automata.specs.Tuples.{many}
use Rattle.outcomes.proofs.Picked.{one_member}
use Rattle.outcomes.proofs.making.picked.Goals as goal
use Rattle.io_automata.specs.declared.automaton.Param.{Param}
use Rattle.std.specs.Prelude.{◌∷◌, []}

pub overflow_cast-at : goal.overflow_cast-at
overflow_cast-at c =
    let less = one_member c.in-Member.listed c.args.at (subst (λ (param : Param). c.args.at < many (param ∷ [])) c.in-Member.is c.requires) in
    omega (arith, less, c.count_of-many.ensures, c.count_of-many.type_inv)
