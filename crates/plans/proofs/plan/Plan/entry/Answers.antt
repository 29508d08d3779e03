use Rattle.std.proofs.Common.{ap, ◌∙◌}
use Rattle.std.specs.Option.{option_map}
use Rattle.std.specs.Prelude.{find}
use Rattle.io_automata.specs.Automata.{transition_of, component_at}
use Rattle.plans.specs.Plans.{composition}
use Rattle.io_automata.specs.Signatures.{has}
use Rattle.io_automata.specs.Found.{entry_found}
use Rattle.plans.proofs.plan.Plan.entry.Goals as goal

pub returns : goal.returns
returns c =
    let formals = c.formals.result.now in
    let entries = c.entries.result.now in
    ap (option_map transition_of) c.first_with.ensures
    ∙ (λ i. option_map transition_of (find (λ entry. has formals (record { name = c.name_of-name.ensures i; args = c.args_of-args.ensures i }) (transition_of entry)) entries))
    ∙ entry_found (component_at (composition c.args.self.now) c.args.i) c.args.action.now formals entries c.formals.ensures c.entries.ensures
