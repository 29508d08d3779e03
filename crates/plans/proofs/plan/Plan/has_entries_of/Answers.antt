use Rattle.std.proofs.Common.{◌∙◌, refl}
use Rattle.io_automata.specs.Automata.{component_at, transition_of}
use Rattle.plans.specs.Plans.{composition}
use Rattle.io_automata.specs.SameCompositions.{same_entry, same_transition}
use Rattle.plans.proofs.Pairs.{by_views}
use Rattle.plans.proofs.plan.Plan.has_entries_of.Goals as goal

pub returns : goal.returns
returns c =
    let entries = (component_at (composition c.args.self.now) c.args.i).entries in
    let others = (component_at (composition c.args.other.now) c.args.i).entries in
    c.eq.ensures
    ∙ by_views transition_of same_entry same_transition (λ a b. refl) c.entries.result.now c.entries-2.result.now entries others c.entries.ensures c.entries-2.ensures
