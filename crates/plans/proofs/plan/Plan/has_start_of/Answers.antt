use Rattle.std.proofs.Common.{◌∙◌, refl}
use Rattle.terms.specs.SameTrees.{same_term}
use Rattle.terms.specs.TermTree.{term_tree}
use Rattle.terms.specs.contracts.same.TermPartialEq.TheImpl as term_eq
use Rattle.io_automata.specs.Automata.{component_at}
use Rattle.plans.specs.Plans.{composition}
use Rattle.plans.proofs.Pairs.{by_views}
use Rattle.plans.proofs.plan.Plan.has_start_of.Goals as goal

pub returns : goal.returns
returns c =
    let start = (component_at (composition c.args.self.now) c.args.i).start in
    let others = (component_at (composition c.args.other.now) c.args.i).start in
    c.eq.ensures
    ∙ by_views term_tree term_eq.ghosts.eq same_term (λ a b. refl) c.start_terms.result.now c.start_terms-2.result.now start others c.start_terms.ensures c.start_terms-2.ensures
