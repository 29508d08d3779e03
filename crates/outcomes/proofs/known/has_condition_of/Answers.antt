use Rattle.std.proofs.Common.{Some, ap, sym, option_copied, ◌∙◌}
use Rattle.std.specs.Option.{option_map}
use Rattle.terms.specs.SameTreeLaws.{term_is}
use Rattle.terms.specs.TermTree.{term_tree}
use Rattle.io_automata.specs.Automata.{Transition, transition_of}
use Rattle.outcomes.proofs.known.has_condition_of.Goals as goal

pub returns-in-Some : goal.returns-in-Some
returns-in-Some c same =
    ap (λ other. option_map (λ (t : Transition). t.precondition) (option_map transition_of (option_copied other))) c.in-Some.is
    ∙ ap (λ t. Some t) (term_is (term_tree c.in-Some.other.now.pre) (term_tree c.args.entry.now.pre) (sym c.eq.ensures ∙ same))
