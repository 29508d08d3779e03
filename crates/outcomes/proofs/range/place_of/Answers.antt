use Rattle.std.proofs.Common.{◌≡◌, ◌<◌, ◌∙◌, ap, sym, subst}
use Rattle.io_automata.specs.Tuples.{choices, picked}
use Rattle.io_automata.specs.declared.automaton.Param.{Param}
use Rattle.terms.specs.Shapes.{count, member, place}
use Rattle.outcomes.proofs.Members.{place_member}
use Rattle.outcomes.proofs.range.place_of.Goals as goal

pub returns-in-Member : goal.returns-in-Member
returns-in-Member c = λ formals p below is.
    let listed = c.in-Member.listed in
    let less : p < count listed = subst (λ (param : Param). p < choices param) c.in-Member.is below in
    let member_is : member listed p ≡ c.args.scalar = subst (λ (param : Param). picked formals param p ≡ c.args.scalar) c.in-Member.is is in
    sym (c.place_in.ensures ∙ ap (place listed) (sym member_is) ∙ place_member listed p (c.requires.complete listed c.in-Member.is) less)
