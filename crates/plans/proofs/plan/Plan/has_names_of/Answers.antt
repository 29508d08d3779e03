use Rattle.std.proofs.Common.{◌≡◌, ◌∙◌, arith, length, nat_eq, refl}
use Rattle.std.specs.List.{list_all, zip}
use lib.Pointwise.{pointwise}
use Rattle.plans.specs.Plans.{text_of}
use Rattle.plans.specs.SamePlans.{same_text_of}
use Rattle.io_automata.specs.declared.automaton.ActionName.{ActionName}
use Rattle.plans.proofs.Pairs.{by_pairs, by_items}
use Rattle.plans.proofs.plan.Plan.has_names_of.Goals as goal

pub returns-then-len : goal.returns-then-len
returns-then-len c =
    let names = c.args.self.now.actions in
    let others = c.args.other.now.actions in
    let long : length names.items ≡ length others.items = omega (arith, c.len.ensures, c.len-2.ensures, c.if-len.true, names.ok.0, others.ok.0) in
    let left = c.as_slice.ensures.value in
    let right = c.as_slice-then-len.ensures.value in
    c.have_same_texts.ensures
    ∙ (λ i. list_all (λ (p : ActionName × ActionName). same_text_of p.0 p.1) (zip (left i) (right i)))
    ∙ by_pairs same_text_of names.items others.items long
    ∙ by_items text_of same_text_of (pointwise nat_eq) (λ a b. refl) names.items others.items
