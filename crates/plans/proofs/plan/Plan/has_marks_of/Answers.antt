use Rattle.std.proofs.Common.{◌≡◌, ◌∙◌, arith, length, refl}
use Rattle.std.specs.Bool.{beq}
use Rattle.std.specs.List.{list_all, zip}
use Rattle.plans.specs.Plans.{mark_of}
use Rattle.plans.specs.SamePlans.{same_mark_of}
use Rattle.io_automata.specs.declared.automaton.ActionName.{ActionName}
use Rattle.plans.proofs.Pairs.{by_pairs, by_items}
use Rattle.plans.proofs.plan.Plan.has_marks_of.Goals as goal

pub returns-then-len : goal.returns-then-len
returns-then-len c =
    let names = c.args.self.now.actions in
    let others = c.args.other.now.actions in
    let long : length names.items ≡ length others.items = omega (arith, c.len.ensures, c.len-2.ensures, c.if-len.true, names.ok.0, others.ok.0) in
    let left = c.as_slice.ensures.value in
    let right = c.as_slice-then-len.ensures.value in
    c.have_same_marks.ensures
    ∙ (λ i. list_all (λ (p : ActionName × ActionName). same_mark_of p.0 p.1) (zip (left i) (right i)))
    ∙ by_pairs same_mark_of names.items others.items long
    ∙ by_items mark_of same_mark_of beq (λ a b. refl) names.items others.items
