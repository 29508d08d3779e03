use Rattle.std.proofs.Common.{◌≡◌, ap, length, map, sym, subst, ◌∙◌}
use Rattle.std.specs.Arc.{arc_value}
use Rattle.std.specs.List.{range_with_len}
use Rattle.io_automata.specs.Steps.{start_of}
use Rattle.plans.specs.MemoLaws.{blank_memo}
use Rattle.plans.specs.Plans.{composition}
use Rattle.task_seed.specs.Setups.{plan_of, system}
use Rattle.reference.specs.Taking.{plain}
use Rattle.reference.proofs.Stood.{first_before}
use Rattle.reference.proofs.standing.Standing.new.Goals as goal

pub invariant_of-result : goal.invariant_of-result
invariant_of-result g c =
    let setup = arc_value c.args.setup in
    let s = system g.T.Turns.turn_of setup in
    let states = c.in_ok-states.states.items in
    let plan_is = c.plan.ensures ∙ ap plan_of c.deref.ensures in
    let starts : states ≡ map (λ i. plain (start_of s.composition i)) (range_with_len 0 (length s.composition))
    = subst (λ p. states ≡ map (λ i. plain (start_of (composition p) i)) (range_with_len 0 (length (composition p)))) plan_is c.in_ok-states.ensures in (
      first_before s c.args.next states c.requires.first starts,
      record {
        many = c.in_ok-memos.ensures.many ∙ ap (λ p. length (composition p)) (c.plan-2.ensures ∙ ap plan_of c.deref-2.ensures);
        each = λ j memo state at there. blank_memo (composition (plan_of setup)) j state.current memo (c.in_ok-memos.ensures.blank j memo at);
      },
    )
