use Rattle.std.proofs.Common.{◌≡◌, ◌∙◌, ap, length, map, refl, sym, subst}
use Rattle.std.specs.Prelude.{replicate}
use Rattle.std.specs.List.{range_with_len}
use Rattle.plans.specs.Plans.{composition}
use Rattle.io_automata.specs.Steps.{start_of}
use Rattle.plans.specs.MemoLaws.{blank_memo}
use Rattle.task_seed.specs.Setups.{plan_of, system}
use Rattle.task_seed.specs.Machines.{machine}
use Rattle.reference.specs.Clocks.{AreClocks}
use Rattle.reference.specs.Taking.{plain}
use Rattle.reference.proofs.Stepping.{start_at, start_found}
use Rattle.reference.proofs.frontier.Frontier.start.Goals as goal

pub returns-clause-stands : goal.returns-clause-stands
returns-clause-stands g c =
    let s = system g.T.Turns.turn_of c.args.setup.now in
    let law = c.machine_is_lawful.ensures.lawful in
    let states = c.in_ok-states.states.items in
    let starts : states ≡ map (λ i. plain (start_of s.composition i)) (range_with_len 0 (length s.composition))
    = subst (λ p. states ≡ map (λ i. plain (start_of (composition p) i)) (range_with_len 0 (length (composition p)))) c.plan-2.ensures c.in_ok-states.ensures in
    let places = c.in_ok-places.places.items in
    let numbers = c.in_ok-numbers.numbers.items in
    let many = c.components.ensures ∙ ap (λ p. length (composition p)) c.plan.ensures in
    let zeros = c.in_ok-numbers.ensures ∙ ap (λ n. replicate n 0) many in
    let at = start_at s places numbers states (c.in_ok-places.ensures (length s.composition) refl) zeros starts in
    (start_found s law c.machine_is_lawful.ensures.counted (λ b h. c.reference_is_complete.ensures.exists (machine s) b law h) (c.reference_is_one.ensures.same (machine s)) places numbers states at).stands

pub returns-clause-none : goal.returns-clause-none
returns-clause-none g c =
    let s = system g.T.Turns.turn_of c.args.setup.now in
    let law = c.machine_is_lawful.ensures.lawful in
    let states = c.in_ok-states.states.items in
    let starts : states ≡ map (λ i. plain (start_of s.composition i)) (range_with_len 0 (length s.composition))
    = subst (λ p. states ≡ map (λ i. plain (start_of (composition p) i)) (range_with_len 0 (length (composition p)))) c.plan-2.ensures c.in_ok-states.ensures in
    let places = c.in_ok-places.places.items in
    let numbers = c.in_ok-numbers.numbers.items in
    let many = c.components.ensures ∙ ap (λ p. length (composition p)) c.plan.ensures in
    let zeros = c.in_ok-numbers.ensures ∙ ap (λ n. replicate n 0) many in
    let at = start_at s places numbers states (c.in_ok-places.ensures (length s.composition) refl) zeros starts in
    (start_found s law c.machine_is_lawful.ensures.counted (λ b h. c.reference_is_complete.ensures.exists (machine s) b law h) (c.reference_is_one.ensures.same (machine s)) places numbers states at).taken

pub returns-clause-clocks : goal.returns-clause-clocks
returns-clause-clocks g c =
    subst (λ numbers. AreClocks g.T.Turns.turn_of c.args.setup.now numbers c.in_ok-clocks.clocks.clocks.items) (sym c.in_ok-numbers.ensures) (c.in_ok-clocks.ensures c.components.result)

pub returns-clause-memos : goal.returns-clause-memos
returns-clause-memos g c =
    record {
      many = c.in_ok-memos.ensures.many ∙ ap (λ p. length (composition p)) c.plan-3.ensures;
      each = λ j memo state at there. blank_memo (composition (plan_of c.args.setup.now)) j state.current memo (c.in_ok-memos.ensures.blank j memo at);
    }
