use Rattle.std.proofs.Common.{◌≡◌, Option, None, Some, true, refl, ap, sym, subst, ◌∙◌}
use Rattle.std.specs.Arc.{arc_value}
use Rattle.terms.specs.Named.{Named}
use Rattle.event_keys.specs.Entries.{action_of}
use Rattle.io_automata.specs.Outcomes.{outcome_of as chosen_of}
use Rattle.plans.specs.Plans.{composition}
use Rattle.plans.specs.Resting.{IsResting}
use Rattle.task_seed.specs.ClockLaws.{reached_walked}
use Rattle.task_seed.specs.Machines.{machine, outcome_by, turn_outcome}
use Rattle.task_seed.specs.Setups.{system, plan_of}
use Rattle.task_seed.specs.Taken.{outcome_of, turned_of}
use Rattle.task_seed.specs.Turning.{turn_in}
use Rattle.virtual_time.specs.Records.{next_of}
use Rattle.rollback.specs.ComponentView.{ComponentView, machine_of, is_turning}
use Rattle.rollback.specs.ComponentInvariant.{next_number, record_of}
use Rattle.rollback.specs.Stepped.{IsNextTurn}
use Rattle.rollback.proofs.Stepping.{turned_is}
use Rattle.rollback.proofs.component.Component.next_into.Goals as goal

action_is : (found : Option Named) → action_of (outcome_of found) ≡ found
action_is None = refl
action_is (Some action) = refl

pub outcome_into-requires-clause-resting : goal.outcome_into-requires-clause-resting
outcome_into-requires-clause-resting g c =
    let f = c.self.inside in
    let plan : composition c.plan.result.now ≡ composition (plan_of (arc_value f.setup)) = ap composition c.plan.ensures ∙ ap (λ u. composition (plan_of u)) c.deref-2.ensures in
    subst (λ p. IsResting p f.number f.store.current f.resting) (sym plan) c.self.invariant.2

pub returns-clause-next : goal.returns-clause-next
returns-clause-next g c =
    let t = g.T.Turns.turn_of in
    let f = c.self.inside in
    let s = system t (arc_value f.setup) in
    let key = c.in-Some.key in
    let turn = c.turn_again-turn.result in
    let found = c.outcome_into.new.found in
    let turns : is_turning (next_of (machine s) f.number (record_of f.store f.first f.done f.pending f.owed)) ≡ true
    = subst (λ (h : ComponentView _). is_turning (next_of (machine_of t h.setup) h.number h.history) ≡ true) (sym c.self.view_is) c.requires.turning in
    let there : Some turn ≡ turn_in s f.number key.number
    = subst (λ u. Some turn ≡ turn_in (system t u) f.number key.number) c.deref.ensures
    (subst (λ i. Some turn ≡ turn_in (system t c.deref.result.now) i key.number) c.self.invariant.1.reached.own.component c.turn_again-turn.ensures.turn) in
    let plan : composition c.plan.result.now ≡ s.composition = ap composition c.plan.ensures ∙ ap (λ u. composition (plan_of u)) c.deref-2.ensures in
    let came : action_of (outcome_of found) ≡ turn_outcome s f.number key.number f.store.current
    = action_is found ∙ c.in_ok-outcome_into.ensures.found
    ∙ ap (λ p. chosen_of p f.number turn.task turn.choice f.store.current) plan
    ∙ ap (λ o. outcome_by s f.number o f.store.current) there in
    subst (λ (h : ComponentView _). IsNextTurn t h (turned_of found key)) c.self.view_is
    (turned_is s f.number f.first f.store f.done f.pending f.owed f.coming c.self.invariant.0 (turned_of found key) c.in-Some.is turns came)

pub invariant_of-self : goal.invariant_of-self
invariant_of-self g c =
    let f = c.self.inside in
    let walked = reached_walked g.T.Turns.turn_of (arc_value f.setup) f.number f.clock c.turn_again-turn.new.self (next_number f.first f.done) c.turn_again-turn.ensures.kept c.self.invariant.1 in
    let plan : composition c.plan.result.now ≡ composition (plan_of (arc_value f.setup)) = ap composition c.plan.ensures ∙ ap (λ u. composition (plan_of u)) c.deref-2.ensures in
    (c.self.invariant.0, walked, subst (λ p. IsResting p f.number f.store.current c.outcome_into.new.resting) plan c.outcome_into.ensures.resting)

pub invariant_of-self-2 : goal.invariant_of-self-2
invariant_of-self-2 g c =
    let f = c.self.inside in
    let walked = reached_walked g.T.Turns.turn_of (arc_value f.setup) f.number f.clock c.turn_again-turn.new.self (next_number f.first f.done) c.turn_again-turn.ensures.kept c.self.invariant.1 in
    let plan : composition c.plan.result.now ≡ composition (plan_of (arc_value f.setup)) = ap composition c.plan.ensures ∙ ap (λ u. composition (plan_of u)) c.deref-2.ensures in
    (c.self.invariant.0, walked, subst (λ p. IsResting p f.number f.store.current c.outcome_into.new.resting) plan c.outcome_into.ensures.resting)
