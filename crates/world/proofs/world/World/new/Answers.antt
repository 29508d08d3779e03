use Rattle.std.proofs.Common.{◌≡◌, ap, length, map, refl, subst, sym, ◌∙◌, arith}
use Rattle.std.specs.Arc.{arc_value}
use Rattle.plans.specs.Plans.{composition}
use Rattle.task_seed.specs.declared.setup.Setup.{Setup}
use Rattle.task_seed.specs.Setups.{plan_of, system}
use Rattle.rollback.specs.ComponentView.{machine_of}
use Rattle.world.specs.Simulation.{IsSimulation, Simulation, world_of}
use Rattle.rollback.specs.ComponentView.{lowest_bound, start_held}
use Rattle.std.proofs.Common.{[], ◌∷◌, ◌++◌}
use Rattle.std.specs.List.{range_with_len}
use Rattle.std.proofs.lemmas.List.FromFn.{map-range_with_len_more}
use Rattle.event_keys.specs.declared.outcome.Turned.{Turned}
use Rattle.raw_events.specs.Around.{Around}
use Rattle.world.specs.Simulation.{start_simulation}
use Rattle.world.proofs.Starting.{start_is, start_kept}
use Rattle.world.proofs.world.World.new.Goals as goal

pub loop-i-preserved : goal.loop-i-preserved
loop-i-preserved g c =
    let t = g.T.Turns.turn_of in
    let p = arc_value c.args.setup in
    let i = c.loop-i.i in
    let one : c.in_ok-new.field-0 ≡ start_held t p i = c.in_ok-new.ensures ∙ ap (λ x. start_held t x i) c.in_ok-try_clone.ensures in
    c.in_ok-push.ensures.items ∙ ap (λ l. l ++ c.in_ok-new.field-0 ∷ []) c.loop-i.invariant ∙ ap (λ x. map (start_held t p) (range_with_len 0 i) ++ x ∷ []) one ∙ sym (map-range_with_len_more (start_held t p) 0 i i (omega arith))

pub invariant_of-result : goal.invariant_of-result
invariant_of-result g c =
    let t = g.T.Turns.turn_of in
    let p = arc_value c.args.setup in
    let count = c.components-i-end.ensures ∙ ap (λ plan. length (composition plan)) c.plan.ensures ∙ ap (λ x. length (composition (plan_of x))) c.deref.ensures in
    let all : c.loop-i.i ≡ length (composition (plan_of p)) = omega (arith, c.loop-i-test.false, count, c.loop-i.auto.i-end) in
    let items = c.loop-i.invariant ∙ ap (λ n. map (start_held t p) (range_with_len 0 n)) all in
    let before = ap (λ (l : Around Turned). l.before) c.new-3.ensures in
    let same : ◌≡◌ {A = Simulation (Setup _)} (record { setup = p; components = c.loop-i.components.items; flight = c.new-2.result; bound = lowest_bound; committed = c.new-3.result.before }) (start_simulation t p)
    = λ v. record { setup = p; components = items v; flight = c.new-2.ensures v; bound = lowest_bound; committed = before v } in
    (ap (λ (l : Around Turned). l.after) c.new-3.ensures, subst (IsSimulation (system t p)) (sym same) (start_kept t p refl))

pub returns-clause-start : goal.returns-clause-start
returns-clause-start g c =
    let t = g.T.Turns.turn_of in
    let p = arc_value c.args.setup in
    let count = c.components-i-end.ensures ∙ ap (λ plan. length (composition plan)) c.plan.ensures ∙ ap (λ x. length (composition (plan_of x))) c.deref.ensures in
    let all : c.loop-i.i ≡ length (composition (plan_of p)) = omega (arith, c.loop-i-test.false, count, c.loop-i.auto.i-end) in
    let items = c.loop-i.invariant ∙ ap (λ n. map (start_held t p) (range_with_len 0 n)) all in
    let before = ap (λ (l : Around Turned). l.before) c.new-3.ensures in
    let same : ◌≡◌ {A = Simulation (Setup _)} (record { setup = p; components = c.loop-i.components.items; flight = c.new-2.result; bound = lowest_bound; committed = c.new-3.result.before }) (start_simulation t p)
    = λ v. record { setup = p; components = items v; flight = c.new-2.ensures v; bound = lowest_bound; committed = before v } in
    ap (world_of (machine_of t p)) same ∙ start_is t p
