use Rattle.std.proofs.Common.{ap, subst, sym, ◌∙◌}
use Rattle.io_automata.specs.Outcomes.{task_count}
use Rattle.plans.specs.Plans.{composition}
use Rattle.task_seed.specs.Clocks.{IsOwnTurn}
use Rattle.task_seed.specs.declared.clock.Clock.{Clock}
use Rattle.task_seed.specs.Setups.{plan_of}
use Rattle.task_seed.proofs.Reaching.{reaches_first}
use Rattle.task_seed.proofs.clock.Clock.start.Goals as goal

pub returns-clause-ok : goal.returns-clause-ok
returns-clause-ok g c =
    let t = g.T.Turns.turn_of in let setup = c.args.setup.now in
    let old = c.args.self.now in let mid = c.keep_first.new.self in
    let kept = c.in_ok-keep_first.ensures.kept in
    let new : Clock = record { component = mid.component; tasks = c.tasks-self.result; ticks = mid.ticks; read = mid.read; walk = mid.walk } in
    let own = ap (λ (k : Clock). k.component) kept in
    let none = c.requires in
    reaches_first t setup old.component old new
    (λ before. record {
      component = own ∙ before.component;
      read = subst (IsOwnTurn t setup old.component) (sym (ap (λ (k : Clock). k.read) kept)) before.read;
    })
    (c.tasks-self.ensures ∙ ap (λ p. task_count (composition p) mid.component) c.plan.ensures ∙ ap (λ i. task_count (composition (plan_of setup)) i) own)
    none c.in_ok-keep_first.ensures.ok
