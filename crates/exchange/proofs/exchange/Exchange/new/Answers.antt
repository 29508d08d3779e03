use Rattle.std.proofs.Common.{[], None, length, map, refl, ap, subst, ◌∙◌}
use Rattle.std.proofs.lemmas.Result.{IfOk-weaker}
use Rattle.std.specs.Arc.{arc_value}
use Rattle.plans.specs.Plans.{composition}
use Rattle.task_seed.specs.Setups.{plan_of}
use Rattle.virtual_time.specs.Machine.{HasCount, Lawful}
use Rattle.virtual_time.specs.Worlds.{start_world}
use Rattle.rollback.specs.ComponentView.{machine_of}
use Rattle.exchange.proofs.Core.{ok_both}
use Rattle.exchange.specs.Start.{number_of}
use Rattle.exchange.proofs.Starting.{numbers_started, stand_first}
use Rattle.exchange.proofs.exchange.Exchange.new.Goals as goal

pub returns-clause-start : goal.returns-clause-start
returns-clause-start g c =
    let t = g.T.Turns.turn_of in
    let p = arc_value c.args.setup in
    let m = machine_of t p in
    let n = length (composition (plan_of p)) in
    let law : Lawful m = subst (λ x. Lawful (machine_of t x)) c.deref.ensures c.machine_is_lawful.ensures.lawful in
    let counted : HasCount m n = subst (λ x. HasCount (machine_of t x) (length (composition (plan_of x)))) c.deref.ensures c.machine_is_lawful.ensures.counted in
    let world = c.committed_is_reference.ensures.sound m n (start_world m) law (c.each_step_is_answered.ensures.reached m n (start_world m) [] law counted refl) in
    ok_both c.start.result (λ both e hs. stand_first t p None world (c.exchange_is_sound.ensures.start m n law).1 (c.exchange_is_core.ensures.start m law) both.0 e both.1.items hs) c.start.ensures.exchange c.start.ensures.leases

pub returns-clause-numbers : goal.returns-clause-numbers
returns-clause-numbers g c =
    let p = arc_value c.args.setup in
    IfOk-weaker c.start.result _ _ (λ both is. ap (map number_of) is ∙ numbers_started g.T.Turns.turn_of p None 0 (length (composition (plan_of p)))) c.start.ensures.leases
