use Rattle.std.proofs.Common.{[], length, refl, sym, ap, subst, subst₂, ◌∙◌}
use Rattle.std.specs.Arc.{arc_value}
use Rattle.plans.specs.Plans.{composition}
use Rattle.task_seed.specs.Setups.{plan_of}
use Rattle.virtual_time.specs.Machine.{HasCount, Lawful}
use Rattle.virtual_time.specs.Worlds.{start_world}
use Rattle.rollback.specs.ComponentView.{machine_of}
use Rattle.partitions.specs.Groups.{group_count, groups_of}
use Rattle.partitions.specs.Partitions.{IsPartition}
use Rattle.group_exchange.specs.ExchangeView.{exchange_of, group_at}
use Rattle.group_exchange.specs.Start.{AreStarted, StandForStart, start_shared_within}
use Rattle.group_exchange.proofs.Starting.{seen, stand_first}
use Rattle.group_exchange.proofs.start.start_both.Goals as goal

pub returns-clause-seen : goal.returns-clause-seen
returns-clause-seen g c =
    let t = g.T.Turns.turn_of in
    let setup = arc_value c.args.setup in
    let n = length (composition (plan_of setup)) in
    let m = machine_of t setup in
    let groups = groups_of c.args.partition.now in
    let leases = c.in_ok-leases.leases.items in
    let made = c.in_ok-leases.ensures.leases in
    let list = c.group_of-groups.ensures.list in
    let started : AreStarted t setup groups (length leases) leases = subst₂ (λ gs k. AreStarted t setup gs k leases) list (sym made.many) made in
    let partition : IsPartition n (length leases) groups
    = subst₂ (λ k gs. IsPartition k gs groups) c.requires (sym c.groups.ensures ∙ sym made.many) (subst (λ gs. IsPartition (length gs) (group_count c.args.partition.now) gs) list c.group_of-groups.ensures.partition) in
    let is = c.in_ok-exchange.ensures ∙ ap (λ gs. start_shared_within t setup gs c.args.window c.deref-2.result.now) list ∙ ap (λ ls. start_shared_within t setup groups c.args.window ls) c.deref-2.ensures.value in
    ap (exchange_of m) is ∙ seen t setup groups leases partition started

pub returns-clause-start : goal.returns-clause-start
returns-clause-start g c =
    let t = g.T.Turns.turn_of in
    let setup = arc_value c.args.setup in
    let n = length (composition (plan_of setup)) in
    let m = machine_of t setup in
    let groups = groups_of c.args.partition.now in
    let leases = c.in_ok-leases.leases.items in
    let made = c.in_ok-leases.ensures.leases in
    let list = c.group_of-groups.ensures.list in
    let started : AreStarted t setup groups (length leases) leases = subst₂ (λ gs k. AreStarted t setup gs k leases) list (sym made.many) made in
    let partition : IsPartition n (length leases) groups
    = subst₂ (λ k gs. IsPartition k gs groups) c.requires (sym c.groups.ensures ∙ sym made.many) (subst (λ gs. IsPartition (length gs) (group_count c.args.partition.now) gs) list c.group_of-groups.ensures.partition) in
    let is = c.in_ok-exchange.ensures ∙ ap (λ gs. start_shared_within t setup gs c.args.window c.deref-2.result.now) list ∙ ap (λ ls. start_shared_within t setup groups c.args.window ls) c.deref-2.ensures.value in
    let law : Lawful m = subst (λ p. Lawful (machine_of t p)) c.deref.ensures c.machine_is_lawful.ensures.lawful in
    let counted : HasCount m n = subst (λ p. HasCount (machine_of t p) (length (composition (plan_of p)))) c.deref.ensures c.machine_is_lawful.ensures.counted in
    let world = c.committed_is_reference.ensures.sound m n (start_world m) law (c.each_step_is_answered.ensures.reached m n (start_world m) [] law counted refl) in
    subst (λ x. StandForStart t setup groups x leases) (sym is)
    (stand_first t setup groups leases partition started world (c.group_exchange_is_sound.ensures.start m (group_at groups) n law counted).1 (c.group_exchange_is_core.ensures.start m (group_at groups) n law counted))
