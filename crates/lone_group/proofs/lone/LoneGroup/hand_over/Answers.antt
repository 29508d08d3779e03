use Rattle.std.proofs.Common.{ap, subst, sym, ◌∙◌, arith, length, ◌<◌, ◌+◌}
use Rattle.plans.specs.Plans.{composition}
use Rattle.task_seed.specs.Machines.{machine}
use Rattle.task_seed.specs.Setups.{plan_of, system}
use Rattle.virtual_time.specs.Machine.{HasCount, Lawful}
use Rattle.reference.specs.Queues.{rank_or_end}
use Rattle.std.specs.Prelude.{drop}
use Rattle.lone_group.specs.Held.{IsHeld}
use Rattle.lone_group.proofs.Counting.{few}
use Rattle.lone_group.proofs.Stepping.{given_few, held_given}
use Rattle.lone_group.proofs.lone.LoneGroup.hand_over.Goals as goal

pub overflow_add-given : goal.overflow_add-given
overflow_add-given g c =
    let t = g.T.Turns.turn_of in
    let l = c.self.inside in
    let s = system t l.standing.setup in
    let bound = rank_or_end l.standing.next in
    let within = c.self.invariant.part.within in
    let lawful : Lawful (machine s) = subst (λ x. Lawful (machine (system t x))) c.setup.ensures c.machine_is_lawful.ensures.lawful in
    let counted : HasCount (machine s) (length s.composition) = subst (λ x. HasCount (machine (system t x)) (length (composition (plan_of x)))) c.setup.ensures c.machine_is_lawful.ensures.counted in
    let sum = c.reference_is_counted.ensures.sum (machine s) (length s.composition) bound lawful counted within in
    let short : length s.composition < 65536 = subst (λ n. n < 65536) (c.components.ensures ∙ ap (λ x. length (composition x)) c.plan.ensures ∙ ap (λ x. length (composition (plan_of x))) c.setup-2.ensures) c.is_few.ensures in
    let low = few s bound within short (λ i n. c.reference_is_counted.ensures.before (machine s) bound i n lawful) sum in
    let fits = given_few s l.standing.next (drop l.at l.due.items) l.until l.first l.used l.slots.items c.self.invariant low in
    let same = c.replace-used.ensures.value in
    omega (arith, fits, same)

pub invariant_of-self : goal.invariant_of-self
invariant_of-self g c =
    let l = c.self.inside in
    let s = system g.T.Turns.turn_of l.standing.setup in
    let given = l.first + c.replace-used.result in
    subst (λ n. IsHeld s l.standing.next (drop l.at l.due.items) l.until given n c.replace-slots.new.dest.items) (sym c.replace-used.ensures.after)
    (held_given s l.standing.next (drop l.at l.due.items) l.until l.first l.used given l.slots.items c.replace-slots.new.dest.items (ap (λ n. l.first + n) c.replace-used.ensures.value) c.self.invariant)
