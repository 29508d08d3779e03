use Rattle.std.proofs.Common.{length, sym, subst}
use Rattle.plans.specs.Plans.{composition}
use Rattle.task_seed.specs.Setups.{plan_of}
use Rattle.virtual_time.specs.Machine.{HasCount, Lawful}
use Rattle.rollback.specs.ComponentView.{machine_of}
use Rattle.groups.specs.GroupView.{GroupView}
use Rattle.group_exchange.specs.LeaseView.{IsValidLease, KeepsMembers}
use Rattle.group_exchange.specs.Seen.{MovesAlone, StaysTheSame}
use Rattle.groups.proofs.Placed.{members_same}
use Rattle.group_exchange.specs.Windows.{KeepsToWindow}
use Rattle.group_exchange.proofs.Windowed.{ahead_end, moved_within}
use Rattle.group_exchange.proofs.Leased.{ahead_keeps, known, members_kept, moved, valid_on}
use Rattle.group_exchange.proofs.lease.Lease.run_some.Goals as goal

pub invariant_of-self : goal.invariant_of-self
invariant_of-self g c =
    let t = g.T.Turns.turn_of in
    let old = c.self.inside.group in
    let new = c.run_ahead-ran.new.self in
    let n = length (composition (plan_of old.setup)) in
    let m = machine_of t old.setup in
    let law : Lawful m = subst (λ p. Lawful (machine_of t p)) c.setup.ensures c.machine_is_lawful.ensures.lawful in
    let counted : HasCount m n = subst (λ p. HasCount (machine_of t p) (length (composition (plan_of p)))) c.setup.ensures c.machine_is_lawful.ensures.counted in
    let k = ahead_keeps t old new c.run_ahead-ran.result.count c.run_ahead-ran.ensures.ahead in
    let valid = valid_on t old new k c.soundness_law.ensures.tray c.soundness_law-2.ensures.tray c.soundness_law-2.ensures.out (c.run_ahead-ran.ensures.moves) law (c.group_lease_law.ensures.is m) n counted (λ group. c.group_exchange_is_sound.ensures.alone m group) c.self.invariant.0 in
    let after = c.soundness_law-2.ensures.members in
    let within = moved_within m law (λ group. c.group_window_law.ensures.start m group) (λ group. c.group_window_law.ensures.settled m group) n old new c.run_ahead-ran.ensures.window k.number (members_same old.components new.components k.same) after.place after.apart
    valid.lease
    (λ group mine. known t old new k c.soundness_law.ensures.tray c.soundness_law-2.ensures.tray c.soundness_law-2.ensures.out (c.run_ahead-ran.ensures.moves) law (c.group_lease_law.ensures.is m) group mine n c.self.invariant.0 (c.group_exchange_is_sound.ensures.alone m group))
    (ahead_end t old new c.run_ahead-ran.result.count c.run_ahead-ran.ensures.ahead) c.self.invariant.2 in (
      subst (λ p. IsValidLease (machine_of t p) (length (composition (plan_of p))) new) (sym k.setup) valid,
      tt,
      subst (λ p. KeepsToWindow (machine_of t p) (length (composition (plan_of p))) new) (sym k.setup) within,
    )

pub returns-clause-moves : goal.returns-clause-moves
returns-clause-moves g c =
    let t = g.T.Turns.turn_of in
    let old = c.self.inside.group in
    let new = c.run_ahead-ran.new.self in
    let m = machine_of t old.setup in
    let law : Lawful m = subst (λ p. Lawful (machine_of t p)) c.setup.ensures c.machine_is_lawful.ensures.lawful in
    let k = ahead_keeps t old new c.run_ahead-ran.result.count c.run_ahead-ran.ensures.ahead in
    subst (λ (v : GroupView _). MovesAlone t v new) c.self.view_is
    (λ group mine. moved t old new k c.soundness_law.ensures.tray c.soundness_law-2.ensures.tray c.soundness_law-2.ensures.out (c.run_ahead-ran.ensures.moves) law (c.group_lease_law.ensures.is m) group mine
    (c.exchange_is_core.ensures.world m) (c.group_exchange_is_core.ensures.alone m group) (c.group_exchange_is_sound.ensures.alone m group))

pub returns-clause-known : goal.returns-clause-known
returns-clause-known g c =
    let t = g.T.Turns.turn_of in
    let old = c.self.inside.group in
    let new = c.run_ahead-ran.new.self in
    let n = length (composition (plan_of old.setup)) in
    let m = machine_of t old.setup in
    let law : Lawful m = subst (λ p. Lawful (machine_of t p)) c.setup.ensures c.machine_is_lawful.ensures.lawful in
    let k = ahead_keeps t old new c.run_ahead-ran.result.count c.run_ahead-ran.ensures.ahead in
    subst (λ (v : GroupView _). StaysTheSame t v new) c.self.view_is
    (λ group mine. known t old new k c.soundness_law.ensures.tray c.soundness_law-2.ensures.tray c.soundness_law-2.ensures.out (c.run_ahead-ran.ensures.moves) law (c.group_lease_law.ensures.is m) group mine n c.self.invariant.0 (c.group_exchange_is_sound.ensures.alone m group))

pub returns-clause-same : goal.returns-clause-same
returns-clause-same g c =
    let t = g.T.Turns.turn_of in
    let old = c.self.inside.group in
    let new = c.run_ahead-ran.new.self in
    subst (λ (v : GroupView _). KeepsMembers v new) c.self.view_is (members_kept t old new (ahead_keeps t old new c.run_ahead-ran.result.count c.run_ahead-ran.ensures.ahead))
