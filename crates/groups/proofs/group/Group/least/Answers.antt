use Rattle.std.proofs.Common.{ℕ, ◌≤◌, subst, ap}
use Rattle.event_keys.specs.Ranks.{rank_of_bound}
use Rattle.virtual_time.specs.Groups.Leases.{IsFloor}
use Rattle.virtual_time.specs.Machine.{Lawful}
use Rattle.rollback.specs.ComponentView.{machine_of}
use Rattle.groups.specs.GroupView.{AreMembers, GroupView, lease_of}
use Rattle.groups.specs.Moves.{theory}
use Rattle.groups.proofs.Floors.{either_key, floor_is}
use Rattle.groups.proofs.group.Group.least.Goals as goal

pub returns : goal.returns
returns g c =
    let t = g.T.Turns.turn_of in
    let f = c.self.inside in
    let own : GroupView _ = record { number = f.number; setup = f.members.setup; base = f.members.base; components = f.members.components; floor = f.floor; tray = f.tray; out = f.out; window = f.window } in
    let b = rank_of_bound c.lesser.result in
    let law : Lawful (machine_of t f.members.setup) = subst (λ p. Lawful (machine_of t p)) c.setup.ensures c.machine_is_lawful.ensures.lawful in
    subst (λ (v : GroupView _). (group : ℕ → ℕ) → AreMembers group v.number v.components → IsFloor (theory t v) group v.number b (lease_of (theory t v) v).part) c.self.view_is
    (floor_is t own c.self.invariant.0 law c.members_law.ensures c.order_law.ensures c.least_law.ensures.low c.least_law.ensures.most b (subst (λ n. b ≤ n) c.next.ensures c.lesser.ensures.first) (subst (λ x. b ≤ rank_of_bound x) c.least.ensures c.lesser.ensures.second)
    (either_key c.lesser.result c.next.result c.least.result _ _ c.lesser.ensures.either c.next.ensures (ap rank_of_bound c.least.ensures)))
