use Rattle.std.proofs.Common.{ap, sym, subst, ◌∙◌}
use Rattle.event_keys.specs.Ranks.{rank_of_bound}
use Rattle.virtual_time.specs.Groups.Leases.{IsFloor}
use Rattle.groups.specs.GroupView.{AreMembers, GroupView, lease_of}
use Rattle.groups.specs.Moves.{theory}
use Rattle.group_exchange.proofs.meeting.meet_stub.Goals as goal

pub returns-clause-floor : goal.returns-clause-floor
returns-clause-floor g c group_of mine =
    let t = g.T.Turns.turn_of in
    let old = c.args.group.now in
    let least = c.least-floor.result in
    let low = subst (λ (x : GroupView _). AreMembers group_of x.number x.components → IsFloor (theory t x) group_of x.number (rank_of_bound least) (lease_of (theory t x) x).part) c.append_tray.ensures.tray (c.least-floor.ensures group_of) mine in
    let new = c.set_floor.ensures ∙ ap (λ (x : GroupView _). record x { floor = least }) c.append_tray.ensures.tray in
    subst (λ (y : GroupView _). IsFloor (theory t old) group_of old.number (rank_of_bound y.floor) (lease_of (theory t old) y).part) (sym new) low
