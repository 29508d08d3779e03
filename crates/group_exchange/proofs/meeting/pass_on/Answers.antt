use Rattle.std.proofs.Common.{◌≡◌, ◌<◌, [], length, ap, sym, subst, ◌∙◌, arith}
use Rattle.std.specs.Prelude.{Some, slice_get, slice_index_or}
use Rattle.std.proofs.lemmas.Option.{slice_get-get_or}
use Rattle.event_keys.specs.Ranks.{rank_of_bound}
use Rattle.antimessage.specs.Bags.{insert_all}
use Rattle.virtual_time.specs.Groups.Leases.{IsFloor}
use Rattle.groups.specs.GroupView.{AreMembers, GroupView, lease_of}
use Rattle.groups.specs.Moves.{theory}
use Rattle.group_exchange.specs.ExchangeView.{group_at, inbox_of}
use Rattle.group_exchange.proofs.Spreading.{passed_on}
use Rattle.group_exchange.proofs.meeting.pass_on.Goals as goal

pub returns-clause-passed : goal.returns-clause-passed
returns-clause-passed g c =
    passed_on (group_at c.args.groups.now) c.args.group.now.number c.from-i.result (c.from-i.ensures ∙ c.number.ensures) c.args.bound c.meet_stub.new.group.floor c.args.group.now.out c.take_out-out.result c.take_out-out.ensures.taken c.args.copies c.args.stubs.now
    c.index-stubs-i.result c.meet_stub.new.own c.spread.new.stubs c.requires.there c.meet_stub.ensures.stub c.spread.ensures.come c.spread.ensures.many

pub returns-clause-group : goal.returns-clause-group
returns-clause-group g c =
    let now = c.args.group.now in
    let floor = c.meet_stub.new.group.floor in
    let i = c.from-i.result in
    let own = slice_index_or c.args.stubs.now i c.index-stubs-i.result in
    let is : i ≡ now.number = c.from-i.ensures ∙ c.number.ensures in
    let small = c.requires.there in
    let short : i < length c.args.stubs.now = omega (arith, is, small) in
    let there : slice_get c.args.stubs.now now.number ≡ Some own = ap (slice_get c.args.stubs.now) (sym is) ∙ slice_get-get_or c.args.stubs.now i c.index-stubs-i.result short in
    c.meet_stub.ensures.group ∙ ap (λ (x : GroupView _). record x { tray = insert_all own.inbox x.tray; floor = floor }) c.take_out-out.ensures.rest
    ∙ ap (λ xs. record now { out = []; tray = insert_all xs now.tray; floor = floor }) (sym (ap inbox_of there))

pub returns-clause-floor : goal.returns-clause-floor
returns-clause-floor g c group_of mine =
    let t = g.T.Turns.turn_of in
    let new = c.meet_stub.new.group in
    subst (λ (x : GroupView _). AreMembers group_of x.number x.components → IsFloor (theory t x) group_of x.number (rank_of_bound new.floor) (lease_of (theory t x) new).part) c.take_out-out.ensures.rest (c.meet_stub.ensures.floor group_of) mine
