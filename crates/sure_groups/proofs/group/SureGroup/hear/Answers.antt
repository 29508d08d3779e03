use Rattle.std.proofs.Common.{drop, slice_set, subst, sym}
use Rattle.std.specs.Arc.{arc_value}
use Rattle.task_seed.specs.Setups.{system}
use Rattle.sure_groups.specs.Sure.{AreSure}
use Rattle.sure_groups.proofs.Heard.{heard_of, is_for_one}
use Rattle.sure_groups.proofs.group.SureGroup.hear.Goals as goal

pub put_inputs-requires : goal.put_inputs-requires
put_inputs-requires g c =
    let x = c.args.self.now in
    is_for_one (system g.T.Turns.turn_of (arc_value x.setup)) x.hearing.groups.items x.members.items c.requires.sure.many c.args.packet c.requires.packet

pub returns-clause-sure : goal.returns-clause-sure
returns-clause-sure g c =
    let x = c.args.self.now in
    let s = system g.T.Turns.turn_of (arc_value x.setup) in
    let is = c.in_ok-check_next.ensures in
    subst (λ n. AreSure s x.hearing.groups.items (slice_set x.hearing.heard.items n c.args.packet.until) x.hearing.me c.put_inputs.new.members.items (drop x.at x.own.items) x.until x.bags.items x.slots.items) (sym c.from.ensures)
    (heard_of s x.hearing.groups.items x.hearing.heard.items x.hearing.me x.members.items c.put_inputs.new.members.items (drop x.at x.own.items) x.until x.bags.items x.slots.items c.args.packet c.requires.sure c.requires.packet is.to is.from is.since is.up c.in_ok-put_inputs.ensures)
