use Rattle.std.proofs.Common.{◌≡◌, ◌∙◌, sym, ap, subst}
use Rattle.event_keys.specs.declared.key.Bound.{Bound}
use Rattle.event_keys.specs.Ranks.{rank_of_bound}
use Rattle.virtual_time.specs.Exchange.Leases.{IsFloor}
use Rattle.antimessage.specs.Bags.{least_of}
use Rattle.task_seed.specs.Setups.{system}
use Rattle.task_seed.specs.Machines.{machine}
use Rattle.virtual_time.specs.Machine.{Lawful}
use Rattle.exchange.specs.LeaseView.{part_of}
use Rattle.exchange.specs.ExchangeView.{earlier}
use Rattle.exchange.proofs.Lowest.{floor_is}
use Rattle.exchange.proofs.meeting.floor_of.Goals as goal

pub returns : goal.returns
returns g c =
    let t = g.T.Turns.turn_of in
    let x = c.args.component.now in
    let s = system t x.setup in
    let law : Lawful (machine s) = subst (λ p. Lawful (machine (system t p))) c.setup.ensures c.machine_is_lawful.ensures.lawful in
    let is : c.earlier.result ≡ earlier c.next.result (least_of c.args.tray.now) = c.earlier.ensures ∙ ap (earlier c.next.result) c.least.ensures in
    subst (λ (b : Bound). IsFloor (machine s) x.number (rank_of_bound b) (part_of x.number x.history c.args.tray.now)) (sym is)
    (floor_is s law x.number x.history c.args.tray.now c.next.result c.lists_law.ensures.pending c.order_law.ensures c.requires c.next.ensures)
