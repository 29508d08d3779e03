use Rattle.std.proofs.Common.{ap, subst}
use Rattle.virtual_time.specs.Machine.{Lawful}
use Rattle.rollback.specs.ComponentView.{machine_of}
use Rattle.exchange.specs.LeaseView.{LeaseView}
use Rattle.exchange.proofs.Windowed.{keeps_done}
use Rattle.exchange.proofs.holding.Holding.process_in_room.Goals as goal

pub returns-clause-window : goal.returns-clause-window
returns-clause-window g c =
    let t = g.T.Turns.turn_of in
    let own = c.args.self.now in
    let m = machine_of t own.component.setup in
    let law : Lawful m = subst (λ p. Lawful (machine_of t p)) c.setup.ensures c.machine_is_lawful.ensures.lawful in
    let next = c.process_next in
    keeps_done m law (c.window_law.ensures.process m) own.component.number own next.new.self next.result c.requires (ap (λ (h : LeaseView _). h.window) next.ensures.rest) next.ensures.record next.ensures.kept
