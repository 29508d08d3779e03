use Rattle.group_exchange.proofs.Copied.{counted}
use Rattle.group_exchange.proofs.copying.copies_of.Goals as goal

pub returns : goal.returns
returns c =
    let appended = c.flight_law.ensures.appended in
    (counted appended c.args.sent.now c.in_ok-of_sender.of_sender c.in_ok-of_sender.ensures, counted appended c.args.sent.now c.in_ok-of_receiver.of_receiver c.in_ok-of_receiver.ensures)
