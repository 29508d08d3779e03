use Rattle.std.proofs.Common.{ap, ◌∙◌}
use Rattle.workers.proofs.Held.{at_rest_again, may_give_same}
use Rattle.workers.proofs.writing.collect.Goals as goal

pub give_back-requires-clause-others : goal.give_back-requires-clause-others
give_back-requires-clause-others g c =
    let hold = c.hold-lent in
    may_give_same c.args.shared.now.board c.args.caller.now.pass hold.new.pass hold.result hold.ensures c.deref_mut-2.result.now.exchange.stubs
    (ap (λ d. d.exchange.stubs) c.deref_mut-2.ensures.value ∙ c.take_cut-cut.ensures.stubs ∙ ap (λ d. d.exchange.stubs) c.deref_mut.ensures.value)

pub returns-clause-caller : goal.returns-clause-caller
returns-clause-caller g c =
    let h = c.requires in
    let hold = c.hold-lent in
    record {
      division = h.division;
      setup_is = h.setup_is;
      rest = at_rest_again c.args.shared.now.board c.args.caller.now.pass hold.new.pass hold.result hold.ensures h.division c.give_back.new.pass _ h.rest c.give_back.ensures.pass c.give_back.ensures.given;
      seat = h.seat;
      many = c.take_cut-cut.ensures.many ∙ h.many;
    }
