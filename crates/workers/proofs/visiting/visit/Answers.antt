use Rattle.std.proofs.Common.{ap, length, subst, sym, ◌∙◌}
use Rattle.group_exchange.specs.Seen.{KeepsOthers, Knows}
use Rattle.workers.specs.declared.desk.Desk.{Desk}
use Rattle.workers.specs.Crews.{StaysDivided}
use Rattle.workers.proofs.Held.{held_again, may_give_back, taken_knows}
use Rattle.workers.proofs.visiting.visit.Goals as goal

pub meet-met-requires-clause-known : goal.meet-met-requires-clause-known
meet-met-requires-clause-known g c κs within =
    let t = g.T.Turns.turn_of in
    let w = c.args.worker.now in
    let hold = c.hold-lent in
    subst (λ (d : Desk g.row.T.Denot). Knows t d.exchange w.lease) (sym c.deref_mut.ensures.value) (taken_knows t c.args.shared.now.board w.pass hold.new.pass w.lease hold.result c.requires.0 hold.ensures)

pub give_back-requires-clause-others : goal.give_back-requires-clause-others
give_back-requires-clause-others g c =
    let w = c.args.worker.now in
    let hold = c.hold-lent in
    let met = c.meet-met in
    let new = met.new.desk.exchange in
    may_give_back g.T.Turns.turn_of c.args.shared.now.board w.pass hold.new.pass w.lease hold.result c.requires.0 hold.ensures new
    (met.ensures.there ∙ ap (λ (d : Desk g.row.T.Denot). length d.exchange.stubs) c.deref_mut.ensures.value)
    (subst (λ (d : Desk g.row.T.Denot). KeepsOthers w.lease.number d.exchange new) c.deref_mut.ensures.value met.ensures.others)

pub returns-then-has_finished : goal.returns-then-has_finished
returns-then-has_finished g c =
    let w = c.args.worker.now in
    let hold = c.hold-lent in
    let met = c.meet-met in
    let back = c.give_back in
    let new = met.new.desk.exchange in
    let divided = subst (λ (d : Desk g.row.T.Denot). StaysDivided d.exchange new) c.deref_mut.ensures.value met.ensures.divided in
    (held_again g.T.Turns.turn_of c.args.shared.now.board w.pass hold.new.pass w.lease hold.result c.requires.0 hold.ensures new back.new.pass met.new.lease divided met.ensures.same met.ensures.window met.ensures.known back.ensures.pass back.ensures.given back.ensures.section, c.publish.ensures.seat)

pub returns-else-has_finished : goal.returns-else-has_finished
returns-else-has_finished g c =
    let w = c.args.worker.now in
    let hold = c.hold-lent in
    let met = c.meet-met in
    let back = c.give_back in
    let new = met.new.desk.exchange in
    let divided = subst (λ (d : Desk g.row.T.Denot). StaysDivided d.exchange new) c.deref_mut.ensures.value met.ensures.divided in
    (held_again g.T.Turns.turn_of c.args.shared.now.board w.pass hold.new.pass w.lease hold.result c.requires.0 hold.ensures new back.new.pass met.new.lease divided met.ensures.same met.ensures.window met.ensures.known back.ensures.pass back.ensures.given back.ensures.section, c.publish.ensures.seat)
