use Rattle.std.proofs.Common.{rules, ◌≡◌, ◌++◌, All, sym, subst}
use Rattle.std.specs.Prelude.{IfSome, option_to_list}
use Rattle.std.proofs.lemmas.List.Elements.{All-pop, All-push}
use Rattle.gvt.specs.Seats.{IsSeatOf}
use Rattle.gvt.specs.declared.word.Seat.{Seat}
use Rattle.workers.specs.declared.crew.Worker.{Worker}
use Rattle.workers.specs.Crews.{IsOfAll}
use Rattle.workers.proofs.Gathered.{last_held}
use Rattle.workers.proofs.running.gather.Goals as goal

pub loop-pass-preserved : goal.loop-pass-preserved
loop-pass-preserved g c =
    let t = g.T.Turns.turn_of in
    let T = g.row.T.Denot in
    let i = c.loop-pass.invariant in
    let board = c.args.board.now in
    let S : Seat → Type 0 = IsSeatOf c.args.published.now in
    let Q : Worker T → Type 0 = IsOfAll t board c.args.published.now in
    let passes = subst (λ r. c.loop-pass.passes.items ≡ c.pop.new.self.items ++ option_to_list r) c.in-Some.is c.pop.ensures.items in
    let leases = subst (λ r. c.loop-pass.leases.items ≡ c.pop-in-Some.new.self.items ++ option_to_list r) c.in-Some-Some.is-0 c.pop-in-Some.ensures.items in
    let one = last_held t board c.loop-pass.passes.items c.pop.new.self.items c.in-Some.pass c.loop-pass.leases.items c.pop-in-Some.new.self.items c.in-Some-Some.lease passes leases i.many i.held in
    let seats = All-pop S c.loop-pass.seats.items c.pop-in-Some-2.new.self.items c.pop-in-Some-2.result c.pop-in-Some-2.ensures.items i.seats in
    let seat : S c.in-Some-Some.seat = subst (λ r. IfSome r S) c.in-Some-Some.is-1 seats.1 in
    record {
      held = one.0;
      seats = seats.0;
      many = one.2;
      many_seats = search rules;
      crew = subst (All Q) (sym c.in_ok-push.ensures.items) (All-push Q c.loop-pass.crew.items _ i.crew (one.1, seat));
    }
