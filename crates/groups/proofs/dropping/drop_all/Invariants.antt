use Rattle.std.proofs.Common.{◌≡◌, List}
use Rattle.groups.specs.declared.seats.Seat.{Seat}
use Rattle.groups.specs.Crew.{AreSeated}
use Rattle.groups.proofs.Dropped.{AreGivenTo, cut_first}
use Rattle.groups.proofs.dropping.drop_all.Given as goal

abbrev pub invariant-loop-place : goal.invariant-loop-place
invariant-loop-place g l =
    let t = g.T.Turns.turn_of in
    record {
      components : l.components ≡ cut_first t l.bound l.place l.initial.components;
      given : AreGivenTo t l.bound l.place l.initial.components l.lists;
      seated : (seats : List Seat) → AreSeated t l.initial.components seats → AreSeated t l.components seats;
    }
