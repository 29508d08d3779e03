use Rattle.std.proofs.Common.{◌≡◌}
use Rattle.std.specs.Arc.{arc_value}
use Rattle.groups.specs.GroupView.{count_of, group_in, start_components}
use Rattle.groups.proofs.Starting.{ArePlacedTo}
use Rattle.groups.proofs.start.start_placed.Given as goal

abbrev pub invariant-loop-i : goal.invariant-loop-i
invariant-loop-i g l =
    let setup = arc_value l.setup in
    record {
      components : l.components.items ≡ start_components g.T.Turns.turn_of setup (group_in (count_of setup) l.group_of) l.i l.number;
      placed : ArePlacedTo l.i l.components.items l.places.items;
    }
