use Rattle.std.proofs.Common.{sym, subst}
use Rattle.std.specs.Arc.{arc_value}
use Rattle.rollback.specs.ComponentView.{lowest_bound}
use Rattle.groups.specs.Crew.{AreOf, AreSeated}
use Rattle.groups.specs.GroupView.{count_of, group_in}
use Rattle.groups.proofs.Starting.{each_start, own_start, to}
use Rattle.groups.proofs.members.Members.new.Goals as goal

pub invariant_of-result : goal.invariant_of-result
invariant_of-result g c =
    let t = g.T.Turns.turn_of in
    let setup = arc_value c.args.setup in
    let group = group_in (count_of setup) c.args.group_of.now in
    let placed = c.in_ok-placed in
    record {
      own = subst (AreOf setup lowest_bound) (sym placed.ensures.components) (own_start t setup group c.args.number (to t setup group c.args.number (count_of setup)) (each_start t setup group c.args.number (count_of setup)));
      few = placed.ensures.few;
      placed = placed.ensures.places;
      seated = subst (λ ys. AreSeated t ys c.in_ok-seats.seats.items) c.deref.ensures.value c.in_ok-seats.ensures;
    }
