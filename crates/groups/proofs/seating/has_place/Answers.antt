use Rattle.std.proofs.Common.{length, ap, ◌∙◌}
use Rattle.std.specs.Prelude.{nat_lt}
use Rattle.groups.proofs.Seated.{has_place}
use Rattle.groups.proofs.seating.has_place.Goals as goal

pub returns : goal.returns
returns g c = ap (λ p. nat_lt p (length c.args.components.now)) c.place_of.ensures ∙ has_place c.args.components.now c.args.places.now c.args.number c.requires
