use Rattle.pools.proofs.Moves.{gives, has_room}
use Rattle.pools.proofs.places.Pool.give_back.Goals as goal

pub push_as-requires-clause-rule : goal.push_as-requires-clause-rule
push_as-requires-clause-rule g c = (gives _ _ _ _ _ _ c.requires.held c.requires.kind, has_room g.L.Numbered.number_of g.L.Numbered.kind_of _ _)
