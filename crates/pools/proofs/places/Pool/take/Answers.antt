use Rattle.pools.proofs.Moves.{takes, holds_rest}
use Rattle.pools.proofs.places.Pool.take.Goals as goal

pub pop_as-requires-clause-rule : goal.pop_as-requires-clause-rule
pop_as-requires-clause-rule g c = (takes _ _ _ _, holds_rest g.L.Numbered.number_of g.L.Numbered.kind_of _ _)
