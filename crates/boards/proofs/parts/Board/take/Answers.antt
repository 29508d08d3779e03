use Rattle.boards.proofs.Moves.{takes}
use Rattle.boards.proofs.Owning.{told, stands_there}
use Rattle.boards.proofs.parts.Board.take.Goals as goal

pub pop_as-requires-clause-rule : goal.pop_as-requires-clause-rule
pop_as-requires-clause-rule g c = (takes g.L.Sectioned.kind_of g.L.Sectioned.sections_of _ _, λ items views h at. tt)

pub returns-clause-section : goal.returns-clause-section
returns-clause-section g c = told c.pop_as.result _ _ _ (λ x known n content owns. stands_there (g.L.Sectioned.sections_of x) _ n content known.2 owns) c.pop_as.ensures.rule
