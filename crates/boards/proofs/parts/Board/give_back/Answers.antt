use Rattle.std.proofs.Common.{ap, ◌∙◌}
use Rattle.boards.proofs.Moves.{gives, has_room}
use Rattle.boards.proofs.Owning.{refreshed_one}
use Rattle.boards.proofs.parts.Board.give_back.Goals as goal

pub push_as-requires-clause-rule : goal.push_as-requires-clause-rule
push_as-requires-clause-rule g c =
    let kind = g.L.Sectioned.kind_of in
    let sections = g.L.Sectioned.sections_of in
    (gives kind sections _ _ _ _ c.requires.kind c.requires.others, has_room kind sections _ _)

pub returns-clause-section : goal.returns-clause-section
returns-clause-section g c n old content owns there = ap (λ v. v.own) c.in-Ok.ensures.rule.0 ∙ refreshed_one (g.L.Sectioned.sections_of c.args.item) _ n old content owns there
