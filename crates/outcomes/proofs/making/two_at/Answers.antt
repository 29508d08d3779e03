use Rattle.std.proofs.Common.{◌∙◌}
use Rattle.outcomes.proofs.Picked.{picked_const, first_below, second_below}
use Rattle.outcomes.proofs.making.two_at.Goals as goal

pub picked-requires : goal.picked-requires
picked-requires c = picked_const c.args.formals.now c.args.first.now c.args.second.now c.in-Const.n c.args.at c.in-Const.is c.requires.below

pub picked-requires-2 : goal.picked-requires-2
picked-requires-2 c = first_below c.args.first.now c.args.second.now c.args.at c.from-rest.result (c.from-rest.ensures ∙ c.choices.ensures) c.requires.below

pub picked-requires-3 : goal.picked-requires-3
picked-requires-3 c = second_below c.args.first.now c.args.second.now c.args.at c.from-rest.result (c.from-rest.ensures ∙ c.choices.ensures) c.requires.below
