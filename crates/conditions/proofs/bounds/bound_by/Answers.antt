use Rattle.conditions.proofs.Bounding.{chain_gives}
use Rattle.conditions.proofs.bounds.bound_by.Goals as goal

pub returns-in-Some-clause-says : goal.returns-in-Some-clause-says
returns-in-Some-clause-says c =
    chain_gives c.args.p c.args.test.now.term c.as_slice.result.now c.in-Some.before.now c.in-Some.link.now c.as_slice.ensures.value c.in-Some.ensures.cases.0 c.equal_bound.result c.equal_bound.ensures
