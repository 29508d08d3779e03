use Rattle.std.proofs.Common.{◌≤◌, arith, pos, length, replicate}
use Rattle.outcomes.proofs.Solved.{long_enough}
use Rattle.outcomes.proofs.found.walk_from.Goals as goal
use Rattle.terms.specs.declared.scalar.Scalar.TheVariants.{Int}

pub walk-requires : goal.walk-requires
walk-requires g c =
    let n = length c.args.node.now.all.now in
    let few : n ≤ 8 = omega (arith, c.if-many-le-FEW.true) in
    record { node = c.requires.node _ (long_enough n (replicate 8 (Int (pos 0))) few) }
