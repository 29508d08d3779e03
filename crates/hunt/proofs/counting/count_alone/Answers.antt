use Rattle.std.proofs.Common.{◌≡◌, ◌+◌, subst, arith}
use Rattle.hunt.specs.Hunts.{IsCount}
use Rattle.hunt.specs.Seeds.{hunted}
use Rattle.hunt.proofs.Parts.{count_joined}
use Rattle.hunt.proofs.counting.count_alone.Goals as goal

pub loop-seed-preserved : goal.loop-seed-preserved
loop-seed-preserved g c =
    let here = c.loop-seed.invariant in
    let test = c.loop-seed-test.true in
    let one = c.in-Ok.ensures.few in
    record {
      above = omega arith;
      below = omega arith;
      are = count_joined (hunted c.args.source.now c.args.action.now c.args.course) c.args.from c.loop-seed.seed (c.loop-seed.seed + 1) c.loop-seed.count c.in-Ok.one here.above (omega arith) here.are c.in-Ok.ensures.count;
      few = omega arith;
      kept = c.count_one.ensures.kept;
    }

pub returns-clause-count : goal.returns-clause-count
returns-clause-count g c =
    let here = c.loop-seed.invariant in
    let test = c.loop-seed-test.false in
    let same : c.loop-seed.seed ≡ c.args.end = omega arith in
    subst (λ n. IsCount (hunted c.args.source.now c.args.action.now c.args.course) c.args.from n c.loop-seed.count) same here.are

pub returns-clause-few : goal.returns-clause-few
returns-clause-few g c =
    let here = c.loop-seed.invariant in
    let test = c.loop-seed-test.false in
    omega arith
