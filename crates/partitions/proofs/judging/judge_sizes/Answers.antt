use Rattle.std.proofs.Common.{ap, arith, get_or}
use Rattle.partitions.proofs.judging.judge_sizes.Goals as goal

pub returns-clause-ok : goal.returns-clause-ok
returns-clause-ok c = record {
  every = c.requires.every;
  below = c.requires.below;
  filled = λ g l. omega (arith, c.in-None.ensures.none g l, ap (λ xs. get_or xs g 0) c.as_slice.ensures.value, c.in-Ok.ensures.sizes g l);
}
