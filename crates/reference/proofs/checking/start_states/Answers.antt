use Rattle.std.proofs.Common.{rules, arith}
use Rattle.std.proofs.lemmas.List.FromFn.{map-range_with_len_more}
use Rattle.plans.specs.Plans.{composition}
use Rattle.io_automata.specs.Steps.{start_of}
use Rattle.reference.proofs.checking.start_states.Goals as goal

pub loop-i-preserved : goal.loop-i-preserved
loop-i-preserved c = rw (map-range_with_len_more (start_of (composition c.args.plan.now)) 0 c.loop-i.i c.loop-i.i (omega arith)) (search rules)
