use Rattle.std.proofs.Common.{arith, ap, sym, ◌∙◌, drop}
use Rattle.patterns.specs.Patterns.{pattern_number}
use Rattle.patterns.proofs.Noted.{past_arguments}
use Rattle.patterns.proofs.index.number_of.Goals as goal

pub returns-then-k-args : goal.returns-then-k-args
returns-then-k-args c =
    sym (ap (pattern_number c.loop-k.number) (past_arguments (drop c.loop-k.k c.args.mask.now) c.args.args.now c.loop-k.k (omega (arith, c.if-k-args.true))))
    ∙ c.loop-k.invariant
