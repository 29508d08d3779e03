use Rattle.std.proofs.Common.{ℕ, ◌*◌, ◌∙◌, ap}
use Rattle.io_automata.specs.Tuples.{many}
use Rattle.outcomes.proofs.Counted.{counted_on}
use Rattle.outcomes.proofs.tuples.count_all.Goals as goal

pub loop-param-preserved : goal.loop-param-preserved
loop-param-preserved c =
    counted_on c.args.params.now c.loop-param.param-index c.loop-param.count c.in_ok-count.count (many c.args.params.now) _ c.loop-param-test.true
    (c.in_ok-count.ensures ∙ ap (λ (n : ℕ). n * c.loop-param.count) c.choices.ensures) c.loop-param.invariant
