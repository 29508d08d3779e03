use Rattle.trace.specs.Lines.{argument_text}
use Rattle.trace.proofs.Adding.{then_goes_on}
use Rattle.trace.proofs.long.put_other.Goals as goal

pub returns-clause-ok : goal.returns-clause-ok
returns-clause-ok g c = then_goes_on c.put_argument.new.out (argument_text c.args.plan.now c.args.argument) c.put_argument.result c.in_ok-written.ensures.ok c.put_argument.ensures.ok
