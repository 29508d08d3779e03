use Rattle.std.proofs.Common.{ap, sym, Some}
use Rattle.std.specs.Prelude.{codes}
use Rattle.trace.proofs.Found.{same_texts}
use Rattle.trace.proofs.StepTexts.{end_only}
use Rattle.trace.proofs.steps.bound.Goals as goal

pub returns-then-eq-clause-only : goal.returns-then-eq-clause-only
returns-then-eq-clause-only c = λ bound h e. ap Some (sym (end_only c.args.text.now (same_texts c.eq.result c.args.text.now (codes "end") c.eq.ensures c.if-eq.true) bound e))
