use Rattle.std.proofs.lemmas.Result.{IfErr-weaker}
use Rattle.trace.proofs.Heading.{head_stopped}
use Rattle.trace.proofs.texts.write_head.Goals as goal

pub returns-clause-err : goal.returns-clause-err
returns-clause-err g c = IfErr-weaker c.write_text.result _ _ (λ fault s. head_stopped fault s) c.write_text.ensures.err
