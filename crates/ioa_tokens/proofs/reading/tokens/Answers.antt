use Rattle.ioa_tokens.proofs.Again.{again, proper}
use Rattle.ioa_tokens.proofs.reading.tokens.Goals as goal

pub returns-clause-proper : goal.returns-clause-proper
returns-clause-proper c = proper (λ v. v.items) c.args.source.now c.cut_source.result c.cut_source.ensures.ok

pub returns-clause-again : goal.returns-clause-again
returns-clause-again c = again (λ v. v.items) c.args.source.now c.cut_source.result c.cut_source.ensures.ok c.cut_source.ensures.err
