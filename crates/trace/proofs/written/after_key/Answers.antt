use Rattle.trace.proofs.Keys.{key_read}
use Rattle.trace.proofs.written.after_key.Goals as goal

pub returns-clause-some : goal.returns-clause-some
returns-clause-some c = key_read c.args.text.now c.in_ok-rest.rest.now c.in_ok-rest-2.rest.now c.after_number-3.result c.in_ok-rest.ensures.some c.in_ok-rest-2.ensures.some c.after_number-3.ensures.some
