use Rattle.std.proofs.Common.{◌∙◌, ap, subst, true}
use Rattle.ioa_tokens.specs.Tokens.{toks_of}
use Rattle.ioa_phrases.specs.Machine.{go, start}
use Rattle.ioa_phrases.specs.Reads.{Stops}
use Rattle.ioa_front.proofs.Found.{toks_placed}
use Rattle.ioa_front.proofs.reading.read_found.Goals as goal

pub returns-in-Ok : goal.returns-in-Ok
returns-in-Ok c = ap (λ z. go true start z) (toks_placed c.args.found.now) ∙ c.in-Ok.ensures.exact

pub returns-in-Err-Syntax : goal.returns-in-Err-Syntax
returns-in-Err-Syntax c = (c.in-Err-Syntax.left, (ap (λ z. go true start z) (toks_placed c.args.found.now) ∙ subst (λ e. Stops e (go true start (toks_of c.args.found.now))) c.in-Err-Syntax.field-0-is c.in-Err-Syntax.ensures.exact, c.place_of.ensures))

pub returns-in-Err-Deep : goal.returns-in-Err-Deep
returns-in-Err-Deep c = (c.in-Err-Deep.field-0-0, ap (λ z. go true start z) (toks_placed c.args.found.now) ∙ subst (λ e. Stops e (go true start (toks_of c.args.found.now))) c.in-Err-Deep.field-0-is c.in-Err-Deep.ensures.exact)
