use Rattle.std.proofs.Common.{lit<}
use Rattle.std.specs.Prelude.{Some}
use Rattle.std.proofs.lemmas.Str.Pattern.{strip_suffix_char}
use Rattle.trace.proofs.Actions.{closed_inner}
use Rattle.trace.proofs.Blamed.{if_blamed}
use Rattle.trace.proofs.written.bracketed.Goals as goal

pub returns-in-Some-clause-err : goal.returns-in-Some-clause-err
returns-in-Some-clause-err c =
    let split = strip_suffix_char 41 c.args.text.now (Some c.in-Some.inner) c.in-Some.ensures.cases (lit< tt) in
    if_blamed c.arguments.result (λ none args h. none args (closed_inner c.args.plan.now c.args.text.now c.in-Some.inner.now args split h)) (λ no. no) c.arguments.ensures.err
