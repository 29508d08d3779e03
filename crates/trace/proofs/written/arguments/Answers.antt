use Rattle.std.proofs.Common.{rules, lit<, [], ◌∷◌, ◌++◌, ap, sym, subst, ◌∙◌}
use Rattle.std.proofs.lemmas.List.{append_assoc}
use Rattle.trace.specs.Separated.{IsSeparated}
use Rattle.trace.proofs.Arguments.{separated_cut, separated_more, separated_one}
use Rattle.trace.proofs.Blamed.{blamed}
use Rattle.trace.proofs.Found.{cut_parts, failed_with, uncut}
use Rattle.trace.proofs.written.arguments.Goals as goal

pub split_once-requires-text-self : goal.split_once-requires-text-self
split_once-requires-text-self c = λ _. c.loop-word.invariant.utf8

pub argument-requires-2-text-word : goal.argument-requires-2-text-word
argument-requires-2-text-word c = λ _. c.loop-word.invariant.utf8

pub returns-in_err-argument-clause-err : goal.returns-in_err-argument-clause-err
returns-in_err-argument-clause-err c =
    let parts = cut_parts 44 (lit< tt) c.loop-word.rest.now c.in-Some.word c.in-Some.later c.in-Some.ensures.cases in
    failed_with _ c.from_residual.result c.in_err-argument.field-0.0 (search rules) (blamed c.in_err-argument.field-0.0
    (λ none args s.
    let more = c.loop-word.invariant.back args s in
    let cut = separated_cut c.args.plan.now c.loop-word.rest.now c.in-Some.word.now c.in-Some.later.now more.0 parts.0 parts.1 more.1 in
    none cut.first cut.proper cut.is) (λ no. no) c.in_err-argument.ensures.err)

pub loop-word-preserved : goal.loop-word-preserved
loop-word-preserved c =
    let parts = cut_parts 44 (lit< tt) c.loop-word.rest.now c.in-Some.word c.in-Some.later c.in-Some.ensures.cases in
    let plan = c.args.plan.now in
    let argument = c.in_ok-argument.field-0 in
    record {
      read = λ more s.
          let longer = c.loop-word.invariant.read (argument ∷ more) (separated_more plan c.loop-word.rest.now c.in-Some.word.now c.in-Some.later.now argument more parts.0 c.in_ok-argument.ensures.ok.0 c.in_ok-argument.ensures.ok.1 s) in
          subst (IsSeparated plan c.args.text.now) (sym (ap (λ l. l ++ more) c.in_ok-push.ensures.items ∙ append_assoc c.loop-word.args.items (argument ∷ []) more)) longer;
      utf8 = search rules;
      back = λ args s.
          let more = c.loop-word.invariant.back args s in
          let cut = separated_cut plan c.loop-word.rest.now c.in-Some.word.now c.in-Some.later.now more.0 parts.0 parts.1 more.1 in
          (cut.others, cut.rest);
    }

pub returns-in_err-argument-2-clause-err : goal.returns-in_err-argument-2-clause-err
returns-in_err-argument-2-clause-err c =
    failed_with _ c.from_residual-in_err-argument-2.result c.in_err-argument-2.field-0.0 (search rules) (blamed c.in_err-argument-2.field-0.0
    (λ none args s.
    let more = c.loop-word.invariant.back args s in
    let one = separated_one c.args.plan.now c.loop-word.rest.now more.0 (uncut 44 (lit< tt) c.loop-word.rest.now c.in_default.ensures.cases) more.1 in
    none one.0 one.1 one.2) (λ no. no) c.in_err-argument-2.ensures.err)
