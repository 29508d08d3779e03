use Rattle.std.proofs.Common.{◌∙◌, sym, ap, ◌++◌, append_assoc}
use Rattle.raw_events.specs.Around.{without_where}
use Rattle.raw_events.proofs.Firsts.{passed_one, taken_one}
use Rattle.raw_events.proofs.line.Line.take_where.Goals as goal

pub loop-self-preserved : goal.loop-self-preserved
loop-self-preserved g c =
    let one = c.take_first-one.result in
    let rest = c.take_first-one.new.self in
    record {
      told = λ p told.
          let at = c.loop-self.invariant.told p told in
          let step = passed_one p c.loop-self.self one rest (sym (c.first_fails.ensures.told p told) ∙ c.loop-self-test.true) c.take_first-one.ensures.0 c.take_first-one.ensures.1 in
          (ap (λ zs. zs ++ without_where p rest) c.append.ensures ∙ append_assoc c.loop-self.passed one (without_where p rest) ∙ ap (λ zs. c.loop-self.passed ++ zs) (sym step.0) ∙ at.0, sym step.1 ∙ at.1);
      all = ap (λ zs. zs ++ rest) c.append.ensures ∙ append_assoc c.loop-self.passed one rest ∙ ap (λ zs. c.loop-self.passed ++ zs) (sym c.take_first-one.ensures.0) ∙ c.loop-self.invariant.all;
    }

pub returns-clause-taken : goal.returns-clause-taken
returns-clause-taken g c = λ p told.
    (taken_one p c.loop-self.self c.take_first-one-2.result c.take_first-one-2.new.self c.of_line.result (sym (c.first_fails.ensures.told p told) ∙ c.loop-self-test.false) c.take_first-one-2.ensures.0 c.of_line.ensures).0 ∙ (c.loop-self.invariant.told p told).1

pub returns-clause-rest : goal.returns-clause-rest
returns-clause-rest g c = λ p told.
    c.prepend-2.ensures
    ∙ ap (λ zs. c.loop-self.passed ++ zs) (taken_one p c.loop-self.self c.take_first-one-2.result c.take_first-one-2.new.self c.of_line.result (sym (c.first_fails.ensures.told p told) ∙ c.loop-self-test.false) c.take_first-one-2.ensures.0 c.of_line.ensures).1
    ∙ (c.loop-self.invariant.told p told).0
