use Rattle.std.proofs.Common.{ap, ◌∙◌, filter, not}
use Rattle.antimessage.specs.Bags.{is_to}
use Rattle.group_exchange.proofs.Walked.{inside_end, inside_more}
use Rattle.group_exchange.proofs.matching.inside_of.Goals as goal

pub loop-component-preserved : goal.loop-component-preserved
loop-component-preserved g c =
    let law = c.flight_law.ensures in
    let number = c.number.ensures.number in
    inside_more c.args.components.now c.args.sent law.appended law.to law.not_to c.loop-component.component-index c.component-item.result c.component-item.is c.loop-component-test.true c.loop-component.inside c.loop-component.sent c.split_to.result c.split_to.new.self c.append.new.self
    (c.split_to.ensures.taken ∙ ap (λ n. filter (is_to n) c.loop-component.sent) number) (c.split_to.ensures.rest ∙ ap (λ n. filter (λ s. not (is_to n s)) c.loop-component.sent) number) c.append.ensures.all c.loop-component.invariant

pub returns : goal.returns
returns g c = inside_end c.args.components.now c.args.sent c.loop-component.component-index c.loop-component-test.false c.loop-component.inside c.loop-component.sent c.loop-component.invariant
