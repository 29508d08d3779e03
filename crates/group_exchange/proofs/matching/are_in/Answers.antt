use Rattle.std.proofs.Common.{◌≡◌, ap, sym, ◌∙◌}
use Rattle.group_exchange.specs.ExchangeView.{group_at}
use Rattle.group_exchange.proofs.Walked.{false_true, not_all_in}
use Rattle.group_exchange.proofs.matching.are_in.Goals as goal

pub returns-then-group_at-from : goal.returns-then-group_at-from
returns-then-group_at-from g c =
    let other : group_at c.args.groups.now c.component-item.result.number ≡ c.args.number → ⊥
    = λ same. c.if-group_at-from.true (c.group_at.ensures ∙ ap (group_at c.args.groups.now) c.number.ensures.number ∙ same ∙ sym c.from.ensures) in (
      (λ no. absurd (false_true no)),
      (λ all. absurd (not_all_in c.args.groups.now c.args.number c.args.components.now c.loop-component.component-index c.component-item.result c.component-item.is c.loop-component-test.true other all)),
    )
