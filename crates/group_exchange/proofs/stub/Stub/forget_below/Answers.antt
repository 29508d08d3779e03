use Rattle.std.proofs.Common.{refl, ap, ◌∙◌}
use Rattle.event_keys.specs.declared.message.Sign.TheVariants.{Plus}
use Rattle.group_exchange.specs.Moving.{among}
use Rattle.group_exchange.proofs.stub.Stub.forget_below.Goals as goal

pub returns : goal.returns
returns c =
    let law = c.flight_law.ensures in
    let own = c.args.self.now in
    record {
      taken = λ s j k a. ap (λ xs. among s Plus j xs k a) c.drop_below.ensures ∙ law.dropped s Plus j k a c.args.bound own.taken c.comparable_law.ensures c.order_law.ensures;
      standing = λ s j k a. ap (λ xs. among s Plus j xs k a) c.drop_below-2.ensures ∙ law.dropped s Plus j k a c.args.bound own.standing c.comparable_law.ensures c.order_law-2.ensures;
      rest = refl;
    }
