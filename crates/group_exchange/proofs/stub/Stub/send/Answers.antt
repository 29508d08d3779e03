use Rattle.std.proofs.Common.{◌≡◌, ◌+◌, ◌-◌, refl, ap, ◌∙◌}
use Rattle.event_keys.specs.declared.message.Sign.TheVariants.{Plus, Minus}
use Rattle.group_exchange.specs.Moving.{among}
use Rattle.group_exchange.proofs.stub.Stub.send.Goals as goal

pub returns-clause-stub : goal.returns-clause-stub
returns-clause-stub c =
    let law = c.flight_law.ensures in
    let out = c.args.out.now in
    record {
      standing = λ s j k a.
          let left = law.messages_cancelled s j k a out c.move_all.new.bag c.cancel.new.self c.order_law.ensures c.order_law-2.ensures c.order_law-3.ensures c.cancel.ensures in
          let all : among s Plus j c.move_all.new.bag k a ≡ among s Plus j c.args.copies.now k a + among s Plus j c.args.self.now.standing k a
          = ap (λ xs. among s Plus j xs k a) c.move_all.ensures.all ∙ law.appended s Plus j k a c.args.copies.now c.args.self.now.standing in
          left ∙ ap (λ n. n - among s Minus j out k a) all;
      rest = refl;
    }
