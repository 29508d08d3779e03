use Rattle.std.proofs.Common.{◌≡◌, ◌+◌, refl, ap, ◌∙◌, arith}
use Rattle.event_keys.specs.declared.message.Sign.TheVariants.{Plus, Minus}
use Rattle.group_exchange.specs.Moving.{among}
use Rattle.group_exchange.proofs.stub.Stub.arrive.Goals as goal

pub returns : goal.returns
returns c =
    let law = c.flight_law.ensures in
    let all : (s : _) (sign : _) (j k : _) (a : _) → among s sign j c.move_all.new.bag k a ≡ among s sign j c.args.came k a + among s sign j c.args.self.now.inbox k a
    = λ s sign j k a. ap (λ xs. among s sign j xs k a) c.move_all.ensures.all ∙ law.appended s sign j k a c.args.came c.args.self.now.inbox in
    record {
      messages = λ s j k a.
          let met = law.messages_met s j k a c.move_all.new.bag c.meet_all-pairs.new.self c.order_law.ensures c.order_law-4.ensures c.meet_all-pairs.ensures.left in
          let plus = all s Plus j k a in
          let minus = all s Minus j k a in
          omega (arith, met, plus, minus);
      antimessages = λ s j k a.
          let met = law.antimessages_met s j k a c.move_all.new.bag c.meet_all-pairs.new.self c.order_law.ensures c.order_law-4.ensures c.meet_all-pairs.ensures.left in
          let plus = all s Plus j k a in
          let minus = all s Minus j k a in
          omega (arith, met, plus, minus);
      copied = λ s j k a.
          let left = law.messages_cancelled s j k a c.move_all.new.bag c.move_all-2.new.bag c.cancel.new.self c.order_law.ensures c.order_law-2.ensures c.order_law-3.ensures c.cancel.ensures in
          let more : among s Plus j c.move_all-2.new.bag k a ≡ among s Plus j c.args.copies k a + among s Plus j c.args.self.now.copies k a
          = ap (λ xs. among s Plus j xs k a) c.move_all-2.ensures.all ∙ law.appended s Plus j k a c.args.copies c.args.self.now.copies in
          let minus = all s Minus j k a in
          omega (arith, left, more, minus);
      order = c.order_law-4.ensures;
      rest = refl;
    }
