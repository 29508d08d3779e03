use Rattle.std.proofs.Common.{rules, ◌≡◌, ◌+◌, ◌-◌, ap, ◌∙◌}
use Rattle.event_keys.specs.declared.message.Sign.TheVariants.{Plus, Minus}
use Rattle.group_exchange.specs.Moving.{among}
use Rattle.group_exchange.proofs.stub.Stub.hand_over.Goals as goal

pub returns-clause-stub : goal.returns-clause-stub
returns-clause-stub c =
    let law = c.flight_law.ensures in
    let own = c.args.self.now in
    let inbox : c.swap.new.x ≡ c.args.came.now = search rules in
    record {
      taken = λ s j k a.
          let left = law.messages_cancelled s j k a own.inbox c.move_all.new.bag c.cancel.new.self c.order_law.ensures c.order_law-2.ensures c.order_law-3.ensures c.cancel.ensures in
          let all : among s Plus j c.move_all.new.bag k a ≡ among s Plus j own.copies k a + among s Plus j own.taken k a
          = ap (λ xs. among s Plus j xs k a) c.move_all.ensures.all ∙ law.appended s Plus j k a own.copies own.taken in
          left ∙ ap (λ n. n - among s Minus j own.inbox k a) all;
      rest = λ v. record { base = own.base; floor = own.floor; taken = c.cancel.new.self; standing = own.standing; inbox = (inbox ∙ c.requires) v; copies = c.move_all.ensures.empty v };
    }
