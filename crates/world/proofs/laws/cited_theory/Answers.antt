use Rattle.world.proofs.laws.cited_theory.Goals as goal

pub returns : goal.returns
returns g c =
    record {
      sound = c.committed_is_reference.ensures.sound;
      ordered = c.any_order_law.ensures.ordered;
      back = c.inverse_law.ensures.back;
      met = c.inverse_law.ensures.met;
      message_back = c.delivered_law.ensures.message_back;
      antimessage_back = c.delivered_law.ensures.antimessage_back;
      message_first = c.any_order_law.ensures.message_first;
      antimessage_first = c.any_order_law.ensures.antimessage_first;
      rolled_back = c.any_order_law.ensures.rolled_back;
      signs = c.record_law.ensures.signs;
      one = c.virtual_time_rises.ensures.one;
      bounded = c.virtual_time_rises.ensures.bound;
    }
