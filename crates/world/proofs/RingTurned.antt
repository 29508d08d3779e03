-- There and back on the ring of two: the message comes late, or its like was done, and what was taken back is done again.
use Rattle.std.proofs.Common.{◌≡◌, ℕ, zero, suc, inl, inr, None, Some, List, [], ◌∷◌, refl, arith}
use Rattle.std.proofs.lemmas.Bool.{ne_eqb}
use Rattle.virtual_time.specs.Bags.{hit}
use Rattle.virtual_time.specs.Entries.{Input, Own}
use Rattle.virtual_time.specs.Inverses.{ArePairs, AreReceivers, Pair, is_in}
use Rattle.virtual_time.specs.Replies.{Delivered, Met, Processed, RolledBack, Runs}
use Rattle.virtual_time.specs.Ring.{led, pass_2, pass_3, ring}
use Rattle.virtual_time.specs.Worlds.{DeliverAntimessage, DeliverMessage, Meet, Process, RollBack, start_world}
use Rattle.world.specs.Examples.{StepsAreTold}
use Rattle.world.specs.ThereAndBack.{IsThereAndBack, Leaves}

receives_1 : (j : ℕ) → is_in j (1 ∷ []) ≡ ring.receives 0 1 j
receives_1 zero = refl
receives_1 (suc zero) = refl
receives_1 (suc (suc j)) = rw (ne_eqb (suc (suc j)) 1 (λ e. absurd (omega arith)), ne_eqb 1 (suc (suc j)) (λ e. absurd (omega arith)))

only_1 : AreReceivers ring 0 1 (1 ∷ [])
only_1 = record { distinct = (refl, tt); all = receives_1 }

abbrev one_pair : List (Pair ℕ)
one_pair = record { to = 0; item = pass_3 } ∷ []

sent_0 : ArePairs ring 1 (Own 7 (Some 0) ∷ Input pass_2 ∷ []) (record { to = 0; item = pass_3 } ∷ [])
sent_0 zero k a = refl
sent_0 (suc j) k a = rw (ne_eqb 0 (suc j) (λ e. absurd (omega arith)))

sent_none : ArePairs ring 1 (Own 7 None ∷ []) []
sent_none j k a = refl

there_a : Runs ring 2 (led (start_world ring) (Process 1 ∷ Process 1 ∷ [])) (Process 0 ∷ RollBack 0 ∷ []) (Processed 4 ∷ RolledBack 4 ∷ []) (led (start_world ring) (Process 1 ∷ Process 1 ∷ Process 0 ∷ RollBack 0 ∷ []))
unfolding hit
there_a = ((led (start_world ring) (Process 1 ∷ Process 1 ∷ Process 0 ∷ [])), inr (inr (Own 4 (Some 1), omega arith, refl, inr (refl, refl))), ((led (start_world ring) (Process 1 ∷ Process 1 ∷ Process 0 ∷ RollBack 0 ∷ [])), inr (inr (Own 4 (Some 1), [], omega arith, refl, refl, refl)), refl))

back_a : Runs ring 2 (led (start_world ring) (Process 1 ∷ Process 1 ∷ Process 0 ∷ RollBack 0 ∷ [])) (DeliverMessage 1 pass_2 ∷ DeliverAntimessage 1 pass_2 ∷ Process 1 ∷ []) (Delivered 1 ∷ Delivered 0 ∷ Processed 7 ∷ []) (led (start_world ring) (Process 1 ∷ Process 1 ∷ Process 0 ∷ RollBack 0 ∷ DeliverMessage 1 pass_2 ∷ DeliverAntimessage 1 pass_2 ∷ Process 1 ∷ []))
unfolding hit
back_a = ((led (start_world ring) (Process 1 ∷ Process 1 ∷ Process 0 ∷ RollBack 0 ∷ DeliverMessage 1 pass_2 ∷ [])), inr (refl, refl, refl), ((led (start_world ring) (Process 1 ∷ Process 1 ∷ Process 0 ∷ RollBack 0 ∷ DeliverMessage 1 pass_2 ∷ DeliverAntimessage 1 pass_2 ∷ [])), inr (refl, refl, refl), ((led (start_world ring) (Process 1 ∷ Process 1 ∷ Process 0 ∷ RollBack 0 ∷ DeliverMessage 1 pass_2 ∷ DeliverAntimessage 1 pass_2 ∷ Process 1 ∷ [])), inr (inr (Own 7 None, omega arith, refl, inr (refl, refl))), refl)))

leaves_a : Leaves ring 2 1 pass_2 (led (start_world ring) (Process 1 ∷ Process 1 ∷ Process 0 ∷ RollBack 0 ∷ [])) (DeliverMessage 1 pass_2 ∷ DeliverAntimessage 1 pass_2 ∷ Process 1 ∷ []) (Delivered 1 ∷ Delivered 0 ∷ Processed 7 ∷ []) (led (start_world ring) (Process 1 ∷ Process 1 ∷ Process 0 ∷ RollBack 0 ∷ DeliverMessage 1 pass_2 ∷ DeliverAntimessage 1 pass_2 ∷ Process 1 ∷ []))
unfolding hit
leaves_a = record { way = inr (inl (record { k = 1; l = 0; pairs = []; again = Processed 7 ∷ []; steps_are = refl; replies_are = refl; pairs_are = sent_none })); run = back_a }

pub example_a : IsThereAndBack ring 2 0 (led (start_world ring) (Process 1 ∷ Process 1 ∷ [])) (Process 0 ∷ RollBack 0 ∷ DeliverMessage 1 pass_2 ∷ DeliverAntimessage 1 pass_2 ∷ Process 1 ∷ []) (Processed 4 ∷ RolledBack 4 ∷ Delivered 1 ∷ Delivered 0 ∷ Processed 7 ∷ []) (led (start_world ring) (Process 1 ∷ Process 1 ∷ Process 0 ∷ RollBack 0 ∷ DeliverMessage 1 pass_2 ∷ DeliverAntimessage 1 pass_2 ∷ Process 1 ∷ []))
unfolding hit
example_a =
    record {
      entry = Own 4 (Some 1);
      receivers = 1 ∷ [];
      there = Processed 4;
      back = RolledBack 4;
      turned = led (start_world ring) (Process 1 ∷ Process 1 ∷ Process 0 ∷ RollBack 0 ∷ []);
      rest = DeliverMessage 1 pass_2 ∷ DeliverAntimessage 1 pass_2 ∷ Process 1 ∷ [];
      rest_replies = Delivered 1 ∷ Delivered 0 ∷ Processed 7 ∷ [];
      next_is = refl;
      sent = only_1;
      steps_are = refl;
      replies_are = refl;
      run = there_a;
      leave = (led (start_world ring) (Process 1 ∷ Process 1 ∷ Process 0 ∷ RollBack 0 ∷ DeliverMessage 1 pass_2 ∷ DeliverAntimessage 1 pass_2 ∷ Process 1 ∷ []), DeliverMessage 1 pass_2 ∷ DeliverAntimessage 1 pass_2 ∷ Process 1 ∷ [], [], Delivered 1 ∷ Delivered 0 ∷ Processed 7 ∷ [], [], refl, refl, leaves_a, (refl, refl, refl));
      done = (tt, (tt, (tt, (tt, (tt, tt)))));
    }

there_b : Runs ring 2 (led (start_world ring) (Process 0 ∷ RollBack 0 ∷ DeliverMessage 1 pass_2 ∷ Process 1 ∷ Process 1 ∷ Process 1 ∷ [])) (Process 0 ∷ RollBack 0 ∷ []) (Processed 4 ∷ RolledBack 4 ∷ []) (led (start_world ring) (Process 0 ∷ RollBack 0 ∷ DeliverMessage 1 pass_2 ∷ Process 1 ∷ Process 1 ∷ Process 1 ∷ Process 0 ∷ RollBack 0 ∷ []))
unfolding hit
there_b = ((led (start_world ring) (Process 0 ∷ RollBack 0 ∷ DeliverMessage 1 pass_2 ∷ Process 1 ∷ Process 1 ∷ Process 1 ∷ Process 0 ∷ [])), inr (inr (Own 4 (Some 1), omega arith, refl, inr (refl, refl))), ((led (start_world ring) (Process 0 ∷ RollBack 0 ∷ DeliverMessage 1 pass_2 ∷ Process 1 ∷ Process 1 ∷ Process 1 ∷ Process 0 ∷ RollBack 0 ∷ [])), inr (inr (Own 4 (Some 1), [], omega arith, refl, refl, refl)), refl))

back_b : Runs ring 2 (led (start_world ring) (Process 0 ∷ RollBack 0 ∷ DeliverMessage 1 pass_2 ∷ Process 1 ∷ Process 1 ∷ Process 1 ∷ Process 0 ∷ RollBack 0 ∷ [])) (DeliverAntimessage 1 pass_2 ∷ DeliverMessage 1 pass_2 ∷ Process 1 ∷ Process 1 ∷ Meet 0 pass_3 ∷ []) (Delivered 2 ∷ Delivered 0 ∷ Processed 4 ∷ Processed 7 ∷ Met ∷ []) (led (start_world ring) (Process 0 ∷ RollBack 0 ∷ DeliverMessage 1 pass_2 ∷ Process 1 ∷ Process 1 ∷ Process 1 ∷ Process 0 ∷ RollBack 0 ∷ DeliverAntimessage 1 pass_2 ∷ DeliverMessage 1 pass_2 ∷ Process 1 ∷ Process 1 ∷ Meet 0 pass_3 ∷ []))
unfolding hit
back_b = ((led (start_world ring) (Process 0 ∷ RollBack 0 ∷ DeliverMessage 1 pass_2 ∷ Process 1 ∷ Process 1 ∷ Process 1 ∷ Process 0 ∷ RollBack 0 ∷ DeliverAntimessage 1 pass_2 ∷ [])), inr (refl, refl, refl), ((led (start_world ring) (Process 0 ∷ RollBack 0 ∷ DeliverMessage 1 pass_2 ∷ Process 1 ∷ Process 1 ∷ Process 1 ∷ Process 0 ∷ RollBack 0 ∷ DeliverAntimessage 1 pass_2 ∷ DeliverMessage 1 pass_2 ∷ [])), inr (refl, refl, refl), ((led (start_world ring) (Process 0 ∷ RollBack 0 ∷ DeliverMessage 1 pass_2 ∷ Process 1 ∷ Process 1 ∷ Process 1 ∷ Process 0 ∷ RollBack 0 ∷ DeliverAntimessage 1 pass_2 ∷ DeliverMessage 1 pass_2 ∷ Process 1 ∷ [])), inr (inr (Input pass_2, omega arith, refl, inr (refl, refl))), ((led (start_world ring) (Process 0 ∷ RollBack 0 ∷ DeliverMessage 1 pass_2 ∷ Process 1 ∷ Process 1 ∷ Process 1 ∷ Process 0 ∷ RollBack 0 ∷ DeliverAntimessage 1 pass_2 ∷ DeliverMessage 1 pass_2 ∷ Process 1 ∷ Process 1 ∷ [])), inr (inr (Own 7 (Some 0), omega arith, refl, inr (refl, refl))), ((led (start_world ring) (Process 0 ∷ RollBack 0 ∷ DeliverMessage 1 pass_2 ∷ Process 1 ∷ Process 1 ∷ Process 1 ∷ Process 0 ∷ RollBack 0 ∷ DeliverAntimessage 1 pass_2 ∷ DeliverMessage 1 pass_2 ∷ Process 1 ∷ Process 1 ∷ Meet 0 pass_3 ∷ [])), inr (refl, refl, refl), refl)))))

leaves_b : Leaves ring 2 1 pass_2 (led (start_world ring) (Process 0 ∷ RollBack 0 ∷ DeliverMessage 1 pass_2 ∷ Process 1 ∷ Process 1 ∷ Process 1 ∷ Process 0 ∷ RollBack 0 ∷ [])) (DeliverAntimessage 1 pass_2 ∷ DeliverMessage 1 pass_2 ∷ Process 1 ∷ Process 1 ∷ Meet 0 pass_3 ∷ []) (Delivered 2 ∷ Delivered 0 ∷ Processed 4 ∷ Processed 7 ∷ Met ∷ []) (led (start_world ring) (Process 0 ∷ RollBack 0 ∷ DeliverMessage 1 pass_2 ∷ Process 1 ∷ Process 1 ∷ Process 1 ∷ Process 0 ∷ RollBack 0 ∷ DeliverAntimessage 1 pass_2 ∷ DeliverMessage 1 pass_2 ∷ Process 1 ∷ Process 1 ∷ Meet 0 pass_3 ∷ []))
unfolding hit
leaves_b = record { way = inr (inr (record { k = 2; l = 0; pairs = record { to = 0; item = pass_3 } ∷ []; again = Processed 4 ∷ Processed 7 ∷ Met ∷ []; steps_are = refl; replies_are = refl; pairs_are = sent_0 })); run = back_b }

pub example_b : IsThereAndBack ring 2 0 (led (start_world ring) (Process 0 ∷ RollBack 0 ∷ DeliverMessage 1 pass_2 ∷ Process 1 ∷ Process 1 ∷ Process 1 ∷ [])) (Process 0 ∷ RollBack 0 ∷ DeliverAntimessage 1 pass_2 ∷ DeliverMessage 1 pass_2 ∷ Process 1 ∷ Process 1 ∷ Meet 0 pass_3 ∷ []) (Processed 4 ∷ RolledBack 4 ∷ Delivered 2 ∷ Delivered 0 ∷ Processed 4 ∷ Processed 7 ∷ Met ∷ []) (led (start_world ring) (Process 0 ∷ RollBack 0 ∷ DeliverMessage 1 pass_2 ∷ Process 1 ∷ Process 1 ∷ Process 1 ∷ Process 0 ∷ RollBack 0 ∷ DeliverAntimessage 1 pass_2 ∷ DeliverMessage 1 pass_2 ∷ Process 1 ∷ Process 1 ∷ Meet 0 pass_3 ∷ []))
unfolding hit
example_b =
    record {
      entry = Own 4 (Some 1);
      receivers = 1 ∷ [];
      there = Processed 4;
      back = RolledBack 4;
      turned = led (start_world ring) (Process 0 ∷ RollBack 0 ∷ DeliverMessage 1 pass_2 ∷ Process 1 ∷ Process 1 ∷ Process 1 ∷ Process 0 ∷ RollBack 0 ∷ []);
      rest = DeliverAntimessage 1 pass_2 ∷ DeliverMessage 1 pass_2 ∷ Process 1 ∷ Process 1 ∷ Meet 0 pass_3 ∷ [];
      rest_replies = Delivered 2 ∷ Delivered 0 ∷ Processed 4 ∷ Processed 7 ∷ Met ∷ [];
      next_is = refl;
      sent = only_1;
      steps_are = refl;
      replies_are = refl;
      run = there_b;
      leave = (led (start_world ring) (Process 0 ∷ RollBack 0 ∷ DeliverMessage 1 pass_2 ∷ Process 1 ∷ Process 1 ∷ Process 1 ∷ Process 0 ∷ RollBack 0 ∷ DeliverAntimessage 1 pass_2 ∷ DeliverMessage 1 pass_2 ∷ Process 1 ∷ Process 1 ∷ Meet 0 pass_3 ∷ []), DeliverAntimessage 1 pass_2 ∷ DeliverMessage 1 pass_2 ∷ Process 1 ∷ Process 1 ∷ Meet 0 pass_3 ∷ [], [], Delivered 2 ∷ Delivered 0 ∷ Processed 4 ∷ Processed 7 ∷ Met ∷ [], [], refl, refl, leaves_b, (refl, refl, refl));
      done = (tt, (tt, (tt, (tt, (tt, (tt, (tt, tt)))))));
    }

pub told : StepsAreTold
unfolding hit
told = (
  record {
    entry = Own 4 (Some 1);
    receivers = 1 ∷ [];
    ways = DeliverMessage 1 pass_2 ∷ DeliverAntimessage 1 pass_2 ∷ Process 1 ∷ [];
    next_is = refl;
    sent = only_1;
    ways_are = (DeliverMessage 1 pass_2 ∷ DeliverAntimessage 1 pass_2 ∷ Process 1 ∷ [], [], refl, inr (inl (record { pairs = []; pairs_are = sent_none; steps_are = refl })), refl);
    steps_are = refl;
  },
  record {
    entry = Own 4 (Some 1);
    receivers = 1 ∷ [];
    ways = DeliverAntimessage 1 pass_2 ∷ DeliverMessage 1 pass_2 ∷ Process 1 ∷ Process 1 ∷ Meet 0 pass_3 ∷ [];
    next_is = refl;
    sent = only_1;
    ways_are = (DeliverAntimessage 1 pass_2 ∷ DeliverMessage 1 pass_2 ∷ Process 1 ∷ Process 1 ∷ Meet 0 pass_3 ∷ [], [], refl, inr (inr (record { pairs = one_pair; pairs_are = sent_0; steps_are = refl })), refl);
    steps_are = refl;
  },
)
