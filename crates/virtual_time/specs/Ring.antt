-- A small closed machine: two components in a ring hand a token round. Component 0 has turns at ticks 2 and 4, component 1 at
-- ticks 1 and 3. A key is twice its tick and its component; 100 is the end.
use Rattle.std.specs.Prelude.{◌≡◌, ℕ, zero, suc, ◌-◌, ◌%◌, ◌==◌, ◌&&◌, nat_le, cond, not, None, Some, List, [], ◌∷◌}
use Rattle.virtual_time.specs.Machine.{Machine}
use Rattle.virtual_time.specs.Entries.{Item}
use Rattle.virtual_time.specs.Worlds.{World, Step, Process, RollBack, DeliverMessage, DeliverAntimessage, Meet, Commit, process, roll_back, deliver_message, deliver_antimessage, meet, commit}

-- The keys of the ring.
abbrev pub ring_key : ℕ → ℕ → ℕ
ring_key zero zero = 4
ring_key zero (suc zero) = 8
ring_key (suc zero) zero = 3
ring_key (suc zero) (suc zero) = 7
ring_key _ _ = 100

-- A state is 1 where the component has the token. An action names the component that gets it.
abbrev pub ring : Machine ℕ ℕ
ring =
    record {
      top = 100;
      start = λ i. cond (i == 0) 1 0;
      key = ring_key;
      owner = λ k. k % 2;
      outcome = λ i n s. cond (s == 1) (Some (1 - i)) None;
      apply = λ i a s. cond (a == i) 1 0;
      receives = λ i a j. (a == j) && (not (i == j) && nat_le j 1);
      same = λ a b. a == b;
      before = λ a b. nat_le a b;
    }

-- Component 0 hands the token over at tick 2.
abbrev pub pass_2 : Item ℕ
pass_2 = record { key = 4; action = 1 }

-- Component 1 hands it over at tick 3.
abbrev pub pass_3 : Item ℕ
pass_3 = record { key = 7; action = 0 }

-- Component 0 hands it over at tick 4.
abbrev pub pass_4 : Item ℕ
pass_4 = record { key = 8; action = 1 }

-- What steps that are all accepted make of a world.
abbrev pub led : World ℕ ℕ → List (Step ℕ) → World ℕ ℕ
led w [] = w
led w (Process i ∷ ss) = led (process ring i w) ss
led w (RollBack i ∷ ss) = led (roll_back ring i w) ss
led w (DeliverMessage j x ∷ ss) = led (deliver_message ring j x w) ss
led w (DeliverAntimessage j x ∷ ss) = led (deliver_antimessage ring j x w) ss
led w (Meet j x ∷ ss) = led (meet ring j x w) ss
led w (Commit b ∷ ss) = led (commit ring b w) ss

-- Two worlds are equal at both components and in what is committed.
pub record AreAlike (w v : World ℕ ℕ) : Type 0 where
  pub zero_is : w.part 0 ≡ v.part 0
  pub one_is : w.part 1 ≡ v.part 1
  pub bound : w.bound ≡ v.bound
  pub committed : w.committed ≡ v.committed
