-- The start exchange and the start leases of groups.
use Rattle.std.proofs.Common.{◌≡◌, ℕ, zero, suc, min, ◌<◌, ◌≤◌, ◌==◌, ◌&&◌, ◌⊎◌, inl, inr, Bool, true, false, cond, None, [], refl, subst, arith, ltb, leb}
use Rattle.std.proofs.lemmas.Bool.{le-ltb, le-leb, eq-eqb, cases_eq, cases_lt}
use Rattle.virtual_time.specs.Machine.{HasCount, Lawful, Machine}
use Rattle.virtual_time.specs.Bags.{sends}
use Rattle.virtual_time.specs.Reference.{reference_turn}
use Rattle.virtual_time.specs.Worlds.{start_world}
use Rattle.virtual_time.specs.Groups.Stubs.{IsSound, first_key, start_exchange, start_stub}
use Rattle.virtual_time.specs.Groups.Leases.{IsLease, Matches, start_lease}
use Rattle.virtual_time.specs.Groups.Wholes.{IsWholeWorld}
use Rattle.virtual_time.proofs.Exchange.Chunks.{no_sends}
use Rattle.virtual_time.proofs.Groups.Parts.{none}

module _ {S A : Type 0} (machine : Machine S A) (law : Lawful machine) (group : ℕ → ℕ) (count : ℕ) (counted : HasCount machine count) where
  -- the first key of a group is not above that of any of its components
  pub first_end : (g n : ℕ) → first_key machine group g n ≤ machine.top
  first_end g zero = omega arith
  first_end g (suc n) = go (group n == g) (first_end g n)
    where
      go : (b : Bool) → first_key machine group g n ≤ machine.top → cond b (min (machine.key n 0) (first_key machine group g n)) (first_key machine group g n) ≤ machine.top
      go true h = omega arith
      go false h = h

  first_low : (g n i : ℕ) → group i ≡ g → i < n → first_key machine group g n ≤ machine.key i 0
  first_low g zero i e l = absurd (omega arith)
  first_low g (suc n) i e l = go (first_low g n i e) (cases_eq i n)
    where
      more : (b : Bool) → first_key machine group g n ≤ machine.key i 0 → cond b (min (machine.key n 0) (first_key machine group g n)) (first_key machine group g n) ≤ machine.key i 0
      more true h = omega arith
      more false h = h

      go : (i < n → first_key machine group g n ≤ machine.key i 0) → (i ≡ n) ⊎ (i ≡ n → ⊥) → first_key machine group g (suc n) ≤ machine.key i 0
      go ih (inl q) = subst (λ (m : ℕ). cond (group m == g) (min (machine.key m 0) (first_key machine group g n)) (first_key machine group g n) ≤ machine.key i 0) q (rw (eq-eqb (group i) g e) (omega arith))
      go ih (inr ne) = more (group n == g) (ih (omega arith))

  pub start_turn : (g i : ℕ) → group i ≡ g → first_key machine group g count ≤ machine.key i 0
  start_turn g i e = go (cases_lt i count)
    where
      go : (i < count) ⊎ (count ≤ i) → first_key machine group g count ≤ machine.key i 0
      go (inl l) = first_low g count i e l
      go (inr l) = let s = counted.silent i 0 l in let f = first_end g count in omega arith

  pub start_sound : IsSound machine group count (start_exchange machine group count)
  start_sound =
      record {
        end = omega arith;
        base = λ g. omega arith;
        floor = λ g. omega arith;
        plus = λ j. tt;
        minus = λ j. tt;
        even = λ j k a l. refl;
        settled = λ j k a l h. absurd (omega arith);
        sent = λ j k a l h. absurd (omega arith);
        runs = λ g. record {
          es = λ i. [];
          done = λ i e. omega arith;
          next = λ i e. start_turn g i e;
          ins = λ i k a e l h. let z = (none machine group k i (sends machine [] k a i) (no_sends machine law k a i)).1 in omega arith;
          outs = λ k a j own l h. (none machine group k j (sends machine [] k a j) (no_sends machine law k a j)).0;
        };
        one_taken = λ j k a. omega arith;
        one_standing = λ j k a. omega arith;
        low_taken = λ j k a l. refl;
        low_standing = λ j k a l. refl;
        held = (0, record { end = omega arith; low = λ j has. omega arith; counted = λ j within. omega arith; given = refl; falls = tt; turns = λ k. none_held k });
      }
    where
      none_held : (k : ℕ) → None ≡ cond (leb 0 k && ltb k 0) (reference_turn machine k) None
      none_held k = rw (le-leb 0 k (omega arith), le-ltb k 0 (omega arith))

  pub start_lease_is : (g : ℕ) → IsLease machine group g (start_lease machine group count g)
  start_lease_is g =
      record {
        end = omega arith;
        low = omega arith;
        proper = λ i e. record { done = omega arith; pending = tt; sorted = tt; owed_sorted = tt; plus = tt; minus = tt; owed = λ k a. inl refl };
        first = λ i e. refl;
        grounded = λ i e. refl;
        past = λ i e. record { turn = start_turn g i e; pending = tt; plus = tt; minus = tt };
        owed = λ i e. tt;
        out_plus = λ j. tt;
        out_minus = λ j. tt;
        self_plus = λ i e. refl;
        self_minus = λ i e. refl;
        mine_plus = λ j k a ne. refl;
        mine_minus = λ j k a ne. refl;
      }

  pub start_matches : (g : ℕ) → Matches machine group g (start_stub machine group count g) (start_lease machine group count g)
  start_matches g =
      record {
        base = refl;
        floor = refl;
        taken = λ i k a e. let z = (none machine group k i (sends machine [] k a i) (no_sends machine law k a i)).1 in omega arith;
        standing = λ k a j own. let z = (none machine group k j (sends machine [] k a j) (no_sends machine law k a j)).0 in omega arith;
      }

  pub start_whole : IsWholeWorld machine group (start_exchange machine group count) (start_lease machine group count) (start_world machine)
  start_whole =
      record {
        bound = refl;
        committed = refl;
        base = λ j. refl;
        first = λ j. refl;
        done = λ j. refl;
        pending = λ j. refl;
        owed = λ j. refl;
        plus = λ j k a. omega arith;
        minus = λ j k a. omega arith;
      }
