-- What a meeting of a group has to count, and a meeting at the start.
use Rattle.std.proofs.Common.{◌≡◌, ℕ, zero, suc, min, ◌+◌, ◌≤◌, ◌==◌, ◌&&◌, ◌⊎◌, inl, inr, Bool, true, false, cond, Option, None, [], refl, subst, arith, leb}
use Rattle.std.proofs.lemmas.Bool.{eq-eqb, ne_eqb, cases_eq}
use Rattle.virtual_time.specs.Machine.{HasCount, Lawful, Machine}
use Rattle.virtual_time.specs.Bags.{inputs, sends, times}
use Rattle.virtual_time.specs.Worlds.{start_part}
use Rattle.virtual_time.specs.Groups.Stubs.{Exchange, IsSound, first_key, start_exchange, within}
use Rattle.virtual_time.specs.Groups.Leases.{IsFloor, Lease, Matches, start_lease}
use Rattle.virtual_time.specs.Groups.Meetings.{Met}
use Rattle.virtual_time.proofs.Groups.Starts.{first_end, start_matches, start_turn}

module _ {S A : Type 0} (machine : Machine S A) (law : Lawful machine) (group : ℕ → ℕ) (count : ℕ) where
  -- a meeting never has to count below 0
  pub net_taken : (g i k : ℕ) (a : A) (e : Exchange A) (l : Lease S A) → IsSound machine group count e → Matches machine group g (e.stub g) l → group i ≡ g → e.bound ≤ k
      → (e.stub (group (machine.owner k))).standing k a i + within machine group k i (sends machine (l.part (machine.owner k)).done k a i) + times machine (l.part i).owed k a + (times machine (l.part i).minus k a + times machine (e.minus i) k a)
      ≡ inputs machine (l.part i).done k a + times machine (l.part i).pending k a + (times machine (l.part i).plus k a + times machine (e.plus i) k a)
  net_taken g i k a e l is match own h =
      let m = match.taken i k a own in
      let v : (e.stub (group (machine.owner k))).standing k a i + times machine (e.minus i) k a ≡ (e.stub g).taken i k a + times machine (e.plus i) k a
      = subst (λ (n : ℕ). (e.stub (group (machine.owner k))).standing k a i + times machine (e.minus i) k a ≡ (e.stub n).taken i k a + times machine (e.plus i) k a) own (is.even i k a h) in
      omega arith

  module _ (counted : HasCount machine count) (g : ℕ) where
    first_most : (d n : ℕ) → d ≤ machine.top → ((i : ℕ) → group i ≡ g → d ≤ machine.key i 0) → d ≤ first_key machine group g n
    first_most d zero l past = l
    first_most d (suc n) l past = go (cases_eq (group n) g) (first_most d n l past)
      where
        go : (group n ≡ g) ⊎ (group n ≡ g → ⊥) → d ≤ first_key machine group g n → d ≤ cond (group n == g) (min (machine.key n 0) (first_key machine group g n)) (first_key machine group g n)
        go (inl e) ih = let h = past n e in rw (eq-eqb (group n) g e) (omega arith)
        go (inr ne) ih = rw (ne_eqb (group n) g ne) ih

    pub start_floor : IsFloor machine group g (first_key machine group g count) (start_part machine)
    start_floor =
        record {
          end = first_end machine law group count counted g count;
          low = λ i own. record { turn = start_turn machine law group count counted g i own; pending = tt; plus = tt; minus = tt };
          most = λ d end past. first_most d count end (λ i own. (past i own).turn);
        }

    pub meet_start : Met machine group g (start_exchange machine group count) (start_lease machine group count g) (start_exchange machine group count) (start_lease machine group count g)
    meet_start =
        record {
          p = λ j. [];
          m = λ j. [];
          gone = [];
          by_plus = λ j k a. refl;
          by_minus = λ j k a. refl;
          apart = λ j k a. inl refl;
          p_low = λ j. tt;
          m_low = λ j. tt;
          others = λ h ne. refl;
          others_plus = λ j ne. refl;
          others_minus = λ j ne. refl;
          bound = refl;
          given = refl;
          base = refl;
          first = λ i own. refl;
          state = λ i own. refl;
          done = λ i own. refl;
          pending = λ i own. refl;
          owed = λ i own. refl;
          tray_plus = λ i k a own. refl;
          tray_minus = λ i k a own. refl;
          tray_low = λ i own. tt;
          tray_low_minus = λ i own. tt;
          out_plus = λ j. refl;
          out_minus = λ j. refl;
          floor = start_floor;
          matches = start_matches machine law group count counted g;
          inbox_plus = λ i own. refl;
          inbox_minus = λ i own. refl;
          falls = tt;
          turns = λ k. nothing (leb 0 k && (group (machine.owner k) == g));
        }
      where
        nothing : (b : Bool) → ◌≡◌ {A = Option (Option A)} None (cond b None None)
        nothing true = refl
        nothing false = refl
