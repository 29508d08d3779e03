-- run_ahead and settle: the lease stays a lease that matches, and the whole world takes the same steps.
use Rattle.std.proofs.Common.{ℕ, ◌<◌, ◌≤◌, List, [], ◌∷◌, refl, ap, sym, arith}
use Rattle.std.proofs.lemmas.Bool.{lt-ltb}
use Rattle.virtual_time.specs.Machine.{Lawful, Machine}
use Rattle.virtual_time.specs.Worlds.{Commit, DeliverAntimessage, DeliverMessage, Meet, Process, RollBack, Step, World}
use Rattle.virtual_time.specs.Bags.{times}
use Rattle.virtual_time.proofs.Moves.{Leads, walk_minus, walk_on, walk_plus}
use Rattle.virtual_time.specs.Rules.{IsWorld}
use Rattle.virtual_time.specs.Exchange.Stubs.{Exchange, IsSound, Stub}
use Rattle.virtual_time.specs.Exchange.Leases.{IsLease, Lease, Matches, alone, lease_of}
use Rattle.virtual_time.specs.Exchange.Wholes.{IsWholeWorld, put_lease}
use Rattle.virtual_time.proofs.Exchange.Parts.{Follows, Private, WalksAlone}
use Rattle.virtual_time.proofs.Lists.{AllFrom-weaken}
use Rattle.virtual_time.proofs.Kept.{process_kept}
use Rattle.virtual_time.proofs.Messages.{all_low, deliver_plus_kept, deliver_minus_kept}
use Rattle.virtual_time.proofs.Exchange.Alone.{Ran, ran_none, ran_process, ran_plus, ran_minus, ran_lease, ran_matches, private_none, private_then, private_from, private_plus, private_minus}
use Rattle.virtual_time.proofs.Exchange.Followed.{follow_process, follow_plus_open, follow_minus}
use Rattle.virtual_time.proofs.Exchange.Steps.{rest_plus, rest_minus, follow_start, follow_whole}

module _ {S A : Type 0} (machine : Machine S A) (law : Lawful machine) (i : ℕ) (st : Stub A) (l : Lease S A) (lease : IsLease machine i l) (match : Matches machine i st l) where
  pub does_ran : (ss : List (Step A)) (u v : World S A) → Ran machine law i st l lease match u → WalksAlone machine i u ss v → Ran machine law i st l lease match v
  does_ran [] u v r h = rw h r
  does_ran (Process j ∷ ss) u v r h = does_ran ss (walk_on machine i u) v (ran_process machine law i st l lease match u r) h.1
  does_ran (DeliverMessage j x ∷ ss) u v r h = does_ran ss (walk_plus machine i x u) v (ran_plus machine law i st l lease match x u r h.1) h.2
  does_ran (DeliverAntimessage j x ∷ ss) u v r h = does_ran ss (walk_minus machine i x u) v (ran_minus machine law i st l lease match x u r h.1) h.2
  does_ran (RollBack j ∷ ss) u v r h = absurd h
  does_ran (Meet j x ∷ ss) u v r h = absurd h
  does_ran (Commit b ∷ ss) u v r h = absurd h

  -- they keep the lease a lease, and base, floor, taken and standing
  pub does_lease : (ss : List (Step A)) (v : World S A) → WalksAlone machine i (alone machine i l) ss v → IsLease machine i (lease_of i l.floor v) × Matches machine i st (lease_of i l.floor v)
  does_lease ss v h =
      let r = does_ran ss (alone machine i l) v (ran_none machine law i st l lease match) h in
      (ran_lease machine law i st l lease match v r, ran_matches machine law i st l lease match v r)

  module _ (g : ℕ) (low : g ≤ l.floor) (p m : ℕ → ℕ → A → ℕ) (start : World S A) where
    pub record Along (w : World S A) (ss : List (Step A)) (v : World S A) : Type 0 where
      pub end : World S A
      pub reaches : Leads machine w ss end
      pub private : Private machine i start end
      pub follows : Follows machine g i p m v end

    pub does_along : (ss : List (Step A)) (u v w : World S A) → Ran machine law i st l lease match u → IsWorld machine w → Private machine i start w → Follows machine g i p m u w → WalksAlone machine i u ss v → Along w ss v
    does_along [] u v w r isw priv f h = record { end = w; reaches = refl; private = priv; follows = rw h f }
    does_along (Process j ∷ ss) u v w r isw priv f h =
        let o = r.over i in
        let t = o.turn refl in
        let z = does_along ss (walk_on machine i u) v (walk_on machine i w) (ran_process machine law i st l lease match u r) (process_kept machine law i w isw)
        (private_then machine law i start w (walk_on machine i w) priv (private_from machine law i (w.part i).pending w))
        (follow_process machine law g i p m u w (omega arith) (AllFrom-weaken g l.floor (u.part i).pending low o.pending) f) h.1 in
        record { end = z.end; reaches = (walk_on machine i w, ap (λ (n : ℕ). walk_on machine n w) (sym h.0), z.reaches); private = z.private; follows = z.follows }
    does_along (DeliverMessage j x ∷ ss) u v w r isw priv f h =
        let o = r.over i in
        let c = f.plus i x.key x.action in
        let n = h.1 in
        let have : 0 < times machine (w.part i).plus x.key x.action = omega arith in
        let far = all_low machine law l.floor x (u.part i).plus o.plus h.1 in
        let near = all_low machine law u.bound x (u.part i).plus (r.holds.proper i).plus h.1 in
        let z = does_along ss (walk_plus machine i x u) v (walk_plus machine i x w) (ran_plus machine law i st l lease match x u r h.1) (deliver_plus_kept machine law w i x isw have)
        (private_then machine law i start w (walk_plus machine i x w) priv (private_plus machine law i x w isw))
        (follow_plus_open machine law g i p m x u w r.holds (omega arith) near h.1 f) h.2 in
        record { end = z.end; reaches = (walk_plus machine i x w, rw (h.0, lt-ltb 0 (times machine (w.part i).plus x.key x.action) have), z.reaches); private = z.private; follows = z.follows }
    does_along (DeliverAntimessage j x ∷ ss) u v w r isw priv f h =
        let o = r.over i in
        let c = f.minus i x.key x.action in
        let n = h.1 in
        let have : 0 < times machine (w.part i).minus x.key x.action = omega arith in
        let far = all_low machine law l.floor x (u.part i).minus o.minus h.1 in
        let z = does_along ss (walk_minus machine i x u) v (walk_minus machine i x w) (ran_minus machine law i st l lease match x u r h.1) (deliver_minus_kept machine law w i x isw have)
        (private_then machine law i start w (walk_minus machine i x w) priv (private_minus machine law i x w isw))
        (follow_minus machine law g i p m x u w r.holds (omega arith) h.1 f) h.2 in
        record { end = z.end; reaches = (walk_minus machine i x w, rw (h.0, lt-ltb 0 (times machine (w.part i).minus x.key x.action) have), z.reaches); private = z.private; follows = z.follows }
    does_along (RollBack j ∷ ss) u v w r isw priv f h = absurd h
    does_along (Meet j x ∷ ss) u v w r isw priv f h = absurd h
    does_along (Commit b ∷ ss) u v w r isw priv f h = absurd h

module _ {S A : Type 0} (machine : Machine S A) (law : Lawful machine) {count : ℕ} (i : ℕ) (e : Exchange A) (is : IsSound machine count e) (ls : ℕ → Lease S A) (lease : IsLease machine i (ls i)) (match : Matches machine i (e.stub i) (ls i)) (w : World S A) (whole : IsWholeWorld machine e ls w) (isw : IsWorld machine w) where
  -- what the lease does by itself leads the whole world to the new whole, by the same steps
  pub does_whole : (ss : List (Step A)) (u : World S A) → WalksAlone machine i (alone machine i (ls i)) ss u → (v : World S A) × Leads machine w ss v × IsWholeWorld machine e (put_lease i (lease_of i (ls i).floor u) ls) v
  does_whole ss u h =
      let f = is.floor i in
      let n = match.floor in
      let r = does_ran machine law i (e.stub i) (ls i) lease match ss (alone machine i (ls i)) u (ran_none machine law i (e.stub i) (ls i) lease match) h in
      let z = does_along machine law i (e.stub i) (ls i) lease match e.bound (omega arith) (rest_plus machine law i e ls lease w whole) (rest_minus machine law i e ls lease w whole) w ss (alone machine i (ls i)) u w
      (ran_none machine law i (e.stub i) (ls i) lease match) isw (private_none machine law i w) (follow_start machine law i e ls lease w whole) h in
      (z.end, z.reaches, follow_whole machine law i e ls lease w whole u z.end r.private z.private z.follows (ran_lease machine law i (e.stub i) (ls i) lease match u r))
