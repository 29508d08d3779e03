-- The whole world takes the steps of a group's lease.
use Rattle.std.proofs.Common.{ℕ, ◌<◌, ◌≤◌, List, [], ◌∷◌, refl, arith}
use Rattle.std.proofs.lemmas.Bool.{lt-ltb}
use Rattle.virtual_time.specs.Machine.{Lawful, Machine}
use Rattle.virtual_time.specs.Worlds.{Commit, DeliverAntimessage, DeliverMessage, Meet, Process, RollBack, Step, World}
use Rattle.virtual_time.specs.Bags.{times}
use Rattle.virtual_time.specs.Rules.{IsWorld}
use Rattle.virtual_time.specs.Groups.Stubs.{Exchange, IsSound, Stub}
use Rattle.virtual_time.specs.Groups.Leases.{IsLease, Lease, Matches, alone, lease_of}
use Rattle.virtual_time.specs.Groups.Wholes.{IsWholeWorld, put_lease}
use Rattle.virtual_time.proofs.Moves.{Leads, walk_meet, walk_minus, walk_on, walk_plus}
use Rattle.virtual_time.proofs.Exchange.Alone.{private_from, private_minus, private_plus, private_put}
use Rattle.virtual_time.proofs.Exchange.Followed.{follow_minus, follow_plus_open, follow_process}
use Rattle.virtual_time.proofs.Lists.{AllFrom-weaken}
use Rattle.virtual_time.proofs.Kept.{process_kept}
use Rattle.virtual_time.proofs.Messages.{all_low, deliver_minus_kept, deliver_plus_kept, meet_kept}
use Rattle.virtual_time.proofs.Groups.Alone.{Private, Ran, WalksAlone, does_ran, private_none, private_one, private_then, ran_lease, ran_meet, ran_minus, ran_none, ran_plus, ran_process}
use Rattle.virtual_time.proofs.Groups.Steps.{Follows, follow_all, follow_meet, follow_one, follow_start, follow_whole, rest_minus, rest_plus}

module _ {S A : Type 0} (machine : Machine S A) (law : Lawful machine) (group : ℕ → ℕ) (g : ℕ) (st : Stub A) (l : Lease S A) (lease : IsLease machine group g l) (match : Matches machine group g st l)
    (b : ℕ) (low : b ≤ l.floor) (p m : ℕ → ℕ → A → ℕ) (start : World S A) where
  pub record Along (w : World S A) (ss : List (Step A)) (v : World S A) : Type 0 where
    pub end : World S A
    pub reaches : Leads machine w ss end
    pub private : Private machine group g start end
    pub follows : Follows machine group g b p m v end

  pub does_along : (ss : List (Step A)) (u v w : World S A) → Ran machine law group g st l lease match u → IsWorld machine w → Private machine group g start w → Follows machine group g b p m u w → WalksAlone machine group g u ss v → Along w ss v
  does_along [] u v w r isw priv f h = record { end = w; reaches = refl; private = priv; follows = rw h f }
  does_along (Process i ∷ ss) u v w r isw priv f h =
      let o = r.over i in
      let t = o.turn h.0 in
      let pu = private_from machine law i (u.part i).pending u in
      let pw = private_from machine law i (w.part i).pending w in
      let z = does_along ss (walk_on machine i u) v (walk_on machine i w) (ran_process machine law group g st l lease match i u h.0 r) (process_kept machine law i w isw)
      (private_then machine law group g start w (walk_on machine i w) priv (private_one machine law group g i h.0 w (walk_on machine i w) pw))
      (follow_all machine law group g b p m i h.0 u w (walk_on machine i u) (walk_on machine i w) f pu pw
      (follow_process machine law b i p m u w (omega arith) (AllFrom-weaken b l.floor (u.part i).pending low o.pending) (follow_one machine law group g b p m i h.0 u w f))) h.1 in
      record { end = z.end; reaches = (walk_on machine i w, refl, z.reaches); private = z.private; follows = z.follows }
  does_along (DeliverMessage i x ∷ ss) u v w r isw priv f h =
      let o = r.over i in
      let c = f.plus i x.key x.action in
      let n = h.1 in
      let have : 0 < times machine (w.part i).plus x.key x.action = omega arith in
      let far = all_low machine law l.floor x (u.part i).plus o.plus h.1 in
      let near = all_low machine law u.bound x (u.part i).plus (r.holds.proper i).plus h.1 in
      let pu = private_plus machine law i x u r.holds in
      let pw = private_plus machine law i x w isw in
      let z = does_along ss (walk_plus machine i x u) v (walk_plus machine i x w) (ran_plus machine law group g st l lease match i x u h.0 r h.1) (deliver_plus_kept machine law w i x isw have)
      (private_then machine law group g start w (walk_plus machine i x w) priv (private_one machine law group g i h.0 w (walk_plus machine i x w) pw))
      (follow_all machine law group g b p m i h.0 u w (walk_plus machine i x u) (walk_plus machine i x w) f pu pw
      (follow_plus_open machine law b i p m x u w r.holds (omega arith) near h.1 (follow_one machine law group g b p m i h.0 u w f))) h.2 in
      record { end = z.end; reaches = (walk_plus machine i x w, rw (lt-ltb 0 (times machine (w.part i).plus x.key x.action) have), z.reaches); private = z.private; follows = z.follows }
  does_along (DeliverAntimessage i x ∷ ss) u v w r isw priv f h =
      let o = r.over i in
      let c = f.minus i x.key x.action in
      let n = h.1 in
      let have : 0 < times machine (w.part i).minus x.key x.action = omega arith in
      let far = all_low machine law l.floor x (u.part i).minus o.minus h.1 in
      let pu = private_minus machine law i x u r.holds in
      let pw = private_minus machine law i x w isw in
      let z = does_along ss (walk_minus machine i x u) v (walk_minus machine i x w) (ran_minus machine law group g st l lease match i x u h.0 r h.1) (deliver_minus_kept machine law w i x isw have)
      (private_then machine law group g start w (walk_minus machine i x w) priv (private_one machine law group g i h.0 w (walk_minus machine i x w) pw))
      (follow_all machine law group g b p m i h.0 u w (walk_minus machine i x u) (walk_minus machine i x w) f pu pw
      (follow_minus machine law b i p m x u w r.holds (omega arith) h.1 (follow_one machine law group g b p m i h.0 u w f))) h.2 in
      record { end = z.end; reaches = (walk_minus machine i x w, rw (lt-ltb 0 (times machine (w.part i).minus x.key x.action) have), z.reaches); private = z.private; follows = z.follows }
  does_along (Meet i x ∷ ss) u v w r isw priv f h =
      let c = f.plus i x.key x.action in
      let d = f.minus i x.key x.action in
      let n = h.1 in
      let q = h.2 in
      let here : 0 < times machine (w.part i).plus x.key x.action = omega arith in
      let there : 0 < times machine (w.part i).minus x.key x.action = omega arith in
      let pu = private_put machine law i _ u in
      let pw = private_put machine law i _ w in
      let z = does_along ss (walk_meet machine i x u) v (walk_meet machine i x w) (ran_meet machine law group g st l lease match i x u h.0 r h.1 h.2) (meet_kept machine law w i x isw here there)
      (private_then machine law group g start w (walk_meet machine i x w) priv (private_one machine law group g i h.0 w (walk_meet machine i x w) pw))
      (follow_all machine law group g b p m i h.0 u w (walk_meet machine i x u) (walk_meet machine i x w) f pu pw
      (follow_meet machine law group g b p m i h.0 x u w h.1 h.2 (follow_one machine law group g b p m i h.0 u w f))) h.3 in
      record {
        end = z.end;
        reaches = (walk_meet machine i x w, rw (lt-ltb 0 (times machine (w.part i).plus x.key x.action) here, lt-ltb 0 (times machine (w.part i).minus x.key x.action) there), z.reaches);
        private = z.private;
        follows = z.follows;
      }
  does_along (RollBack i ∷ ss) u v w r isw priv f h = absurd h
  does_along (Commit c ∷ ss) u v w r isw priv f h = absurd h

module _ {S A : Type 0} (machine : Machine S A) (law : Lawful machine) (group : ℕ → ℕ) {count : ℕ} (g : ℕ) (e : Exchange A) (is : IsSound machine group count e) (ls : ℕ → Lease S A) (lease : IsLease machine group g (ls g)) (match : Matches machine group g (e.stub g) (ls g))
    (w : World S A) (whole : IsWholeWorld machine group e ls w) (isw : IsWorld machine w) where
  -- what the lease does by itself leads the whole world to the new whole, by the same steps
  pub does_whole : (ss : List (Step A)) (u : World S A) → WalksAlone machine group g (alone machine group g (ls g)) ss u → (v : World S A) × Leads machine w ss v × IsWholeWorld machine group e (put_lease g (lease_of group g (ls g) u) ls) v
  does_whole ss u h =
      let f = is.floor g in
      let n = match.floor in
      let first = ran_none machine law group g (e.stub g) (ls g) lease match in
      let r = does_ran machine law group g (e.stub g) (ls g) lease match ss (alone machine group g (ls g)) u first h in
      let z = does_along machine law group g (e.stub g) (ls g) lease match e.bound (omega arith) (rest_plus machine law group g e ls lease w whole) (rest_minus machine law group g e ls lease w whole) w ss (alone machine group g (ls g)) u w
      first isw (private_none machine law group g w) (follow_start machine law group g e ls lease w whole) h in
      (z.end, z.reaches, follow_whole machine law group g e ls lease w whole u z.end z.private z.follows (ran_lease machine law group g (e.stub g) (ls g) lease match u r))
