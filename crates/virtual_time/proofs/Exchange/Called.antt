-- After any list of calls all is sound, and the whole is a world that core steps reach.
use Rattle.std.proofs.Common.{◌≡◌, ℕ, ◌⊎◌, inl, inr, Bool, cond, List, [], ◌∷◌, ◌++◌, refl, ap, sym, subst}
use Rattle.std.proofs.lemmas.Bool.{eq-eqb, ne_eqb, cases_eq}
use Rattle.virtual_time.specs.Inverses.{meets_of}
use Rattle.virtual_time.specs.Machine.{HasCount, Lawful, Machine}
use Rattle.virtual_time.specs.Worlds.{Commit, Reaches, Step, World, start_world}
use Rattle.virtual_time.specs.Rules.{IsWorld}
use Rattle.virtual_time.specs.Exchange.Stubs.{Exchange, IsSound, Stub}
use Rattle.virtual_time.specs.Exchange.Leases.{IsLease, Lease, Matches, alone, lease_of}
use Rattle.virtual_time.specs.Exchange.Wholes.{IsWholeWorld, put_lease}
use Rattle.virtual_time.specs.Exchange.Calls.{Call, CallAlone, CallChunk, CallCommit, CallMeet, Called, Calls, IsShared, Shared, start_shared}
use Rattle.virtual_time.proofs.Commits.{run_kept, start_kept}
use Rattle.virtual_time.proofs.Tied.{alone_walks, leads, reaches}
use Rattle.virtual_time.proofs.Exchange.Chunks.{chunk_sound, start_lease_is, start_matches, start_sound}
use Rattle.virtual_time.proofs.Exchange.Committed.{commit_sound}
use Rattle.virtual_time.proofs.Exchange.Meetings.{lease_new, meet_sound}
use Rattle.virtual_time.proofs.Exchange.Runs.{does_lease, does_whole}
use Rattle.virtual_time.proofs.Exchange.Wholes.{commit_leads, meet_whole, start_whole}

module _ {S A : Type 0} (machine : Machine S A) (law : Lawful machine) where
  pub more_steps : (u w v : World S A) (ss ts : List (Step A)) → Reaches machine u ss w → Reaches machine w ts v → Reaches machine u (ss ++ ts) v
  more_steps u w v [] ts p q = subst (λ (x : World S A). Reaches machine x ts v) p q
  more_steps u w v (s ∷ ss) ts p q = (p.0, p.1, more_steps p.0 w v ss ts p.2 q)

  is_world : {count : ℕ} (u : Shared S A) (is : IsShared machine count u) → IsWorld machine is.world
  is_world u is = run_kept machine law is.steps (start_world machine) is.world (start_kept machine law) (leads machine (start_world machine) is.steps is.world is.reached)

  pub each_lease : (P : ℕ → Lease S A → Type 0) (i : ℕ) (l : Lease S A) (ls : ℕ → Lease S A) → P i l → ((j : ℕ) → (j ≡ i → ⊥) → P j (ls j)) → (j : ℕ) → P j (put_lease i l ls j)
  each_lease P i l ls here other j = go (cases_eq j i)
    where
      go : (j ≡ i) ⊎ (j ≡ i → ⊥) → P j (put_lease i l ls j)
      go (inl e) = subst (λ (n : ℕ). P n (put_lease i l ls n)) (sym e) (subst (λ (b : Bool). P i (cond b l (ls i))) (sym (eq-eqb i i refl)) here)
      go (inr ne) = subst (λ (b : Bool). P j (cond b l (ls j))) (sym (ne_eqb j i ne)) (other j ne)

  pub call_kept : (count : ℕ) → HasCount machine count → (u : Shared S A) (c : Call A) (v : Shared S A) → IsShared machine count u → Called machine count u c v → IsShared machine count v
  call_kept count counted u (CallMeet i) v is h =
      let e = h.0 in
      let l = h.1 in
      let met = h.2 in
      let r = meet_whole machine law i u.exchange u.lease is.leases is.world is.whole e l met in
      subst (λ (x : Shared S A). IsShared machine count x) (sym h.3)
      (record {
        sound = meet_sound machine law i u.exchange is.sound (u.lease i) (is.leases i) (is.match i) e l met;
        leases = each_lease (λ j x. IsLease machine j x) i l u.lease (lease_new machine law i u.exchange is.sound (u.lease i) (is.leases i) (is.match i) e l met) (λ j ne. is.leases j);
        match = each_lease (λ j x. Matches machine j (e.stub j) x) i l u.lease met.matches (λ j ne. let m = is.match j in
            subst (λ (st : Stub A). Matches machine j st (u.lease j)) (sym (met.others j ne)) (record { base = m.base; floor = m.floor; taken = m.taken; standing = m.standing }));
        steps = is.steps ++ meets_of met.gone;
        world = r.0;
        reached = more_steps (start_world machine) is.world r.0 is.steps (meets_of met.gone) is.reached (reaches machine is.world (meets_of met.gone) r.0 r.1);
        whole = r.2;
      })
  call_kept count counted u CallCommit v is h =
      let e = h.0 in
      let commit = h.1 in
      let r = commit_leads machine law u.exchange e u.lease is.world is.sound is.leases is.match is.whole (is_world u is) commit in
      let up = commit.most u.exchange.bound (record { end = is.sound.end; floor = is.sound.floor; plus = is.sound.plus; minus = is.sound.minus }) in
      let same_stub : e.stub ≡ u.exchange.stub = ap (λ (x : Exchange A). x.stub) commit.rest in
      subst (λ (x : Shared S A). IsShared machine count x) (sym h.2)
      (record {
        sound = subst (λ (x : Exchange A). IsSound machine count x) (sym commit.rest) (commit_sound machine law u.exchange is.sound e.bound up commit.clear);
        leases = is.leases;
        match = λ j. subst (λ (st : ℕ → Stub A). Matches machine j (st j) (u.lease j)) (sym same_stub) (is.match j);
        steps = is.steps ++ Commit e.bound ∷ [];
        world = r.0;
        reached = more_steps (start_world machine) is.world r.0 is.steps (Commit e.bound ∷ []) is.reached (reaches machine is.world (Commit e.bound ∷ []) r.0 r.1);
        whole = r.2;
      })
  call_kept count counted u CallChunk v is h =
      let b = h.0 in
      let e = h.1 in
      let ts = h.2 in
      let chunk = h.3 in
      let w = is.whole in
      let same_stub : e.stub ≡ u.exchange.stub = ap (λ (x : Exchange A). x.stub) chunk.rest in
      subst (λ (x : Shared S A). IsShared machine count x) (sym h.4)
      (record {
        sound = (chunk_sound machine law count counted u.exchange b e ts is.sound chunk).0;
        leases = is.leases;
        match = λ j. subst (λ (st : ℕ → Stub A). Matches machine j (st j) (u.lease j)) (sym same_stub) (is.match j);
        steps = is.steps;
        world = is.world;
        reached = is.reached;
        whole = subst (λ (x : Exchange A). IsWholeWorld machine x u.lease is.world) (sym chunk.rest)
            (record { bound = w.bound; committed = w.committed; base = w.base; first = w.first; done = w.done; pending = w.pending; owed = w.owed; plus = w.plus; minus = w.minus });
      })
  call_kept count counted u (CallAlone i steps) v is h =
      let w = h.0 in
      let walk = alone_walks machine i (alone machine i (u.lease i)) steps w h.1 in
      let r = does_whole machine law i u.exchange is.sound u.lease (is.leases i) (is.match i) is.world is.whole (is_world u is) steps w walk in
      let k = does_lease machine law i (u.exchange.stub i) (u.lease i) (is.leases i) (is.match i) steps w walk in
      subst (λ (x : Shared S A). IsShared machine count x) (sym h.2)
      (record {
        sound = is.sound;
        leases = each_lease (λ j x. IsLease machine j x) i (lease_of i (u.lease i).floor w) u.lease k.0 (λ j ne. is.leases j);
        match = each_lease (λ j x. Matches machine j (u.exchange.stub j) x) i (lease_of i (u.lease i).floor w) u.lease k.1 (λ j ne. is.match j);
        steps = is.steps ++ steps;
        world = r.0;
        reached = more_steps (start_world machine) is.world r.0 is.steps steps is.reached (reaches machine is.world steps r.0 r.1);
        whole = r.2;
      })

  pub start_is_shared : (count : ℕ) → IsShared machine count (start_shared machine)
  start_is_shared count =
      record {
        sound = start_sound machine law count;
        leases = λ i. start_lease_is machine law i;
        match = λ i. start_matches machine law i;
        steps = [];
        world = start_world machine;
        reached = refl;
        whole = start_whole machine law;
      }

  pub calls_kept : (count : ℕ) → HasCount machine count → (calls : List (Call A)) (u v : Shared S A) → IsShared machine count u → Calls machine count u calls v → IsShared machine count v
  calls_kept count counted [] u v is h = subst (λ (x : Shared S A). IsShared machine count x) (sym h) is
  calls_kept count counted (c ∷ cs) u v is h = calls_kept count counted cs h.0 v (call_kept count counted u c h.0 is h.1) h.2
