-- After any list of calls of groups all is sound, and the whole is a world that core steps reach.
use Rattle.std.proofs.Common.{◌≡◌, ℕ, ◌⊎◌, inl, inr, Bool, cond, List, [], ◌∷◌, ◌++◌, refl, ap, sym, subst}
use Rattle.std.proofs.lemmas.Bool.{eq-eqb, ne_eqb, cases_eq}
use Rattle.virtual_time.specs.Inverses.{meets_of}
use Rattle.virtual_time.specs.Machine.{HasCount, Lawful, Machine}
use Rattle.virtual_time.specs.Worlds.{Commit, start_world}
use Rattle.virtual_time.specs.Rules.{IsWorld}
use Rattle.virtual_time.specs.Exchange.Calls.{Call, CallAlone, CallChunk, CallCommit, CallMeet}
use Rattle.virtual_time.specs.Groups.Stubs.{Exchange, Stub}
use Rattle.virtual_time.specs.Groups.Leases.{IsLease, Lease, Matches, alone, lease_of}
use Rattle.virtual_time.specs.Groups.Wholes.{IsWholeWorld, put_lease}
use Rattle.virtual_time.specs.Groups.Calls.{Called, Calls, IsShared, Shared, start_shared}
use Rattle.virtual_time.proofs.Commits.{run_kept, start_kept}
use Rattle.virtual_time.proofs.Tied.{leads, reaches}
use Rattle.virtual_time.proofs.Exchange.Called.{more_steps}
use Rattle.virtual_time.proofs.Groups.Alone.{alone_walks, does_lease}
use Rattle.virtual_time.proofs.Groups.Chunks.{chunk_sound}
use Rattle.virtual_time.proofs.Groups.Committed.{commit_sound}
use Rattle.virtual_time.proofs.Groups.Meetings.{lease_new, meet_sound}
use Rattle.virtual_time.proofs.Groups.Runs.{does_whole}
use Rattle.virtual_time.proofs.Groups.Starts.{start_lease_is, start_matches, start_sound, start_whole}
use Rattle.virtual_time.proofs.Groups.Wholes.{commit_leads, meet_whole}

module _ {S A : Type 0} (machine : Machine S A) (law : Lawful machine) (group : ℕ → ℕ) (count : ℕ) (counted : HasCount machine count) where
  is_world : (u : Shared S A) (is : IsShared machine group count u) → IsWorld machine is.world
  is_world u is = run_kept machine law is.steps (start_world machine) is.world (start_kept machine law) (leads machine (start_world machine) is.steps is.world is.reached)

  pub each_lease : (P : ℕ → Lease S A → Type 0) (g : ℕ) (l : Lease S A) (ls : ℕ → Lease S A) → P g l → ((h : ℕ) → (h ≡ g → ⊥) → P h (ls h)) → (h : ℕ) → P h (put_lease g l ls h)
  each_lease P g l ls here other h = go (cases_eq h g)
    where
      go : (h ≡ g) ⊎ (h ≡ g → ⊥) → P h (put_lease g l ls h)
      go (inl e) = subst (λ (n : ℕ). P n (put_lease g l ls n)) (sym e) (subst (λ (b : Bool). P g (cond b l (ls g))) (sym (eq-eqb g g refl)) here)
      go (inr ne) = subst (λ (b : Bool). P h (cond b l (ls h))) (sym (ne_eqb h g ne)) (other h ne)

  pub call_kept : (u : Shared S A) (c : Call A) (v : Shared S A) → IsShared machine group count u → Called machine group count u c v → IsShared machine group count v
  call_kept u (CallMeet g) v is h =
      let e = h.0 in
      let l = h.1 in
      let met = h.2 in
      let r = meet_whole machine law group g u.exchange u.lease (is.leases g) is.world is.whole e l met in
      subst (λ (x : Shared S A). IsShared machine group count x) (sym h.3)
      (record {
        sound = meet_sound machine law group g u.exchange is.sound (u.lease g) (is.leases g) (is.match g) e l met;
        leases = each_lease (λ j x. IsLease machine group j x) g l u.lease (lease_new machine law group g u.exchange is.sound (u.lease g) (is.leases g) (is.match g) e l met) (λ j ne. is.leases j);
        match = each_lease (λ j x. Matches machine group j (e.stub j) x) g l u.lease met.matches (λ j ne. subst (λ (st : Stub A). Matches machine group j st (u.lease j)) (sym (met.others j ne)) (is.match j));
        steps = is.steps ++ meets_of met.gone;
        world = r.0;
        reached = more_steps machine law (start_world machine) is.world r.0 is.steps (meets_of met.gone) is.reached (reaches machine is.world (meets_of met.gone) r.0 r.1);
        whole = r.2;
      })
  call_kept u CallCommit v is h =
      let e = h.0 in
      let commit = h.1 in
      let r = commit_leads machine law group u.exchange is.sound u.lease is.leases is.match is.world is.whole e (is_world u is) commit in
      let same_stub : e.stub ≡ u.exchange.stub = ap (λ (x : Exchange A). x.stub) commit.rest in
      subst (λ (x : Shared S A). IsShared machine group count x) (sym h.2)
      (record {
        sound = commit_sound machine law group u.exchange is.sound e commit;
        leases = is.leases;
        match = λ j. subst (λ (st : ℕ → Stub A). Matches machine group j (st j) (u.lease j)) (sym same_stub) (is.match j);
        steps = is.steps ++ Commit e.bound ∷ [];
        world = r.0;
        reached = more_steps machine law (start_world machine) is.world r.0 is.steps (Commit e.bound ∷ []) is.reached (reaches machine is.world (Commit e.bound ∷ []) r.0 r.1);
        whole = r.2;
      })
  call_kept u CallChunk v is h =
      let b = h.0 in
      let e = h.1 in
      let ts = h.2 in
      let chunk = h.3 in
      let w = is.whole in
      let same_stub : e.stub ≡ u.exchange.stub = ap (λ (x : Exchange A). x.stub) chunk.rest in
      subst (λ (x : Shared S A). IsShared machine group count x) (sym h.4)
      (record {
        sound = (chunk_sound machine law group count counted u.exchange b e ts is.sound chunk).0;
        leases = is.leases;
        match = λ j. subst (λ (st : ℕ → Stub A). Matches machine group j (st j) (u.lease j)) (sym same_stub) (is.match j);
        steps = is.steps;
        world = is.world;
        reached = is.reached;
        whole = subst (λ (x : Exchange A). IsWholeWorld machine group x u.lease is.world) (sym chunk.rest)
            (record { bound = w.bound; committed = w.committed; base = w.base; first = w.first; done = w.done; pending = w.pending; owed = w.owed; plus = w.plus; minus = w.minus });
      })
  call_kept u (CallAlone g steps) v is h =
      let w = h.0 in
      let walk = alone_walks machine group g (alone machine group g (u.lease g)) steps w h.1 in
      let r = does_whole machine law group g u.exchange is.sound u.lease (is.leases g) (is.match g) is.world is.whole (is_world u is) steps w walk in
      let k = does_lease machine law group g (u.exchange.stub g) (u.lease g) (is.leases g) (is.match g) steps w walk in
      subst (λ (x : Shared S A). IsShared machine group count x) (sym h.2)
      (record {
        sound = is.sound;
        leases = each_lease (λ j x. IsLease machine group j x) g (lease_of group g (u.lease g) w) u.lease k.0 (λ j ne. is.leases j);
        match = each_lease (λ j x. Matches machine group j (u.exchange.stub j) x) g (lease_of group g (u.lease g) w) u.lease k.1 (λ j ne. is.match j);
        steps = is.steps ++ steps;
        world = r.0;
        reached = more_steps machine law (start_world machine) is.world r.0 is.steps steps is.reached (reaches machine is.world steps r.0 r.1);
        whole = r.2;
      })

  pub start_is_shared : IsShared machine group count (start_shared machine group count)
  start_is_shared =
      record {
        sound = start_sound machine law group count counted;
        leases = start_lease_is machine law group count counted;
        match = start_matches machine law group count counted;
        steps = [];
        world = start_world machine;
        reached = refl;
        whole = start_whole machine law group count counted;
      }

  pub calls_kept : (calls : List (Call A)) (u v : Shared S A) → IsShared machine group count u → Calls machine group count u calls v → IsShared machine group count v
  calls_kept [] u v is h = subst (λ (x : Shared S A). IsShared machine group count x) (sym h) is
  calls_kept (c ∷ cs) u v is h = calls_kept cs h.0 v (call_kept u c h.0 is h.1) h.2
