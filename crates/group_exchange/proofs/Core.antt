-- Calls lead the whole world by core steps.
use Rattle.std.proofs.Common.{◌≡◌, ℕ, ◌≤◌, ◌⊎◌, inl, inr, Bool, cond, List, [], ◌∷◌, Result, Ok, Err, refl, ap, sym, subst, ◌∙◌}
use Rattle.std.specs.Prelude.{IfOk, OnErr}
use Rattle.std.proofs.lemmas.Bool.{eq-eqb, ne_eqb, cases_eq}
use Rattle.virtual_time.specs.Inverses.{meets_of}
use Rattle.virtual_time.specs.Machine.{HasCount, Lawful, Machine}
use Rattle.virtual_time.specs.Reference.{Turn}
use Rattle.virtual_time.specs.Rules.{IsWorld}
use Rattle.virtual_time.specs.Worlds.{Commit, Reaches, Step, World}
use Rattle.virtual_time.specs.Exchange.Calls.{CallAlone}
use Rattle.virtual_time.specs.Groups.Calls.{IsQuiet, Shared}
use Rattle.virtual_time.specs.Groups.Stubs.{Exchange, IsSound, Stub, start_exchange}
use Rattle.virtual_time.specs.Groups.Leases.{Does, IsLease, Lease, Matches, alone, lease_of}
use Rattle.virtual_time.specs.Groups.Meetings.{IsChunk, IsCommit, Met}
use Rattle.virtual_time.specs.Groups.Wholes.{IsWholeWorld, put_lease}
use Rattle.virtual_time.proofs.Groups.Quiet.{calls_quiet}
use Rattle.group_exchange.specs.Core.{AreMeetings, SimulatesSteps, Moves, StaysKnown}

module _ {S A : Type 0} (m : Machine S A) (law : Lawful m) (group : ℕ → ℕ) where
  -- what the theory says of each call
  abbrev pub WorldLaw : Type 0
  WorldLaw = (steps : List (Step A)) (w v : World S A) → Lawful m → IsWorld m w → Reaches m w steps v → IsWorld m v

  abbrev pub MeetLaw : Type 0
  MeetLaw =
      (g : ℕ) (e e' : Exchange A) (ls : ℕ → Lease S A) (l' : Lease S A) (w : World S A) → Lawful m → IsLease m group g (ls g) → IsWholeWorld m group e ls w → (met : Met m group g e (ls g) e' l')
      → (v : World S A) × Reaches m w (meets_of met.gone) v × IsWholeWorld m group e' (put_lease g l' ls) v

  abbrev pub MetLaw : Type 0
  MetLaw = (count g : ℕ) (e e' : Exchange A) (l l' : Lease S A) → Lawful m → IsSound m group count e → IsLease m group g l → Matches m group g (e.stub g) l → Met m group g e l e' l' → IsSound m group count e' × IsLease m group g l'

  abbrev pub CommitLaw : Type 0
  CommitLaw =
      (count : ℕ) (e e' : Exchange A) (ls : ℕ → Lease S A) (w : World S A) → Lawful m → IsSound m group count e → ((g : ℕ) → IsLease m group g (ls g)) → ((g : ℕ) → Matches m group g (e.stub g) (ls g)) → IsWholeWorld m group e ls w → IsWorld m w → IsCommit m e e'
      → (v : World S A) × Reaches m w (Commit e'.bound ∷ []) v × IsWholeWorld m group e' ls v

  abbrev pub MovesLaw : Type 0
  MovesLaw =
      (count g : ℕ) (e : Exchange A) (ls : ℕ → Lease S A) (steps : List (Step A)) (u w : World S A) → Lawful m → IsSound m group count e → IsLease m group g (ls g) → Matches m group g (e.stub g) (ls g) → IsWholeWorld m group e ls w → IsWorld m w
      → Does m group g (alone m group g (ls g)) steps u → (v : World S A) × Reaches m w steps v × IsWholeWorld m group e (put_lease g (lease_of group g (ls g) u) ls) v

  abbrev pub OwnLaw : Type 0
  OwnLaw =
      (g : ℕ) (e : Exchange A) (l : Lease S A) (steps : List (Step A)) (u : World S A) → Lawful m → IsLease m group g l → Matches m group g (e.stub g) l
      → Does m group g (alone m group g l) steps u → IsLease m group g (lease_of group g l u) × Matches m group g (e.stub g) (lease_of group g l u)

  -- what holds of group g's new lease and of the others' leases holds of each
  each_lease : (P : ℕ → Lease S A → Type 0) (g : ℕ) (l : Lease S A) (ls : ℕ → Lease S A) → P g l → ((h : ℕ) → (h ≡ g → ⊥) → P h (ls h)) → (h : ℕ) → P h (put_lease g l ls h)
  each_lease P g l ls here other h = go (cases_eq h g)
    where
      go : (h ≡ g) ⊎ (h ≡ g → ⊥) → P h (put_lease g l ls h)
      go (inl e) = subst (λ (n : ℕ). P n (put_lease g l ls n)) (sym e) (subst (λ (b : Bool). P g (cond b l (ls g))) (sym (eq-eqb g g refl)) here)
      go (inr ne) = subst (λ (b : Bool). P h (cond b l (ls h))) (sym (ne_eqb h g ne)) (other h ne)

  -- a meeting
  pub meet_leads : WorldLaw → MeetLaw → MetLaw → (count g : ℕ) (e e' : Exchange A) (l l' : Lease S A) → IsSound m group count e → Met m group g e l e' l' → (ls : ℕ → Lease S A) → ls g ≡ l → SimulatesSteps m group AreMeetings e ls e' (put_lease g l' ls)
  meet_leads world_law meet_law met_law count g e e' l l' sound met_there ls here w stand =
      let met : Met m group g e (ls g) e' l' = subst (λ (x : Lease S A). Met m group g e x e' l') (sym here) met_there in
      let r = meet_law g e e' ls l' w law (stand.proper g) stand.whole met in
      let new = met_law count g e e' (ls g) l' law sound (stand.proper g) (stand.match g) met in (
        meets_of met.gone,
        (met.gone, refl),
        r.0,
        r.1,
        record {
          proper = each_lease (λ h x. IsLease m group h x) g l' ls new.1 (λ h ne. stand.proper h);
          match = each_lease (λ h x. Matches m group h (e'.stub h) x) g l' ls met.matches (λ h ne. subst (λ (st : Stub A). Matches m group h st (ls h)) (sym (met.others h ne)) (stand.match h));
          whole = r.2;
          world = world_law (meets_of met.gone) w r.0 law stand.world r.1;
        },
      )

  -- a commit
  pub commit_leads : WorldLaw → CommitLaw → (count : ℕ) (e e' : Exchange A) → IsSound m group count e → IsCommit m e e' → (ls : ℕ → Lease S A) → SimulatesSteps m group (λ ss. ss ≡ Commit e'.bound ∷ []) e ls e' ls
  commit_leads world_law commit_law count e e' sound commit ls w stand =
      let r = commit_law count e e' ls w law sound stand.proper stand.match stand.whole stand.world commit in
      let same_stub : e'.stub ≡ e.stub = ap (λ (x : Exchange A). x.stub) commit.rest in (
        Commit e'.bound ∷ [],
        refl,
        r.0,
        r.1,
        record {
          proper = stand.proper;
          match = λ g. subst (λ (st : ℕ → Stub A). Matches m group g (st g) (ls g)) (sym same_stub) (stand.match g);
          whole = r.2;
          world = world_law (Commit e'.bound ∷ []) w r.0 law stand.world r.1;
        },
      )

  -- a chunk
  pub chunk_leads : (count b : ℕ) (e e' : Exchange A) (turns : List (Turn A)) → IsChunk m group count e b e' turns → (ls : ℕ → Lease S A) → SimulatesSteps m group (λ ss. ss ≡ []) e ls e' ls
  chunk_leads count b e e' turns chunk ls w stand =
      let h = stand.whole in
      let same_stub : e'.stub ≡ e.stub = ap (λ (x : Exchange A). x.stub) chunk.rest in (
        [],
        refl,
        w,
        refl,
        record {
          proper = stand.proper;
          match = λ g. subst (λ (st : ℕ → Stub A). Matches m group g (st g) (ls g)) (sym same_stub) (stand.match g);
          whole = subst (λ (x : Exchange A). IsWholeWorld m group x ls w) (sym chunk.rest)
              (record { bound = h.bound; committed = h.committed; base = h.base; first = h.first; done = h.done; pending = h.pending; owed = h.owed; plus = h.plus; minus = h.minus });
          world = stand.world;
        },
      )

  -- a lease and what it became by steps of its own, where the world of the lease that is alone has become that of the other
  module _ (g : ℕ) (l l' : Lease S A) (is : lease_of group g l (alone m group g l') ≡ l') (steps : List (Step A)) (does : Does m group g (alone m group g l) steps (alone m group g l')) where
    -- steps of its own
    pub own_moves : WorldLaw → MovesLaw → OwnLaw → Moves m group g l l'
    own_moves world_law moves_law own_law count e ls sound here w stand =
        let there : Does m group g (alone m group g (ls g)) steps (alone m group g l') = subst (λ (x : Lease S A). Does m group g (alone m group g x) steps (alone m group g l')) (sym here) does in
        let same : lease_of group g (ls g) (alone m group g l') ≡ l' = ap (λ (x : Lease S A). lease_of group g x (alone m group g l')) here ∙ is in
        let r = moves_law count g e ls steps (alone m group g l') w law sound (stand.proper g) (stand.match g) stand.whole stand.world there in
        let new = own_law g e (ls g) steps (alone m group g l') law (stand.proper g) (stand.match g) there in (
          steps,
          does,
          r.0,
          r.1,
          record {
            proper = each_lease (λ h x. IsLease m group h x) g l' ls (subst (λ (x : Lease S A). IsLease m group g x) same new.0) (λ h ne. stand.proper h);
            match = each_lease (λ h x. Matches m group h (e.stub h) x) g l' ls (subst (λ (x : Lease S A). Matches m group g (e.stub g) x) same new.1) (λ h ne. stand.match h);
            whole = subst (λ (x : Lease S A). IsWholeWorld m group e (put_lease g x ls) r.0) same r.2;
            world = world_law steps w r.0 law stand.world r.1;
          },
        )

    -- by them it stays known
    pub own_known : OwnLaw → IsLease m group g l → StaysKnown m group g l l'
    own_known own_law proper e match = subst (λ (x : Lease S A). Matches m group g (e.stub g) x) is (own_law g e l steps (alone m group g l') law proper match does).1

    -- and a lease
    pub own_lease : OwnLaw → (st : Stub A) → IsLease m group g l → Matches m group g st l → IsLease m group g l' × Matches m group g st l'
    own_lease own_law st proper match =
        let e : Exchange A = record { stub = λ h. st; plus = λ j. []; minus = λ j. []; bound = 0; held = []; given = 0 } in
        let r = own_law g e l steps (alone m group g l') law proper match does in
        (subst (λ (x : Lease S A). IsLease m group g x) is r.0, subst (λ (x : Lease S A). Matches m group g st x) is r.1)

    -- and it sends to nobody who is not there
    pub own_quiet : (count : ℕ) → HasCount m count → ((j : ℕ) → count ≤ j → l.out_plus j ≡ []) → (j : ℕ) → count ≤ j → l'.out_plus j ≡ []
    own_quiet count counted quiet j past =
        let u : Shared S A = record { exchange = start_exchange m group count; lease = λ h. l } in
        let v : Shared S A = record { exchange = start_exchange m group count; lease = put_lease g (lease_of group g l (alone m group g l')) (λ h. l) } in
        let still : IsQuiet count u = record { inbox = λ j past. refl; bag = λ h j past. quiet j past } in
        let all = calls_quiet m law group count counted (CallAlone g steps ∷ []) u v still (v, (alone m group g l', does, refl), refl) in
        let here : put_lease g (lease_of group g l (alone m group g l')) (λ h. l) g ≡ l' = subst (λ (b : Bool). cond b (lease_of group g l (alone m group g l')) l ≡ l') (sym (eq-eqb g g refl)) is in
        subst (λ (x : Lease S A). x.out_plus j ≡ []) here (all.bag g j past)

-- what follows from both holds of the answer where all is well
pub ok_both : {A E : Type 0} {P Q R : A → Type 0} (r : Result A E) → ((a : A) → P a → Q a → R a) → IfOk r P → IfOk r Q → IfOk r R
ok_both (Ok a) f p q = f a p q
ok_both (Err e) f p q = tt

-- what holds anyway holds where all is not well
pub on_err : {A E P : Type 0} (r : Result A E) → P → OnErr r P
on_err (Ok a) p = tt
on_err (Err e) p = p
