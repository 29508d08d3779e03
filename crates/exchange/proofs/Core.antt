-- Calls lead the whole world by core steps.
use Rattle.std.proofs.Common.{◌≡◌, ℕ, ◌==◌, ◌⊎◌, inl, inr, Bool, cond, List, [], ◌∷◌, Result, Ok, Err, refl, ap, sym, subst, ◌∙◌}
use Rattle.std.specs.Prelude.{IfOk}
use Rattle.std.proofs.lemmas.Bool.{eq-eqb, ne_eqb, cases_eq}
use Rattle.virtual_time.specs.Inverses.{meets_of}
use Rattle.virtual_time.specs.Machine.{Lawful, Machine}
use Rattle.virtual_time.specs.Reference.{Turn}
use Rattle.virtual_time.specs.Rules.{IsWorld}
use Rattle.virtual_time.specs.Worlds.{Commit, Reaches, Step, World}
use Rattle.virtual_time.specs.Exchange.Stubs.{Exchange, IsSound, Stub}
use Rattle.virtual_time.specs.Exchange.Leases.{Does, IsLease, Lease, Matches, alone, lease_of}
use Rattle.virtual_time.specs.Exchange.Meetings.{IsChunk, IsCommit, Met}
use Rattle.virtual_time.specs.Exchange.Wholes.{IsWholeWorld, put_lease}
use Rattle.exchange.specs.Core.{AreMeetings, SimulatesSteps, Moves, StaysKnown}

module _ {S A : Type 0} (m : Machine S A) (law : Lawful m) where
  -- what the theory says of each call
  abbrev pub WorldLaw : Type 0
  WorldLaw = (steps : List (Step A)) (w v : World S A) → Lawful m → IsWorld m w → Reaches m w steps v → IsWorld m v

  abbrev pub MeetLaw : Type 0
  MeetLaw = (i : ℕ) (e e' : Exchange A) (ls : ℕ → Lease S A) (l' : Lease S A) (w : World S A) → Lawful m → ((j : ℕ) → IsLease m j (ls j)) → IsWholeWorld m e ls w → (met : Met m i e (ls i) e' l') → (v : World S A) × Reaches m w (meets_of met.gone) v × IsWholeWorld m e' (put_lease i l' ls) v

  abbrev pub MetLaw : Type 0
  MetLaw = (count i : ℕ) (e e' : Exchange A) (l l' : Lease S A) → Lawful m → IsSound m count e → IsLease m i l → Matches m i (e.stub i) l → Met m i e l e' l' → IsSound m count e' × IsLease m i l'

  abbrev pub CommitLaw : Type 0
  CommitLaw = (count : ℕ) (e e' : Exchange A) (ls : ℕ → Lease S A) (w : World S A) → Lawful m → IsSound m count e → ((j : ℕ) → IsLease m j (ls j)) → ((j : ℕ) → Matches m j (e.stub j) (ls j)) → IsWholeWorld m e ls w → IsWorld m w → IsCommit m e e' → (v : World S A) × Reaches m w (Commit e'.bound ∷ []) v × IsWholeWorld m e' ls v

  abbrev pub MovesLaw : Type 0
  MovesLaw =
      (count i : ℕ) (e : Exchange A) (ls : ℕ → Lease S A) (steps : List (Step A)) (u w : World S A) → Lawful m → IsSound m count e → IsLease m i (ls i) → Matches m i (e.stub i) (ls i) → IsWholeWorld m e ls w → IsWorld m w
      → Does m i (alone m i (ls i)) steps u → (v : World S A) × Reaches m w steps v × IsWholeWorld m e (put_lease i (lease_of i (ls i).floor u) ls) v

  abbrev pub OwnLaw : Type 0
  OwnLaw =
      (i : ℕ) (e : Exchange A) (l : Lease S A) (steps : List (Step A)) (u : World S A) → Lawful m → IsLease m i l → Matches m i (e.stub i) l
      → Does m i (alone m i l) steps u → IsLease m i (lease_of i l.floor u) × Matches m i (e.stub i) (lease_of i l.floor u)

  -- what holds of component i's new lease and of the others' leases holds of each
  each_lease : (P : ℕ → Lease S A → Type 0) (i : ℕ) (l : Lease S A) (ls : ℕ → Lease S A) → P i l → ((j : ℕ) → (j ≡ i → ⊥) → P j (ls j)) → (j : ℕ) → P j (put_lease i l ls j)
  each_lease P i l ls here other j = go (cases_eq j i)
    where
      go : (j ≡ i) ⊎ (j ≡ i → ⊥) → P j (put_lease i l ls j)
      go (inl e) = subst (λ (n : ℕ). P n (put_lease i l ls n)) (sym e) (subst (λ (b : Bool). P i (cond b l (ls i))) (sym (eq-eqb i i refl)) here)
      go (inr ne) = subst (λ (b : Bool). P j (cond b l (ls j))) (sym (ne_eqb j i ne)) (other j ne)

  -- a meeting
  pub meet_leads : WorldLaw → MeetLaw → MetLaw → (count i : ℕ) (e e' : Exchange A) (l l' : Lease S A) → IsSound m count e → Met m i e l e' l' → (ls : ℕ → Lease S A) → ls i ≡ l → SimulatesSteps m AreMeetings e ls e' (put_lease i l' ls)
  meet_leads world_law meet_law met_law count i e e' l l' sound met_there ls here w stand =
      let met : Met m i e (ls i) e' l' = subst (λ (x : Lease S A). Met m i e x e' l') (sym here) met_there in
      let r = meet_law i e e' ls l' w law stand.proper stand.whole met in
      let new = met_law count i e e' (ls i) l' law sound (stand.proper i) (stand.match i) met in (
        meets_of met.gone,
        (met.gone, refl),
        r.0,
        r.1,
        record {
          proper = each_lease (λ j x. IsLease m j x) i l' ls new.1 (λ j ne. stand.proper j);
          match = each_lease (λ j x. Matches m j (e'.stub j) x) i l' ls met.matches (λ j ne. let k = stand.match j in
              subst (λ (st : Stub A). Matches m j st (ls j)) (sym (met.others j ne)) (record { base = k.base; floor = k.floor; taken = k.taken; standing = k.standing }));
          whole = r.2;
          world = world_law (meets_of met.gone) w r.0 law stand.world r.1;
        },
      )

  -- a commit
  pub commit_leads : WorldLaw → CommitLaw → (count : ℕ) (e e' : Exchange A) → IsSound m count e → IsCommit m e e' → (ls : ℕ → Lease S A) → SimulatesSteps m (λ ss. ss ≡ Commit e'.bound ∷ []) e ls e' ls
  commit_leads world_law commit_law count e e' sound commit ls w stand =
      let r = commit_law count e e' ls w law sound stand.proper stand.match stand.whole stand.world commit in
      let same_stub : e'.stub ≡ e.stub = ap (λ (x : Exchange A). x.stub) commit.rest in (
        Commit e'.bound ∷ [],
        refl,
        r.0,
        r.1,
        record {
          proper = stand.proper;
          match = λ j. subst (λ (st : ℕ → Stub A). Matches m j (st j) (ls j)) (sym same_stub) (stand.match j);
          whole = r.2;
          world = world_law (Commit e'.bound ∷ []) w r.0 law stand.world r.1;
        },
      )

  -- a chunk
  pub chunk_leads : (count b : ℕ) (e e' : Exchange A) (turns : List (Turn A)) → IsChunk m count e b e' turns → (ls : ℕ → Lease S A) → SimulatesSteps m (λ ss. ss ≡ []) e ls e' ls
  chunk_leads count b e e' turns chunk ls w stand =
      let h = stand.whole in
      let same_stub : e'.stub ≡ e.stub = ap (λ (x : Exchange A). x.stub) chunk.rest in (
        [],
        refl,
        w,
        refl,
        record {
          proper = stand.proper;
          match = λ j. subst (λ (st : ℕ → Stub A). Matches m j (st j) (ls j)) (sym same_stub) (stand.match j);
          whole = subst (λ (x : Exchange A). IsWholeWorld m x ls w) (sym chunk.rest)
              (record { bound = h.bound; committed = h.committed; base = h.base; first = h.first; done = h.done; pending = h.pending; owed = h.owed; plus = h.plus; minus = h.minus });
          world = stand.world;
        },
      )

  -- a lease that is alone, and the lease in that world
  module _ (i : ℕ) (l l' : Lease S A) (floor : l'.floor ≡ l.floor) (self_plus : l'.out_plus i ≡ []) (self_minus : l'.out_minus i ≡ []) where
    there_is : lease_of i l.floor (alone m i l') ≡ l'
    there_is =
        let own : (alone m i l').part i ≡ l'.part = rw (eq-eqb i i refl) refl in
        λ v. record {
          base = l'.base;
          floor = sym floor v;
          part = own v;
          out_plus = λ j. plus_is j (cases_eq j i) v;
          out_minus = λ j. minus_is j (cases_eq j i) v;
        }
      where
        plus_is : (j : ℕ) → (j ≡ i) ⊎ (j ≡ i → ⊥) → cond (j == i) [] ((alone m i l').part j).plus ≡ l'.out_plus j
        plus_is j (inl e) = rw (eq-eqb j i e) (sym (ap l'.out_plus e ∙ self_plus))
        plus_is j (inr ne) = rw (ne_eqb j i ne) refl

        minus_is : (j : ℕ) → (j ≡ i) ⊎ (j ≡ i → ⊥) → cond (j == i) [] ((alone m i l').part j).minus ≡ l'.out_minus j
        minus_is j (inl e) = rw (eq-eqb j i e) (sym (ap l'.out_minus e ∙ self_minus))
        minus_is j (inr ne) = rw (ne_eqb j i ne) refl

    module _ (steps : List (Step A)) (does : Does m i (alone m i l) steps (alone m i l')) where
      -- steps of its own
      pub own_moves : WorldLaw → MovesLaw → OwnLaw → Moves m i steps l l'
      own_moves world_law moves_law own_law count e ls sound here w stand =
          let there : Does m i (alone m i (ls i)) steps (alone m i l') = subst (λ (x : Lease S A). Does m i (alone m i x) steps (alone m i l')) (sym here) does in
          let is : lease_of i (ls i).floor (alone m i l') ≡ l' = ap (λ (x : Lease S A). lease_of i x.floor (alone m i l')) here ∙ there_is in
          let r = moves_law count i e ls steps (alone m i l') w law sound (stand.proper i) (stand.match i) stand.whole stand.world there in
          let new = own_law i e (ls i) steps (alone m i l') law (stand.proper i) (stand.match i) there in (
            steps,
            refl,
            r.0,
            r.1,
            record {
              proper = each_lease (λ j x. IsLease m j x) i l' ls (subst (λ (x : Lease S A). IsLease m i x) is new.0) (λ j ne. stand.proper j);
              match = each_lease (λ j x. Matches m j (e.stub j) x) i l' ls (subst (λ (x : Lease S A). Matches m i (e.stub i) x) is new.1) (λ j ne. stand.match j);
              whole = subst (λ (x : Lease S A). IsWholeWorld m e (put_lease i x ls) r.0) is r.2;
              world = world_law steps w r.0 law stand.world r.1;
            },
          )

      -- and by them it stays known
      pub own_known : OwnLaw → IsLease m i l → StaysKnown m i l l'
      own_known own_law is e match = subst (λ (x : Lease S A). Matches m i (e.stub i) x) there_is (own_law i e l steps (alone m i l') law is match does).1

-- what follows from both holds of the answer where all is well
pub ok_both : {A E : Type 0} {P Q R : A → Type 0} (r : Result A E) → ((a : A) → P a → Q a → R a) → IfOk r P → IfOk r Q → IfOk r R
ok_both (Ok a) f p q = f a p q
ok_both (Err e) f p q = tt
