-- What the lease of a group does by itself keeps it a lease, and keeps what its stub knows of it.
use Rattle.std.proofs.Common.{◌≡◌, ℕ, ◌+◌, ◌<◌, ◌≤◌, ◌==◌, ◌⊎◌, inl, inr, Bool, true, false, cond, List, [], ◌∷◌, refl, ap, sym, subst, ◌∙◌, arith}
use Rattle.std.proofs.lemmas.Bool.{eq-eqb, ne_eqb, cases_eq, cases_lt}
use Rattle.virtual_time.specs.Machine.{Lawful, Machine}
use Rattle.virtual_time.specs.Reference.{Turn, after, point, reference_below}
use Rattle.virtual_time.specs.Entries.{Entry, Item, number}
use Rattle.virtual_time.specs.Worlds.{Commit, DeliverAntimessage, DeliverMessage, IsPast, Meet, Part, Process, RollBack, Step, World}
use Rattle.virtual_time.specs.Bags.{AllFrom, inputs, sends, times}
use Rattle.virtual_time.specs.Rules.{IsOpen, IsProper}
use Rattle.virtual_time.specs.Groups.Stubs.{Stub, between, within}
use Rattle.virtual_time.specs.Groups.Leases.{Does, IsLease, Lease, Matches, alone, apart, lease_of}
use Rattle.virtual_time.proofs.Moves.{walk_meet, walk_minus, walk_on, walk_plus}
use Rattle.virtual_time.proofs.Exchange.Parts
use Rattle.virtual_time.proofs.Exchange.Alone.{private_from, private_minus, private_plus, private_put}
use Rattle.virtual_time.proofs.Exchange.Floors.{deliver_minus_over, deliver_plus_over, local_over, process_from_over}
use Rattle.virtual_time.proofs.Exchange.Chunks.{no_sends}
use Rattle.virtual_time.proofs.Exchange.Ones.{inputs_low, sends_low}
use Rattle.virtual_time.proofs.Lists.{AllFrom-remove, AllFrom-weaken}
use Rattle.virtual_time.proofs.Joint.{all_zero}
use Rattle.virtual_time.proofs.Kept.{process_kept}
use Rattle.virtual_time.proofs.Messages.{deliver_minus_kept, deliver_plus_kept, meet_kept}
use Rattle.virtual_time.proofs.Refs.{ref_is}
use Rattle.virtual_time.proofs.Tied.{deliver_is, meet_is, process_is, undeliver_is}
use Rattle.virtual_time.proofs.Groups.Parts.{none, passes, stays}

-- The next entries of a group's components and all in flight are not below b.
pub record IsOver {S A : Type 0} (machine : Machine S A) (group : ℕ → ℕ) (g b j : ℕ) (c : Part S A) : Type 0 where
  pub turn : group j ≡ g → b ≤ machine.key j (number c.first c.done)
  pub pending : AllFrom b c.pending
  pub owed : AllFrom b c.owed
  pub plus : AllFrom b c.plus
  pub minus : AllFrom b c.minus

abbrev pub Over : {S A : Type 0} → Machine S A → (ℕ → ℕ) → ℕ → ℕ → World S A → Type 0
Over machine group g b w = (j : ℕ) → IsOver machine group g b j (w.part j)

-- Only the group's components did something from w to v.
pub record Private {S A : Type 0} (machine : Machine S A) (group : ℕ → ℕ) (g : ℕ) (w v : World S A) : Type 0 where
  pub bound : v.bound ≡ w.bound
  pub committed : v.committed ≡ w.committed
  pub base : (j : ℕ) → (group j ≡ g → ⊥) → (v.part j).base ≡ (w.part j).base
  pub first : (j : ℕ) → (group j ≡ g → ⊥) → (v.part j).first ≡ (w.part j).first
  pub done : (j : ℕ) → (group j ≡ g → ⊥) → (v.part j).done ≡ (w.part j).done
  pub pending : (j : ℕ) → (group j ≡ g → ⊥) → (v.part j).pending ≡ (w.part j).pending
  pub owed : (j : ℕ) → (group j ≡ g → ⊥) → (v.part j).owed ≡ (w.part j).owed
  pub plus : (j k : ℕ) (a : A) → (group j ≡ g → ⊥) → (group (machine.owner k) ≡ g → ⊥) → times machine (v.part j).plus k a ≡ times machine (w.part j).plus k a
  pub minus : (j k : ℕ) (a : A) → (group j ≡ g → ⊥) → (group (machine.owner k) ≡ g → ⊥) → times machine (v.part j).minus k a ≡ times machine (w.part j).minus k a

-- What a group does, one entry at a time.
abbrev pub WalksAlone : {S A : Type 0} → Machine S A → (ℕ → ℕ) → ℕ → World S A → List (Step A) → World S A → Type 0
WalksAlone machine group g u [] v = v ≡ u
WalksAlone machine group g u (Process i ∷ ss) v = (group i ≡ g) × WalksAlone machine group g (walk_on machine i u) ss v
WalksAlone machine group g u (DeliverMessage i x ∷ ss) v = (group i ≡ g) × (0 < times machine (u.part i).plus x.key x.action) × WalksAlone machine group g (walk_plus machine i x u) ss v
WalksAlone machine group g u (DeliverAntimessage i x ∷ ss) v = (group i ≡ g) × (0 < times machine (u.part i).minus x.key x.action) × WalksAlone machine group g (walk_minus machine i x u) ss v
WalksAlone machine group g u (Meet i x ∷ ss) v =
    (group i ≡ g) × (0 < times machine (u.part i).plus x.key x.action) × (0 < times machine (u.part i).minus x.key x.action) × WalksAlone machine group g (walk_meet machine i x u) ss v
WalksAlone machine group g u (RollBack i ∷ ss) v = ⊥
WalksAlone machine group g u (Commit b ∷ ss) v = ⊥

module _ {S A : Type 0} (machine : Machine S A) (law : Lawful machine) (group : ℕ → ℕ) (g : ℕ) where
  pub private_none : (w : World S A) → Private machine group g w w
  private_none w = record { bound = refl; committed = refl; base = λ j ne. refl; first = λ j ne. refl; done = λ j ne. refl; pending = λ j ne. refl; owed = λ j ne. refl; plus = λ j k a ne own. refl; minus = λ j k a ne own. refl }

  pub private_then : (u v w : World S A) → Private machine group g u v → Private machine group g v w → Private machine group g u w
  private_then u v w p q =
      record {
        bound = q.bound ∙ p.bound;
        committed = q.committed ∙ p.committed;
        base = λ j ne. q.base j ne ∙ p.base j ne;
        first = λ j ne. q.first j ne ∙ p.first j ne;
        done = λ j ne. q.done j ne ∙ p.done j ne;
        pending = λ j ne. q.pending j ne ∙ p.pending j ne;
        owed = λ j ne. q.owed j ne ∙ p.owed j ne;
        plus = λ j k a ne own. q.plus j k a ne own ∙ p.plus j k a ne own;
        minus = λ j k a ne own. q.minus j k a ne own ∙ p.minus j k a ne own;
      }

  -- One of the group's components did it.
  module _ (i : ℕ) (mine : group i ≡ g) where
    other : (j : ℕ) → (group j ≡ g → ⊥) → j ≡ i → ⊥
    other j ne e = ne (ap group e ∙ mine)

    pub private_one : (w v : World S A) → Parts.Private machine i w v → Private machine group g w v
    private_one w v p =
        record {
          bound = p.bound;
          committed = p.committed;
          base = λ j ne. p.base j (other j ne);
          first = λ j ne. p.first j (other j ne);
          done = λ j ne. p.done j (other j ne);
          pending = λ j ne. p.pending j (other j ne);
          owed = λ j ne. p.owed j (other j ne);
          plus = λ j k a ne own. p.plus j k a (other j ne) (other (machine.owner k) own);
          minus = λ j k a ne own. p.minus j k a (other j ne) (other (machine.owner k) own);
        }

    pub over_one : (b : ℕ) (w : World S A) → Over machine group g b w → Parts.Over machine i b w
    over_one b w past = λ j. let p = past j in record { turn = λ e. p.turn (ap group e ∙ mine); pending = p.pending; owed = p.owed; plus = p.plus; minus = p.minus }

    pub over_all : (b : ℕ) (w v : World S A) → Over machine group g b w → Parts.Private machine i w v → Parts.Over machine i b v → Over machine group g b v
    over_all b w v past p over = λ j. let o = over j in record { turn = λ own. turn j own (cases_eq j i); pending = o.pending; owed = o.owed; plus = o.plus; minus = o.minus }
      where
        turn : (j : ℕ) → group j ≡ g → (j ≡ i) ⊎ (j ≡ i → ⊥) → b ≤ machine.key j (number (v.part j).first (v.part j).done)
        turn j own (inl e) = (over j).turn e
        turn j own (inr ne) = rw (p.first j ne, p.done j ne) ((past j).turn own)

  -- A lease with its stub, and a world that its own steps lead to.
  module _ (st : Stub A) (l : Lease S A) (lease : IsLease machine group g l) (match : Matches machine group g st l) where
    pub record Ran (v : World S A) : Type 0 where
      pub holds : IsOpen machine (apart machine group g st) v
      pub over : Over machine group g l.floor v
      pub private : Private machine group g (alone machine group g l) v

    abbrev idle : ℕ → Part S A
    idle j = record { base = (point machine l.base).state j; first = (point machine l.base).next j; done = []; pending = []; owed = []; plus = l.out_plus j; minus = l.out_minus j }

    idle_at : (j : ℕ) → (group j ≡ g → ⊥) → (alone machine group g l).part j ≡ idle j
    idle_at j ne = rw (ne_eqb (group j) g ne)

    each : (P : ℕ → Part S A → Type 0) → ((j : ℕ) → group j ≡ g → P j (l.part j)) → ((j : ℕ) → (group j ≡ g → ⊥) → P j (idle j)) → (j : ℕ) → P j ((alone machine group g l).part j)
    each P here there j = go (cases_eq (group j) g)
      where
        go : (group j ≡ g) ⊎ (group j ≡ g → ⊥) → P j ((alone machine group g l).part j)
        go (inl e) = subst (λ (b : Bool). P j (cond b (l.part j) (idle j))) (sym (eq-eqb (group j) g e)) (here j e)
        go (inr ne) = subst (λ (b : Bool). P j (cond b (l.part j) (idle j))) (sym (ne_eqb (group j) g ne)) (there j ne)

    pub standing_self : (k : ℕ) (a : A) (i : ℕ) → group (machine.owner k) ≡ g → group i ≡ g → st.standing k a i ≡ 0
    standing_self k a i own e =
        let m = match.standing k a i own in
        let p : times machine (l.out_plus i) k a ≡ 0 = rw (lease.self_plus i e) refl in
        let q : times machine (l.out_minus i) k a ≡ 0 = rw (lease.self_minus i e) refl in
        let z = (stays machine group k i (sends machine (l.part (machine.owner k)).done k a i) (own ∙ sym e)).0 in
        omega arith

    pub balance_alone : (j k : ℕ) (a : A) → l.base ≤ k
        → sends machine ((alone machine group g l).part (machine.owner k)).done k a j + times machine ((alone machine group g l).part j).owed k a + times machine ((alone machine group g l).part j).minus k a + (apart machine group g st).came j k a
        ≡ inputs machine ((alone machine group g l).part j).done k a + times machine ((alone machine group g l).part j).pending k a + times machine ((alone machine group g l).part j).plus k a + (apart machine group g st).went j k a
    balance_alone j k a low = go (cases_eq (group j) g) (cases_eq (group (machine.owner k)) g)
      where
        go : (group j ≡ g) ⊎ (group j ≡ g → ⊥) → (group (machine.owner k) ≡ g) ⊎ (group (machine.owner k) ≡ g → ⊥)
            → sends machine ((alone machine group g l).part (machine.owner k)).done k a j + times machine ((alone machine group g l).part j).owed k a + times machine ((alone machine group g l).part j).minus k a + (apart machine group g st).came j k a
            ≡ inputs machine ((alone machine group g l).part j).done k a + times machine ((alone machine group g l).part j).pending k a + times machine ((alone machine group g l).part j).plus k a + (apart machine group g st).went j k a
        go (inl e) (inl own) =
            let m = match.taken j k a e in
            let s = standing_self k a j own e in
            let z = (stays machine group k j (sends machine (l.part (machine.owner k)).done k a j) (own ∙ sym e)).1 in
            rw (eq-eqb (group j) g e, eq-eqb (group (machine.owner k)) g own) (omega arith)
        go (inl e) (inr ne) =
            let m = match.taken j k a e in
            let s = no_sends machine law k a j in
            let z = (passes machine group k j (sends machine (l.part (machine.owner k)).done k a j) (λ q. ne (q ∙ e))).1 in
            rw (eq-eqb (group j) g e, ne_eqb (group (machine.owner k)) g ne) (omega arith)
        go (inr ne) (inl own) =
            let m = match.standing k a j own in
            let z = (passes machine group k j (sends machine (l.part (machine.owner k)).done k a j) (λ q. ne (sym q ∙ own))).0 in
            rw (ne_eqb (group j) g ne, eq-eqb (group (machine.owner k)) g own) (omega arith)
        go (inr ne) (inr far) =
            let p = lease.mine_plus j k a far in
            let q = lease.mine_minus j k a far in
            let s = no_sends machine law k a j in
            rw (ne_eqb (group j) g ne, ne_eqb (group (machine.owner k)) g far) (omega arith)

    pub ran_none : Ran (alone machine group g l)
    ran_none =
        let r = ref_is machine law l.base lease.end in
        record {
          holds = record {
            proper = each (λ j c. IsProper machine l.base j c) lease.proper
                (λ j ne. record { done = r.all j; pending = tt; sorted = tt; owed_sorted = tt; plus = AllFrom-weaken l.base l.floor (l.out_plus j) lease.low (lease.out_plus j); minus = AllFrom-weaken l.base l.floor (l.out_minus j) lease.low (lease.out_minus j); owed = λ k a. inl refl });
            balance = balance_alone;
            reference = r;
            next = each (λ j c. c.first ≡ (point machine l.base).next j) lease.first (λ j ne. refl);
            grounded = each (λ j c. c.base ≡ (point machine l.base).state j) lease.grounded (λ j ne. refl);
          };
          over = each (λ j c. IsOver machine group g l.floor j c) (λ j e. let p = lease.past j e in record { turn = λ f. p.turn; pending = p.pending; owed = lease.owed j e; plus = p.plus; minus = p.minus })
              (λ j ne. record { turn = λ f. absurd (ne f); pending = tt; owed = tt; plus = lease.out_plus j; minus = lease.out_minus j });
          private = private_none (alone machine group g l);
        }

    -- what they lead to is a lease that matches the same stub
    module _ (v : World S A) (r : Ran v) where
      pub bound : v.bound ≡ l.base
      bound = r.private.bound

      known : v.committed ≡ reference_below machine v.bound
      known = r.private.committed ∙ sym (ap (reference_below machine) bound)

      pub here : (P : Part S A → Type 0) (i : ℕ) → group i ≡ g → P (v.part i) → P ((lease_of group g l v).part i)
      here P i e h = subst (λ (b : Bool). P (cond b (v.part i) (l.part i))) (sym (eq-eqb (group i) g e)) h

      all : (b : Bool) (xs : List (Item A)) → AllFrom l.floor xs → AllFrom l.floor (cond b [] xs)
      all true xs h = tt
      all false xs h = h

      mine_plus : (j k : ℕ) (a : A) → (group (machine.owner k) ≡ g → ⊥) → (group j ≡ g) ⊎ (group j ≡ g → ⊥) → times machine (cond (group j == g) [] (v.part j).plus) k a ≡ 0
      mine_plus j k a ne (inl e) = rw (eq-eqb (group j) g e)
      mine_plus j k a ne (inr f) = rw (ne_eqb (group j) g f) (r.private.plus j k a f ne ∙ ap (λ (c : Part S A). times machine c.plus k a) (idle_at j f) ∙ lease.mine_plus j k a ne)

      mine_minus : (j k : ℕ) (a : A) → (group (machine.owner k) ≡ g → ⊥) → (group j ≡ g) ⊎ (group j ≡ g → ⊥) → times machine (cond (group j == g) [] (v.part j).minus) k a ≡ 0
      mine_minus j k a ne (inl e) = rw (eq-eqb (group j) g e)
      mine_minus j k a ne (inr f) = rw (ne_eqb (group j) g f) (r.private.minus j k a f ne ∙ ap (λ (c : Part S A). times machine c.minus k a) (idle_at j f) ∙ lease.mine_minus j k a ne)

      pub ran_lease : IsLease machine group g (lease_of group g l v)
      ran_lease =
          record {
            end = let e = lease.end in let b = bound in omega arith;
            low = let e = lease.low in let b = bound in omega arith;
            proper = λ i e. here (λ c. IsProper machine v.bound i c) i e (r.holds.proper i);
            first = λ i e. here (λ c. c.first ≡ (point machine v.bound).next i) i e (r.holds.next i ∙ ap (λ (ts : List (Turn A)). (after machine ts).next i) known);
            grounded = λ i e. here (λ c. c.base ≡ (point machine v.bound).state i) i e (r.holds.grounded i ∙ ap (λ (ts : List (Turn A)). (after machine ts).state i) known);
            past = λ i e. here (λ c. IsPast machine l.floor i c) i e (let o = r.over i in record { turn = o.turn e; pending = o.pending; plus = o.plus; minus = o.minus });
            owed = λ i e. here (λ c. AllFrom l.floor c.owed) i e (r.over i).owed;
            out_plus = λ j. all (group j == g) (v.part j).plus (r.over j).plus;
            out_minus = λ j. all (group j == g) (v.part j).minus (r.over j).minus;
            self_plus = λ i e. rw (eq-eqb (group i) g e);
            self_minus = λ i e. rw (eq-eqb (group i) g e);
            mine_plus = λ j k a ne. mine_plus j k a ne (cases_eq (group j) g);
            mine_minus = λ j k a ne. mine_minus j k a ne (cases_eq (group j) g);
          }

      -- what the components sent, as the lease has it
      new_sends : (k : ℕ) (a : A) (j : ℕ) → group (machine.owner k) ≡ g → sends machine ((lease_of group g l v).part (machine.owner k)).done k a j ≡ sends machine (v.part (machine.owner k)).done k a j
      new_sends k a j own = here (λ c. sends machine c.done k a j ≡ sends machine (v.part (machine.owner k)).done k a j) (machine.owner k) own refl

      abbrev sent_in : ℕ → ℕ → A → ℕ
      sent_in i k a = sends machine ((lease_of group g l v).part (machine.owner k)).done k a i

      taken : (i k : ℕ) (a : A) → group i ≡ g → (k < v.bound) ⊎ (v.bound ≤ k) → (group (machine.owner k) ≡ g) ⊎ (group (machine.owner k) ≡ g → ⊥)
          → st.taken i k a + within machine group k i (sent_in i k a) + times machine (v.part i).owed k a + times machine (v.part i).minus k a ≡ inputs machine (v.part i).done k a + times machine (v.part i).pending k a + times machine (v.part i).plus k a
      taken i k a e (inr low) (inl own) =
          let b = r.holds.balance i k a low in
          let n = new_sends k a i own in
          let z = (stays machine group k i (sent_in i k a) (own ∙ sym e)).1 in
          let c : (apart machine group g st).came i k a ≡ st.taken i k a = rw (eq-eqb (group i) g e) in
          let w : (apart machine group g st).went i k a ≡ 0 = rw (eq-eqb (group (machine.owner k)) g own) (standing_self k a i own e) in
          omega arith
      taken i k a e (inr low) (inr ne) =
          let b = r.holds.balance i k a low in
          let z = (passes machine group k i (sent_in i k a) (λ q. ne (q ∙ e))).1 in
          let s : sends machine (v.part (machine.owner k)).done k a i ≡ 0 = ap (λ (es : List (Entry A)). sends machine es k a i) (r.private.done (machine.owner k) ne ∙ ap (λ (c : Part S A). c.done) (idle_at (machine.owner k) ne)) ∙ no_sends machine law k a i in
          let c : (apart machine group g st).came i k a ≡ st.taken i k a = rw (eq-eqb (group i) g e) in
          let w : (apart machine group g st).went i k a ≡ 0 = rw (ne_eqb (group (machine.owner k)) g ne) in
          omega arith
      taken i k a e (inl high) o =
          let b = bound in
          let f = lease.low in
          let n = match.taken i k a e in
          let x = inputs_low machine law i l.base (l.part i).first (l.part i).base (l.part i).done (lease.proper i e).done k (omega arith) a in
          let y = all_zero machine law l.floor k (l.part i).pending (lease.past i e).pending (omega arith) a in
          let z = all_zero machine law l.floor k (l.part i).plus (lease.past i e).plus (omega arith) a in
          let x' = inputs_low machine law i v.bound (v.part i).first (v.part i).base (v.part i).done (r.holds.proper i).done k high a in
          let y' = all_zero machine law l.floor k (v.part i).pending (r.over i).pending (omega arith) a in
          let z' = all_zero machine law l.floor k (v.part i).plus (r.over i).plus (omega arith) a in
          let o' = all_zero machine law l.floor k (v.part i).owed (r.over i).owed (omega arith) a in
          let m' = all_zero machine law l.floor k (v.part i).minus (r.over i).minus (omega arith) a in
          let s = none_in o in
          omega arith
        where
          none_in : (group (machine.owner k) ≡ g) ⊎ (group (machine.owner k) ≡ g → ⊥) → within machine group k i (sent_in i k a) ≡ 0
          none_in (inl own) =
              (none machine group k i (sent_in i k a) (new_sends k a i own
              ∙ sends_low machine law (machine.owner k) v.bound (v.part (machine.owner k)).first (v.part (machine.owner k)).base (v.part (machine.owner k)).done (r.holds.proper (machine.owner k)).done k high a i)).1
          none_in (inr ne) = (passes machine group k i (sent_in i k a) (λ q. ne (q ∙ e))).1

      standing : (k : ℕ) (a : A) (j : ℕ) → group (machine.owner k) ≡ g → (group j ≡ g) ⊎ (group j ≡ g → ⊥) → (k < v.bound) ⊎ (v.bound ≤ k)
          → st.standing k a j + times machine (cond (group j == g) [] (v.part j).plus) k a ≡ between machine group k j (sent_in j k a) + times machine (cond (group j == g) [] (v.part j).minus) k a
      standing k a j own (inl e) h =
          let z = (stays machine group k j (sent_in j k a) (own ∙ sym e)).0 in
          let s = standing_self k a j own e in
          rw (eq-eqb (group j) g e) (omega arith)
      standing k a j own (inr ne) (inl h) =
          let b = bound in
          let f = lease.low in
          let m = match.standing k a j own in
          let i : ℕ = machine.owner k in
          let x = all_zero machine law l.floor k (l.out_plus j) (lease.out_plus j) (omega arith) a in
          let w = all_zero machine law l.floor k (l.out_minus j) (lease.out_minus j) (omega arith) a in
          let y = (none machine group k j (sends machine (l.part (machine.owner k)).done k a j)
          (sends_low machine law (machine.owner k) l.base (l.part (machine.owner k)).first (l.part (machine.owner k)).base (l.part (machine.owner k)).done (lease.proper (machine.owner k) own).done k (omega arith) a j)).0 in
          let z = (none machine group k j (sent_in j k a)
          (new_sends k a j own ∙ sends_low machine law (machine.owner k) v.bound (v.part (machine.owner k)).first (v.part (machine.owner k)).base (v.part (machine.owner k)).done (r.holds.proper (machine.owner k)).done k h a j)).0 in
          let p = all_zero machine law l.floor k (v.part j).plus (r.over j).plus (omega arith) a in
          let q = all_zero machine law l.floor k (v.part j).minus (r.over j).minus (omega arith) a in
          rw (ne_eqb (group j) g ne) (omega arith)
      standing k a j own (inr ne) (inr h) =
          let b = r.holds.balance j k a h in
          let n = new_sends k a j own in
          let z = (passes machine group k j (sent_in j k a) (λ q. ne (sym q ∙ own))).0 in
          let x : inputs machine (v.part j).done k a ≡ 0 = ap (λ (es : List (Entry A)). inputs machine es k a) (r.private.done j ne ∙ ap (λ (c : Part S A). c.done) (idle_at j ne)) in
          let p : times machine (v.part j).pending k a ≡ 0 = ap (λ (xs : List (Item A)). times machine xs k a) (r.private.pending j ne ∙ ap (λ (c : Part S A). c.pending) (idle_at j ne)) in
          let o : times machine (v.part j).owed k a ≡ 0 = ap (λ (xs : List (Item A)). times machine xs k a) (r.private.owed j ne ∙ ap (λ (c : Part S A). c.owed) (idle_at j ne)) in
          let c : (apart machine group g st).came j k a ≡ 0 = rw (ne_eqb (group j) g ne) in
          let w : (apart machine group g st).went j k a ≡ st.standing k a j = rw (eq-eqb (group (machine.owner k)) g own) in
          rw (ne_eqb (group j) g ne) (omega arith)

      pub ran_matches : Matches machine group g st (lease_of group g l v)
      ran_matches =
          record {
            base = bound ∙ match.base;
            floor = match.floor;
            taken = λ i k a e. here (λ c. st.taken i k a + within machine group k i (sent_in i k a) + times machine c.owed k a + times machine c.minus k a ≡ inputs machine c.done k a + times machine c.pending k a + times machine c.plus k a)
                i e (taken i k a e (cases_lt k v.bound) (cases_eq (group (machine.owner k)) g));
            standing = λ k a j own. standing k a j own (cases_eq (group j) g) (cases_lt k v.bound);
          }

    -- Its steps
    pub ran_process : (i : ℕ) (v : World S A) → group i ≡ g → Ran v → Ran (walk_on machine i v)
    ran_process i v mine r =
        let p = private_from machine law i (v.part i).pending v in
        record {
          holds = process_kept machine law i v r.holds;
          over = over_all i mine l.floor v (walk_on machine i v) r.over p (process_from_over machine law l.floor i (v.part i).pending v refl (over_one i mine l.floor v r.over));
          private = private_then (alone machine group g l) v (walk_on machine i v) r.private (private_one i mine v (walk_on machine i v) p);
        }

    pub ran_plus : (i : ℕ) (x : Item A) (v : World S A) → group i ≡ g → Ran v → 0 < times machine (v.part i).plus x.key x.action → Ran (walk_plus machine i x v)
    ran_plus i x v mine r h =
        let p = private_plus machine law i x v r.holds in
        record {
          holds = deliver_plus_kept machine law v i x r.holds h;
          over = over_all i mine l.floor v (walk_plus machine i x v) r.over p (deliver_plus_over machine law l.floor i x v r.holds h (over_one i mine l.floor v r.over));
          private = private_then (alone machine group g l) v (walk_plus machine i x v) r.private (private_one i mine v (walk_plus machine i x v) p);
        }

    pub ran_minus : (i : ℕ) (x : Item A) (v : World S A) → group i ≡ g → Ran v → 0 < times machine (v.part i).minus x.key x.action → Ran (walk_minus machine i x v)
    ran_minus i x v mine r h =
        let p = private_minus machine law i x v r.holds in
        record {
          holds = deliver_minus_kept machine law v i x r.holds h;
          over = over_all i mine l.floor v (walk_minus machine i x v) r.over p (deliver_minus_over machine law l.floor i x v r.holds h (over_one i mine l.floor v r.over));
          private = private_then (alone machine group g l) v (walk_minus machine i x v) r.private (private_one i mine v (walk_minus machine i x v) p);
        }

    pub ran_meet : (i : ℕ) (x : Item A) (v : World S A) → group i ≡ g → Ran v → 0 < times machine (v.part i).plus x.key x.action → 0 < times machine (v.part i).minus x.key x.action → Ran (walk_meet machine i x v)
    ran_meet i x v mine r hp hm =
        let p = private_put machine law i _ v in
        let o = over_one i mine l.floor v r.over i in
        record {
          holds = meet_kept machine law v i x r.holds hp hm;
          over = over_all i mine l.floor v (walk_meet machine i x v) r.over p
              (local_over machine law l.floor i _ v
              (record { turn = o.turn; pending = o.pending; owed = o.owed; plus = AllFrom-remove machine l.floor x (v.part i).plus o.plus; minus = AllFrom-remove machine l.floor x (v.part i).minus o.minus }) (over_one i mine l.floor v r.over));
          private = private_then (alone machine group g l) v (walk_meet machine i x v) r.private (private_one i mine v (walk_meet machine i x v) p);
        }

    pub does_ran : (ss : List (Step A)) (u v : World S A) → Ran u → WalksAlone machine group g u ss v → Ran v
    does_ran [] u v r h = rw h r
    does_ran (Process i ∷ ss) u v r h = does_ran ss (walk_on machine i u) v (ran_process i u h.0 r) h.1
    does_ran (DeliverMessage i x ∷ ss) u v r h = does_ran ss (walk_plus machine i x u) v (ran_plus i x u h.0 r h.1) h.2
    does_ran (DeliverAntimessage i x ∷ ss) u v r h = does_ran ss (walk_minus machine i x u) v (ran_minus i x u h.0 r h.1) h.2
    does_ran (Meet i x ∷ ss) u v r h = does_ran ss (walk_meet machine i x u) v (ran_meet i x u h.0 r h.1 h.2) h.3
    does_ran (RollBack j ∷ ss) u v r h = absurd h
    does_ran (Commit b ∷ ss) u v r h = absurd h

    pub does_lease : (ss : List (Step A)) (v : World S A) → WalksAlone machine group g (alone machine group g l) ss v → IsLease machine group g (lease_of group g l v) × Matches machine group g st (lease_of group g l v)
    does_lease ss v h =
        let r = does_ran ss (alone machine group g l) v ran_none h in
        (ran_lease v r, ran_matches v r)

-- The steps are walks.
pub alone_walks : {S A : Type 0} (machine : Machine S A) (group : ℕ → ℕ) (g : ℕ) (u : World S A) (ss : List (Step A)) (v : World S A) → Does machine group g u ss v → WalksAlone machine group g u ss v
alone_walks machine group g u [] v h = h
alone_walks machine group g u (Process i ∷ ss) v h = (h.0, alone_walks machine group g (walk_on machine i u) ss v (subst (λ (w : World _ _). Does machine group g w ss v) (process_is machine i u) h.1))
alone_walks machine group g u (DeliverMessage i x ∷ ss) v h = (h.0, h.1, alone_walks machine group g (walk_plus machine i x u) ss v (subst (λ (w : World _ _). Does machine group g w ss v) (deliver_is machine i x u) h.2))
alone_walks machine group g u (DeliverAntimessage i x ∷ ss) v h = (h.0, h.1, alone_walks machine group g (walk_minus machine i x u) ss v (subst (λ (w : World _ _). Does machine group g w ss v) (undeliver_is machine i x u) h.2))
alone_walks machine group g u (Meet i x ∷ ss) v h = (h.0, h.1, h.2, alone_walks machine group g (walk_meet machine i x u) ss v (subst (λ (w : World _ _). Does machine group g w ss v) (meet_is machine i x u) h.3))
alone_walks machine group g u (RollBack i ∷ ss) v h = absurd h
alone_walks machine group g u (Commit b ∷ ss) v h = absurd h
