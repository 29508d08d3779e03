-- A commit of the exchange of groups is one Commit of the whole world, and a meeting of a group is Meets.
use Rattle.std.proofs.Common.{◌≡◌, ℕ, ◌+◌, ◌≤◌, ◌⊎◌, inl, inr, Bool, cond, List, [], ◌∷◌, refl, ap, sym, subst, ◌∙◌, arith}
use Rattle.std.proofs.lemmas.Bool.{eq-eqb, ne_eqb, cases_eq}
use Rattle.virtual_time.specs.Inverses.{meets_of, times_to}
use Rattle.virtual_time.specs.Machine.{Lawful, Machine}
use Rattle.virtual_time.specs.Entries.{Item, below, from, number, replay}
use Rattle.virtual_time.specs.Worlds.{CanCommit, Commit, Part, World, commit}
use Rattle.virtual_time.specs.Bags.{times}
use Rattle.virtual_time.specs.Rules.{IsWorld}
use Rattle.virtual_time.specs.Reference.{reference_below}
use Rattle.virtual_time.specs.Groups.Stubs.{Exchange, IsSound}
use Rattle.virtual_time.specs.Groups.Leases.{IsLease, Lease, Matches}
use Rattle.virtual_time.specs.Groups.Meetings.{IsClear, IsCommit, Met}
use Rattle.virtual_time.specs.Groups.Wholes.{IsWholeWorld, part_in, put_lease}
use Rattle.virtual_time.proofs.Moves.{Leads}
use Rattle.virtual_time.proofs.Lists.{AllFrom-weaken}
use Rattle.virtual_time.proofs.Joint.{all_zero}
use Rattle.virtual_time.proofs.Commits.{number_split, commit_kept}
use Rattle.virtual_time.proofs.Prefix.{reference_one}
use Rattle.virtual_time.proofs.Refs.{ref_is}
use Rattle.virtual_time.proofs.Exchange.Wholes.{Gone, from_twice, low_counts, meets_all, number_twice, replay_twice}
use Rattle.virtual_time.proofs.Groups.Committed.{commit_up}

module _ {S A : Type 0} (machine : Machine S A) (law : Lawful machine) (group : ℕ → ℕ) where
  module _ {count : ℕ} (e : Exchange A) (is : IsSound machine group count e) (ls : ℕ → Lease S A) (leases : (g : ℕ) → IsLease machine group g (ls g)) (match : (g : ℕ) → Matches machine group g (e.stub g) (ls g)) (w : World S A) (whole : IsWholeWorld machine group e ls w) where
    pub can : (b : ℕ) → e.bound ≤ b → IsClear machine e b → CanCommit machine w b
    can b up clear =
        record {
          not_behind = let h = whole.bound in omega arith;
          not_ahead = λ j.
              let past = (leases (group j)).past j refl in
              record {
                turn = let n = number_split e.bound (part_in group ls j).first (part_in group ls j).done in let t = past.turn in rw (whole.first j, whole.done j, n) (omega (arith, high (group j)));
                pending = rw (whole.pending j) (AllFrom-weaken b (ls (group j)).floor (part_in group ls j).pending (high (group j)) past.pending);
                plus = low_counts machine law b (w.part j).plus (λ k a l.
                    let h = high (group j) in
                    let o = high (group (machine.owner k)) in
                    let x = whole.plus j k a in
                    let p = all_zero machine law (ls (group j)).floor k (part_in group ls j).plus past.plus (omega arith) a in
                    let q = all_zero machine law b k (e.plus j) (clear.plus j) l a in
                    let r = all_zero machine law (ls (group (machine.owner k))).floor k ((ls (group (machine.owner k))).out_plus j) ((leases (group (machine.owner k))).out_plus j) (omega arith) a in
                    omega arith);
                minus = low_counts machine law b (w.part j).minus (λ k a l.
                    let h = high (group j) in
                    let o = high (group (machine.owner k)) in
                    let x = whole.minus j k a in
                    let p = all_zero machine law (ls (group j)).floor k (part_in group ls j).minus past.minus (omega arith) a in
                    let q = all_zero machine law b k (e.minus j) (clear.minus j) l a in
                    let r = all_zero machine law (ls (group (machine.owner k))).floor k ((ls (group (machine.owner k))).out_minus j) ((leases (group (machine.owner k))).out_minus j) (omega arith) a in
                    omega arith);
              };
        }
      where
        high : (g : ℕ) → b ≤ (ls g).floor
        high g = let c = clear.floor g in let m = (match g).floor in omega arith

    -- one Commit
    pub commit_whole : (b : ℕ) → e.bound ≤ b → IsClear machine e b → IsWorld machine w
        → (v : World S A) × Leads machine w (Commit b ∷ []) v × IsWholeWorld machine group (record { stub = e.stub; plus = e.plus; minus = e.minus; bound = b; held = e.held; given = e.given }) ls v
    commit_whole b up clear isw =
        let c = can b up clear in
        let kept = commit_kept machine law b w isw c in (
          commit machine b w,
          (commit machine b w, inl (c, refl), refl),
          record {
            bound = refl;
            committed = reference_one machine b (commit machine b w).committed (reference_below machine b) kept.reference (ref_is machine law b clear.end);
            base = λ j. rw (whole.base j, whole.done j) (replay_twice machine law j e.bound b (part_in group ls j).base (part_in group ls j).done up);
            first = λ j. rw (whole.first j, whole.done j) (number_twice e.bound b (part_in group ls j).first (part_in group ls j).done up);
            done = λ j. rw (whole.done j) (from_twice e.bound b (part_in group ls j).done up);
            pending = whole.pending;
            owed = whole.owed;
            plus = whole.plus;
            minus = whole.minus;
          },
        )

    pub commit_leads : (e' : Exchange A) → IsWorld machine w → IsCommit machine e e' → (v : World S A) × Leads machine w (Commit e'.bound ∷ []) v × IsWholeWorld machine group e' ls v
    commit_leads e' isw c =
        let r = commit_whole e'.bound (commit_up machine law group e is e' c) c.clear isw in
        (r.0, r.1, subst (λ (x : Exchange A). IsWholeWorld machine group x ls r.0) (sym c.rest) r.2)

  module _ (g : ℕ) (e : Exchange A) (ls : ℕ → Lease S A) (lease : IsLease machine group g (ls g)) (w : World S A) (whole : IsWholeWorld machine group e ls w)
      (e' : Exchange A) (l' : Lease S A) (met : Met machine group g e (ls g) e' l') where
    abbrev leases : ℕ → Lease S A
    leases = put_lease g l' ls

    abbrev Out_plus : (ℕ → Lease S A) → ℕ → ℕ → A → ℕ
    Out_plus fs j k a = times machine ((fs (group (machine.owner k))).out_plus j) k a

    abbrev Out_minus : (ℕ → Lease S A) → ℕ → ℕ → A → ℕ
    Out_minus fs j k a = times machine ((fs (group (machine.owner k))).out_minus j) k a

    -- what the meeting lease has out is part of what is out
    out_parts : (j k : ℕ) (a : A) → (Out_plus ls j k a ≡ times machine ((ls g).out_plus j) k a + Out_plus leases j k a) × (Out_minus ls j k a ≡ times machine ((ls g).out_minus j) k a + Out_minus leases j k a)
    out_parts j k a = go (cases_eq (group (machine.owner k)) g)
      where
        go : (group (machine.owner k) ≡ g) ⊎ (group (machine.owner k) ≡ g → ⊥) → (Out_plus ls j k a ≡ times machine ((ls g).out_plus j) k a + Out_plus leases j k a) × (Out_minus ls j k a ≡ times machine ((ls g).out_minus j) k a + Out_minus leases j k a)
        go (inl own) =
            let x : Out_plus ls j k a ≡ times machine ((ls g).out_plus j) k a = ap (λ (m : ℕ). times machine ((ls m).out_plus j) k a) own in
            let y : Out_minus ls j k a ≡ times machine ((ls g).out_minus j) k a = ap (λ (m : ℕ). times machine ((ls m).out_minus j) k a) own in
            let p : Out_plus leases j k a ≡ 0 = rw (eq-eqb (group (machine.owner k)) g own, met.out_plus j) refl in
            let q : Out_minus leases j k a ≡ 0 = rw (eq-eqb (group (machine.owner k)) g own, met.out_minus j) refl in
            (omega arith, omega arith)
        go (inr ne) =
            let x = lease.mine_plus j k a ne in
            let y = lease.mine_minus j k a ne in
            let p : Out_plus leases j k a ≡ Out_plus ls j k a = rw (ne_eqb (group (machine.owner k)) g ne) refl in
            let q : Out_minus leases j k a ≡ Out_minus ls j k a = rw (ne_eqb (group (machine.owner k)) g ne) refl in
            (omega arith, omega arith)

    room_plus : (j k : ℕ) (a : A) → times_to machine met.gone j k a ≤ times machine (w.part j).plus k a
    room_plus j k a = let x = whole.plus j k a in let o = (out_parts j k a).0 in let b = met.by_plus j k a in omega arith

    room_minus : (j k : ℕ) (a : A) → times_to machine met.gone j k a ≤ times machine (w.part j).minus k a
    room_minus j k a = let x = whole.minus j k a in let o = (out_parts j k a).1 in let b = met.by_minus j k a in omega arith

    -- the parts of the leases then
    here : (P : ℕ → Part S A → Type 0) → ((j : ℕ) → group j ≡ g → P j (l'.part j)) → ((j : ℕ) → (group j ≡ g → ⊥) → P j (part_in group ls j)) → (j : ℕ) → P j (part_in group leases j)
    here P h o j = pick (cases_eq (group j) g)
      where
        pick : (group j ≡ g) ⊎ (group j ≡ g → ⊥) → P j (part_in group leases j)
        pick (inl q) = subst (λ (x : Bool). P j ((cond x l' (ls (group j))).part j)) (sym (eq-eqb (group j) g q)) (h j q)
        pick (inr ne) = subst (λ (x : Bool). P j ((cond x l' (ls (group j))).part j)) (sym (ne_eqb (group j) g ne)) (o j ne)

    -- of a component of the group, as its lease had it
    mine : (P : Part S A → Type 0) (j : ℕ) → group j ≡ g → P (part_in group ls j) → P ((ls g).part j)
    mine P j own p = subst (λ (h : ℕ). P ((ls h).part j)) own p

    tray_plus : (j k : ℕ) (a : A) → times machine (part_in group leases j).plus k a + times machine (e'.plus j) k a ≡ times machine (part_in group ls j).plus k a + times machine (met.p j) k a
    tray_plus j k a = here (λ n c. times machine c.plus k a + times machine (e'.plus n) k a ≡ times machine (part_in group ls n).plus k a + times machine (met.p n) k a)
        (λ n own.
        let t = met.tray_plus n k a own in
        let x : times machine (e'.plus n) k a ≡ 0 = rw (met.inbox_plus n own) refl in
        let y : times machine (part_in group ls n).plus k a ≡ times machine ((ls g).part n).plus k a = ap (λ (h : ℕ). times machine ((ls h).part n).plus k a) own in
        omega arith)
        (λ n ne. let x : times machine (e'.plus n) k a ≡ times machine (met.p n) k a = ap (λ (xs : List (Item A)). times machine xs k a) (met.others_plus n ne) in omega arith) j

    tray_minus : (j k : ℕ) (a : A) → times machine (part_in group leases j).minus k a + times machine (e'.minus j) k a ≡ times machine (part_in group ls j).minus k a + times machine (met.m j) k a
    tray_minus j k a = here (λ n c. times machine c.minus k a + times machine (e'.minus n) k a ≡ times machine (part_in group ls n).minus k a + times machine (met.m n) k a)
        (λ n own.
        let t = met.tray_minus n k a own in
        let x : times machine (e'.minus n) k a ≡ 0 = rw (met.inbox_minus n own) refl in
        let y : times machine (part_in group ls n).minus k a ≡ times machine ((ls g).part n).minus k a = ap (λ (h : ℕ). times machine ((ls h).part n).minus k a) own in
        omega arith)
        (λ n ne. let x : times machine (e'.minus n) k a ≡ times machine (met.m n) k a = ap (λ (xs : List (Item A)). times machine xs k a) (met.others_minus n ne) in omega arith) j

    whole_new : (v : World S A) → Gone machine law w v met.gone → IsWholeWorld machine group e' leases v
    whole_new v q =
        record {
          bound = q.bound ∙ whole.bound ∙ sym met.bound;
          committed = rw met.bound (q.committed ∙ whole.committed);
          base = rw met.bound (here (λ j c. (v.part j).base ≡ replay machine j c.base (below e.bound c.done))
              (λ j own. mine (λ c. (v.part j).base ≡ replay machine j c.base (below e.bound c.done)) j own (q.base j ∙ whole.base j) ∙ rw (met.state j own, met.done j own) (sym (replay_twice machine law j e.bound e.bound ((ls g).part j).base ((ls g).part j).done (omega arith)))) (λ j ne. q.base j ∙ whole.base j));
          first = rw met.bound (here (λ j c. (v.part j).first ≡ number c.first (below e.bound c.done))
              (λ j own. mine (λ c. (v.part j).first ≡ number c.first (below e.bound c.done)) j own (q.first j ∙ whole.first j) ∙ rw (met.first j own, met.done j own) (sym (number_twice e.bound e.bound ((ls g).part j).first ((ls g).part j).done (omega arith)))) (λ j ne. q.first j ∙ whole.first j));
          done = rw met.bound (here (λ j c. (v.part j).done ≡ from e.bound c.done)
              (λ j own. mine (λ c. (v.part j).done ≡ from e.bound c.done) j own (q.done j ∙ whole.done j) ∙ rw (met.done j own) (sym (from_twice e.bound e.bound ((ls g).part j).done (omega arith)))) (λ j ne. q.done j ∙ whole.done j));
          pending = here (λ j c. (v.part j).pending ≡ c.pending) (λ j own. mine (λ c. (v.part j).pending ≡ c.pending) j own (q.pending j ∙ whole.pending j) ∙ sym (met.pending j own)) (λ j ne. q.pending j ∙ whole.pending j);
          owed = here (λ j c. (v.part j).owed ≡ c.owed) (λ j own. mine (λ c. (v.part j).owed ≡ c.owed) j own (q.owed j ∙ whole.owed j) ∙ sym (met.owed j own)) (λ j ne. q.owed j ∙ whole.owed j);
          plus = λ j k a. let x = whole.plus j k a in let o = (out_parts j k a).0 in let b = met.by_plus j k a in let t = tray_plus j k a in let h = q.plus j k a in omega arith;
          minus = λ j k a. let x = whole.minus j k a in let o = (out_parts j k a).1 in let b = met.by_minus j k a in let t = tray_minus j k a in let h = q.minus j k a in omega arith;
        }

    -- Meets
    pub meet_whole : (v : World S A) × Leads machine w (meets_of met.gone) v × IsWholeWorld machine group e' leases v
    meet_whole = let r = meets_all machine law met.gone w room_plus room_minus in (r.0, r.1, whole_new r.0 r.2)
