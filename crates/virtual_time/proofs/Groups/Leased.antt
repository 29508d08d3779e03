-- A group's own steps on the record of one of its components, on what is in flight within it, and on its bag.
use Rattle.std.proofs.Common.{◌≡◌, ℕ, ◌<◌, ◌==◌, ◌⊎◌, inl, inr, Bool, cond, Option, Some, List, [], ◌∷◌, ◌++◌, refl, ap, sym, subst, ◌∙◌}
use Rattle.std.proofs.lemmas.Bool.{eq-eqb, ne_eqb, cases_eq}
use Rattle.virtual_time.specs.Machine.{Machine}
use Rattle.virtual_time.specs.Entries.{Entry, Item}
use Rattle.virtual_time.specs.Reference.{point}
use Rattle.virtual_time.specs.Records.{Record, after_entry, antimessage_comes, back_by_antimessage, back_by_message, message_comes, next_of, sent_by, unsent}
use Rattle.virtual_time.specs.Worlds.{Commit, DeliverAntimessage, DeliverMessage, Meet, Part, Process, RollBack, Step, World, deliver_antimessage, deliver_message, meet, process, process_entry, put, put_back, record_of, same, taken_at, with_record}
use Rattle.virtual_time.specs.Bags.{times}
use Rattle.virtual_time.specs.Groups.Leases.{Does, Lease, alone, lease_after, lease_of}
use Rattle.virtual_time.proofs.Lists.{put_other}

module _ {S A : Type 0} (machine : Machine S A) (group : ℕ → ℕ) (g : ℕ) (i : ℕ) (mine : group i ≡ g) (l : Lease S A) where
  abbrev pub u : World S A
  u = alone machine group g l

  abbrev idle : ℕ → Part S A
  idle j = record { base = (point machine l.base).state j; first = (point machine l.base).next j; done = []; pending = []; owed = []; plus = l.out_plus j; minus = l.out_minus j }

  inside : (j : ℕ) → group j ≡ g → u.part j ≡ l.part j
  inside j e = subst (λ (b : Bool). cond b (l.part j) (idle j) ≡ l.part j) (sym (eq-eqb (group j) g e)) refl

  outside : (j : ℕ) → (group j ≡ g → ⊥) → u.part j ≡ idle j
  outside j ne = subst (λ (b : Bool). cond b (l.part j) (idle j) ≡ idle j) (sym (ne_eqb (group j) g ne)) refl

  pub here : u.part i ≡ l.part i
  here = inside i mine

  module _ (r : Record S A) (plus minus : ℕ → List (Item A) → List (Item A)) where
    changed : ℕ → Part S A → Part S A
    changed j c = record { base = c.base; first = c.first; done = c.done; pending = c.pending; owed = c.owed; plus = plus j c.plus; minus = minus j c.minus }

    abbrev v : World S A
    v = put_back i r plus minus u

    put_inside : (j : ℕ) → group j ≡ g → put i (with_record (u.part i) r) u.part j ≡ put i (with_record (l.part i) r) l.part j
    put_inside j e =
        ap (λ (c : Part S A). cond (j == i) (with_record c r) (u.part j)) here
        ∙ ap (λ (c : Part S A). cond (j == i) (with_record (l.part i) r) c) (inside j e)

    part_inside : (j : ℕ) → group j ≡ g → v.part j ≡ changed j (put i (with_record (l.part i) r) l.part j)
    unfolding changed
    part_inside j e = ap (changed j) (put_inside j e)

    part_outside : (j : ℕ) → (group j ≡ g → ⊥) → v.part j ≡ changed j (idle j)
    unfolding changed
    part_outside j ne = ap (changed j) (put_other i (with_record (u.part i) r) u.part j (λ e. ne (ap group e ∙ mine)) ∙ outside j ne)

    changed_plus : (j : ℕ) (c : Part S A) → (changed j c).plus ≡ plus j c.plus
    unfolding changed
    changed_plus j c = refl

    changed_minus : (j : ℕ) (c : Part S A) → (changed j c).minus ≡ minus j c.minus
    unfolding changed
    changed_minus j c = refl

    part_of : (j : ℕ) → cond (group j == g) (v.part j) (l.part j) ≡ cond (group j == g) (changed j (put i (with_record (l.part i) r) l.part j)) (l.part j)
    part_of j = go (cases_eq (group j) g)
      where
        go : (group j ≡ g) ⊎ (group j ≡ g → ⊥) → cond (group j == g) (v.part j) (l.part j) ≡ cond (group j == g) (changed j (put i (with_record (l.part i) r) l.part j)) (l.part j)
        go (inl e) = ap (λ (c : Part S A). cond (group j == g) c (l.part j)) (part_inside j e)
        go (inr ne) = subst (λ (b : Bool). cond b (v.part j) (l.part j) ≡ cond b (changed j (put i (with_record (l.part i) r) l.part j)) (l.part j)) (sym (ne_eqb (group j) g ne)) refl

    bag_plus : (j : ℕ) → cond (group j == g) [] (v.part j).plus ≡ cond (group j == g) [] (plus j (l.out_plus j))
    bag_plus j = go (cases_eq (group j) g)
      where
        go : (group j ≡ g) ⊎ (group j ≡ g → ⊥) → cond (group j == g) [] (v.part j).plus ≡ cond (group j == g) [] (plus j (l.out_plus j))
        go (inl e) = rw (eq-eqb (group j) g e)
        go (inr ne) = ap (λ (xs : List (Item A)). cond (group j == g) [] xs) (ap (λ (c : Part S A). c.plus) (part_outside j ne) ∙ changed_plus j (idle j))

    bag_minus : (j : ℕ) → cond (group j == g) [] (v.part j).minus ≡ cond (group j == g) [] (minus j (l.out_minus j))
    bag_minus j = go (cases_eq (group j) g)
      where
        go : (group j ≡ g) ⊎ (group j ≡ g → ⊥) → cond (group j == g) [] (v.part j).minus ≡ cond (group j == g) [] (minus j (l.out_minus j))
        go (inl e) = rw (eq-eqb (group j) g e)
        go (inr ne) = ap (λ (xs : List (Item A)). cond (group j == g) [] xs) (ap (λ (c : Part S A). c.minus) (part_outside j ne) ∙ changed_minus j (idle j))

    -- the lease of what it led to
    pub leased : lease_of group g l (put_back i r plus minus u) ≡ lease_after group g i l r plus minus
    unfolding changed
    leased = λ t. record { base = l.base; floor = l.floor; part = λ j. part_of j t; out_plus = λ j. bag_plus j t; out_minus = λ j. bag_minus j t }

    -- and that lease alone
    pub alone_after : alone machine group g (lease_after group g i l r plus minus) ≡ put_back i r plus minus u
    unfolding changed
    alone_after = λ t. record { part = λ j. each j (cases_eq (group j) g) t; bound = l.base; committed = u.committed }
      where
        new : Lease S A
        new = lease_after group g i l r plus minus

        new_idle : ℕ → Part S A
        new_idle j = record { base = (point machine l.base).state j; first = (point machine l.base).next j; done = []; pending = []; owed = []; plus = cond (group j == g) [] (plus j (l.out_plus j)); minus = cond (group j == g) [] (minus j (l.out_minus j)) }

        each : (j : ℕ) → (group j ≡ g) ⊎ (group j ≡ g → ⊥)
            → cond (group j == g) (cond (group j == g) (changed j (put i (with_record (l.part i) r) l.part j)) (l.part j)) (new_idle j) ≡ v.part j
        each j (inl e) =
            subst (λ (b : Bool). cond b (cond b (changed j (put i (with_record (l.part i) r) l.part j)) (l.part j)) (new_idle j) ≡ v.part j) (sym (eq-eqb (group j) g e)) (sym (part_inside j e))
        each j (inr ne) =
            subst (λ (b : Bool). cond b (cond b (changed j (put i (with_record (l.part i) r) l.part j)) (l.part j))
            (record { base = (point machine l.base).state j; first = (point machine l.base).next j; done = []; pending = []; owed = []; plus = cond b [] (plus j (l.out_plus j)); minus = cond b [] (minus j (l.out_minus j)) }) ≡ v.part j)
            (sym (ne_eqb (group j) g ne)) (sym (part_outside j ne))

  process_some : (e : Entry A) (o : Option (Entry A)) → o ≡ Some e → process_entry machine i o u ≡ process_entry machine i (Some e) u
  process_some e o h = ap (λ (p : Option (Entry A)). process_entry machine i p u) h

  pub process_leased : (e : Entry A) → next_of machine i (record_of (l.part i)) ≡ Some e → lease_of group g l (process machine i u) ≡ lease_after group g i l (after_entry e (record_of (l.part i))) (sent_by machine i e) same
  process_leased e h =
      ap (lease_of group g l) (process_some e (next_of machine i (record_of (u.part i))) (ap (λ (c : Part S A). next_of machine i (record_of c)) here ∙ h))
      ∙ leased (after_entry e (record_of (u.part i))) (sent_by machine i e) same
      ∙ ap (λ (c : Part S A). lease_after group g i l (after_entry e (record_of c)) (sent_by machine i e) same) here

  pub message_leased : (x : Item A) → lease_of group g l (deliver_message machine i x u)
      ≡ lease_after group g i l (message_comes machine x (record_of (l.part i))) (taken_at machine i x) (unsent machine i (back_by_message machine x (record_of (l.part i))))
  message_leased x =
      leased (message_comes machine x (record_of (u.part i))) (taken_at machine i x) (unsent machine i (back_by_message machine x (record_of (u.part i))))
      ∙ ap (λ (c : Part S A). lease_after group g i l (message_comes machine x (record_of c)) (taken_at machine i x) (unsent machine i (back_by_message machine x (record_of c)))) here

  pub antimessage_leased : (x : Item A) → lease_of group g l (deliver_antimessage machine i x u)
      ≡ lease_after group g i l (antimessage_comes machine x (record_of (l.part i))) same (λ j xs. taken_at machine i x j (unsent machine i (back_by_antimessage machine x (record_of (l.part i))) j xs))
  antimessage_leased x =
      leased (antimessage_comes machine x (record_of (u.part i))) same (λ j xs. taken_at machine i x j (unsent machine i (back_by_antimessage machine x (record_of (u.part i))) j xs))
      ∙ ap (λ (c : Part S A). lease_after group g i l (antimessage_comes machine x (record_of c)) same (λ j xs. taken_at machine i x j (unsent machine i (back_by_antimessage machine x (record_of c)) j xs))) here

  pub meet_leased : (x : Item A) → lease_of group g l (meet machine i x u) ≡ lease_after group g i l (record_of (l.part i)) (taken_at machine i x) (taken_at machine i x)
  meet_leased x =
      leased (record_of (u.part i)) (taken_at machine i x) (taken_at machine i x)
      ∙ ap (λ (c : Part S A). lease_after group g i l (record_of c) (taken_at machine i x) (taken_at machine i x)) here

  -- one step of the group's own, from its lease alone to its lease alone
  pub does_process : (e : Entry A) → next_of machine i (record_of (l.part i)) ≡ Some e
      → Does machine group g u (Process i ∷ []) (alone machine group g (lease_after group g i l (after_entry e (record_of (l.part i))) (sent_by machine i e) same))
  does_process e h =
      let made : process machine i u ≡ put_back i (after_entry e (record_of (l.part i))) (sent_by machine i e) same u
      = process_some e (next_of machine i (record_of (u.part i))) (ap (λ (c : Part S A). next_of machine i (record_of c)) here ∙ h) ∙ ap (λ (c : Part S A). put_back i (after_entry e (record_of c)) (sent_by machine i e) same u) here in
      (mine, alone_after (after_entry e (record_of (l.part i))) (sent_by machine i e) same ∙ sym made)

  pub does_message : (x : Item A) → 0 < times machine (l.part i).plus x.key x.action
      → Does machine group g u (DeliverMessage i x ∷ [])
      (alone machine group g (lease_after group g i l (message_comes machine x (record_of (l.part i))) (taken_at machine i x) (unsent machine i (back_by_message machine x (record_of (l.part i))))))
  does_message x have = (
    mine,
    subst (λ (c : Part S A). 0 < times machine c.plus x.key x.action) (sym here) have,
    alone_after (message_comes machine x (record_of (l.part i))) (taken_at machine i x) (unsent machine i (back_by_message machine x (record_of (l.part i))))
        ∙ sym (ap (λ (c : Part S A). put_back i (message_comes machine x (record_of c)) (taken_at machine i x) (unsent machine i (back_by_message machine x (record_of c))) u) here),
  )

  pub does_antimessage : (x : Item A) → 0 < times machine (l.part i).minus x.key x.action
      → Does machine group g u (DeliverAntimessage i x ∷ [])
      (alone machine group g (lease_after group g i l (antimessage_comes machine x (record_of (l.part i))) same (λ j xs. taken_at machine i x j (unsent machine i (back_by_antimessage machine x (record_of (l.part i))) j xs))))
  does_antimessage x have = (
    mine,
    subst (λ (c : Part S A). 0 < times machine c.minus x.key x.action) (sym here) have,
    alone_after (antimessage_comes machine x (record_of (l.part i))) same (λ j xs. taken_at machine i x j (unsent machine i (back_by_antimessage machine x (record_of (l.part i))) j xs))
        ∙ sym (ap (λ (c : Part S A). put_back i (antimessage_comes machine x (record_of c)) same (λ j xs. taken_at machine i x j (unsent machine i (back_by_antimessage machine x (record_of c)) j xs)) u) here),
  )

  pub does_meet : (x : Item A) → 0 < times machine (l.part i).plus x.key x.action → 0 < times machine (l.part i).minus x.key x.action
      → Does machine group g u (Meet i x ∷ []) (alone machine group g (lease_after group g i l (record_of (l.part i)) (taken_at machine i x) (taken_at machine i x)))
  does_meet x have there = (
    mine,
    subst (λ (c : Part S A). 0 < times machine c.plus x.key x.action) (sym here) have,
    subst (λ (c : Part S A). 0 < times machine c.minus x.key x.action) (sym here) there,
    alone_after (record_of (l.part i)) (taken_at machine i x) (taken_at machine i x)
        ∙ sym (ap (λ (c : Part S A). put_back i (record_of c) (taken_at machine i x) (taken_at machine i x) u) here),
  )

module _ {S A : Type 0} (machine : Machine S A) (group : ℕ → ℕ) (g : ℕ) where
  -- steps and then others
  pub does_both : (ss ts : List (Step A)) (u w v : World S A) → Does machine group g u ss w → Does machine group g w ts v → Does machine group g u (ss ++ ts) v
  does_both [] ts u w v p q = subst (λ (x : World S A). Does machine group g x ts v) p q
  does_both (Process i ∷ ss) ts u w v p q = (p.0, does_both ss ts (process machine i u) w v p.1 q)
  does_both (DeliverMessage i x ∷ ss) ts u w v p q = (p.0, p.1, does_both ss ts (deliver_message machine i x u) w v p.2 q)
  does_both (DeliverAntimessage i x ∷ ss) ts u w v p q = (p.0, p.1, does_both ss ts (deliver_antimessage machine i x u) w v p.2 q)
  does_both (Meet i x ∷ ss) ts u w v p q = (p.0, p.1, p.2, does_both ss ts (meet machine i x u) w v p.3 q)
  does_both (RollBack i ∷ ss) ts u w v p q = absurd p
  does_both (Commit b ∷ ss) ts u w v p q = absurd p

  -- a lease that is alone is the lease that it is
  pub lease_is : (l l' : Lease S A) → l'.floor ≡ l.floor → ((j : ℕ) → (group j ≡ g → ⊥) → l'.part j ≡ l.part j) → ((i : ℕ) → group i ≡ g → l'.out_plus i ≡ []) → ((i : ℕ) → group i ≡ g → l'.out_minus i ≡ [])
      → lease_of group g l (alone machine group g l') ≡ l'
  lease_is l l' floor rest plus minus =
      λ t. record { base = l'.base; floor = sym floor t; part = λ j. part j (cases_eq (group j) g) t; out_plus = λ j. out_plus j (cases_eq (group j) g) t; out_minus = λ j. out_minus j (cases_eq (group j) g) t }
    where
      idle : ℕ → Part S A
      idle j = record { base = (point machine l'.base).state j; first = (point machine l'.base).next j; done = []; pending = []; owed = []; plus = l'.out_plus j; minus = l'.out_minus j }

      part : (j : ℕ) → (group j ≡ g) ⊎ (group j ≡ g → ⊥) → cond (group j == g) ((alone machine group g l').part j) (l.part j) ≡ l'.part j
      part j (inl e) = rw (eq-eqb (group j) g e)
      part j (inr ne) = rw (ne_eqb (group j) g ne) (sym (rest j ne))

      out_plus : (j : ℕ) → (group j ≡ g) ⊎ (group j ≡ g → ⊥) → cond (group j == g) [] ((alone machine group g l').part j).plus ≡ l'.out_plus j
      out_plus j (inl e) = rw (eq-eqb (group j) g e) (sym (plus j e))
      out_plus j (inr ne) = rw (ne_eqb (group j) g ne)

      out_minus : (j : ℕ) → (group j ≡ g) ⊎ (group j ≡ g → ⊥) → cond (group j == g) [] ((alone machine group g l').part j).minus ≡ l'.out_minus j
      out_minus j (inl e) = rw (eq-eqb (group j) g e) (sym (minus j e))
      out_minus j (inr ne) = rw (ne_eqb (group j) g ne)
