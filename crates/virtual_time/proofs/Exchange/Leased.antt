-- A lease's own steps on its record, its tray and its bag.
use Rattle.std.proofs.Common.{◌≡◌, ℕ, ◌==◌, ◌⊎◌, inl, inr, cond, Option, Some, List, [], refl, ap, sym, subst, ◌∙◌}
use Rattle.std.proofs.lemmas.Bool.{eq-eqb, ne_eqb, cases_eq}
use Rattle.virtual_time.specs.Machine.{Machine}
use Rattle.virtual_time.specs.Entries.{Entry, Item}
use Rattle.virtual_time.specs.Reference.{point}
use Rattle.virtual_time.specs.Records.{Record, after_entry, antimessage_comes, back_by_antimessage, back_by_message, message_comes, next_of, sent_by, unsent}
use Rattle.virtual_time.specs.Worlds.{Part, World, deliver_antimessage, deliver_message, process, process_entry, put_back, record_of, same, taken_at, with_record}
use Rattle.virtual_time.specs.Exchange.Leases.{Lease, alone, lease_after, lease_of}
use Rattle.virtual_time.proofs.Lists.{put_same, put_other}

module _ {S A : Type 0} (machine : Machine S A) (i : ℕ) (l : Lease S A) where
  abbrev pub u : World S A
  u = alone machine i l

  pub here : u.part i ≡ l.part
  here = rw (eq-eqb i i refl)

  there_plus : (j : ℕ) → (j ≡ i → ⊥) → (u.part j).plus ≡ l.out_plus j
  there_plus j ne = rw (ne_eqb j i ne)

  there_minus : (j : ℕ) → (j ≡ i → ⊥) → (u.part j).minus ≡ l.out_minus j
  there_minus j ne = rw (ne_eqb j i ne)

  module _ (r : Record S A) (plus minus : ℕ → List (Item A) → List (Item A)) where
    changed : ℕ → Part S A → Part S A
    changed j c = record { base = c.base; first = c.first; done = c.done; pending = c.pending; owed = c.owed; plus = plus j c.plus; minus = minus j c.minus }

    part_here : ((put_back i r plus minus u).part i) ≡ (lease_after i l r plus minus).part
    unfolding changed
    part_here = ap (changed i) (put_same i (with_record (u.part i) r) u.part) ∙ ap (λ (c : Part S A). changed i (with_record c r)) here

    part_there : (j : ℕ) → (j ≡ i → ⊥) → ((put_back i r plus minus u).part j) ≡ changed j (u.part j)
    unfolding changed
    part_there j ne = ap (changed j) (put_other i (with_record (u.part i) r) u.part j ne)

    changed_plus : (j : ℕ) (c : Part S A) → (changed j c).plus ≡ plus j c.plus
    unfolding changed
    changed_plus j c = refl

    changed_minus : (j : ℕ) (c : Part S A) → (changed j c).minus ≡ minus j c.minus
    unfolding changed
    changed_minus j c = refl

    bag_plus : (j : ℕ) → cond (j == i) [] ((put_back i r plus minus u).part j).plus ≡ cond (j == i) [] (plus j (l.out_plus j))
    bag_plus j = go (cases_eq j i)
      where
        go : (j ≡ i) ⊎ (j ≡ i → ⊥) → cond (j == i) [] ((put_back i r plus minus u).part j).plus ≡ cond (j == i) [] (plus j (l.out_plus j))
        go (inl e) = rw (eq-eqb j i e)
        go (inr ne) =
            ap (λ (xs : List (Item A)). cond (j == i) [] xs) (ap (λ (c : Part S A). c.plus) (part_there j ne) ∙ changed_plus j (u.part j) ∙ ap (plus j) (there_plus j ne))

    bag_minus : (j : ℕ) → cond (j == i) [] ((put_back i r plus minus u).part j).minus ≡ cond (j == i) [] (minus j (l.out_minus j))
    bag_minus j = go (cases_eq j i)
      where
        go : (j ≡ i) ⊎ (j ≡ i → ⊥) → cond (j == i) [] ((put_back i r plus minus u).part j).minus ≡ cond (j == i) [] (minus j (l.out_minus j))
        go (inl e) = rw (eq-eqb j i e)
        go (inr ne) =
            ap (λ (xs : List (Item A)). cond (j == i) [] xs) (ap (λ (c : Part S A). c.minus) (part_there j ne) ∙ changed_minus j (u.part j) ∙ ap (minus j) (there_minus j ne))

    pub leased : lease_of i l.floor (put_back i r plus minus u) ≡ lease_after i l r plus minus
    leased = λ v. record { base = l.base; floor = l.floor; part = part_here v; out_plus = λ j. bag_plus j v; out_minus = λ j. bag_minus j v }

    pub alone_after : alone machine i (lease_after i l r plus minus) ≡ put_back i r plus minus u
    unfolding changed
    alone_after = λ v. record { part = λ j. each j (cases_eq j i) v; bound = l.base; committed = u.committed }
      where
        new : Lease S A
        new = lease_after i l r plus minus

        each : (j : ℕ) → (j ≡ i) ⊎ (j ≡ i → ⊥) → (alone machine i new).part j ≡ (put_back i r plus minus u).part j
        each j (inl e) = subst (λ (n : ℕ). (alone machine i new).part n ≡ (put_back i r plus minus u).part n) (sym e) (rw (eq-eqb i i refl) refl)
        each j (inr ne) = away ∙ sym (part_there j ne ∙ ap (changed j) back)
          where
            back : u.part j ≡ record { base = (point machine l.base).state j; first = (point machine l.base).next j; done = []; pending = []; owed = []; plus = l.out_plus j; minus = l.out_minus j }
            back = rw (ne_eqb j i ne)

            away : (alone machine i new).part j ≡ record { base = (point machine l.base).state j; first = (point machine l.base).next j; done = []; pending = []; owed = []; plus = plus j (l.out_plus j); minus = minus j (l.out_minus j) }
            away = rw (ne_eqb j i ne)

  process_some : (e : Entry A) (o : Option (Entry A)) → o ≡ Some e → process_entry machine i o u ≡ process_entry machine i (Some e) u
  process_some e o h = ap (λ (p : Option (Entry A)). process_entry machine i p u) h

  pub process_leased : (e : Entry A) → next_of machine i (record_of l.part) ≡ Some e → lease_of i l.floor (process machine i u) ≡ lease_after i l (after_entry e (record_of l.part)) (sent_by machine i e) same
  process_leased e h =
      ap (lease_of i l.floor) (process_some e (next_of machine i (record_of (u.part i))) (ap (λ (c : Part S A). next_of machine i (record_of c)) here ∙ h))
      ∙ leased (after_entry e (record_of (u.part i))) (sent_by machine i e) same
      ∙ ap (λ (c : Part S A). lease_after i l (after_entry e (record_of c)) (sent_by machine i e) same) here

  pub message_leased : (x : Item A) → lease_of i l.floor (deliver_message machine i x u)
      ≡ lease_after i l (message_comes machine x (record_of l.part)) (taken_at machine i x) (unsent machine i (back_by_message machine x (record_of l.part)))
  message_leased x =
      leased (message_comes machine x (record_of (u.part i))) (taken_at machine i x) (unsent machine i (back_by_message machine x (record_of (u.part i))))
      ∙ ap (λ (c : Part S A). lease_after i l (message_comes machine x (record_of c)) (taken_at machine i x) (unsent machine i (back_by_message machine x (record_of c)))) here

  pub antimessage_leased : (x : Item A) → lease_of i l.floor (deliver_antimessage machine i x u)
      ≡ lease_after i l (antimessage_comes machine x (record_of l.part)) same (λ j xs. taken_at machine i x j (unsent machine i (back_by_antimessage machine x (record_of l.part)) j xs))
  antimessage_leased x =
      leased (antimessage_comes machine x (record_of (u.part i))) same (λ j xs. taken_at machine i x j (unsent machine i (back_by_antimessage machine x (record_of (u.part i))) j xs))
      ∙ ap (λ (c : Part S A). lease_after i l (antimessage_comes machine x (record_of c)) same (λ j xs. taken_at machine i x j (unsent machine i (back_by_antimessage machine x (record_of c)) j xs))) here
