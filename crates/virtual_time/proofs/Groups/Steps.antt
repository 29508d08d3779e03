-- The steps of a group's lease are the same steps of the whole world.
use Rattle.std.proofs.Common.{◌≡◌, ℕ, ◌+◌, ◌<◌, ◌==◌, ◌⊎◌, inl, inr, Bool, cond, List, [], refl, ap, sym, subst, ◌∙◌, arith}
use Rattle.std.proofs.lemmas.Bool.{eq-eqb, ne_eqb, cases_eq}
use Rattle.virtual_time.specs.Machine.{Lawful, Machine}
use Rattle.virtual_time.specs.Entries.{Item, below, from, number, replay}
use Rattle.virtual_time.specs.Reference.{point}
use Rattle.virtual_time.specs.Worlds.{Part, World}
use Rattle.virtual_time.specs.Bags.{times}
use Rattle.virtual_time.specs.Groups.Stubs.{Exchange}
use Rattle.virtual_time.specs.Groups.Leases.{IsLease, Lease, alone, lease_of}
use Rattle.virtual_time.specs.Groups.Wholes.{IsWholeWorld, part_in, put_lease}
use Rattle.virtual_time.proofs.Moves.{walk_meet}
use Rattle.virtual_time.proofs.Counts.{times-remove}
use Rattle.virtual_time.proofs.Exchange.Parts
use Rattle.virtual_time.proofs.Exchange.Parts.{IsCut}
use Rattle.virtual_time.proofs.Exchange.Followed.{follow_put}
use Rattle.virtual_time.proofs.Groups.Alone.{Private}

-- The group's components in w are those in u, cut at b; what is in flight in w is that in u with the rest.
pub record Follows {S A : Type 0} (machine : Machine S A) (group : ℕ → ℕ) (g b : ℕ) (p m : ℕ → ℕ → A → ℕ) (u w : World S A) : Type 0 where
  pub part : (i : ℕ) → group i ≡ g → IsCut machine b i (u.part i) (w.part i)
  pub plus : (j k : ℕ) (a : A) → times machine (w.part j).plus k a ≡ times machine (u.part j).plus k a + p j k a
  pub minus : (j k : ℕ) (a : A) → times machine (w.part j).minus k a ≡ times machine (u.part j).minus k a + m j k a

module _ {S A : Type 0} (machine : Machine S A) (law : Lawful machine) (group : ℕ → ℕ) (g b : ℕ) (p m : ℕ → ℕ → A → ℕ) where
  -- One of the group's components did the same in both.
  module _ (i : ℕ) (mine : group i ≡ g) where
    pub follow_one : (u w : World S A) → Follows machine group g b p m u w → Parts.Follows machine b i p m u w
    follow_one u w f = record { part = f.part i mine; plus = f.plus; minus = f.minus }

    pub follow_all : (u w u' w' : World S A) → Follows machine group g b p m u w → Parts.Private machine i u u' → Parts.Private machine i w w' → Parts.Follows machine b i p m u' w' → Follows machine group g b p m u' w'
    follow_all u w u' w' f pu pw n = record { part = λ j own. part j own (cases_eq j i); plus = n.plus; minus = n.minus }
      where
        part : (j : ℕ) → group j ≡ g → (j ≡ i) ⊎ (j ≡ i → ⊥) → IsCut machine b j (u'.part j) (w'.part j)
        part j own (inl e) = subst (λ (l : ℕ). IsCut machine b l (u'.part l) (w'.part l)) (sym e) n.part
        part j own (inr ne) =
            let q = f.part j own in
            record {
              base = rw (pw.base j ne, pu.base j ne, pu.done j ne) q.base;
              first = rw (pw.first j ne, pu.first j ne, pu.done j ne) q.first;
              done = rw (pw.done j ne, pu.done j ne) q.done;
              pending = rw (pw.pending j ne, pu.pending j ne) q.pending;
              owed = rw (pw.owed j ne, pu.owed j ne) q.owed;
            }

    pub follow_meet : (x : Item A) (u w : World S A) → 0 < times machine (u.part i).plus x.key x.action → 0 < times machine (u.part i).minus x.key x.action → Parts.Follows machine b i p m u w
        → Parts.Follows machine b i p m (walk_meet machine i x u) (walk_meet machine i x w)
    follow_meet x u w hp hm f =
        let c = f.part in
        follow_put machine law b i p m u w _ _ f (record { base = c.base; first = c.first; done = c.done; pending = c.pending; owed = c.owed })
        (λ k a.
        let z = f.plus i x.key x.action in
        let s = times-remove machine law x (u.part i).plus k a hp in
        let t = times-remove machine law x (w.part i).plus k a (omega arith) in
        omega arith)
        (λ k a.
        let z = f.minus i x.key x.action in
        let s = times-remove machine law x (u.part i).minus k a hm in
        let t = times-remove machine law x (w.part i).minus k a (omega arith) in
        omega arith)

module _ {S A : Type 0} (machine : Machine S A) (law : Lawful machine) (group : ℕ → ℕ) (g : ℕ) (e : Exchange A) (ls : ℕ → Lease S A) (lease : IsLease machine group g (ls g)) (w : World S A) (whole : IsWholeWorld machine group e ls w) where
  -- what is in flight and not of this lease
  abbrev pub rest_plus : ℕ → ℕ → A → ℕ
  rest_plus j k a =
      cond (group j == g) (times machine (e.plus j) k a + times machine ((ls (group (machine.owner k))).out_plus j) k a)
      (times machine (part_in group ls j).plus k a + times machine (e.plus j) k a + cond (group (machine.owner k) == g) 0 (times machine ((ls (group (machine.owner k))).out_plus j) k a))

  abbrev pub rest_minus : ℕ → ℕ → A → ℕ
  rest_minus j k a =
      cond (group j == g) (times machine (e.minus j) k a + times machine ((ls (group (machine.owner k))).out_minus j) k a)
      (times machine (part_in group ls j).minus k a + times machine (e.minus j) k a + cond (group (machine.owner k) == g) 0 (times machine ((ls (group (machine.owner k))).out_minus j) k a))

  abbrev idle : ℕ → Part S A
  idle j = record { base = (point machine (ls g).base).state j; first = (point machine (ls g).base).next j; done = []; pending = []; owed = []; plus = (ls g).out_plus j; minus = (ls g).out_minus j }

  pub follow_start : Follows machine group g e.bound rest_plus rest_minus (alone machine group g (ls g)) w
  follow_start =
      record {
        part = λ i own. subst (λ (v : Bool). IsCut machine e.bound i (cond v ((ls g).part i) (idle i)) (w.part i)) (sym (eq-eqb (group i) g own)) (cut_at i own);
        plus = λ j k a. plus j k a (cases_eq (group j) g) (cases_eq (group (machine.owner k)) g);
        minus = λ j k a. minus j k a (cases_eq (group j) g) (cases_eq (group (machine.owner k)) g);
      }
    where
      cut_at : (i : ℕ) → group i ≡ g → IsCut machine e.bound i ((ls g).part i) (w.part i)
      cut_at i own = subst (λ (h : ℕ). IsCut machine e.bound i ((ls h).part i) (w.part i)) own (record { base = whole.base i; first = whole.first i; done = whole.done i; pending = whole.pending i; owed = whole.owed i })

      plus : (j k : ℕ) (a : A) → (group j ≡ g) ⊎ (group j ≡ g → ⊥) → (group (machine.owner k) ≡ g) ⊎ (group (machine.owner k) ≡ g → ⊥) → times machine (w.part j).plus k a ≡ times machine ((alone machine group g (ls g)).part j).plus k a + rest_plus j k a
      plus j k a (inl h) o =
          let x = whole.plus j k a in
          let y : times machine ((ls (group j)).part j).plus k a ≡ times machine ((ls g).part j).plus k a = ap (λ (n : ℕ). times machine ((ls n).part j).plus k a) h in
          rw (eq-eqb (group j) g h) (omega arith)
      plus j k a (inr ne) (inl own) =
          let x = whole.plus j k a in
          let y : times machine ((ls (group (machine.owner k))).out_plus j) k a ≡ times machine ((ls g).out_plus j) k a = ap (λ (n : ℕ). times machine ((ls n).out_plus j) k a) own in
          rw (ne_eqb (group j) g ne, eq-eqb (group (machine.owner k)) g own) (omega arith)
      plus j k a (inr ne) (inr other) =
          let x = whole.plus j k a in
          let y = lease.mine_plus j k a other in
          rw (ne_eqb (group j) g ne, ne_eqb (group (machine.owner k)) g other) (omega arith)

      minus : (j k : ℕ) (a : A) → (group j ≡ g) ⊎ (group j ≡ g → ⊥) → (group (machine.owner k) ≡ g) ⊎ (group (machine.owner k) ≡ g → ⊥) → times machine (w.part j).minus k a ≡ times machine ((alone machine group g (ls g)).part j).minus k a + rest_minus j k a
      minus j k a (inl h) o =
          let x = whole.minus j k a in
          let y : times machine ((ls (group j)).part j).minus k a ≡ times machine ((ls g).part j).minus k a = ap (λ (n : ℕ). times machine ((ls n).part j).minus k a) h in
          rw (eq-eqb (group j) g h) (omega arith)
      minus j k a (inr ne) (inl own) =
          let x = whole.minus j k a in
          let y : times machine ((ls (group (machine.owner k))).out_minus j) k a ≡ times machine ((ls g).out_minus j) k a = ap (λ (n : ℕ). times machine ((ls n).out_minus j) k a) own in
          rw (ne_eqb (group j) g ne, eq-eqb (group (machine.owner k)) g own) (omega arith)
      minus j k a (inr ne) (inr other) =
          let x = whole.minus j k a in
          let y = lease.mine_minus j k a other in
          rw (ne_eqb (group j) g ne, ne_eqb (group (machine.owner k)) g other) (omega arith)

  -- what they led to is the whole with the lease as it is then
  module _ (u v : World S A) (theirs : Private machine group g w v) (f : Follows machine group g e.bound rest_plus rest_minus u v) (new : IsLease machine group g (lease_of group g (ls g) u)) where
    abbrev after : Lease S A
    after = lease_of group g (ls g) u

    abbrev leases : ℕ → Lease S A
    leases = put_lease g after ls

    here : (P : ℕ → Part S A → Type 0) → ((j : ℕ) → group j ≡ g → P j (u.part j)) → ((j : ℕ) → (group j ≡ g → ⊥) → P j (part_in group ls j)) → (j : ℕ) → P j (part_in group leases j)
    here P h o j = pick (cases_eq (group j) g)
      where
        pick : (group j ≡ g) ⊎ (group j ≡ g → ⊥) → P j (part_in group leases j)
        pick (inl q) =
            subst (λ (x : Bool). P j ((cond x after (ls (group j))).part j)) (sym (eq-eqb (group j) g q))
            (subst (λ (x : Bool). P j (cond x (u.part j) ((ls g).part j))) (sym (eq-eqb (group j) g q)) (h j q))
        pick (inr ne) = subst (λ (x : Bool). P j ((cond x after (ls (group j))).part j)) (sym (ne_eqb (group j) g ne)) (o j ne)

    pub follow_whole : IsWholeWorld machine group e leases v
    follow_whole =
        record {
          bound = theirs.bound ∙ whole.bound;
          committed = theirs.committed ∙ whole.committed;
          base = here (λ j c. (v.part j).base ≡ replay machine j c.base (below e.bound c.done)) (λ j own. (f.part j own).base) (λ j ne. theirs.base j ne ∙ whole.base j);
          first = here (λ j c. (v.part j).first ≡ number c.first (below e.bound c.done)) (λ j own. (f.part j own).first) (λ j ne. theirs.first j ne ∙ whole.first j);
          done = here (λ j c. (v.part j).done ≡ from e.bound c.done) (λ j own. (f.part j own).done) (λ j ne. theirs.done j ne ∙ whole.done j);
          pending = here (λ j c. (v.part j).pending ≡ c.pending) (λ j own. (f.part j own).pending) (λ j ne. theirs.pending j ne ∙ whole.pending j);
          owed = here (λ j c. (v.part j).owed ≡ c.owed) (λ j own. (f.part j own).owed) (λ j ne. theirs.owed j ne ∙ whole.owed j);
          plus = λ j k a. here (λ n c. times machine (v.part n).plus k a ≡ times machine c.plus k a + times machine (e.plus n) k a + times machine ((leases (group (machine.owner k))).out_plus n) k a)
              (λ n own. in_plus n k a own (cases_eq (group (machine.owner k)) g)) (λ n ne. away_plus n k a ne (cases_eq (group (machine.owner k)) g)) j;
          minus = λ j k a. here (λ n c. times machine (v.part n).minus k a ≡ times machine c.minus k a + times machine (e.minus n) k a + times machine ((leases (group (machine.owner k))).out_minus n) k a)
              (λ n own. in_minus n k a own (cases_eq (group (machine.owner k)) g)) (λ n ne. away_minus n k a ne (cases_eq (group (machine.owner k)) g)) j;
        }
      where
        in_plus : (j k : ℕ) (a : A) → group j ≡ g → (group (machine.owner k) ≡ g) ⊎ (group (machine.owner k) ≡ g → ⊥)
            → times machine (v.part j).plus k a ≡ times machine (u.part j).plus k a + times machine (e.plus j) k a + times machine ((leases (group (machine.owner k))).out_plus j) k a
        in_plus j k a h (inl own) =
            let x : times machine (v.part j).plus k a ≡ times machine (u.part j).plus k a + (times machine (e.plus j) k a + times machine ((ls (group (machine.owner k))).out_plus j) k a) = f.plus j k a ∙ rw (eq-eqb (group j) g h) refl in
            let z : times machine ((ls (group (machine.owner k))).out_plus j) k a ≡ 0 = ap (λ (n : ℕ). times machine ((ls n).out_plus j) k a) own ∙ ap (λ (xs : List (Item A)). times machine xs k a) (lease.self_plus j h) in
            let o : times machine ((leases (group (machine.owner k))).out_plus j) k a ≡ 0 = rw (eq-eqb (group (machine.owner k)) g own, eq-eqb (group j) g h) refl in
            omega arith
        in_plus j k a h (inr other) =
            let x : times machine (v.part j).plus k a ≡ times machine (u.part j).plus k a + (times machine (e.plus j) k a + times machine ((ls (group (machine.owner k))).out_plus j) k a) = f.plus j k a ∙ rw (eq-eqb (group j) g h) refl in
            let o : times machine ((leases (group (machine.owner k))).out_plus j) k a ≡ times machine ((ls (group (machine.owner k))).out_plus j) k a = rw (ne_eqb (group (machine.owner k)) g other) refl in
            omega arith

        away_plus : (j k : ℕ) (a : A) → (group j ≡ g → ⊥) → (group (machine.owner k) ≡ g) ⊎ (group (machine.owner k) ≡ g → ⊥)
            → times machine (v.part j).plus k a ≡ times machine (part_in group ls j).plus k a + times machine (e.plus j) k a + times machine ((leases (group (machine.owner k))).out_plus j) k a
        away_plus j k a ne (inl own) =
            let x : times machine (v.part j).plus k a ≡ times machine (u.part j).plus k a + (times machine (part_in group ls j).plus k a + times machine (e.plus j) k a + 0) = f.plus j k a ∙ rw (ne_eqb (group j) g ne, eq-eqb (group (machine.owner k)) g own) refl in
            let o : times machine ((leases (group (machine.owner k))).out_plus j) k a ≡ times machine (u.part j).plus k a = rw (eq-eqb (group (machine.owner k)) g own, ne_eqb (group j) g ne) refl in
            omega arith
        away_plus j k a ne (inr other) =
            let x : times machine (v.part j).plus k a ≡ times machine (u.part j).plus k a + (times machine (part_in group ls j).plus k a + times machine (e.plus j) k a + times machine ((ls (group (machine.owner k))).out_plus j) k a) = f.plus j k a ∙ rw (ne_eqb (group j) g ne, ne_eqb (group (machine.owner k)) g other) refl in
            let y : times machine (u.part j).plus k a ≡ 0 = ap (λ (x : Bool). times machine (cond x [] (u.part j).plus) k a) (sym (ne_eqb (group j) g ne)) ∙ new.mine_plus j k a other in
            let o : times machine ((leases (group (machine.owner k))).out_plus j) k a ≡ times machine ((ls (group (machine.owner k))).out_plus j) k a = rw (ne_eqb (group (machine.owner k)) g other) refl in
            omega arith

        in_minus : (j k : ℕ) (a : A) → group j ≡ g → (group (machine.owner k) ≡ g) ⊎ (group (machine.owner k) ≡ g → ⊥)
            → times machine (v.part j).minus k a ≡ times machine (u.part j).minus k a + times machine (e.minus j) k a + times machine ((leases (group (machine.owner k))).out_minus j) k a
        in_minus j k a h (inl own) =
            let x : times machine (v.part j).minus k a ≡ times machine (u.part j).minus k a + (times machine (e.minus j) k a + times machine ((ls (group (machine.owner k))).out_minus j) k a) = f.minus j k a ∙ rw (eq-eqb (group j) g h) refl in
            let z : times machine ((ls (group (machine.owner k))).out_minus j) k a ≡ 0 = ap (λ (n : ℕ). times machine ((ls n).out_minus j) k a) own ∙ ap (λ (xs : List (Item A)). times machine xs k a) (lease.self_minus j h) in
            let o : times machine ((leases (group (machine.owner k))).out_minus j) k a ≡ 0 = rw (eq-eqb (group (machine.owner k)) g own, eq-eqb (group j) g h) refl in
            omega arith
        in_minus j k a h (inr other) =
            let x : times machine (v.part j).minus k a ≡ times machine (u.part j).minus k a + (times machine (e.minus j) k a + times machine ((ls (group (machine.owner k))).out_minus j) k a) = f.minus j k a ∙ rw (eq-eqb (group j) g h) refl in
            let o : times machine ((leases (group (machine.owner k))).out_minus j) k a ≡ times machine ((ls (group (machine.owner k))).out_minus j) k a = rw (ne_eqb (group (machine.owner k)) g other) refl in
            omega arith

        away_minus : (j k : ℕ) (a : A) → (group j ≡ g → ⊥) → (group (machine.owner k) ≡ g) ⊎ (group (machine.owner k) ≡ g → ⊥)
            → times machine (v.part j).minus k a ≡ times machine (part_in group ls j).minus k a + times machine (e.minus j) k a + times machine ((leases (group (machine.owner k))).out_minus j) k a
        away_minus j k a ne (inl own) =
            let x : times machine (v.part j).minus k a ≡ times machine (u.part j).minus k a + (times machine (part_in group ls j).minus k a + times machine (e.minus j) k a + 0) = f.minus j k a ∙ rw (ne_eqb (group j) g ne, eq-eqb (group (machine.owner k)) g own) refl in
            let o : times machine ((leases (group (machine.owner k))).out_minus j) k a ≡ times machine (u.part j).minus k a = rw (eq-eqb (group (machine.owner k)) g own, ne_eqb (group j) g ne) refl in
            omega arith
        away_minus j k a ne (inr other) =
            let x : times machine (v.part j).minus k a ≡ times machine (u.part j).minus k a + (times machine (part_in group ls j).minus k a + times machine (e.minus j) k a + times machine ((ls (group (machine.owner k))).out_minus j) k a) = f.minus j k a ∙ rw (ne_eqb (group j) g ne, ne_eqb (group (machine.owner k)) g other) refl in
            let y : times machine (u.part j).minus k a ≡ 0 = ap (λ (x : Bool). times machine (cond x [] (u.part j).minus) k a) (sym (ne_eqb (group j) g ne)) ∙ new.mine_minus j k a other in
            let o : times machine ((leases (group (machine.owner k))).out_minus j) k a ≡ times machine ((ls (group (machine.owner k))).out_minus j) k a = rw (ne_eqb (group (machine.owner k)) g other) refl in
            omega arith
