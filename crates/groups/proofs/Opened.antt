-- What a member of a group does is a step of its open world.
use Rattle.std.proofs.Common.{◌≡◌, ℕ, ◌<◌, ◌==◌, ◌⊎◌, inl, inr, Bool, true, false, true≢false, cond, Some, List, [], ◌∷◌, ◌++◌, refl, ap, sym, subst, ◌∙◌, arith}
use Rattle.std.specs.Prelude.{slice_get, slice_set}
use Rattle.std.proofs.lemmas.Bool.{and_parts, eq-eqb, ne_eqb, cases_eq, eqb-true}
use Rattle.terms.specs.Datum.{Datum}
use Rattle.terms.specs.Named.{Named}
use Rattle.event_keys.specs.declared.message.Sign.{Sign}
use Rattle.event_keys.specs.declared.message.Sign.TheVariants.{Plus, Minus}
use Rattle.event_keys.specs.declared.message.Signed.{Signed}
use Rattle.event_keys.specs.Ranks.{rank_of_bound}
use Rattle.antimessage.specs.Bags.{insert as insert_one}
use Rattle.antimessage.specs.Order.{Fits, IsInOrder}
use Rattle.virtual_time.specs.Machine.{Lawful, Machine}
use Rattle.virtual_time.specs.Bags.{hit, remove, times}
use Rattle.virtual_time.specs.Entries.{Entry, Item}
use Rattle.virtual_time.specs.Records.{after_entry, antimessage_comes, back_by_antimessage, back_by_message, message_comes, next_of, sent_by, unsent}
use Rattle.virtual_time.specs.Reference.{reference_below}
use Rattle.virtual_time.specs.Worlds.{Commit, DeliverAntimessage, DeliverMessage, Meet, Process, RollBack, Step, World, deliver_antimessage, deliver_message, process, process_entry, put_back, record_of, same, taken_at}
use Rattle.virtual_time.specs.Groups.Leases.{Does}
use Rattle.task_seed.specs.Turning.{System}
use Rattle.task_seed.specs.Machines.{machine}
use Rattle.rollback.specs.Flight.{goes, in_flight, is_sign, item_of}
use Rattle.rollback.specs.ComponentView.{ComponentView}
use Rattle.rollback.specs.Laws.{NoneIsBelowLeast}
use Rattle.rollback.specs.Post.{IsPosted}
use Rattle.rollback.proofs.Flight.{insert_elsewhere, insert_there}
use Rattle.groups.specs.Crew.{AreApart, MembersView}
use Rattle.groups.specs.GroupView.{AreMembers, frame_of, history_of, is_member}
use Rattle.groups.specs.Moves.{AreLeastFirst, IsLeastIn}
use Rattle.groups.specs.Open.{joined, open_world}
use Rattle.groups.proofs.Joined.{none_to_self, sent_joined, unsent_joined}
use Rattle.groups.proofs.Placed.{frames_put, history_put, history_there, member_there, members_same}

module _ (s : System) (law : Lawful (machine s)) where
  abbrev m : Machine (List Datum) Named
  m = machine s

  abbrev Change : Type 0
  Change = ℕ → List (Item Named) → List (Item Named)

  module _ {P : Type 0} (old : MembersView P) (place : ℕ → ℕ) (apart : AreApart place 0 old.components) (q : ℕ) (c : ComponentView P) (there : slice_get old.components q ≡ Some c) (sent out : List Signed) where
    abbrev i : ℕ
    i = c.number

    abbrev u : World (List Datum) Named
    u = open_world m old sent out

    abbrev changed : ComponentView P → MembersView P
    changed new = record old { components = slice_set old.components q new }

    member_i : is_member old.components i ≡ true
    member_i = member_there old.components q c there

    own : record_of (u.part i) ≡ c.history
    own = rw member_i (history_there m place 0 old.components q c apart there)

    module _ (new : ComponentView P) (kept : frame_of new ≡ frame_of c) (new_sent : List Signed) (plus minus : Change) (plus_is : (j : ℕ) → in_flight Plus j new_sent ≡ plus j (in_flight Plus j sent)) (minus_is : (j : ℕ) → in_flight Minus j new_sent ≡ minus j (in_flight Minus j sent))
        (plus_joined : (j : ℕ) → is_member old.components j ≡ false → (xs ys : List (Item Named)) → plus j (joined m xs ys) ≡ joined m (plus j xs) ys)
        (minus_joined : (j : ℕ) → is_member old.components j ≡ false → (xs ys : List (Item Named)) → minus j (joined m xs ys) ≡ joined m (minus j xs) ys) where
      abbrev before : World (List Datum) Named
      before = put_back i new.history plus minus u

      abbrev after : World (List Datum) Named
      after = open_world m (changed new) new_sent out

      member_is : (j : ℕ) → is_member (slice_set old.components q new) j ≡ is_member old.components j
      member_is j = members_same old.components (slice_set old.components q new) (frames_put old.components q c new there kept) j

      history_is : (j : ℕ) → history_of m (slice_set old.components q new) j ≡ cond (j == i) new.history (history_of m old.components j)
      history_is j = history_put m place 0 old.components q c new apart there (ap (λ f. f.1) kept) j

      at_own : before.part i ≡ after.part i
      at_own = rw (eq-eqb i i refl, member_is i, member_i, history_is i, eq-eqb i i refl, plus_is i, minus_is i) refl

      at_member : (j : ℕ) → (j ≡ i → ⊥) → is_member old.components j ≡ true → before.part j ≡ after.part j
      at_member j ne e = rw (ne_eqb j i ne, member_is j, e, history_is j, ne_eqb j i ne, plus_is j, minus_is j) refl

      at_other : (j : ℕ) → (j ≡ i → ⊥) → is_member old.components j ≡ false → before.part j ≡ after.part j
      at_other j ne e = rw (ne_eqb j i ne, member_is j, e, plus_is j, minus_is j, plus_joined j e (in_flight Plus j sent) (in_flight Plus j out), minus_joined j e (in_flight Minus j sent) (in_flight Minus j out)) refl

      pub put_open : before ≡ after
      put_open = λ v. record { part = λ j. part_is j v; bound = rank_of_bound old.base; committed = reference_below m (rank_of_bound old.base) }
        where
          part_is : (j : ℕ) → before.part j ≡ after.part j
          part_is j = go (cases_eq j i) (is_member old.components j) refl
            where
              go : (j ≡ i) ⊎ (j ≡ i → ⊥) → (b : Bool) → is_member old.components j ≡ b → before.part j ≡ after.part j
              go (inl e) b is = subst (λ k. before.part k ≡ after.part k) (sym e) at_own
              go (inr ne) true is = at_member j ne is
              go (inr ne) false is = at_other j ne is

    module _ (group : ℕ → ℕ) (g : ℕ) (mine : AreMembers group g old.components) where
      of_group : group i ≡ g
      of_group = eqb-true (group i) g (mine i ∙ member_i)

      -- it processes an entry
      pub process_does : (entry : Entry Named) → next_of m i c.history ≡ Some entry → (new_sent : List Signed) → IsPosted Plus (sent_by m i entry) sent new_sent
          → Does m group g u (Process i ∷ []) (open_world m (changed (record c { history = after_entry entry c.history })) new_sent out)
      process_does entry next new_sent posted =
          (of_group, sym (process_is ∙ put_open (record c { history = after_entry entry c.history }) refl new_sent (sent_by m i entry) same posted.there posted.other (λ j e xs ys. sent_joined m law i entry j xs ys) (λ j e xs ys. refl)))
        where
          process_is : process m i u ≡ put_back i (after_entry entry c.history) (sent_by m i entry) same u
          process_is =
              ap (λ r. process_entry m i (next_of m i r) u) own ∙ ap (λ o. process_entry m i o u) next
              ∙ ap (λ r. put_back i (after_entry entry r) (sent_by m i entry) same u) own

  one_more : (x : Item Named) (xs : List (Item Named)) → 0 < times m (x ∷ xs) x.key x.action
  unfolding hit
  one_more x xs = let a = law.same_refl x.action in rw (eq-eqb x.key x.key refl, a) (omega arith)

  first_gone : (x : Item Named) (xs : List (Item Named)) → remove m x (x ∷ xs) ≡ xs
  first_gone x xs = rw (eq-eqb x.key x.key refl, law.same_refl x.action) refl

  -- the first of what is on its way, where it goes to component i, and where it doesn't
  plus_here : (x : Signed) (rest : List Signed) (k j : ℕ) → x.sign ≡ Plus → x.message.to ≡ k → in_flight Plus j rest ≡ taken_at m k (item_of x) j (in_flight Plus j (x ∷ rest))
  plus_here x rest k j sign to = go (cases_eq j k)
    where
      go : (j ≡ k) ⊎ (j ≡ k → ⊥) → in_flight Plus j rest ≡ taken_at m k (item_of x) j (in_flight Plus j (x ∷ rest))
      go (inl e) = rw (eq-eqb j k e, sign, eq-eqb x.message.to j (to ∙ sym e)) (sym (first_gone (item_of x) (in_flight Plus j rest)))
      go (inr ne) = rw (ne_eqb j k ne, sign, ne_eqb x.message.to j (λ n. ne (sym n ∙ to))) refl

  minus_here : (x : Signed) (rest : List Signed) (k j : ℕ) → x.sign ≡ Minus → x.message.to ≡ k → in_flight Minus j rest ≡ taken_at m k (item_of x) j (in_flight Minus j (x ∷ rest))
  minus_here x rest k j sign to = go (cases_eq j k)
    where
      go : (j ≡ k) ⊎ (j ≡ k → ⊥) → in_flight Minus j rest ≡ taken_at m k (item_of x) j (in_flight Minus j (x ∷ rest))
      go (inl e) = rw (eq-eqb j k e, sign, eq-eqb x.message.to j (to ∙ sym e)) (sym (first_gone (item_of x) (in_flight Minus j rest)))
      go (inr ne) = rw (ne_eqb j k ne, sign, ne_eqb x.message.to j (λ n. ne (sym n ∙ to))) refl

  plus_else : (x : Signed) (rest : List Signed) (j : ℕ) → x.sign ≡ Minus → in_flight Plus j (x ∷ rest) ≡ in_flight Plus j rest
  plus_else x rest j sign = rw sign refl

  minus_else : (x : Signed) (rest : List Signed) (j : ℕ) → x.sign ≡ Plus → in_flight Minus j (x ∷ rest) ≡ in_flight Minus j rest
  minus_else x rest j sign = rw sign refl

  module _ {P : Type 0} (old : MembersView P) (place : ℕ → ℕ) (apart : AreApart place 0 old.components) (q : ℕ) (c : ComponentView P) (there : slice_get old.components q ≡ Some c) (x : Signed) (rest out : List Signed) (to : c.number ≡ x.message.to)
      (group : ℕ → ℕ) (g : ℕ) (mine : AreMembers group g old.components) where
    abbrev to_i : ℕ
    to_i = c.number

    abbrev w : World (List Datum) Named
    w = open_world m old (x ∷ rest) out

    mine_i : is_member old.components to_i ≡ true
    mine_i = member_there old.components q c there

    its : record_of (w.part to_i) ≡ c.history
    its = rw mine_i (history_there m place 0 old.components q c apart there)

    not_other : (j : ℕ) → is_member old.components j ≡ false → j ≡ to_i → ⊥
    not_other j alien e = true≢false (sym mine_i ∙ ap (is_member old.components) (sym e) ∙ alien)

    taken_joined : (j : ℕ) → is_member old.components j ≡ false → (xs ys : List (Item Named)) → taken_at m to_i (item_of x) j (joined m xs ys) ≡ joined m (taken_at m to_i (item_of x) j xs) ys
    taken_joined j alien xs ys = rw (ne_eqb j to_i (not_other j alien)) refl

    -- a message comes to it
    pub message_does : x.sign ≡ Plus → (new_sent : List Signed) → IsPosted Minus (unsent m to_i (back_by_message m (item_of x) c.history)) rest new_sent
        → Does m group g w (DeliverMessage to_i (item_of x) ∷ []) (open_world m (record old { components = slice_set old.components q (record c { history = message_comes m (item_of x) c.history }) }) new_sent out)
    message_does sign new_sent posted = (
      eqb-true (group to_i) g (mine to_i ∙ mine_i),
      rw mine_i (subst (λ ys. 0 < times m ys (item_of x).key (item_of x).action) (sym in_front) (one_more (item_of x) (in_flight Plus to_i rest))),
      sym (deliver_is ∙ put_open old place apart q c there (x ∷ rest) out (record c { history = message_comes m (item_of x) c.history }) refl new_sent (taken_at m to_i (item_of x)) (unsent m to_i back) plus_is minus_is taken_joined (λ j alien xs ys. unsent_joined m law to_i back j xs ys)),
    )
      where
        back : List (Entry Named)
        back = back_by_message m (item_of x) c.history

        in_front : in_flight Plus to_i (x ∷ rest) ≡ item_of x ∷ in_flight Plus to_i rest
        in_front = rw (sign, eq-eqb x.message.to to_i (sym to)) refl

        plus_is : (j : ℕ) → in_flight Plus j new_sent ≡ taken_at m to_i (item_of x) j (in_flight Plus j (x ∷ rest))
        plus_is j = posted.other j ∙ plus_here x rest to_i j sign (sym to)

        minus_is : (j : ℕ) → in_flight Minus j new_sent ≡ unsent m to_i back j (in_flight Minus j (x ∷ rest))
        minus_is j = posted.there j ∙ ap (unsent m to_i back j) (sym (minus_else x rest j sign))

        deliver_is : deliver_message m to_i (item_of x) w ≡ put_back to_i (message_comes m (item_of x) c.history) (taken_at m to_i (item_of x)) (unsent m to_i back) w
        deliver_is = ap (λ r. put_back to_i (message_comes m (item_of x) r) (taken_at m to_i (item_of x)) (unsent m to_i (back_by_message m (item_of x) r)) w) its

    -- an antimessage comes to it
    pub antimessage_does : x.sign ≡ Minus → (new_sent : List Signed) → IsPosted Minus (unsent m to_i (back_by_antimessage m (item_of x) c.history)) rest new_sent
        → Does m group g w (DeliverAntimessage to_i (item_of x) ∷ []) (open_world m (record old { components = slice_set old.components q (record c { history = antimessage_comes m (item_of x) c.history }) }) new_sent out)
    antimessage_does sign new_sent posted = (
      eqb-true (group to_i) g (mine to_i ∙ mine_i),
      rw mine_i (subst (λ ys. 0 < times m ys (item_of x).key (item_of x).action) (sym in_front) (one_more (item_of x) (in_flight Minus to_i rest))),
      sym (deliver_is ∙ put_open old place apart q c there (x ∷ rest) out (record c { history = antimessage_comes m (item_of x) c.history }) refl new_sent same change plus_is minus_is (λ j alien xs ys. refl)
          (λ j alien xs ys. ap (taken_at m to_i (item_of x) j) (unsent_joined m law to_i back j xs ys) ∙ taken_joined j alien (unsent m to_i back j xs) ys)),
    )
      where
        back : List (Entry Named)
        back = back_by_antimessage m (item_of x) c.history

        change : ℕ → List (Item Named) → List (Item Named)
        change j xs = taken_at m to_i (item_of x) j (unsent m to_i back j xs)

        in_front : in_flight Minus to_i (x ∷ rest) ≡ item_of x ∷ in_flight Minus to_i rest
        in_front = rw (sign, eq-eqb x.message.to to_i (sym to)) refl

        plus_is : (j : ℕ) → in_flight Plus j new_sent ≡ in_flight Plus j (x ∷ rest)
        plus_is j = posted.other j ∙ sym (plus_else x rest j sign)

        minus_is : (j : ℕ) → in_flight Minus j new_sent ≡ change j (in_flight Minus j (x ∷ rest))
        minus_is j = go (cases_eq j to_i)
          where
            go : (j ≡ to_i) ⊎ (j ≡ to_i → ⊥) → in_flight Minus j new_sent ≡ change j (in_flight Minus j (x ∷ rest))
            go (inl e) =
                subst (λ k. in_flight Minus k new_sent ≡ change k (in_flight Minus k (x ∷ rest))) (sym e)
                (posted.there to_i ∙ none_to_self m law to_i back (in_flight Minus to_i rest) ∙ minus_here x rest to_i to_i sign (sym to)
                ∙ ap (taken_at m to_i (item_of x) to_i) (sym (none_to_self m law to_i back (in_flight Minus to_i (x ∷ rest)))))
            go (inr ne) =
                rw (ne_eqb j to_i ne) (posted.there j ∙ ap (unsent m to_i back j) (minus_here x rest to_i j sign (sym to) ∙ rw (ne_eqb j to_i ne) refl))

        deliver_is : deliver_antimessage m to_i (item_of x) w ≡ put_back to_i (antimessage_comes m (item_of x) c.history) same change w
        deliver_is = ap (λ r. put_back to_i (antimessage_comes m (item_of x) r) same (λ j xs. taken_at m to_i (item_of x) j (unsent m to_i (back_by_antimessage m (item_of x) r) j xs)) w) its

  -- what goes to others waits to leave
  pub left_open : {P : Type 0} (old : MembersView P) (x : Signed) (rest out : List Signed) → is_member old.components x.message.to ≡ false → IsInOrder out → Fits x → open_world m old (x ∷ rest) out ≡ open_world m old rest (insert_one x out)
  left_open old x rest out alien order fits = λ v. record { part = λ j. part_is j v; bound = rank_of_bound old.base; committed = reference_below m (rank_of_bound old.base) }
    where
      waiting : (sign : Sign) (j : ℕ) → joined m (in_flight sign j (x ∷ rest)) (in_flight sign j out) ≡ joined m (in_flight sign j rest) (in_flight sign j (insert_one x out))
      waiting sign j = go (goes sign j x) refl
        where
          go : (b : Bool) → goes sign j x ≡ b → joined m (in_flight sign j (x ∷ rest)) (in_flight sign j out) ≡ joined m (in_flight sign j rest) (in_flight sign j (insert_one x out))
          go true e = rw e (ap (joined m (in_flight sign j rest)) (sym (insert_there s sign j x out order fits e)))
          go false e = rw e (ap (joined m (in_flight sign j rest)) (sym (insert_elsewhere s sign j x out e)))

      here : (sign : Sign) (j : ℕ) → is_member old.components j ≡ true → in_flight sign j (x ∷ rest) ≡ in_flight sign j rest
      here sign j mine = go (goes sign j x) refl
        where
          go : (b : Bool) → goes sign j x ≡ b → in_flight sign j (x ∷ rest) ≡ in_flight sign j rest
          go true e = absurd (true≢false (sym mine ∙ ap (is_member old.components) (sym (to_j e)) ∙ alien))
            where
              to_j : goes sign j x ≡ true → x.message.to ≡ j
              to_j t = eqb-true x.message.to j (and_parts (is_sign sign x.sign) (x.message.to == j) t).1
          go false e = rw e refl

      part_is : (j : ℕ) → (open_world m old (x ∷ rest) out).part j ≡ (open_world m old rest (insert_one x out)).part j
      part_is j = go (is_member old.components j) refl
        where
          go : (b : Bool) → is_member old.components j ≡ b → (open_world m old (x ∷ rest) out).part j ≡ (open_world m old rest (insert_one x out)).part j
          go true e = rw (e, here Plus j e, here Minus j e) refl
          go false e = rw (e, waiting Plus j, waiting Minus j) refl

module _ {S A : Type 0} (m : Machine S A) (group : ℕ → ℕ) (g : ℕ) where
  -- deliveries one after the other
  pub least_both : (ss ts : List (Step A)) (u w : World S A) → AreLeastFirst m group g u ss → Does m group g u ss w → AreLeastFirst m group g w ts → AreLeastFirst m group g u (ss ++ ts)
  least_both [] ts u w h d k = subst (λ x. AreLeastFirst m group g x ts) d k
  least_both (DeliverMessage i x ∷ ss) ts u w h d k = (h.0, least_both ss ts (deliver_message m i x u) w h.1 d.2 k)
  least_both (DeliverAntimessage i x ∷ ss) ts u w h d k = (h.0, least_both ss ts (deliver_antimessage m i x u) w h.1 d.2 k)
  least_both (Meet i x ∷ ss) ts u w h d k = absurd h
  least_both (Process i ∷ ss) ts u w h d k = absurd h
  least_both (RollBack i ∷ ss) ts u w h d k = absurd h
  least_both (Commit b ∷ ss) ts u w h d k = absurd h

-- what is on its way has no lesser key than its first
pub least_open : {P : Type 0} (m : Machine (List Datum) Named) (old : MembersView P) (x : Signed) (rest out : List Signed) → NoneIsBelowLeast → IsInOrder (x ∷ rest) → (group : ℕ → ℕ) (g : ℕ) → AreMembers group g old.components
    → IsLeastIn group g (open_world m old (x ∷ rest) out) (item_of x)
least_open m old x rest out law order group g mine j own =
    let inside : is_member old.components j ≡ true = sym (mine j) ∙ eq-eqb (group j) g own in
    rw inside (law Plus j (x ∷ rest) order, law Minus j (x ∷ rest) order)
