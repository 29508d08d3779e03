-- An action that passes to one more of those that take it.
use Rattle.std.proofs.Common.{◌≡◌, ℕ, zero, suc, ◌<◌, ◌≤◌, ◌⊎◌, inl, inr, Bool, true, false, ◌||◌, Option, Some, List, [], ◌∷◌, ◌++◌, length, refl, ap, sym, subst, ◌∙◌, arith, slice_set, get_or}
use Rattle.std.specs.Prelude.{◌==◌, slice_get}
use Rattle.std.proofs.lemmas.Bool.{cases_eq, cases_lt, eq-eqb, ne_eqb}
use Rattle.std.proofs.lemmas.List.{length-set}
use Rattle.terms.specs.Named.{Named}
use Rattle.event_keys.specs.declared.key.Key.{Key}
use Rattle.event_keys.specs.Ranks.{rank, owner_of}
use Rattle.io_automata.specs.Receivers.{IsIn, none_past, receivers_all}
use Rattle.io_automata.specs.Signatures.{receives}
use Rattle.task_seed.specs.Turning.{System}
use Rattle.reference.specs.Queues.{rank_or_end}
use Rattle.shares.specs.Turns.{HasTurn, group_at}
use Rattle.sure_groups.specs.declared.bags.Bag.{Bag}
use Rattle.sure_groups.specs.declared.input.Input.{Input}
use Rattle.sure_groups.specs.declared.member.Member.{Member}
use Rattle.sure_groups.specs.Inputs.{AreFalling, Comes, IsOneOf}
use Rattle.sure_groups.specs.Members.{IsMember}
use Rattle.sure_groups.specs.Packets.{ArePassed}
use Rattle.sure_groups.specs.Passing.{IsGathered, IsPassedOn, Waits, receivers_in}
use Rattle.sure_groups.specs.Sure.{AreBags, AreMembers}
use Rattle.sure_groups.proofs.Falling.{in_either, in_left, in_right}
use Rattle.sure_groups.proofs.Places.{apart_set, at_set, in_set}
use Rattle.sure_groups.proofs.Points as points
use Rattle.sure_groups.proofs.Standing.{waits_too}

none_in : (j : ℕ) (xs : List ℕ) (x : ℕ) → IsIn j (xs ++ x ∷ []) ≡ true → (j ≡ x → ⊥) → IsIn j xs ≡ true
none_in j [] x h apart = let out : ◌≡◌ {A = Bool} false true = sym (ap (λ b. b || false) (ne_eqb j x apart)) ∙ h in cc
none_in j (y ∷ ys) x h apart = go (j == y) h (λ g. none_in j ys x g apart)
  where
    go : (b : Bool) → (b || IsIn j (ys ++ x ∷ [])) ≡ true → (IsIn j (ys ++ x ∷ []) ≡ true → IsIn j ys ≡ true) → (b || IsIn j ys) ≡ true
    go true e rest = refl
    go false e rest = rest e

module _ (s : System) (groups : List ℕ) (heard : List (Option Key)) (me i : ℕ) (done : List ℕ) (olds mids : List Member) (bags : List Bag) (x : Input) (comes : Comes s x.to (rank x.key) x.action) (apart : x.to ≡ i → ⊥)
    (h : IsPassedOn s groups heard me (rank x.key) i done olds mids bags) where
  -- it waits in the group
  pub passed_inside : (old new : Member) → group_at groups x.to ≡ me → slice_get mids x.to ≡ Some old → x.to < length mids → new.state ≡ old.state → new.memo ≡ old.memo
      → (AreFalling old.pending.items → AreFalling new.pending.items) → ((y : Input) → IsOneOf old.pending.items y → IsOneOf new.pending.items y)
      → ((y : Input) → IsOneOf new.pending.items y → IsOneOf old.pending.items y ⊎ (y ≡ x)) → Waits new.pending.items (rank x.key)
      → IsPassedOn s groups heard me (rank x.key) i (done ++ x.to ∷ []) olds (slice_set mids x.to new) bags
  passed_inside old new inside there within state memo order kept only waits = record {
    many = length-set mids x.to new ∙ h.many;
    members = in_set (λ j (m : Member). group_at groups j ≡ me → IsMember s groups heard (rank x.key) j m) mids x.to new h.members (λ _. becomes);
    own = apart_set mids x.to i new (λ e. apart (sym e)) ∙ h.own;
    brought = λ j m at group in_done. one j m at group in_done (cases_eq j x.to);
    bags_are = h.bags_are;
    gathered = λ group j bag at other its in_done. h.gathered group j bag at other its (none_in j done x.to in_done (λ e. other (sym its ∙ ap (group_at groups) e ∙ inside)));
  }
    where
      was : IsMember s groups heard (rank x.key) x.to old
      was = h.members x.to old there inside

      becomes : IsMember s groups heard (rank x.key) x.to new
      becomes = record {
        plain = ap (λ (t : Rattle.undo_records.specs.States.States). t.below) state ∙ was.plain;
        memo = subst (λ t. Rattle.plans.specs.Memos.IsMemo s.composition x.to t new.memo) (sym (ap (λ (t : Rattle.undo_records.specs.States.States). t.current) state)) (subst (λ t. Rattle.plans.specs.Memos.IsMemo s.composition x.to old.state.current t) (sym memo) was.memo);
        stands = subst (λ t. Rattle.sure_groups.specs.Members.Stands s groups heard (rank x.key) x.to t new.pending.items) (sym (ap (λ (t : Rattle.undo_records.specs.States.States). t.current) state))
            (waits_too s groups heard (rank x.key) x.to old.state.current old.pending.items new.pending.items x was.stands comes was.stands.low (order was.stands.order) kept only);
      }

      one : (j : ℕ) (m : Member) → slice_get (slice_set mids x.to new) j ≡ Some m → group_at groups j ≡ me → IsIn j (done ++ x.to ∷ []) ≡ true → (j ≡ x.to) ⊎ (j ≡ x.to → ⊥) → Waits m.pending.items (rank x.key)
      one j m at group in_done (inl e) = subst (λ (o : Member). Waits o.pending.items (rank x.key)) (sym (at_set mids x.to new m (subst (λ k. slice_get (slice_set mids x.to new) k ≡ Some m) e at) within)) waits
      one j m at group in_done (inr ne) = h.brought j m (sym (apart_set mids x.to j new ne) ∙ at) group (none_in j done x.to in_done ne)

  -- it is gathered for another group
  pub passed_outside : (n : ℕ) (old new : Bag) → n ≡ group_at groups x.to → (n ≡ me → ⊥) → group_at groups (owner_of (rank x.key)) ≡ me → slice_get bags n ≡ Some old → n < length bags → new.since ≡ old.since → new.inputs.items ≡ old.inputs.items ++ x ∷ []
      → IsPassedOn s groups heard me (rank x.key) i (done ++ x.to ∷ []) olds mids (slice_set bags n new)
  passed_outside n old new n_is outside from there within since items = record {
    many = h.many;
    members = h.members;
    own = h.own;
    brought = λ j m at group in_done. h.brought j m at group (none_in j done x.to in_done (λ e. outside (n_is ∙ sym (ap (group_at groups) e) ∙ group)));
    bags_are = in_set (λ group (bag : Bag). (group ≡ me → ⊥) → (rank_or_end bag.since ≤ rank x.key) × ArePassed s groups me group (rank_or_end bag.since) (rank x.key) bag.inputs.items) bags n new h.bags_are (λ _. becomes);
    gathered = λ group j bag at other its in_done. one group j bag at other its in_done (cases_eq group n) (cases_eq j x.to);
  }
    where
      was : (rank_or_end old.since ≤ rank x.key) × ArePassed s groups me n (rank_or_end old.since) (rank x.key) old.inputs.items
      was = h.bags_are n old there outside

      each_of : (y : Input) → IsOneOf old.inputs.items y ⊎ IsOneOf (x ∷ []) y → Comes s y.to (rank y.key) y.action × (rank_or_end old.since ≤ rank y.key) × (group_at groups (owner_of (rank y.key)) ≡ me) × (group_at groups y.to ≡ n)
      each_of y (inl is) = was.1.each y is
      each_of y (inr (inl e)) = subst (λ (z : Input). Comes s z.to (rank z.key) z.action × (rank_or_end old.since ≤ rank z.key) × (group_at groups (owner_of (rank z.key)) ≡ me) × (group_at groups z.to ≡ n)) (sym e) (comes, was.0, from, sym n_is)
      each_of y (inr (inr none)) = absurd none

      becomes : (rank_or_end new.since ≤ rank x.key) × ArePassed s groups me n (rank_or_end new.since) (rank x.key) new.inputs.items
      becomes =
          subst (λ o. (rank_or_end o ≤ rank x.key) × ArePassed s groups me n (rank_or_end o) (rank x.key) new.inputs.items) (sym since)
          (subst (λ l. (rank_or_end old.since ≤ rank x.key) × ArePassed s groups me n (rank_or_end old.since) (rank x.key) l) (sym items) (
            was.0,
            record {
              each = λ y is. each_of y (in_either old.inputs.items (x ∷ []) y is);
              all = λ j r a low high own its is. (let found = was.1.all j r a low high own its is in (found.0, in_left old.inputs.items (x ∷ []) found.0 found.1, found.2, found.3));
            },
          ))

      mine : IsGathered new.inputs.items x.to (rank x.key)
      mine = (x, subst (λ l. IsOneOf l x) (sym items) (in_right old.inputs.items (x ∷ []) x (inl refl)), refl, refl)

      more : (j : ℕ) → IsGathered old.inputs.items j (rank x.key) → IsGathered new.inputs.items j (rank x.key)
      more j found = (found.0, subst (λ l. IsOneOf l found.0) (sym items) (in_left old.inputs.items (x ∷ []) found.0 found.1), found.2, found.3)

      one : (group j : ℕ) (bag : Bag) → slice_get (slice_set bags n new) group ≡ Some bag → (group ≡ me → ⊥) → group_at groups j ≡ group → IsIn j (done ++ x.to ∷ []) ≡ true → (group ≡ n) ⊎ (group ≡ n → ⊥) → (j ≡ x.to) ⊎ (j ≡ x.to → ⊥)
          → IsGathered bag.inputs.items j (rank x.key)
      one group j bag at other its in_done (inl g) (inl e) = subst (λ (b : Bag). IsGathered b.inputs.items j (rank x.key)) (sym (at_set bags n new bag (subst (λ k. slice_get (slice_set bags n new) k ≡ Some bag) g at) within)) (subst (λ k. IsGathered new.inputs.items k (rank x.key)) (sym e) mine)
      one group j bag at other its in_done (inl g) (inr ne) =
          subst (λ (b : Bag). IsGathered b.inputs.items j (rank x.key)) (sym (at_set bags n new bag (subst (λ k. slice_get (slice_set bags n new) k ≡ Some bag) g at) within))
          (more j (h.gathered n j old there outside (its ∙ g) (none_in j done x.to in_done ne)))
      one group j bag at other its in_done (inr ng) (inl e) = absurd (ng (sym its ∙ ap (group_at groups) e ∙ sym n_is))
      one group j bag at other its in_done (inr ng) (inr ne) = h.gathered group j bag (sym (apart_set bags n group new ng) ∙ at) other its (none_in j done x.to in_done ne)

-- whoever is one of the receivers of an action takes it
module _ (s : System) (key : Key) (i : ℕ) (owner : owner_of (rank key) ≡ i) (a : Named) (turn : HasTurn s (rank key) (Some a)) where
  pub receiver_comes : (j : ℕ) → IsIn j (receivers_in s.composition i (Some a)) ≡ true → Comes s j (rank key) a
  receiver_comes j h = (turn, subst (λ k. receives s.composition k a j ≡ true) (sym owner) (sym (receivers_all s.composition a i j) ∙ h))

  pub receiver_apart : (j : ℕ) → IsIn j (receivers_in s.composition i (Some a)) ≡ true → j ≡ i → ⊥
  receiver_apart j h = points.other s i j a (sym (receivers_all s.composition a i j) ∙ h)

  pub receiver_within : (j : ℕ) → IsIn j (receivers_in s.composition i (Some a)) ≡ true → j < length s.composition
  receiver_within j h = go (cases_lt j (length s.composition))
    where
      go : (j < length s.composition) ⊎ (length s.composition ≤ j) → j < length s.composition
      go (inl within) = within
      go (inr past) = let out : ◌≡◌ {A = Bool} false true = sym (none_past s.composition a i j past) ∙ sym (receivers_all s.composition a i j) ∙ h in cc

pub in_at : (xs : List ℕ) (k d : ℕ) → k < length xs → IsIn (get_or xs k d) xs ≡ true
in_at [] k d within = absurd (omega (arith, within))
in_at (x ∷ xs) zero d within = ap (λ b. b || IsIn x xs) (eq-eqb x x refl)
in_at (x ∷ xs) (suc k) d within = go (get_or xs k d == x) (in_at xs k d (omega (arith, within)))
  where
    go : (b : Bool) → IsIn (get_or xs k d) xs ≡ true → (b || IsIn (get_or xs k d) xs) ≡ true
    go true h = refl
    go false h = h

-- nothing has passed yet
pub none_passed : (s : System) (groups : List ℕ) (heard : List (Option Key)) (me k i : ℕ) (members : List Member) (bags : List Bag) → AreMembers s groups heard me k members → AreBags s groups me k bags → IsPassedOn s groups heard me k i [] members members bags
none_passed s groups heard me k i members bags are bags_are = record {
  many = refl;
  members = are;
  own = refl;
  brought = λ j m at group h. (let out : ◌≡◌ {A = Bool} false true = h in cc);
  bags_are = bags_are;
  gathered = λ group j bag at other its h. (let out : ◌≡◌ {A = Bool} false true = h in cc);
}
