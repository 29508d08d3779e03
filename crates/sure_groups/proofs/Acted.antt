-- A turn that is taken by its component, and whose action goes to others.
use Rattle.std.proofs.Common.{◌≡◌, ℕ, suc, ◌<◌, ◌≤◌, ◌⊎◌, inl, inr, true, Option, None, Some, List, [], length, ap, sym, subst, ◌∙◌, arith, slice_set}
use Rattle.std.specs.Prelude.{slice_get}
use Rattle.std.proofs.lemmas.Bool.{cases_lt}
use Rattle.std.proofs.lemmas.List.{length-set}
use Rattle.terms.specs.Named.{Named}
use Rattle.event_keys.specs.declared.key.Key.{Key}
use Rattle.event_keys.specs.Ranks.{rank, owner_of}
use Rattle.io_automata.specs.Receivers.{IsIn, receivers_all}
use Rattle.io_automata.specs.Signatures.{receives}
use Rattle.io_automata.specs.Steps.{applied}
use Rattle.plans.specs.Memos.{IsMemo}
use Rattle.task_seed.specs.Turning.{System}
use Rattle.reference.specs.Queues.{rank_or_end}
use Rattle.shares.specs.Turns.{HasTurn, group_at}
use Rattle.sure_groups.specs.declared.bags.Bag.{Bag}
use Rattle.sure_groups.specs.declared.input.Input.{Input}
use Rattle.sure_groups.specs.declared.member.Member.{Member}
use Rattle.sure_groups.specs.Inputs.{Comes, IsOneOf}
use Rattle.sure_groups.specs.Members.{IsMember}
use Rattle.sure_groups.specs.Passing.{HasActed, IsPassedOn, Waits, acted, receivers_in}
use Rattle.sure_groups.specs.Sure.{AreBags}
use Rattle.sure_groups.proofs.Places.{apart_set, at_set}

pub some_same : {X : Type 0} (x y : X) → Some x ≡ Some y → x ≡ y
some_same x y e = cc

module _ (s : System) (groups : List ℕ) (heard : List (Option Key)) (me k i : ℕ) (owner : owner_of k ≡ i) (member : group_at groups i ≡ me) (found : Option Named) (turn : HasTurn s k found) (olds mids : List Member) (bags : List Bag)
    (h : IsPassedOn s groups heard me k i (receivers_in s.composition i found) olds mids bags) where
  -- whom something comes of the turn is one of its receivers
  among : (j : ℕ) (a : Named) → Comes s j k a → IsIn j (receivers_in s.composition i found) ≡ true
  among j a comes =
      let same : found ≡ Some a = some_same found (Some a) (sym turn ∙ comes.0) in
      subst (λ o. IsIn j (receivers_in s.composition i o) ≡ true) (sym same) (receivers_all s.composition a i j ∙ subst (λ n. receives s.composition n a j ≡ true) owner comes.1)

  others : (j : ℕ) (m : Member) → slice_get mids j ≡ Some m → group_at groups j ≡ me → IsMember s groups heard k j m × ((a : Named) → Comes s j k a → Waits m.pending.items k)
  others j m at group = (h.members j m at group, λ a comes. h.brought j m at group (among j a comes))

  bags_are : AreBags s groups me (suc k) bags
  bags_are group bag at other = (
    let low = (h.bags_are group bag at other).0 in omega (arith, low),
    record {
      each = (h.bags_are group bag at other).1.each;
      all = λ j r a low high own its comes. by j r a low own its comes (cases_lt r k) high;
    },
  )
    where
      by : (j r : ℕ) (a : Named) → rank_or_end bag.since ≤ r → group_at groups (owner_of r) ≡ me → group_at groups j ≡ group → Comes s j r a → (r < k) ⊎ (k ≤ r) → r < suc k
          → (x : Input) × IsOneOf bag.inputs.items x × (x.to ≡ j) × (rank x.key ≡ r)
      by j r a low own its comes (inl less) high = (h.bags_are group bag at other).1.all j r a low less own its comes
      by j r a low own its comes (inr up) high =
          let same : r ≡ k = omega (arith, up, high) in
          let found_there = h.gathered group j bag at other its (among j a (subst (λ q. Comes s j q a) same comes)) in
          (found_there.0, found_there.1, found_there.2, found_there.3 ∙ sym same)

  -- nothing came of it
  pub acted_none : found ≡ None → HasActed s groups heard me k i found olds mids bags
  acted_none none = record {
    many = h.many;
    others = λ j m at group apart. others j m at group;
    own = λ old new old_at new_at. own old new old_at new_at;
    bags_are = bags_are;
  }
    where
      own : (old new : Member) → slice_get olds i ≡ Some old → slice_get mids i ≡ Some new
          → (new.state.below ≡ []) × IsMemo s.composition i new.state.current new.memo × (new.pending.items ≡ old.pending.items) × (new.state.current ≡ acted s groups heard me k i found old.state.current)
      own old new old_at new_at =
          let same : new ≡ old = some_same new old (sym new_at ∙ h.own ∙ old_at) in
          let is = h.members i new new_at member in
          (is.plain, is.memo, ap (λ (m : Member). m.pending.items) same, ap (λ (m : Member). m.state.current) same ∙ ap (λ o. acted s groups heard me k i o old.state.current) (sym none))

  -- its component took an action
  pub acted_some : (a : Named) → found ≡ Some a → (mid new : Member) → slice_get mids i ≡ Some mid → i < length mids → new.state.below ≡ [] → IsMemo s.composition i new.state.current new.memo → new.pending.items ≡ mid.pending.items
      → new.state.current ≡ applied s.composition i a mid.state.current → HasActed s groups heard me k i found olds (slice_set mids i new) bags
  acted_some a some mid new mid_at within plain memo pending state = record {
    many = length-set mids i new ∙ h.many;
    others = λ j m at group apart. others j m (sym (apart_set mids i j new apart) ∙ at) group;
    own = λ old after old_at after_at. own old after old_at (at_set mids i new after after_at within);
    bags_are = bags_are;
  }
    where
      own : (old after : Member) → slice_get olds i ≡ Some old → after ≡ new
          → (after.state.below ≡ []) × IsMemo s.composition i after.state.current after.memo × (after.pending.items ≡ old.pending.items) × (after.state.current ≡ acted s groups heard me k i found old.state.current)
      own old after old_at is =
          let same : mid ≡ old = some_same mid old (sym mid_at ∙ h.own ∙ old_at) in
          subst (λ (m : Member). (m.state.below ≡ []) × IsMemo s.composition i m.state.current m.memo × (m.pending.items ≡ old.pending.items) × (m.state.current ≡ acted s groups heard me k i found old.state.current)) (sym is)
          (plain, memo, pending ∙ ap (λ (m : Member). m.pending.items) same, state ∙ ap (λ (m : Member). applied s.composition i a m.state.current) same ∙ ap (λ o. acted s groups heard me k i o old.state.current) (sym some))
