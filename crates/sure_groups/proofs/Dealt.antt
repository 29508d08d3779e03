-- What a group has, as its next turns are dealt to it.
use Rattle.std.proofs.Common.{◌≡◌, ℕ, ◌<◌, ◌≤◌, ◌⊎◌, inl, inr, Option, Some, List, [], ◌∷◌, length, ap, sym, subst, ◌∙◌, arith}
use Rattle.std.specs.Prelude.{slice_set}
use Rattle.std.proofs.lemmas.Bool.{cases_eq, cases_lt}
use Rattle.std.proofs.lemmas.Option.{slice_get_within}
use Rattle.terms.specs.Datum.{Datum}
use Rattle.terms.specs.Named.{Named}
use Rattle.event_keys.specs.declared.key.Key.{Key}
use Rattle.event_keys.specs.Ranks.{rank, owner_of}
use Rattle.lone_group.specs.declared.batch.Slot.{Slot}
use Rattle.reference.specs.Queues.{rank_or_end}
use Rattle.senders.specs.Senders.{AreSenders}
use Rattle.shares.specs.declared.share.Own.{Own}
use Rattle.shares.specs.declared.share.Share.{Share}
use Rattle.shares.specs.Shares.{AreOwn, IsShare}
use Rattle.shares.specs.Turns.{HasTurn, NoTurn, group_at}
use Rattle.task_seed.specs.Turning.{System}
use Rattle.sure_groups.specs.declared.bags.Bag.{Bag}
use Rattle.sure_groups.specs.declared.input.Input.{Input}
use Rattle.sure_groups.specs.declared.member.Member.{Member}
use Rattle.sure_groups.specs.Inputs.{heard_at}
use Rattle.sure_groups.specs.Members.{Stands}
use Rattle.sure_groups.specs.Sure.{AreBags, AreMembers, AreSure, next_of}
use Rattle.sure_groups.proofs.Written.{get_same, heard_before, heard_now, heard_there, set_length}

module _ (s : System) (groups : List ℕ) where
  -- the first of a group's turns from a rank on
  pub first_up : (senders : List (List ℕ)) (me from : ℕ) (own : List Own) (until : Option Key) → AreOwn s senders groups me from own until → from ≤ rank_or_end (next_of own until)
  first_up senders me from [] until are = are.0
  first_up senders me from (one ∷ later) until are = are.0

  pub none_before_first : (senders : List (List ℕ)) (me from : ℕ) (own : List Own) (until : Option Key) → AreOwn s senders groups me from own until → NoTurn s groups me from (rank_or_end (next_of own until))
  none_before_first senders me from [] until are = are.1
  none_before_first senders me from (one ∷ later) until are = are.1

  nothing_between : (me at : ℕ) → NoTurn s groups me at at
  nothing_between me at r o low high e = absurd (omega (arith, low, high))

  pub from_first : (senders : List (List ℕ)) (me from : ℕ) (own : List Own) (until : Option Key) → AreOwn s senders groups me from own until → AreOwn s senders groups me (rank_or_end (next_of own until)) own until
  from_first senders me from [] until are = (omega arith, nothing_between me (rank_or_end until))
  from_first senders me from (one ∷ later) until are = (omega arith, nothing_between me (rank one.due.key), are.2, are.3, are.4, are.5)

  -- a group has no turn from one rank up to another, and so it is heard of up to there
  module _ (olds news : List (Option Key)) (me from next : ℕ) (mine_old : heard_at olds me ≡ from) (mine_new : heard_at news me ≡ next) (others : (g : ℕ) → (g ≡ me → ⊥) → heard_at news g ≡ heard_at olds g) (up : from ≤ next)
      (none_between : NoTurn s groups me from next) where
    more : (g : ℕ) → heard_at olds g ≤ heard_at news g
    more g = go (cases_eq g me)
      where
        go : (g ≡ me) ⊎ (g ≡ me → ⊥) → heard_at olds g ≤ heard_at news g
        go (inl e) = let o : heard_at olds g ≡ from = ap (heard_at olds) e ∙ mine_old in let n : heard_at news g ≡ next = ap (heard_at news) e ∙ mine_new in omega (arith, o, n, up)
        go (inr ne) = let same = others g ne in omega (arith, same)

    below : (r : ℕ) (o : Option Named) → HasTurn s r o → group_at groups (owner_of r) ≡ me → r < next → r < from
    below r o e same high = go (cases_lt r from)
      where
        go : (r < from) ⊎ (from ≤ r) → r < from
        go (inl less) = less
        go (inr low) = absurd (none_between r o low high e same)

    was_heard : (r : ℕ) (o : Option Named) → HasTurn s r o → r < heard_at news (group_at groups (owner_of r)) → r < heard_at olds (group_at groups (owner_of r))
    was_heard r o e high = go (cases_eq (group_at groups (owner_of r)) me)
      where
        go : (group_at groups (owner_of r) ≡ me) ⊎ (group_at groups (owner_of r) ≡ me → ⊥) → r < heard_at olds (group_at groups (owner_of r))
        go (inl same) =
            let n : heard_at news (group_at groups (owner_of r)) ≡ next = ap (heard_at news) same ∙ mine_new in
            let k : heard_at olds (group_at groups (owner_of r)) ≡ from = ap (heard_at olds) same ∙ mine_old in
            let less = below r o e same (omega (arith, n, high)) in
            omega (arith, k, less)
        go (inr apart) = let same = others (group_at groups (owner_of r)) apart in omega (arith, same, high)

    pub stands_on : (j : ℕ) (state : List Datum) (pending : List Input) → group_at groups j ≡ me → Stands s groups olds from j state pending → Stands s groups news next j state pending
    stands_on j state pending member h = record {
      at = h.at;
      low = let low = h.low in omega (arith, low, up);
      state_is = h.state_is;
      none = λ r o low high e same. h.none r o low (below r o e (ap (group_at groups) same ∙ member) high) e same;
      order = h.order;
      inputs = h.inputs;
      all = λ r a low heard_of is. h.all r a low (was_heard r (Some a) is.0 heard_of) is;
      before = λ r a low is. (let one = h.before r a low is in let higher = more (group_at groups (owner_of r)) in omega (arith, one, higher));
    }

    pub members_on : (members : List Member) → AreMembers s groups olds me from members → AreMembers s groups news me next members
    members_on members are j member there its =
        let h = are j member there its in
        record { plain = h.plain; memo = h.memo; stands = stands_on j member.state.current member.pending.items its h.stands }

    pub bags_on : (bags : List Bag) → AreBags s groups me from bags → AreBags s groups me next bags
    bags_on bags are group bag there apart =
        let h = are group bag there apart in
        let since = h.0 in (
          omega (arith, since, up),
          record {
            each = h.1.each;
            all = λ j r a low high its to is. h.1.all j r a low (below r (Some a) is.0 its high) its to is;
          },
        )

  pub dealt : (heard : List (Option Key)) (me : ℕ) (members : List Member) (old : List Own) (end : Option Key) (bags : List Bag) (slots : List Slot) (share : Share) (senders : List (List ℕ)) (next : Option Key)
      → AreSure s groups heard me members old end bags slots → old ≡ [] → share.from ≡ end → AreSenders s.composition senders → IsShare s senders groups me share → next ≡ next_of share.own.items share.until
      → AreSure s groups (slice_set heard me next) me members share.own.items share.until bags slots
  dealt heard me members old end bags slots share senders next h none begins are_senders is_share next_is = record {
    senders = senders;
    senders_are = are_senders;
    every = h.every;
    below = λ i less. (let low = h.below i less in omega (arith, low, long));
    many = h.many;
    bagged = h.bagged ∙ sym long;
    mine = get_same heard me next within ∙ ap Some next_is;
    own_are = from_first senders me (rank_or_end share.from) share.own.items share.until is_share;
    members_are = subst (λ r. AreMembers s groups news me r members) rank_is (members_on heard news me from (rank_or_end next) mine_old mine_new apart up none_between members (subst (λ r. AreMembers s groups heard me r members) ended h.members_are));
    bags_are = subst (λ r. AreBags s groups me r bags) rank_is (bags_on heard news me from (rank_or_end next) mine_old mine_new apart up none_between bags (subst (λ r. AreBags s groups me r bags) ended h.bags_are));
    slots_are = h.slots_are;
  }
    where
      news : List (Option Key)
      news = slice_set heard me next

      from : ℕ
      from = rank_or_end share.from

      long : length (slice_set heard me next) ≡ length heard
      long = set_length heard me next

      within : me < length heard
      within = slice_get_within heard me (next_of old end) h.mine

      ended : rank_or_end (next_of old end) ≡ rank_or_end share.from
      ended = ap (λ l. rank_or_end (next_of l end)) none ∙ ap rank_or_end (sym begins)

      rank_is : rank_or_end next ≡ rank_or_end (next_of share.own.items share.until)
      rank_is = ap rank_or_end next_is

      mine_old : heard_at heard me ≡ rank_or_end share.from
      mine_old = heard_there heard me (next_of old end) h.mine ∙ ended

      mine_new : heard_at (slice_set heard me next) me ≡ rank_or_end next
      mine_new = heard_now heard me next within

      apart : (g : ℕ) → (g ≡ me → ⊥) → heard_at (slice_set heard me next) g ≡ heard_at heard g
      apart g ne = heard_before heard me next g ne

      up : rank_or_end share.from ≤ rank_or_end next
      up = let low = first_up senders me (rank_or_end share.from) share.own.items share.until is_share in omega (arith, low, rank_is)

      none_between : NoTurn s groups me (rank_or_end share.from) (rank_or_end next)
      none_between = subst (NoTurn s groups me (rank_or_end share.from)) (sym rank_is) (none_before_first senders me (rank_or_end share.from) share.own.items share.until is_share)
