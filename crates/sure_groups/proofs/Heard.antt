-- What a group has, as it hears of another group's turns.
use Rattle.std.proofs.Common.{◌≡◌, ℕ, ◌<◌, ◌≤◌, ◌⊎◌, inl, inr, Bool, true, false, Option, Some, List, length, ap, sym, subst, ◌∙◌, arith}
use Rattle.std.specs.Prelude.{slice_get, slice_set}
use Rattle.std.proofs.lemmas.Bool.{cases_lt}
use Rattle.std.proofs.lemmas.Option.{slice_get_within}
use Rattle.terms.specs.Named.{Named}
use Rattle.event_keys.specs.declared.key.Key.{Key}
use Rattle.event_keys.specs.Ranks.{rank, owner_of}
use Rattle.io_automata.specs.Receivers.{none_past}
use Rattle.lone_group.specs.declared.batch.Slot.{Slot}
use Rattle.plans.specs.Memos.{IsMemo}
use Rattle.reference.specs.Queues.{rank_or_end}
use Rattle.shares.specs.declared.share.Own.{Own}
use Rattle.shares.specs.Turns.{group_at}
use Rattle.task_seed.specs.Turning.{System}
use Rattle.undo_records.specs.States.{States}
use Rattle.sure_groups.specs.declared.bags.Bag.{Bag}
use Rattle.sure_groups.specs.declared.input.Input.{Input}
use Rattle.sure_groups.specs.declared.member.Member.{Member}
use Rattle.sure_groups.specs.declared.packet.Packet.{Packet}
use Rattle.sure_groups.specs.Giving.{AreGiven, IsGiven}
use Rattle.sure_groups.specs.Inputs.{Comes, IsOneOf, heard_at}
use Rattle.sure_groups.specs.Members.{IsMember, Stands}
use Rattle.sure_groups.specs.Packets.{ArePassed, IsPacket}
use Rattle.sure_groups.specs.Sure.{AreSure, next_of}
use Rattle.sure_groups.proofs.Written.{get_other, heard_before, heard_now, heard_there, set_length}
use Rattle.sure_groups.proofs.Standing.{hears, not_before}

module _ (s : System) (groups : List ℕ) where
  -- an input is for a component
  pub is_for_one : (members : List Member) → length members ≡ length s.composition → (packet : Packet) → IsPacket s groups packet → (x : Input) → IsOneOf packet.inputs.items x → x.to < length members
  is_for_one members many packet is x there = go (cases_lt x.to (length s.composition))
    where
      go : (x.to < length s.composition) ⊎ (length s.composition ≤ x.to) → x.to < length members
      go (inl within) = omega (arith, within, many)
      go (inr past) =
          let both : ◌≡◌ {A = Bool} false true = sym (none_past s.composition x.action (owner_of (rank x.key)) x.to past) ∙ (is.each x there).0.1 in
          cc

  module _ (heard : List (Option Key)) (own j from to since until : ℕ) (inputs : List Input) (passed : ArePassed s groups from to since until inputs) (its : group_at groups j ≡ to) (begins : heard_at heard from ≡ since) where
    -- more waits, none of which is before where the component stands
    many_wait : (old new : Member) → IsGiven j inputs old new → Stands s groups heard own j old.state.current old.pending.items → Stands s groups heard own j old.state.current new.pending.items
    many_wait old new given h = record {
      at = h.at;
      low = h.low;
      state_is = h.state_is;
      none = h.none;
      order = given.order h.order;
      inputs = λ y is. each y (given.only y is);
      all = λ r a low heard_of is. (let there = h.all r a low heard_of is in (there.0, given.kept there.0 there.1, there.2));
      before = h.before;
    }
      where
        comes_on : (y : Input) → Comes s y.to (rank y.key) y.action × (since ≤ rank y.key) × (group_at groups (owner_of (rank y.key)) ≡ from) × (group_at groups y.to ≡ to) → y.to ≡ j → Comes s j (rank y.key) y.action × (h.at ≤ rank y.key)
        comes_on y (comes, low, of, is) at =
            let here : Comes s j (rank y.key) y.action = subst (λ i. Comes s i (rank y.key) y.action) at comes in
            let up : heard_at heard (group_at groups (owner_of (rank y.key))) ≡ since = ap (heard_at heard) of ∙ begins in
            (here, not_before s groups heard own j old.state.current old.pending.items h (rank y.key) y.action here (omega (arith, low, up)))

        each : (y : Input) → IsOneOf old.pending.items y ⊎ (IsOneOf inputs y × (y.to ≡ j)) → Comes s j (rank y.key) y.action × (h.at ≤ rank y.key)
        each y (inl was) = h.inputs y was
        each y (inr (is, at)) = comes_on y (passed.each y is) at

    brought : (old new : Member) → IsGiven j inputs old new → (r : ℕ) (a : Named) → since ≤ r → r < until → group_at groups (owner_of r) ≡ from → Comes s j r a → (x : Input) × IsOneOf new.pending.items x × (rank x.key ≡ r)
    brought old new given r a low high of is =
        let x = passed.all j r a low high of its is in
        let there = given.there x.0 x.1 x.2 in
        (there.0, there.1, there.2 ∙ x.3)

    pub member_hears : (news : List (Option Key)) → heard_at news from ≡ until → ((g : ℕ) → (g ≡ from → ⊥) → heard_at news g ≡ heard_at heard g) → since ≤ until → (old new : Member) → IsGiven j inputs old new → IsMember s groups heard own j old
        → IsMember s groups news own j new
    member_hears news ends others up old new given h = record {
      plain = ap (λ (x : States). x.below) given.state ∙ h.plain;
      memo = subst (IsMemo s.composition j new.state.current) (sym given.memo) (subst (λ l. IsMemo s.composition j l old.memo) (sym same) h.memo);
      stands = subst (λ l. Stands s groups news own j l new.pending.items) (sym same)
          (hears s groups heard news from since until begins ends others up own j old.state.current new.pending.items (brought old new given) (many_wait old new given h.stands));
    }
      where
        same : new.state.current ≡ old.state.current
        same = ap (λ (x : States). x.current) given.state

  pub heard_of : (heard : List (Option Key)) (me : ℕ) (members news : List Member) (own : List Own) (until : Option Key) (bags : List Bag) (slots : List Slot) (packet : Packet) → AreSure s groups heard me members own until bags slots
      → IsPacket s groups packet → packet.to ≡ me → (packet.from ≡ me → ⊥) → slice_get heard packet.from ≡ Some packet.since → rank_or_end packet.since ≤ rank_or_end packet.until → AreGiven packet.inputs.items members news
      → AreSure s groups (slice_set heard packet.from packet.until) me news own until bags slots
  heard_of heard me members news own until bags slots packet h is to apart begins up given = record {
    senders = h.senders;
    senders_are = h.senders_are;
    every = h.every;
    below = λ i less. (let low = h.below i less in omega (arith, low, long));
    many = given.many ∙ h.many;
    bagged = h.bagged ∙ sym long;
    mine = get_other heard packet.from packet.until me (λ e. apart (sym e)) ∙ h.mine;
    own_are = h.own_are;
    members_are = λ j new there its. one j new there its (given.each j new there);
    bags_are = h.bags_are;
    slots_are = h.slots_are;
  }
    where
      long : length (slice_set heard packet.from packet.until) ≡ length heard
      long = set_length heard packet.from packet.until

      one : (j : ℕ) (new : Member) → slice_get news j ≡ Some new → group_at groups j ≡ me → (old : Member) × (slice_get members j ≡ Some old) × IsGiven j packet.inputs.items old new
          → IsMember s groups (slice_set heard packet.from packet.until) (rank_or_end (next_of own until)) j new
      one j new there its (old, was, put) =
          member_hears heard (rank_or_end (next_of own until)) j packet.from packet.to (rank_or_end packet.since) (rank_or_end packet.until) packet.inputs.items is (its ∙ sym to) (heard_there heard packet.from packet.since begins)
          (slice_set heard packet.from packet.until) (heard_now heard packet.from packet.until (slice_get_within heard packet.from packet.since begins)) (heard_before heard packet.from packet.until) up old new put (h.members_are j old was its)
