-- What is gathered for a group is handed on.
use Rattle.std.proofs.Common.{◌≡◌, ℕ, ◌<◌, ◌≤◌, ◌⊎◌, inl, inr, Option, List, [], length, ap, sym, subst, ◌∙◌, arith}
use Rattle.std.specs.Prelude.{slice_get, slice_set}
use Rattle.std.proofs.lemmas.Bool.{cases_eq}
use Rattle.event_keys.specs.declared.key.Key.{Key}
use Rattle.lone_group.specs.declared.batch.Slot.{Slot}
use Rattle.reference.specs.Queues.{rank_or_end}
use Rattle.shares.specs.declared.share.Own.{Own}
use Rattle.task_seed.specs.Turning.{System}
use Rattle.sure_groups.specs.declared.bags.Bag.{Bag}
use Rattle.sure_groups.specs.declared.member.Member.{Member}
use Rattle.sure_groups.specs.Packets.{ArePassed}
use Rattle.sure_groups.specs.Sure.{AreBags, AreSure, next_of}
use Rattle.sure_groups.proofs.Written.{get_other, get_same, set_length, some_same}

module _ (s : System) (groups : List ℕ) (me : ℕ) where
  -- nothing comes of no turns
  pub none_passed : (to at : ℕ) → ArePassed s groups me to at at []
  none_passed to at = record {
    each = λ x h. absurd h;
    all = λ j r a low high from its is. absurd (omega (arith, low, high));
  }

  pub none_gathered : (to : ℕ) (next : Option Key) (bag : Bag) → bag.since ≡ next → bag.inputs.items ≡ [] → (rank_or_end bag.since ≤ rank_or_end next) × ArePassed s groups me to (rank_or_end bag.since) (rank_or_end next) bag.inputs.items
  none_gathered to next bag since inputs =
      let same = ap rank_or_end since in (
        omega (arith, same),
        subst (λ xs. ArePassed s groups me to (rank_or_end bag.since) (rank_or_end next) xs) (sym inputs) (subst (λ r. ArePassed s groups me to r (rank_or_end next) []) (sym same) (none_passed to (rank_or_end next))),
      )

  pub emptied : (next : Option Key) (bags : List Bag) (to : ℕ) (empty : Bag) → to < length bags → empty.since ≡ next → empty.inputs.items ≡ [] → AreBags s groups me (rank_or_end next) bags
      → AreBags s groups me (rank_or_end next) (slice_set bags to empty)
  emptied next bags to empty within since inputs are g bag there apart = go (cases_eq g to)
    where
      go : (g ≡ to) ⊎ (g ≡ to → ⊥) → (rank_or_end bag.since ≤ rank_or_end next) × ArePassed s groups me g (rank_or_end bag.since) (rank_or_end next) bag.inputs.items
      go (inl e) =
          let same : bag ≡ empty = some_same bag empty (sym there ∙ ap (slice_get (slice_set bags to empty)) e ∙ get_same bags to empty within) in
          none_gathered g next bag (ap (λ (b : Bag). b.since) same ∙ since) (ap (λ (b : Bag). b.inputs.items) same ∙ inputs)
      go (inr ne) = are g bag (sym (get_other bags to empty g ne) ∙ there) apart

  pub posted : (heard : List (Option Key)) (members : List Member) (own : List Own) (until : Option Key) (bags : List Bag) (slots : List Slot) (to : ℕ) (empty : Bag) → AreSure s groups heard me members own until bags slots
      → to < length bags → empty.since ≡ next_of own until → empty.inputs.items ≡ [] → AreSure s groups heard me members own until (slice_set bags to empty) slots
  posted heard members own until bags slots to empty h within since inputs = record {
    senders = h.senders;
    senders_are = h.senders_are;
    every = h.every;
    below = h.below;
    many = h.many;
    bagged = set_length bags to empty ∙ h.bagged;
    mine = h.mine;
    own_are = h.own_are;
    members_are = h.members_are;
    bags_are = emptied (next_of own until) bags to empty within since inputs h.bags_are;
    slots_are = h.slots_are;
  }
