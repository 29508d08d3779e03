-- What a group has before the first turn.
use Rattle.std.proofs.Common.{◌≡◌, ℕ, zero, suc, ◌+◌, ◌-◌, ◌<◌, ◌≤◌, ◌⊎◌, inl, inr, Option, None, Some, List, [], length, refl, ap, sym, subst, ◌∙◌, arith}
use Rattle.std.specs.Prelude.{slice_get, slice_index}
use Rattle.std.proofs.lemmas.Bool.{cases_lt}
use Rattle.std.proofs.lemmas.Option.{slice_get-get_or}
use Rattle.terms.specs.Datum.{Datum}
use Rattle.event_keys.specs.declared.key.Key.{Key}
use Rattle.event_keys.specs.Ranks.{owner_of}
use Rattle.io_automata.specs.Steps.{start_of}
use Rattle.plans.specs.MemoLaws.{blank_memo}
use Rattle.plans.specs.Memos.{IsBlank}
use Rattle.reference.specs.Queues.{rank_or_end}
use Rattle.senders.specs.Senders.{AreSenders}
use Rattle.shares.specs.Turns.{group_at}
use Rattle.task_seed.specs.Machines.{machine}
use Rattle.task_seed.specs.Turning.{System}
use Rattle.virtual_time.specs.Machine.{Machine}
use Rattle.virtual_time.specs.Reference.{add_turn, after, reference_below, reference_turn}
use Rattle.sure_groups.specs.declared.bags.Bag.{Bag}
use Rattle.sure_groups.specs.declared.member.Member.{Member}
use Rattle.sure_groups.specs.Inputs.{heard_at}
use Rattle.sure_groups.specs.Members.{Stands}
use Rattle.sure_groups.specs.Sure.{AreSure}
use Rattle.sure_groups.proofs.Posted.{none_gathered}
use Rattle.sure_groups.proofs.Written.{heard_there, index_past}

module _ {S A : Type 0} (m : Machine S A) where
  more_below : (b d : ℕ) → length (reference_below m b) ≤ length (reference_below m (b + d))
  more_below b zero = let e : b + 0 ≡ b = omega arith in subst (λ x. length (reference_below m b) ≤ length (reference_below m x)) (sym e) (omega arith)
  more_below b (suc d) = let e : b + suc d ≡ suc (b + d) = omega arith in subst (λ x. length (reference_below m b) ≤ length (reference_below m x)) (sym e) (go (more_below b d) (reference_turn m (b + d)) refl)
    where
      go : length (reference_below m b) ≤ length (reference_below m (b + d)) → (o : Option (Option A)) → reference_turn m (b + d) ≡ o → length (reference_below m b) ≤ length (reference_below m (suc (b + d)))
      go i None f =
          let n = ap (λ x. length (add_turn (b + d) x (reference_below m (b + d)))) f in
          omega (arith, i, n)
      go i (Some o) f =
          let n = ap (λ x. length (add_turn (b + d) x (reference_below m (b + d)))) f in
          omega (arith, i, n)

  -- where there are no turns below a rank, none is at one below it
  pub none_placed : (b r : ℕ) (o : Option A) → reference_below m b ≡ [] → r < b → reference_turn m r ≡ Some o → ⊥
  none_placed b r o none l e =
      let up : suc r + (b - suc r) ≡ b = omega (arith, l) in
      let more = subst (λ x. length (reference_below m (suc r)) ≤ length (reference_below m x)) up (more_below (suc r) (b - suc r)) in
      let one = ap (λ x. length (add_turn r x (reference_below m r))) e in
      let z = ap length none in
      absurd (omega (arith, more, one, z))

module _ (s : System) (groups : List ℕ) (me count : ℕ) (first : Option Key) (heard : List (Option Key)) (none : reference_below (machine s) (rank_or_end first) ≡ []) (long : length heard ≡ count) (alike : (g : ℕ) (key : Option Key) → slice_get heard g ≡ Some key → key ≡ first)
    (below : (i : ℕ) → i < length groups → slice_index groups i < count) (own : me < count) where
  heard_within : (g : ℕ) → g < count → slice_get heard g ≡ Some first
  heard_within g within = let there = slice_get-get_or heard g None (omega (arith, within, long)) in there ∙ ap Some (alike g _ there)

  group_below : (i : ℕ) → group_at groups i < count
  group_below i = go (cases_lt i (length groups))
    where
      go : (i < length groups) ⊎ (length groups ≤ i) → group_at groups i < count
      go (inl within) = below i within
      go (inr past) = let zero_at = index_past groups i past in omega (arith, zero_at, own)

  heard_all : (i : ℕ) → heard_at heard (group_at groups i) ≡ rank_or_end first
  heard_all i = heard_there heard (group_at groups i) first (heard_within (group_at groups i) (group_below i))

  stands_first : (j : ℕ) (state : List Datum) → state ≡ start_of s.composition j → Stands s groups heard (rank_or_end first) j state []
  stands_first j state start = record {
    at = rank_or_end first;
    low = omega arith;
    state_is = start ∙ ap (λ ts. (after (machine s) ts).state j) (sym none);
    none = λ r o low high e its. absurd (omega (arith, low, high));
    order = tt;
    inputs = λ x is. absurd is;
    all = λ r a low known is. (let same = heard_all (owner_of r) in absurd (omega (arith, low, known, same)));
    before = λ r a low is. absurd (none_placed (machine s) (rank_or_end first) r (Some a) none low is.0);
  }

  pub started : (senders : List (List ℕ)) (members : List Member) (bags : List Bag) → AreSenders s.composition senders → length groups ≡ length s.composition → length members ≡ length s.composition
      → ((j : ℕ) (member : Member) → slice_get members j ≡ Some member → member.state.current ≡ start_of s.composition j) → ((j : ℕ) (member : Member) → slice_get members j ≡ Some member → member.state.below ≡ [])
      → ((j : ℕ) (member : Member) → slice_get members j ≡ Some member → IsBlank member.memo) → ((j : ℕ) (member : Member) → slice_get members j ≡ Some member → member.pending.items ≡ []) → length bags ≡ count
      → ((g : ℕ) (bag : Bag) → slice_get bags g ≡ Some bag → (bag.since ≡ first) × (bag.inputs.items ≡ [])) → AreSure s groups heard me members [] first bags []
  started senders members bags are every many states plains blanks nones bagged empty = record {
    senders = senders;
    senders_are = are;
    every = every;
    below = λ i less. (let low = below i less in omega (arith, low, long));
    many = many;
    bagged = bagged ∙ sym long;
    mine = heard_within me own;
    own_are = (omega arith, λ r o low high e its. absurd (omega (arith, low, high)));
    members_are = λ j member there its.
        record {
          plain = plains j member there;
          memo = blank_memo s.composition j member.state.current member.memo (blanks j member there);
          stands = subst (λ l. Stands s groups heard (rank_or_end first) j member.state.current l) (sym (nones j member there)) (stands_first j member.state.current (states j member there));
        };
    bags_are = λ g bag there apart. none_gathered s groups me g first bag (empty g bag there).0 (empty g bag there).1;
    slots_are = λ slot is. (let less = is.1 in absurd (omega (arith, less)));
  }
