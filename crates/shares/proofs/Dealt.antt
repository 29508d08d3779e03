-- One more turn is drawn and dealt.
use Rattle.std.proofs.Common.{◌≡◌, ℕ, zero, suc, ◌+◌, ◌<◌, ◌≤◌, ◌⊎◌, inl, inr, All, Contains, Option, None, Some, List, [], ◌∷◌, ◌++◌, length, map, refl, ap, sym, subst, ◌∙◌, arith}
use Rattle.std.specs.Prelude.{option_map, slice_get, slice_set}
use Rattle.std.specs.declared.vec.Vec.{Vec}
use Rattle.std.specs.Global.{Global}
use Rattle.std.proofs.lemmas.Bool.{cases_eq, cases_lt}
use Rattle.std.proofs.lemmas.List.{length-map}
use Rattle.std.proofs.lemmas.List.Elements.{All-contains}
use Rattle.std.proofs.lemmas.Option.{slice_get-get_or, slice_get-map, slice_get_within}
use Rattle.terms.specs.Named.{Named}
use Rattle.event_keys.specs.declared.key.Key.{Key}
use Rattle.event_keys.specs.Ranked.{rank_owner}
use Rattle.event_keys.specs.Ranks.{rank, owner_of}
use Rattle.task_seed.specs.Machines.{machine, end_rank}
use Rattle.task_seed.specs.Turning.{System}
use Rattle.virtual_time.specs.Reference.{reference_below}
use Rattle.reference.specs.declared.agenda.Due.{Due}
use Rattle.reference.specs.Agendas.{IsDrawn, IsDue}
use Rattle.reference.specs.Queues.{rank_or_end}
use Rattle.lone_group.specs.Drawn.{AreNext, first_of}
use Rattle.senders.specs.Senders.{senders_at}
use Rattle.shares.specs.declared.deal.Deal.{Deal}
use Rattle.shares.specs.declared.hand.Hand.{Hand}
use Rattle.shares.specs.declared.share.Own.{Own}
use Rattle.shares.specs.declared.share.Share.{Share}
use Rattle.shares.specs.Dealing.{IsDeal}
use Rattle.shares.specs.Hands.{AreLast, IsHand, IsTable, owns_at, owns_in, share_of}
use Rattle.shares.specs.Shares.{AreOwn, IsAwaited, IsShare}
use Rattle.shares.specs.Turns.{HasTurn, IsComing, NoTurn, group_at}
use Rattle.shares.specs.Waiting.{IsCovered, IsWaited}
use Rattle.shares.proofs.Placed.{comes_alone, comes_before, comes_there, none_placed}

pub first_more : (ds : List Due) (d : Due) (old new : Option Key) → old ≡ Some d.key → first_of (ds ++ d ∷ []) new ≡ first_of ds old
first_more [] d old new e = sym e
first_more (x ∷ xs) d old new e = refl

-- one more behind them
pub next_more : (s : System) (ds : List Due) (d : Due) (old new : Option Key) → old ≡ Some d.key → IsDue s d new → AreNext s ds old → AreNext s (ds ++ d ∷ []) new
next_more s [] d old new e is all = (is, tt)
next_more s (x ∷ xs) d old new e is all = (subst (IsDue s x) (sym (first_more xs d old new e)) all.0, next_more s xs d old new e is all.1)

get_set_same : {X : Type 0} (xs : List X) (n : ℕ) (x : X) → n < length xs → slice_get (slice_set xs n x) n ≡ Some x
get_set_same [] n x h = absurd (omega (arith, h))
get_set_same (y ∷ ys) zero x h = refl
get_set_same (y ∷ ys) (suc n) x h = get_set_same ys n x (omega (arith, h))

get_set_other : {X : Type 0} (xs : List X) (n : ℕ) (x : X) (j : ℕ) → (j ≡ n → ⊥) → slice_get (slice_set xs n x) j ≡ slice_get xs j
get_set_other [] n x j ne = refl
get_set_other (y ∷ ys) zero x zero ne = absurd (ne refl)
get_set_other (y ∷ ys) zero x (suc j) ne = refl
get_set_other (y ∷ ys) (suc n) x zero ne = refl
get_set_other (y ∷ ys) (suc n) x (suc j) ne = get_set_other ys n x j (λ e. ne (ap suc e))

set_many : {X : Type 0} (xs : List X) (n : ℕ) (x : X) → length (slice_set xs n x) ≡ length xs
set_many [] n x = refl
set_many (y ∷ ys) zero x = refl
set_many (y ∷ ys) (suc n) x = ap suc (set_many ys n x)

-- where nothing was drawn, no component had a turn
pub none_last : (s : System) (next : Option Key) (last : List (Option Key)) → reference_below (machine s) (rank_or_end next) ≡ [] → AreLast s (rank_or_end next) last
none_last s next last none r outcome below has = absurd (none_placed (machine s) (rank_or_end next) r outcome none below has)

module _ (s : System) (due : Due) (next : Option Key) (is : IsDue s due next) where
  owner : owner_of (rank due.key) ≡ due.key.component
  owner =
      let component = is.small.component in
      let number = is.small.number in
      rank_owner due.key (omega (arith, component)) (omega (arith, number))

  up : rank due.key < rank_or_end next
  up = comes_before (machine s) due.key is.outcome next is.comes

  only : (r : ℕ) (outcome : Option Named) → rank due.key ≤ r → r < rank_or_end next → HasTurn s r outcome → r ≡ rank due.key
  only = comes_alone (machine s) due.key is.outcome next is.comes

  coming : IsComing s due
  coming = record {
    small = is.small;
    within = is.within;
    number = is.number;
    turn = is.turn;
    outcome = is.outcome;
    comes = comes_there (machine s) due.key is.outcome next is.comes;
  }

  -- it is its component's last turn
  last_more : (last : List (Option Key)) → length last ≡ length s.composition → AreLast s (rank due.key) last → AreLast s (rank_or_end next) (slice_set last due.key.component (Some due.key))
  last_more last many lasts r outcome below has = go (cases_lt r (rank due.key))
    where
      news : List (Option Key)
      news = slice_set last due.key.component (Some due.key)

      room : due.key.component < length last
      room = let within = is.within in omega (arith, within, many)

      there : slice_get news due.key.component ≡ Some (Some due.key)
      there = get_set_same last due.key.component (Some due.key) room

      before : r < rank due.key → (owner_of r ≡ due.key.component) ⊎ (owner_of r ≡ due.key.component → ⊥) → (key : Key) × (slice_get news (owner_of r) ≡ Some (Some key)) × (r ≤ rank key)
      before low (inl e) = (due.key, ap (slice_get news) e ∙ there, omega (arith, low))
      before low (inr ne) = let was = lasts r outcome low has in (was.0, get_set_other last due.key.component (Some due.key) (owner_of r) ne ∙ was.1, was.2)

      go : (r < rank due.key) ⊎ (rank due.key ≤ r) → (key : Key) × (slice_get news (owner_of r) ≡ Some (Some key)) × (r ≤ rank key)
      go (inl low) = before low (cases_eq (owner_of r) due.key.component)
      go (inr high) =
          let at = only r outcome high below has in
          (due.key, ap (λ x. slice_get news (owner_of x)) at ∙ ap (slice_get news) owner ∙ there, omega (arith, at))

  table_more : (groups : List ℕ) (count : ℕ) (last : List (Option Key)) → IsTable s groups count (Some due.key) last → IsTable s groups count next (slice_set last due.key.component (Some due.key))
  table_more groups count last table = record {
    low = is.low;
    every = table.every;
    below = table.below;
    many = set_many last due.key.component (Some due.key) ∙ table.many;
    lasts = last_more last table.many table.lasts;
  }

  module _ (senders : List (List ℕ)) (groups : List ℕ) where
    -- no other group has a turn there
    none_other : (group from : ℕ) → (group_at groups due.key.component ≡ group → ⊥) → NoTurn s groups group from (rank due.key) → NoTurn s groups group from (rank_or_end next)
    none_other group from ne none r outcome low high has of_group = go (cases_lt r (rank due.key))
      where
        go : (r < rank due.key) ⊎ (rank due.key ≤ r) → ⊥
        go (inl l) = none r outcome low l has of_group
        go (inr l) =
            let at = only r outcome l high has in
            ne (ap (group_at groups) (sym owner ∙ ap owner_of (sym at)) ∙ of_group)

    none_behind : (group : ℕ) → NoTurn s groups group (rank due.key + 1) (rank_or_end next)
    none_behind group r outcome low high has of_group =
        let at = only r outcome (omega (arith, low)) high has in
        omega (arith, at, low)

    own_other : (group from : ℕ) (own : List Own) → (group_at groups due.key.component ≡ group → ⊥) → AreOwn s senders groups group from own (Some due.key) → AreOwn s senders groups group from own next
    own_other group from [] ne all = let low = all.0 in let high = up in (omega (arith, low, high), none_other group from ne all.1)
    own_other group from (x ∷ later) ne all =
        (all.0, all.1, all.2, all.3, all.4, own_other group (rank x.due.key + 1) later ne all.5)

    own_more : (group from : ℕ) (own : List Own) (x : Own) → x.due ≡ due → group_at groups due.key.component ≡ group → IsAwaited s senders groups x
        → AreOwn s senders groups group from own (Some due.key) → AreOwn s senders groups group from (own ++ x ∷ []) next
    own_more group from [] x e of_group waits all =
        let high = up in (
          subst (λ (d : Due). from ≤ rank d.key) (sym e) all.0,
          subst (λ (d : Due). NoTurn s groups group from (rank d.key)) (sym e) all.1,
          ap (λ (d : Due). group_at groups d.key.component) e ∙ of_group,
          subst (IsComing s) (sym e) coming,
          waits,
          (
            subst (λ (d : Due). rank d.key + 1 ≤ rank_or_end next) (sym e) (omega (arith, high)),
            subst (λ (d : Due). NoTurn s groups group (rank d.key + 1) (rank_or_end next)) (sym e) (none_behind group),
          ),
        )
    own_more group from (y ∷ later) x e of_group waits all =
        (all.0, all.1, all.2, all.3, all.4, own_more group (rank y.due.key + 1) later x e of_group waits all.5)

    -- it awaits all that it has to
    is_awaited : (count : ℕ) (last : List (Option Key)) (x : Own) → x.due ≡ due → IsTable s groups count (Some due.key) last
        → All (IsWaited groups last (group_at groups due.key.component) x.waits.items) (senders_at senders due.key.component) → IsAwaited s senders groups x
    is_awaited count last x e table waits = record { all = λ r outcome below has sends differs. go r outcome (subst (λ (d : Due). r < rank d.key) e below) has (subst (λ (d : Due). Contains (senders_at senders d.key.component) (owner_of r)) e sends) (subst (λ (d : Due). group_at groups (owner_of r) ≡ group_at groups d.key.component → ⊥) e differs) }
      where
        go : (r : ℕ) (outcome : Option Named) → r < rank due.key → HasTurn s r outcome → Contains (senders_at senders due.key.component) (owner_of r) → (group_at groups (owner_of r) ≡ group_at groups due.key.component → ⊥)
            → IsCovered x.waits.items (group_at groups (owner_of r)) r
        go r outcome below has sends differs =
            let was = table.lasts r outcome below has in
            let inside = slice_get_within last (owner_of r) (Some was.0) was.1 in
            let many = table.many in
            let every = table.every in
            let placed : slice_get groups (owner_of r) ≡ Some (group_at groups (owner_of r)) = slice_get-get_or groups (owner_of r) 0 (omega (arith, inside, many, every)) in
            let covered = All-contains (IsWaited groups last (group_at groups due.key.component) x.waits.items) (senders_at senders due.key.component) (owner_of r) waits sends (group_at groups (owner_of r)) was.0 placed was.1 differs in
            let late = was.2 in
            let later = covered.3 in
            (covered.0, covered.1, covered.2, omega (arith, late, later))

    -- one more turn is dealt
    pub hand_more : (count : ℕ) (last : List (Option Key)) (x : Own) (old new : Hand) → x.due ≡ due → IsTable s groups count (Some due.key) last
        → All (IsWaited groups last (group_at groups due.key.component) x.waits.items) (senders_at senders due.key.component)
        → new.from ≡ old.from → new.due.items ≡ old.due.items ++ x.due ∷ [] → length new.owns.items ≡ length old.owns.items
        → owns_at new.owns.items (group_at groups due.key.component) ≡ owns_at old.owns.items (group_at groups due.key.component) ++ x ∷ []
        → ((other : ℕ) → (other ≡ group_at groups due.key.component → ⊥) → owns_at new.owns.items other ≡ owns_at old.owns.items other)
        → IsHand s senders groups count (Some due.key) old → IsHand s senders groups count next new
    hand_more count last x old new e table waits same_from longer same_many added others hand =
        let items : new.due.items ≡ old.due.items ++ due ∷ [] = longer ∙ ap (λ (d : Due). old.due.items ++ d ∷ []) e in
        record {
          from = same_from ∙ hand.from ∙ sym (first_more old.due.items due (Some due.key) next refl) ∙ ap (λ (ds : List Due). first_of ds next) (sym items);
          due = subst (λ (ds : List Due). AreNext s ds next) (sym items) (next_more s old.due.items due (Some due.key) next refl is hand.due);
          many = same_many ∙ hand.many;
          owns = λ group. subst (λ (k : Option Key). AreOwn s senders groups group (rank_or_end k) (owns_at new.owns.items group) next) (sym same_from) (go group (cases_eq group (group_at groups due.key.component)));
        }
      where
        go : (group : ℕ) → (group ≡ group_at groups due.key.component) ⊎ (group ≡ group_at groups due.key.component → ⊥) → AreOwn s senders groups group (rank_or_end old.from) (owns_at new.owns.items group) next
        go group (inl at) =
            subst (λ g. AreOwn s senders groups g (rank_or_end old.from) (owns_at new.owns.items g) next) (sym at)
            (subst (λ (own : List Own). AreOwn s senders groups (group_at groups due.key.component) (rank_or_end old.from) own next) (sym added)
            (own_more (group_at groups due.key.component) (rank_or_end old.from) (owns_at old.owns.items (group_at groups due.key.component)) x e refl (is_awaited count last x e table waits) (hand.owns (group_at groups due.key.component))))
        go group (inr ne) =
            subst (λ (own : List Own). AreOwn s senders groups group (rank_or_end old.from) own next) (sym (others group ne))
            (own_other group (rank_or_end old.from) (owns_at old.owns.items group) (λ q. ne (sym q)) (hand.owns group))

-- the table after a turn was drawn
pub table_after : (s : System) (groups : List ℕ) (count : ℕ) (old new : Option Key) (due : Due) (olds news : List (Option Key)) → IsDrawn s old (Some due) new → news ≡ slice_set olds due.key.component (Some due.key) → IsTable s groups count old olds → IsTable s groups count new news
table_after s groups count old new due olds news drawn noted table =
    subst (IsTable s groups count new) (sym noted) (table_more s due new drawn.1 groups count olds (subst (λ o. IsTable s groups count o olds) drawn.0 table))

-- nothing is dealt yet
pub hand_empty : (s : System) (senders : List (List ℕ)) (groups : List ℕ) (count : ℕ) (next : Option Key) (hand : Hand) → hand.from ≡ next → hand.due.items ≡ [] → length hand.owns.items ≡ count → ((group : ℕ) → owns_at hand.owns.items group ≡ []) → IsHand s senders groups count next hand
hand_empty s senders groups count next hand from none many empty = record {
  from = from ∙ ap (λ (ds : List Due). first_of ds next) (sym none);
  due = subst (λ (ds : List Due). AreNext s ds next) (sym none) tt;
  many = many;
  owns = λ group. subst (λ (own : List Own). AreOwn s senders groups group (rank_or_end hand.from) own next) (sym (empty group))
      (subst (λ (k : Option Key). AreOwn s senders groups group (rank_or_end k) [] next) (sym from) (omega arith, λ r outcome low high has of_group. omega (arith, low, high)));
}

-- what was dealt is handed out
pub dealt : (s : System) (senders : List (List ℕ)) (groups : List ℕ) (count : ℕ) (next : Option Key) (hand : Hand) (deal : Deal) → rank_or_end next ≤ end_rank → IsHand s senders groups count next hand
    → deal.drawn.due.items ≡ hand.due.items → deal.drawn.from ≡ hand.from → deal.drawn.next ≡ next → deal.shares.items ≡ map (share_of hand.from next) hand.owns.items → IsDeal s senders groups count deal
dealt s senders groups count next hand deal low is due from until shares = record {
  drawn = record {
    from = from ∙ is.from ∙ ap (λ (ds : List Due). first_of ds next) (sym due) ∙ ap (first_of deal.drawn.due.items) (sym until);
    due = subst (λ (ds : List Due). AreNext s ds deal.drawn.next) (sym due) (subst (AreNext s hand.due.items) (sym until) is.due);
  };
  low = subst (λ k. rank_or_end k ≤ end_rank) (sym until) low;
  many = ap length shares ∙ length-map hand.owns.items (share_of hand.from next) ∙ is.many;
  from = λ group share at. (found group share at).1 ∙ sym from;
  until = λ group share at. (found group share at).2 ∙ sym until;
  shares = λ group share at. (found group share at).3;
}
  where
    found : (group : ℕ) (share : Share) → slice_get deal.shares.items group ≡ Some share → Unit {0} × (share.from ≡ hand.from) × (share.until ≡ next) × IsShare s senders groups group share
    found group share at = go (slice_get hand.owns.items group) refl
      where
        is_map : slice_get deal.shares.items group ≡ option_map (share_of hand.from next) (slice_get hand.owns.items group)
        is_map = ap (λ l. slice_get l group) shares ∙ slice_get-map (share_of hand.from next) hand.owns.items group

        go : (own : Option (Vec Own Global)) → slice_get hand.owns.items group ≡ own → Unit {0} × (share.from ≡ hand.from) × (share.until ≡ next) × IsShare s senders groups group share
        go None e = let none : Some share ≡ None = sym at ∙ is_map ∙ ap (option_map (share_of hand.from next)) e in cc
        go (Some own) e =
            let both : Some share ≡ Some (share_of hand.from next own) = sym at ∙ is_map ∙ ap (option_map (share_of hand.from next)) e in
            let same : share ≡ share_of hand.from next own = cc in (
              tt,
              ap (λ (x : Share). x.from) same,
              ap (λ (x : Share). x.until) same,
              subst (IsShare s senders groups group) (sym same) (subst (λ o. AreOwn s senders groups group (rank_or_end hand.from) (owns_in o) next) e (is.owns group)),
            )
