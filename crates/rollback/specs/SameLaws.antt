-- Comparing numbers, bounds and records tells exactly whether they are the same.
use Rattle.std.specs.Prelude.{◌≡◌, ◌==◌, ◌&&◌, Bool as Truth, true, nat_eq, Option, None, Some, List, refl}
use Rattle.std.specs.Bool.{Decides}
use Rattle.std.specs.Ordering.{is_eq, eq_of_both, on}
use Rattle.std.specs.Cmp.{IsEquivalence, Equal-is, tied_itself, and_equiv, on_equiv}
use Rattle.std.specs.Cmp.Lexicographic.{pointwise, pointwise_decides, lists_equiv}
use Rattle.std.proofs.Common.{ap, sym, ◌∙◌, rules}
use Rattle.terms.specs.Datum.{Datum}
use Rattle.terms.specs.Named.{Named}
use Rattle.terms.specs.Same.{same, same_is, same_refl}
use Rattle.terms.specs.SameTreeLaws.{both_true, both_by, number_is, number_refl, decides_by, equivalence_by}
use Rattle.terms.specs.contracts.action.ActionOrd.TheImpl.Laws.{total-law as action_total}
use Rattle.event_keys.specs.declared.key.Bound.{Bound}
use Rattle.event_keys.specs.contracts.key.BoundPartialEq.TheImpl as bound_eq
use Rattle.event_keys.specs.contracts.key.BoundEq.TheImpl.Laws.{laws-law as bound_laws}
use Rattle.event_keys.specs.contracts.key.BoundOrd.TheImpl as bound_ord
use Rattle.event_keys.specs.contracts.key.BoundOrd.TheImpl.Laws.{matches_eq-law as bound_agrees, total-law as bound_total}
use Rattle.event_keys.specs.Apart.{action_apart, bound_apart}
use Rattle.event_keys.specs.Orders.{action_order, bound_order}
use Rattle.plans.specs.SamePlans.{same_plan}
use Rattle.plans.specs.SamePlanLaws.{same_plan_laws}
use Rattle.undo_records.specs.First.{same_state}
use Rattle.virtual_time.specs.Entries.{Entry, Own, Input as Received, Item}
use Rattle.virtual_time.specs.Records.{Record}
use Rattle.task_seed.specs.Setups.{plan_of, source_of, horizon_of}
use Rattle.task_seed.specs.Machines.{same_action}
use Rattle.rollback.specs.ComponentView.{ComponentView}
use Rattle.rollback.specs.Same.{same_outcome, same_item, same_entry, same_base, same_events, same_held}

action_is : (a b : Named) → same_action a b ≡ true → a ≡ b
action_is a b h = action_apart a b ((Equal-is (action_order a b)).0 h)

action_refl : (a : Named) → same_action a a ≡ true
action_refl a = ap is_eq (tied_itself action_total a)

outcome_is : (a b : Option Named) → same_outcome a b ≡ true → a ≡ b
outcome_is None None h = refl
outcome_is None (Some b) h = cc
outcome_is (Some a) None h = cc
outcome_is (Some a) (Some b) h = ap Some (action_is a b h)

outcome_refl : (a : Option Named) → same_outcome a a ≡ true
outcome_refl None = refl
outcome_refl (Some a) = action_refl a

item_is : (x y : Item Named) → same_item x y ≡ true → x ≡ y
item_is x y h =
    let parts = both_true (x.key == y.key) (same_action x.action y.action) h in
    let key = number_is x.key y.key parts.0 in
    let action = action_is x.action y.action parts.1 in
    λ i. record { key = key i; action = action i }

item_refl : (x : Item Named) → same_item x x ≡ true
item_refl x = both_by _ _ (number_refl x.key) (action_refl x.action)

pub items_decide : (xs ys : List (Item Named)) → Decides (pointwise same_item xs ys) (xs ≡ ys)
items_decide = pointwise_decides (decides_by same_item item_is item_refl)

entry_is : (d e : Entry Named) → same_entry d e ≡ true → d ≡ e
entry_is (Own k o) (Own l p) h =
    let parts = both_true (k == l) (same_outcome o p) h in
    let key = number_is k l parts.0 in
    let outcome = outcome_is o p parts.1 in
    λ i. Own (key i) (outcome i)
entry_is (Own k o) (Received y) h = cc
entry_is (Received x) (Own l p) h = cc
entry_is (Received x) (Received y) h = ap Received (item_is x y h)

entry_refl : (d : Entry Named) → same_entry d d ≡ true
entry_refl (Own k o) = both_by _ _ (number_refl k) (outcome_refl o)
entry_refl (Received x) = item_refl x

pub entry_decides : (d e : Entry Named) → Decides (same_entry d e) (d ≡ e)
entry_decides = decides_by same_entry entry_is entry_refl

entries_decide : (xs ys : List (Entry Named)) → Decides (pointwise same_entry xs ys) (xs ≡ ys)
entries_decide = pointwise_decides entry_decides

state_decides : (a b : List Datum) → Decides (same_state a b) (a ≡ b)
state_decides = pointwise_decides (decides_by same same_is same_refl)

states_equiv : IsEquivalence same_state
states_equiv = lists_equiv (equivalence_by same same_is same_refl)

pub bound_decides : (a b : Bound) → Decides (bound_eq.ghosts.eq a b) (a ≡ b)
bound_decides a b =
    let order : bound_ord.ghosts.cmp a b ≡ bound_order a b = search rules in
    let agrees : bound_eq.ghosts.eq a b ≡ is_eq (bound_ord.ghosts.cmp a b) = bound_agrees a b in
    (λ h. bound_apart a b (sym order ∙ (Equal-is (bound_ord.ghosts.cmp a b)).0 (sym agrees ∙ h)), λ e. agrees ∙ ap is_eq (ap (bound_ord.ghosts.cmp a) (sym e) ∙ tied_itself bound_total a))

numbers_equiv : IsEquivalence nat_eq
numbers_equiv = equivalence_by nat_eq number_is number_refl

items_equiv : IsEquivalence (pointwise same_item)
items_equiv = lists_equiv (equivalence_by same_item item_is item_refl)

-- the same done entries, pending inputs and owed antimessages
events_equiv : IsEquivalence same_events
events_equiv =
    and_equiv (on_equiv (λ r. r.done) (lists_equiv (equivalence_by same_entry entry_is entry_refl)))
    (and_equiv (on_equiv (λ r. r.pending) items_equiv) (on_equiv (λ r. r.owed) items_equiv))

-- the equality of setups is an equivalence where that of their turns is
pub setup_equiv : {T : Type 0} {eq : T → T → Truth} → IsEquivalence eq → IsEquivalence (eq_of_both (on (plan_of {T = T}) same_plan) (eq_of_both (on source_of eq) (on horizon_of nat_eq)))
setup_equiv laws = and_equiv (on_equiv plan_of same_plan_laws) (and_equiv (on_equiv source_of laws) (on_equiv horizon_of numbers_equiv))

-- and that of components where that of their setups is
pub same_held_equiv : {P : Type 0} {eq : P → P → Truth} → IsEquivalence eq → IsEquivalence (same_held eq)
same_held_equiv laws =
    and_equiv
    (and_equiv (on_equiv (λ h. h.setup) laws)
    (and_equiv (on_equiv (λ h. h.number) numbers_equiv)
    (and_equiv (on_equiv (λ h. h.base) bound_laws)
    (and_equiv (on_equiv (λ h. h.history.first) numbers_equiv) (on_equiv (λ h. h.history.base) states_equiv)))))
    (on_equiv (λ h. h.history) events_equiv)

base_is : {P : Type 0} (eq : P → P → Truth) (a b : ComponentView P) → same_base eq a b ≡ true → (eq a.setup b.setup ≡ true) × (a.number ≡ b.number) × (a.base ≡ b.base) × (a.history.first ≡ b.history.first) × (a.history.base ≡ b.history.base)
base_is eq a b h =
    let one = both_true (eq a.setup b.setup) ((a.number == b.number) && (bound_eq.ghosts.eq a.base b.base && ((a.history.first == b.history.first) && same_state a.history.base b.history.base))) h in
    let two = both_true (a.number == b.number) (bound_eq.ghosts.eq a.base b.base && ((a.history.first == b.history.first) && same_state a.history.base b.history.base)) one.1 in
    let three = both_true (bound_eq.ghosts.eq a.base b.base) ((a.history.first == b.history.first) && same_state a.history.base b.history.base) two.1 in
    let four = both_true (a.history.first == b.history.first) (same_state a.history.base b.history.base) three.1 in
    (one.0, number_is a.number b.number two.0, (bound_decides a.base b.base).0 three.0, number_is a.history.first b.history.first four.0, (state_decides a.history.base b.history.base).0 four.1)

events_is : (r q : Record (List Datum) Named) → same_events r q ≡ true → (r.done ≡ q.done) × (r.pending ≡ q.pending) × (r.owed ≡ q.owed)
events_is r q h =
    let one = both_true (pointwise same_entry r.done q.done) (pointwise same_item r.pending q.pending && pointwise same_item r.owed q.owed) h in
    let two = both_true (pointwise same_item r.pending q.pending) (pointwise same_item r.owed q.owed) one.1 in
    ((entries_decide r.done q.done).0 one.0, (items_decide r.pending q.pending).0 two.0, (items_decide r.owed q.owed).0 two.1)

-- equal components have equal setups, and all else is the same
pub held_is : {P : Type 0} (eq : P → P → Truth) (a b : ComponentView P) → same_held eq a b ≡ true → (eq a.setup b.setup ≡ true) × (a.number ≡ b.number) × (a.base ≡ b.base) × (a.history ≡ b.history)
held_is eq a b h =
    let parts = both_true (same_base eq a b) (same_events a.history b.history) h in
    let base = base_is eq a b parts.0 in
    let events = events_is a.history b.history parts.1 in
    (base.0, base.1, base.2, λ i. record { base = base.4 i; first = base.3 i; done = events.0 i; pending = events.1 i; owed = events.2 i })

pub held_from : {P : Type 0} (eq : P → P → Truth) (a b : ComponentView P) → (eq a.setup b.setup ≡ true) × (a.number ≡ b.number) × (a.base ≡ b.base) × (a.history ≡ b.history) → same_held eq a b ≡ true
held_from eq a b h =
    both_by _ _
    (both_by _ _ h.0
    (both_by _ _ ((decides_by nat_eq number_is number_refl a.number b.number).1 h.1)
    (both_by _ _ ((bound_decides a.base b.base).1 h.2)
    (both_by _ _ ((decides_by nat_eq number_is number_refl a.history.first b.history.first).1 (ap (λ r. r.first) h.3))
    ((state_decides a.history.base b.history.base).1 (ap (λ r. r.base) h.3))))))
    (both_by _ _ ((entries_decide a.history.done b.history.done).1 (ap (λ r. r.done) h.3))
    (both_by _ _ ((items_decide a.history.pending b.history.pending).1 (ap (λ r. r.pending) h.3)) ((items_decide a.history.owed b.history.owed).1 (ap (λ r. r.owed) h.3))))

-- components of an equal base have the same number
pub number_of_base : {P : Type 0} (eq : P → P → Truth) (a b : ComponentView P) → same_base eq a b ≡ true → a.number ≡ b.number
number_of_base eq a b h = (base_is eq a b h).1
