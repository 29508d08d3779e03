-- What the steps of a check say of actions.
use Rattle.std.proofs.Common.{◌≡◌, ℕ, ◌+◌, ◌<◌, ◌≤◌, ◌⊎◌, inl, inr, true, false, List, [], ◌∷◌, ◌++◌, take, drop, length, refl, ap, sym, subst, ◌∙◌, arith, slice_get, get_or, map, Some}
use Rattle.std.proofs.lemmas.Bool.{cases_lt}
use Rattle.std.proofs.lemmas.List.{take_more, take_all, take-append-le}
use Rattle.std.proofs.lemmas.List.FromFn.{get_or-map-range_with_len, length-map-range_with_len}
use Rattle.std.proofs.lemmas.Option.{slice_get-get_or}
use Rattle.std.specs.List.{range_with_len}
use Rattle.terms.specs.Datum.{Datum}
use Rattle.terms.specs.Named.{Named}
use Rattle.io_automata.specs.Automata.{Instance, component_at, absent}
use Rattle.io_automata.specs.Signatures.{acts}
use Rattle.io_automata.specs.Steps.{Joint, Leads, IsSchedule, start_of, applied}
use Rattle.reference.specs.Verdicts.{IsForeignAt, IsDisabledAt, IsPermitted, state_at}
use Rattle.reference.proofs.Taken.{beyond}
use Rattle.reference.proofs.Runs.{stays, leads_more}

-- the list of the start states
pub started : (composition : List Instance) (states : List (List Datum)) → states ≡ map (start_of composition) (range_with_len 0 (length composition)) → (i : ℕ) → state_at states i ≡ start_of composition i
started composition states is i = ap (λ (list : List (List Datum)). state_at list i) is ∙ go (cases_lt i (length composition)) where
  all : List (List Datum)
  all = map (start_of composition) (range_with_len 0 (length composition))

  go : (i < length composition) ⊎ (length composition ≤ i) → state_at all i ≡ start_of composition i
  go (inl below) = get_or-map-range_with_len (start_of composition) 0 (length composition) i i [] below (omega arith)
  go (inr above) =
      let gone : component_at composition i ≡ absent = beyond composition i absent above in
      beyond all i [] (omega (arith, above, length-map-range_with_len (start_of composition) 0 (length composition))) ∙ rw gone refl

pub started_length : (composition : List Instance) (states : List (List Datum)) → states ≡ map (start_of composition) (range_with_len 0 (length composition)) → length states ≡ length composition
started_length composition states is = ap (λ (list : List (List Datum)). length list) is ∙ length-map-range_with_len (start_of composition) 0 (length composition)

-- an action that is had and permitted, and that all take, is a joint step
pub joint_by : (composition : List Instance) (action : Named) (olds news : List (List Datum)) (actor : ℕ)
    → acts composition actor action ≡ true
    → IsPermitted composition action (state_at olds) true
    → ((i : ℕ) → state_at news i ≡ applied composition i action (state_at olds i))
    → Joint composition (state_at olds) action (state_at news)
joint_by composition action olds news actor acting permitted taken = record {
  actor = actor;
  acting = acting;
  enabled = permitted;
  changes = λ i has. taken i;
  stays = λ i none. taken i ∙ stays composition i action (state_at olds i) none;
}

-- one action more has been taken
pub one_taken : (composition : List Instance) (actions : List Named) (at : ℕ) (action : Named) (olds news : List (List Datum))
    → at < length actions → action ≡ get_or actions at action
    → Leads composition (start_of composition) (take at actions) (state_at olds)
    → Joint composition (state_at olds) action (state_at news)
    → Leads composition (start_of composition) (take (at + 1) actions) (state_at news)
one_taken composition actions at action olds news within is leads joint =
    let more : take (at + 1) actions ≡ take at actions ++ action ∷ [] = take_more actions at action within ∙ ap (λ (last : Named). take at actions ++ last ∷ []) (sym is) in
    rw more (leads_more composition (start_of composition) (take at actions) (state_at olds) action (state_at news) leads joint)

item_at : {X : Type 0} (xs : List X) (at : ℕ) (x : X) → at < length xs → x ≡ get_or xs at x → slice_get xs at ≡ Some x
item_at xs at x within is = slice_get-get_or xs at x within ∙ ap Some (sym is)

-- an action of no component is found
pub foreign_found : (composition : List Instance) (actions : List Named) (at : ℕ) (action : Named) (states : List (List Datum))
    → at < length actions → action ≡ get_or actions at action
    → Leads composition (start_of composition) (take at actions) (state_at states)
    → ((i : ℕ) → acts composition i action ≡ false)
    → IsForeignAt composition actions at
foreign_found composition actions at action states within is leads none =
    record { action = action; there = item_at actions at action within is; before = (state_at states, leads); foreign = none }

-- and one without its precondition
pub disabled_found : (composition : List Instance) (actions : List Named) (at : ℕ) (action : Named) (states : List (List Datum))
    → at < length actions → action ≡ get_or actions at action
    → Leads composition (start_of composition) (take at actions) (state_at states)
    → IsPermitted composition action (state_at states) false
    → IsDisabledAt composition actions at
disabled_found composition actions at action states within is leads barred =
    record { action = action; there = item_at actions at action within is; states = state_at states; reached = leads; barred = barred }

-- where no action is left, all are a schedule
pub all_lead : (composition : List Instance) (actions : List Named) (at : ℕ) (states : List (List Datum))
    → length actions ≤ at
    → Leads composition (start_of composition) (take at actions) (state_at states)
    → IsSchedule composition actions
all_lead composition actions at states none_left leads =
    (state_at states, subst (λ (taken : List Named). Leads composition (start_of composition) taken (state_at states)) (take_all at actions none_left) leads)

-- what a slice of a whole vector says of the vector
pub written : {X : Type 0} (olds news : List X) (n : ℕ) → length news ≡ length olds → length olds ≡ n → take n (news ++ drop (length news) olds) ≡ news
written olds news n same count =
    let short : n ≤ length news = omega (arith, same, count) in
    take-append-le n news (drop (length news) olds) short ∙ take_all n news (omega (arith, same, count))
