-- Turns that come, and the components that may send before them.
use Rattle.std.proofs.Common.{◌≡◌, ℕ, ◌<◌, ◌≤◌, ◌^◌, ◌⊎◌, inl, inr, Option, None, Some, List, ap, sym, ◌∙◌, arith}
use Rattle.std.specs.Prelude.{Contains}
use Rattle.std.proofs.lemmas.Bool.{cases_eq}
use Rattle.terms.specs.Datum.{Datum}
use Rattle.terms.specs.Named.{Named}
use Rattle.event_keys.specs.declared.key.Key.{Key}
use Rattle.event_keys.specs.Ranked.{rank_owner}
use Rattle.event_keys.specs.Ranks.{rank, owner_of}
use Rattle.io_automata.specs.Outcomes.{outcome_of}
use Rattle.virtual_time.specs.Reference.{point}
use Rattle.task_seed.specs.Machines.{end_rank, machine, outcome_by, turn_outcome}
use Rattle.task_seed.specs.Turning.{System, turn_in}
use Rattle.task_seed.specs.declared.turns.Turn.{Turn}
use Rattle.reference.specs.Queues.{IsSmall}
use Rattle.reference.specs.declared.agenda.Due.{Due}
use Rattle.senders.specs.Senders.{AreSenders, senders_at}
use Rattle.shares.specs.Shares.{IsAwaited}
use Rattle.shares.specs.Turns.{HasTurn, IsComing, group_at}
use Rattle.shares.specs.declared.share.Own.{Own}
use Rattle.shares.specs.declared.share.Wait.{Wait}
use Rattle.sure_groups.specs.Inputs.{Comes, IsOneOf, Knows, heard_at}
use Rattle.sure_groups.specs.Members.{Stands}
use Rattle.sure_groups.specs.declared.input.Input.{Input}
use Rattle.sure_groups.proofs.Points as points
use Rattle.sure_groups.proofs.Standing.{reached}

pub below_end : (r : ℕ) → r < 2 ^ 144 → r < end_rank
unfolding end_rank
below_end r low = low

pub owner : (key : Key) → IsSmall key → owner_of (rank key) ≡ key.component
owner key small = let component = small.component in let number = small.number in rank_owner key (omega (arith, component)) (omega (arith, number))

module _ (s : System) (due : Due) (is : IsComing s due) where
  -- what comes of the turn in the state of its component
  outcome_is : is.outcome ≡ turn_outcome s due.key.component due.key.number (points.state_of s due.key.component (rank due.key))
  outcome_is =
      points.outcome_at s (rank due.key) is.outcome is.comes
      ∙ ap (λ i. turn_outcome s i ((point (machine s) (rank due.key)).next i) (points.state_of s i (rank due.key))) (owner due.key is.small)
      ∙ ap (λ n. turn_outcome s due.key.component n (points.state_of s due.key.component (rank due.key))) (sym is.number)

  pub found_is : (groups : List ℕ) (heard : List (Option Key)) (state : List Datum) (pending : List Input) → Stands s groups heard (rank due.key) due.key.component state pending → Knows s groups heard due.key.component (rank due.key)
      → ((x : Input) → IsOneOf pending x → rank due.key ≤ rank x.key) → (found : Option Named) → found ≡ outcome_of s.composition due.key.component due.turn.task due.turn.choice state → HasTurn s (rank due.key) found
  found_is groups heard state pending stands known above found at =
      let here = reached s groups heard (rank due.key) due.key.component state pending stands known above in
      let same : is.outcome ≡ found =
      outcome_is ∙ ap (λ t. outcome_by s due.key.component t (points.state_of s due.key.component (rank due.key))) (sym is.turn) ∙ ap (outcome_of s.composition due.key.component due.turn.task due.turn.choice) (sym here) ∙ sym at in
      is.comes ∙ ap (λ o. Some o) same

-- who brings something to a component is one of those that may send to it
module _ (s : System) (senders : List (List ℕ)) (are : AreSenders s.composition senders) where
  pub sender : (r j : ℕ) (a : Named) → Comes s j r a → Contains (senders_at senders j) (owner_of r)
  sender r j a comes = by (turn_in s (owner_of r) ((point (machine s) r).next (owner_of r))) (points.outcome_at s r (Some a) comes.0)
    where
      by : (t : Option Turn) → Some a ≡ outcome_by s (owner_of r) t (points.state_of s (owner_of r) r) → Contains (senders_at senders j) (owner_of r)
      by None e = let none : Some a ≡ None = e in cc
      by (Some turn) e = are.all (owner_of r) j turn.task turn.choice (points.state_of s (owner_of r) r) a (sym e) comes.1

  -- where all that is awaited was heard of, all is known that comes before the turn
  pub known : (groups : List ℕ) (heard : List (Option Key)) (own : Own) → IsAwaited s senders groups own → rank own.due.key ≤ heard_at heard (group_at groups own.due.key.component)
      → ((wait : Wait) → Contains own.waits.items wait → rank wait.last < heard_at heard wait.group) → Knows s groups heard own.due.key.component (rank own.due.key)
  known groups heard own awaited mine all r a low comes = go (cases_eq (group_at groups (owner_of r)) (group_at groups own.due.key.component))
    where
      go : (group_at groups (owner_of r) ≡ group_at groups own.due.key.component) ⊎ (group_at groups (owner_of r) ≡ group_at groups own.due.key.component → ⊥) → r < heard_at heard (group_at groups (owner_of r))
      go (inl same) = let up : heard_at heard (group_at groups (owner_of r)) ≡ heard_at heard (group_at groups own.due.key.component) = ap (heard_at heard) same in omega (arith, up, low, mine)
      go (inr apart) =
          let wait = awaited.all r (Some a) low comes.0 (sender r own.due.key.component a comes) apart in
          let late = all wait.0 wait.1 in
          let at : heard_at heard wait.0.group ≡ heard_at heard (group_at groups (owner_of r)) = ap (heard_at heard) wait.2 in
          let last = wait.3 in
          omega (arith, late, at, last)
