-- The machine of a setup, whose Time Warp is the theory's.
use Rattle.std.specs.Prelude.{ℕ, ◌+◌, ◌^◌, nat_lt, Bool, not, ◌&&◌, Option, None, Some, List, length, if◌then◌else◌}
use Rattle.std.specs.Ordering.{is_eq, is_gt}
use Rattle.terms.specs.Datum.{Datum}
use Rattle.terms.specs.Named.{Named}
use Rattle.event_keys.specs.Orders.{action_order}
use Rattle.event_keys.specs.Ranks.{rank, owner_of}
use Rattle.virtual_time.specs.Machine.{Machine}
use Rattle.io_automata.specs.Outcomes.{outcome_of}
use Rattle.io_automata.specs.Signatures.{receives}
use Rattle.io_automata.specs.Steps.{start_of, applied}
use Rattle.task_seed.specs.declared.turns.Turn.{Turn}
use Rattle.task_seed.specs.Turning.{System, ticks, has_turns, key_at, turn_in}

-- the rank of the end, above the rank of every key; closed, so that nothing computes up to it
unfoldable pub end_rank : ℕ
end_rank = 2 ^ 144

-- the rank of the key of turn n of component i, or the end where that turn doesn't exist
abbrev pub turn_rank : System → ℕ → ℕ → ℕ
turn_rank s i n = if nat_lt i (length s.composition) && has_turns s i (n + 1) then rank (key_at i n (ticks s i (n + 1))) else end_rank

-- the outcome of a turn of component i in its state: none (idle) where there is no such turn
abbrev pub outcome_by : System → ℕ → Option Turn → List Datum → Option Named
outcome_by s i None state = None
outcome_by s i (Some turn) state = outcome_of s.composition i turn.task turn.choice state

abbrev pub turn_outcome : System → ℕ → ℕ → List Datum → Option Named
turn_outcome s i n state = outcome_by s i (turn_in s i n) state

abbrev pub same_action : Named → Named → Bool
same_action a b = is_eq (action_order a b)

-- the action is not after the other
abbrev pub action_before : Named → Named → Bool
action_before a b = not (is_gt (action_order a b))

abbrev pub machine : System → Machine (List Datum) Named
machine s =
    record {
      top = end_rank;
      start = start_of s.composition;
      key = turn_rank s;
      owner = owner_of;
      outcome = turn_outcome s;
      apply = applied s.composition;
      receives = receives s.composition;
      same = same_action;
      before = action_before;
    }
