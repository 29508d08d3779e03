-- What is committed is a beginning of the reference.
use Rattle.std.proofs.Common.{◌≡◌, ℕ, ◌≤◌, List, ◌++◌, map, reverse, ap, sym, subst, ◌∙◌, arith}
use Rattle.std.proofs.lemmas.Grind.{flat_map-append}
use Rattle.terms.specs.Datum.{Datum}
use Rattle.terms.specs.Named.{Named}
use Rattle.event_keys.specs.declared.outcome.Turned.{Turned}
use Rattle.virtual_time.specs.Machine.{Machine, Lawful}
use Rattle.virtual_time.specs.Reference.{Turn, IsReference, after, reference_below}
use Rattle.plans.specs.declared.plan.Plan.{Plan}
use Rattle.task_seed.specs.Machines.{machine, end_rank}
use Rattle.task_seed.specs.Turning.{System}
use Rattle.task_seed.specs.Taken.{turn_of}
use Rattle.schedules.specs.Schedules.{HasSchedules, KeysFit}
use Rattle.schedules.proofs.Told.{followed, newest_first}
use Rattle.trace.specs.declared.lines.Lines.{Lines}
use Rattle.trace.specs.Lines.{shown_text, text_of}
use Rattle.commands.specs.Driven.{IsBeginning}

-- a bound below which there is a reference isn't above the end
low_bound : (m : Machine (List Datum) Named) (b : ℕ) (turns : List (Turn Named)) → Lawful m → IsReference m b turns → b ≤ m.top
low_bound m b turns law is =
    let most = is.all 0 in
    let end = law.bounded 0 ((after m turns).next 0) in
    omega (arith, most, end)

-- what the theory says of references
abbrev pub Begins : Machine (List Datum) Named → Type 0
Begins m = (b c : ℕ) (turns later_turns : List (Turn Named)) → b ≤ c → IsReference m b turns → IsReference m c later_turns → (extra : List (Turn Named)) × (later_turns ≡ extra ++ turns)

pub beginning : (s : System) (plan : Plan) (lines : Lines) (b : ℕ) (newest : List Turned) → KeysFit (reverse newest) → HasSchedules plan s → Lawful (machine s) → Begins (machine s)
    → IsReference (machine s) end_rank (reference_below (machine s) end_rank) → IsReference (machine s) b (map turn_of newest) → IsBeginning plan s lines (reverse newest)
beginning s plan lines b newest keys schedules law begins whole is =
    let found = begins b end_rank (map turn_of newest) (reference_below (machine s) end_rank) (low_bound (machine s) b (map turn_of newest) law is) is whole in
    let rest = followed (machine s) (reverse newest) found.0 (found.1 ∙ ap (λ l. found.0 ++ l) (sym (newest_first newest))) keys in
    let all = reverse newest ++ rest.later in
    record {
      keys = keys;
      scheduled = schedules (reverse newest) b (subst (IsReference (machine s) b) (sym (newest_first newest)) is);
      all = all;
      are = record { all = rest.are; keys = rest.keys; scheduled = schedules all end_rank (subst (IsReference (machine s) end_rank) (sym rest.are) whole) };
      rest = text_of plan lines rest.later;
      begins = flat_map-append (shown_text plan lines) (reverse newest) rest.later;
    }
