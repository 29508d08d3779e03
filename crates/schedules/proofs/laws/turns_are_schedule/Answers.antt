use Rattle.std.proofs.Common.{◌≡◌, ℕ, List, Some, subst, sym}
use Rattle.terms.specs.Datum.{Datum}
use Rattle.terms.specs.Named.{Named}
use Rattle.io_automata.specs.Compatible.{IsCompatible}
use Rattle.io_automata.specs.WellFormed.{IsWellFormed}
use Rattle.plans.specs.Plans.{composition}
use Rattle.io_automata.specs.Outcomes.{outcome_of}
use Rattle.io_automata.specs.Steps.{Joint, applied}
use Rattle.virtual_time.specs.Reference.{IsReference, after}
use Rattle.task_seed.specs.Setups.{system}
use Rattle.task_seed.specs.Machines.{machine}
use Rattle.task_seed.specs.Taken.{turns_of}
use Rattle.schedules.proofs.Scheduled.{is_schedule}
use Rattle.schedules.proofs.laws.turns_are_schedule.Goals as goal

pub returns-clause-reference : goal.returns-clause-reference
returns-clause-reference g c =
    let s = system g.T.Turns.turn_of c.args.setup.now in
    let one : IsCompatible s.composition = subst (λ p. IsCompatible (composition p)) c.plan.ensures c.compatible.ensures.compatible in
    let formed : IsWellFormed s.composition = subst (λ p. IsWellFormed (composition p)) c.plan.ensures c.compatible.ensures.formed in
    let step : (i task choice : ℕ) (state : ℕ → List Datum) (action : Named) → outcome_of s.composition i task choice (state i) ≡ Some action → Joint s.composition state action (λ j. applied s.composition j action (state j))
    = subst (λ p. (i task choice : ℕ) (state : ℕ → List Datum) (action : Named) → outcome_of (composition p) i task choice (state i) ≡ Some action → Joint (composition p) state action (λ j. applied (composition p) j action (state j))) c.plan-2.ensures c.turn_is_step.ensures in
    λ turns b is. is_schedule s one formed step turns (after (machine s) (turns_of turns)).state (c.reference_is_complete.ensures.schedule (machine s) b (turns_of turns) c.machine_is_lawful.ensures.lawful is)

pub returns-clause-below : goal.returns-clause-below
returns-clause-below g c =
    let s = system g.T.Turns.turn_of c.args.setup.now in
    let reference = returns-clause-reference g c in
    λ turns b within are. reference turns b (subst (IsReference (machine s) b) (sym are) (c.reference_is_complete.ensures.exists (machine s) b c.machine_is_lawful.ensures.lawful within))
