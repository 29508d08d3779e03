use Rattle.std.proofs.Common.{ℕ, ◌≤◌, length, refl, ap, sym, subst, ◌∙◌}
use Rattle.std.specs.Prelude.{replicate}
use Rattle.plans.specs.Plans.{composition}
use Rattle.task_seed.specs.Setups.{system}
use Rattle.task_seed.specs.Machines.{machine, end_rank}
use Rattle.reference.specs.Clocks.{AreClocks}
use Rattle.reference.specs.Queues.{least_rank}
use Rattle.virtual_time.specs.Reference.{point}
use Rattle.reference.proofs.Lined.{none_before}
use Rattle.reference.proofs.Stepping.{least_end}
use Rattle.reference.proofs.line.Line.start.Goals as goal

pub returns-clause-lined : goal.returns-clause-lined
returns-clause-lined g c =
    let s = system g.T.Turns.turn_of c.args.setup.now in
    let law = c.machine_is_lawful.ensures.lawful in
    let places = c.in_ok-places.places.items in
    let numbers = c.in_ok-numbers.numbers.items in
    let many = c.components.ensures ∙ ap (λ p. length (composition p)) c.plan.ensures in
    let zeros = c.in_ok-numbers.ensures ∙ ap (λ n. replicate n 0) many in
    let none = none_before s law c.machine_is_lawful.ensures.counted (λ b h. c.reference_is_complete.ensures.exists (machine s) b law h) (c.reference_is_one.ensures.same (machine s)) places numbers (c.in_ok-places.ensures (length s.composition) refl) zeros in
    record {
      queue = none.1;
      clocks = subst (λ l. AreClocks g.T.Turns.turn_of c.args.setup.now l c.in_ok-clocks.clocks.clocks.items) (sym c.in_ok-numbers.ensures) (c.in_ok-clocks.ensures c.components.result);
    }

pub returns-clause-none : goal.returns-clause-none
returns-clause-none g c =
    let s = system g.T.Turns.turn_of c.args.setup.now in
    let law = c.machine_is_lawful.ensures.lawful in
    let places = c.in_ok-places.places.items in
    let numbers = c.in_ok-numbers.numbers.items in
    let many = c.components.ensures ∙ ap (λ p. length (composition p)) c.plan.ensures in
    let zeros = c.in_ok-numbers.ensures ∙ ap (λ n. replicate n 0) many in
    let none = none_before s law c.machine_is_lawful.ensures.counted (λ b h. c.reference_is_complete.ensures.exists (machine s) b law h) (c.reference_is_one.ensures.same (machine s)) places numbers (c.in_ok-places.ensures (length s.composition) refl) zeros in
    none.0

pub returns-clause-low : goal.returns-clause-low
returns-clause-low g c =
    let s = system g.T.Turns.turn_of c.args.setup.now in
    let law = c.machine_is_lawful.ensures.lawful in
    let places = c.in_ok-places.places.items in
    let numbers = c.in_ok-numbers.numbers.items in
    let many = c.components.ensures ∙ ap (λ p. length (composition p)) c.plan.ensures in
    let zeros = c.in_ok-numbers.ensures ∙ ap (λ n. replicate n 0) many in
    let none = none_before s law c.machine_is_lawful.ensures.counted (λ b h. c.reference_is_complete.ensures.exists (machine s) b law h) (c.reference_is_one.ensures.same (machine s)) places numbers (c.in_ok-places.ensures (length s.composition) refl) zeros in
    least_end s law c.machine_is_lawful.ensures.counted (point (machine s) (least_rank places numbers)) places numbers none.1
