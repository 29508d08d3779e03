use Rattle.std.proofs.Common.{◌≡◌, ◌+◌, ◌∷◌, ◌++◌, [], Bool, Some, true, false, ap, sym, ◌∙◌, subst, arith}
use Rattle.task_seed.specs.Clocks.{is_due}
use Rattle.task_seed.specs.declared.clock.Clock.{Clock}
use Rattle.task_seed.specs.Setups.{system}
use Rattle.task_seed.specs.Turning.{key_of}
use Rattle.task_seed.proofs.Looking.{number_is}
use Rattle.task_seed.proofs.Reaching.{reaches_idle, reaches_kept}
use Rattle.task_seed.proofs.clock.Clock.move_on.Goals as goal

pub returns-then-is_due-clause-reaching : goal.returns-then-is_due-clause-reaching
returns-then-is_due-clause-reaching g c =
    let t = g.T.Turns.turn_of in let setup = c.args.setup.now in
    let old = c.args.self.now in let n = c.args.key.number + 1 in let next = c.in_ok-next.next in
    let new : Clock = record { component = c.read_on.new.self.component; tasks = c.read_on.new.self.tasks; ticks = c.push_reserved.new.self; read = c.read_on.new.self.read; walk = c.read_on.new.self.walk } in
    let there : Some next ≡ key_of (system t setup) old.component n = c.in_ok-next.ensures.key in
    let ticks = ap (λ v. v.items) c.read_on.ensures.ticks in
    let due : is_due old.ticks.items n ≡ true
    = subst (λ m. is_due old.ticks.items m ≡ true) (number_is (system t setup) old.component n next there)
    (subst (λ l. is_due l next.number ≡ true) ticks (◌∙◌ {A = Bool} (sym c.is_due.ensures) c.if-is_due.true)) in
    reaches_kept t setup old.component old new n next (λ zero. omega (arith, zero))
    (λ own. let is = c.read_on.ensures.own own in record { component = is.component; read = is.read }) c.read_on.ensures.kept there due
    (c.push_reserved.ensures.items ∙ ap (λ l. l ++ next.tick ∷ []) ticks)

pub returns-else-is_due-clause-reaching : goal.returns-else-is_due-clause-reaching
returns-else-is_due-clause-reaching g c =
    let t = g.T.Turns.turn_of in let setup = c.args.setup.now in
    let old = c.args.self.now in let n = c.args.key.number + 1 in let next = c.in_ok-next.next in
    let there : Some next ≡ key_of (system t setup) old.component n = c.in_ok-next.ensures.key in
    let ticks = ap (λ v. v.items) c.read_on.ensures.ticks in
    let idle : is_due old.ticks.items n ≡ false
    = subst (λ m. is_due old.ticks.items m ≡ false) (number_is (system t setup) old.component n next there)
    (subst (λ l. is_due l next.number ≡ false) ticks (◌∙◌ {A = Bool} (sym c.is_due.ensures) c.if-is_due.false)) in
    reaches_idle t setup old.component old c.read_on.new.self n (λ zero. omega (arith, zero)) c.read_on.ensures.own c.read_on.ensures.kept ticks idle
