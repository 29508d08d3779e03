use Rattle.std.proofs.Common.{rules, ◌≡◌, ◌+◌, ◌-◌, None, Some, refl, sym, ◌∙◌, subst, arith}
use Rattle.task_seed.specs.Clocks.{Reaching}
use Rattle.task_seed.specs.Setups.{system}
use Rattle.task_seed.specs.Ticks.{no_later_key}
use Rattle.task_seed.specs.Turning.{key_of}
use Rattle.task_seed.proofs.Looking.{number_is}
use Rattle.task_seed.proofs.Reaching.{reaches_alike, reaches_idle}
use Rattle.task_seed.proofs.clock.Clock.reach.Goals as goal

pub returns-then-not-is_due-clause-ok : goal.returns-then-not-is_due-clause-ok
returns-then-not-is_due-clause-ok g c =
    reaches_idle g.T.Turns.turn_of c.args.setup.now c.args.self.now.component c.args.self.now c.args.self.now c.args.n c.if-n-eq0.false (λ own. own) refl refl (sym c.is_due.ensures ∙ c.if-not-is_due.true)

pub returns-in-None-clause-ok : goal.returns-in-None-clause-ok
returns-in-None-clause-ok g c =
    let s = system g.T.Turns.turn_of c.args.setup.now in
    let i = c.args.self.now.component in
    let before : None ≡ key_of s i (c.args.n - 1) = search rules in
    let none : None ≡ key_of s i c.args.n = sym (no_later_key s i (c.args.n - 1) c.args.n (omega arith) before) in
    reaches_alike g.T.Turns.turn_of c.args.setup.now i c.args.self.now c.args.self.now c.args.n c.if-n-eq0.false (λ own. own) refl refl (λ last one kept multiple. none)

pub returns-in_ok-reach_after-in-Some-clause-ok : goal.returns-in_ok-reach_after-in-Some-clause-ok
returns-in_ok-reach_after-in-Some-clause-ok g c =
    let s = system g.T.Turns.turn_of c.args.setup.now in
    let i = c.args.self.now.component in
    let key = c.in-Some.key in
    let there : Some key ≡ key_of s i (c.args.n - 1) = search rules in
    let number = number_is s i (c.args.n - 1) key there in
    let some = c.if-n-eq0.false in
    let next : key.number + 1 ≡ c.args.n = omega (arith, number, some) in
    subst (λ n. Reaching g.T.Turns.turn_of c.args.setup.now i c.args.self.now n c.reach_after.new.self) next c.in_ok-reach_after-in-Some.ensures.ok
