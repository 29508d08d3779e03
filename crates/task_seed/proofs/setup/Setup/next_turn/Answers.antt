use Rattle.std.proofs.Common.{ℕ, ◌<◌, ◌∙◌, Option, IfSome, ap, sym, subst}
use Rattle.std.specs.Prelude.{option_map}
use Rattle.task_seed.specs.declared.turns.Timed.{Timed}
use Rattle.task_seed.specs.Turning.{key_at}
use Rattle.task_seed.specs.Setups.{system}
use Rattle.task_seed.specs.Ticks.{key_after, few_after}
use Rattle.task_seed.proofs.Walking.{mapped, some_mapped}
use Rattle.task_seed.proofs.setup.Setup.next_turn.Goals as goal

pub returns-clause-key : goal.returns-clause-key
returns-clause-key g c =
    sym (mapped (key_at c.args.i c.args.n) (λ (timed : Timed). timed.tick) c.walk_after.result)
    ∙ ap (option_map (key_at c.args.i c.args.n)) c.walk_after.ensures.value
    ∙ key_after (system g.T.Turns.turn_of c.args.self.now) c.args.i c.args.n c.args.tick c.requires

pub returns-clause-bounded : goal.returns-clause-bounded
returns-clause-bounded g c =
    some_mapped (c.args.n < 4294967296) (λ (timed : Timed). timed.tick) c.walk_after.result
    (subst (λ (o : Option ℕ). IfSome o (λ _. c.args.n < 4294967296)) (sym c.walk_after.ensures.value)
    (few_after (system g.T.Turns.turn_of c.args.self.now) c.args.i c.args.n c.args.tick))
