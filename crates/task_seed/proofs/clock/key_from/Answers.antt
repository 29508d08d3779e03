use Rattle.std.proofs.Common.{rules, ◌≡◌, ◌+◌, None, sym, ◌∙◌, arith}
use Rattle.task_seed.specs.Setups.{system}
use Rattle.task_seed.specs.Ticks.{no_later_key}
use Rattle.task_seed.specs.Turning.{key_of}
use Rattle.task_seed.proofs.clock.key_from.Goals as goal

pub returns-in_err-key-clause-value : goal.returns-in_err-key-clause-value
returns-in_err-key-clause-value g c =
    let s = system g.T.Turns.turn_of c.args.setup.now in
    let last : c.from_residual.result ≡ None = search rules in
    let none : None ≡ key_of s c.args.from.component (c.loop-key.key.number + 1) = search rules in
    last ∙ sym (no_later_key s c.args.from.component (c.loop-key.key.number + 1) c.args.n (omega (arith, c.loop-key-test.true)) none)
