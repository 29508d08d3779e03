use Rattle.std.proofs.Common.{rules, ◌≡◌, ◌/◌, None, ap, sym, ◌∙◌}
use Rattle.std.specs.Prelude.{slice_get}
use Rattle.task_seed.proofs.Keeping.{missed}
use Rattle.task_seed.proofs.Looking.{found_there, key_kept, nothing_kept}
use Rattle.task_seed.proofs.clock.Clock.key.Goals as goal

pub returns-in_err-tick-clause-value : goal.returns-in_err-tick-clause-value
returns-in_err-tick-clause-value g c =
    let last : c.from_residual.result ≡ None = search rules in
    let at = c.args.n / 256 in
    let none = sym (ap (λ ticks. slice_get ticks at) c.deref.ensures.value) ∙ missed c.deref.result.now at c.in_err-tick.ensures.lookup.3 in
    last ∙ sym (nothing_kept g.T.Turns.turn_of c.args.setup.now c.args.self.now c.args.n c.requires none)

pub key_from-requires-clause-there : goal.key_from-requires-clause-there
key_from-requires-clause-there g c κs inside =
    let at = c.args.n / 256 in
    let lookup = c.in_ok-tick.ensures.lookup in
    let found = sym (ap (λ ticks. slice_get ticks at) c.deref.ensures.value) ∙ found_there c.deref.result.now at c.in_ok-tick.field-0.now lookup.3.0 lookup.1 in
    (key_kept g.T.Turns.turn_of c.args.setup.now c.args.self.now c.args.n c.requires c.in_ok-tick.field-0.now found).key

pub key_from-requires-clause-small : goal.key_from-requires-clause-small
key_from-requires-clause-small g c κs inside =
    let at = c.args.n / 256 in
    let lookup = c.in_ok-tick.ensures.lookup in
    let found = sym (ap (λ ticks. slice_get ticks at) c.deref.ensures.value) ∙ found_there c.deref.result.now at c.in_ok-tick.field-0.now lookup.3.0 lookup.1 in
    (key_kept g.T.Turns.turn_of c.args.setup.now c.args.self.now c.args.n c.requires c.in_ok-tick.field-0.now found).few
