use Rattle.std.proofs.Common.{ap, subst}
use Rattle.event_keys.specs.Ranks.{rank_of_bound}
use Rattle.virtual_time.proofs.Cutting.{next_cut}
use Rattle.virtual_time.specs.Machine.{Lawful}
use Rattle.rollback.specs.ComponentView.{machine_of, next_key}
use Rattle.groups.proofs.dropping.drop_one.Goals as goal

pub returns-clause-next : goal.returns-clause-next
returns-clause-next g c =
    let t = g.T.Turns.turn_of in
    let d = c.args.component.now in
    let m = machine_of t d.setup in
    let law : Lawful m = subst (λ p. Lawful (machine_of t p)) c.setup.ensures c.machine_is_lawful.ensures.lawful in
    ap (next_key m) (next_cut m law d.number (rank_of_bound c.args.bound) d.history)
