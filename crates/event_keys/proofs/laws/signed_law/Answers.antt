use Rattle.std.proofs.Common.{◌≡◌, ◌∙◌, sym, rules}
use Rattle.event_keys.specs.contracts.message.SignedOrd.TheImpl as ord
use Rattle.event_keys.specs.Orders.{signed_order}
use Rattle.event_keys.specs.Apart.{signed_apart}
use Rattle.event_keys.proofs.laws.signed_law.Goals as goal

pub returns-clause-same : goal.returns-clause-same
returns-clause-same c h =
    let order : ord.ghosts.cmp c.args.a.now c.args.b.now ≡ signed_order c.args.a.now c.args.b.now = search rules in
    signed_apart c.args.a.now c.args.b.now (sym order ∙ h)
