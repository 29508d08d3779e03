use Rattle.std.proofs.Common.{◌≡◌, ◌∙◌, sym, rules}
use Rattle.event_keys.specs.contracts.entry.EntryOrd.TheImpl as ord
use Rattle.event_keys.specs.Orders.{entry_order}
use Rattle.event_keys.specs.Apart.{entry_apart}
use Rattle.event_keys.proofs.laws.entry_law.Goals as goal

pub returns-clause-same : goal.returns-clause-same
returns-clause-same c h =
    let order : ord.ghosts.cmp c.args.a.now c.args.b.now ≡ entry_order c.args.a.now c.args.b.now = search rules in
    entry_apart c.args.a.now c.args.b.now (sym order ∙ h)
