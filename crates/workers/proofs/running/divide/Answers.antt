use Rattle.std.proofs.Common.{ap, subst, ◌∙◌}
use Rattle.std.specs.Prelude.{map}
use Rattle.std.specs.Arc.{arc_value}
use Rattle.boards.specs.Passes.{AreOwners, IsReader}
use Rattle.partitions.specs.Groups.{group_count, groups_of}
use Rattle.group_exchange.specs.ExchangeView.{ExchangeView, without_inbox}
use Rattle.task_seed.specs.declared.setup.Setup.{Setup}
use Rattle.workers.specs.declared.desk.Desk.{Desk}
use Rattle.workers.specs.Crews.{division}
use Rattle.workers.proofs.Held.{start_held}
use Rattle.workers.proofs.running.divide.Goals as goal

pub returns-clause-start : goal.returns-clause-start
returns-clause-start g c =
    let T = g.row.T.Denot in
    let own = arc_value c.in_ok-own.own in
    let groups = groups_of c.in_ok-partition.field-0.partition in
    let e = c.in_ok-exchange.exchange in
    let told = c.in_ok-exchange.ensures in
    let made = c.in_ok-made.made in
    let owners = subst (λ (v : Desk T). AreOwners made.board (division v.exchange) (map without_inbox v.exchange.stubs) made.passes.items) c.in_ok-desk.ensures.ok c.in_ok-made.ensures.owners in
    let reader = subst (λ (v : Desk T). IsReader made.board (division v.exchange) made.reader) c.in_ok-desk.ensures.ok c.in_ok-made.ensures.reader in
    record {
      held = start_held g.T.Turns.turn_of own groups e c.in_ok-exchange.leases.items made.board made.passes.items (division e) (group_count c.in_ok-partition.field-0.partition) c.args.job.window (ap division told.exchange) told.window told.leases told.start owners;
      division = division e;
      setup_is = ap (λ (x : ExchangeView (Setup T)). x.setup) told.exchange ∙ c.in_ok-own.ensures;
      reader = reader;
    }
