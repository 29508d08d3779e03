use Rattle.std.proofs.Common.{refl}
use Rattle.virtual_time.specs.Exchange.Calls.{start_shared}
use Rattle.virtual_time.specs.Exchange.Wholes.{put_lease}
use Rattle.virtual_time.proofs.Exchange.Called.{calls_kept, start_is_shared}
use Rattle.virtual_time.proofs.Exchange.Quiet.{calls_quiet, start_quiet}
use Rattle.virtual_time.proofs.Exchange.Exists.{meet_exists}
use Rattle.virtual_time.proofs.Exchange.Extras.{meet_start}
use Rattle.virtual_time.proofs.exchanges.meeting_exists.Goals as goal

pub returns-clause-met : goal.returns-clause-met
returns-clause-met g c machine count i exchange lease law counted is mine match quiet still = meet_exists machine law count counted i exchange is lease mine match quiet still

pub returns-clause-first : goal.returns-clause-first
returns-clause-first g c machine i law = meet_start machine law i

pub returns-clause-always : goal.returns-clause-always
returns-clause-always g c machine count i calls shared law counted h =
    let is = calls_kept machine law count counted calls (start_shared machine) shared (start_is_shared machine law count) h in
    let q = calls_quiet machine law count counted calls (start_shared machine) shared (start_quiet machine law count counted) h in
    let r = meet_exists machine law count counted i shared.exchange is.sound (shared.lease i) (is.leases i) (is.match i) q.inbox (q.bag i) in
    (record { exchange = r.0; lease = put_lease i r.1 shared.lease }, (r.0, r.1, r.2, refl))
