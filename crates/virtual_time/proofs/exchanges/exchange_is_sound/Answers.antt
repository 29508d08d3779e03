use Rattle.virtual_time.proofs.Exchange.Extras.{net_taken}
use Rattle.std.proofs.Common.{subst, sym}
use Rattle.virtual_time.specs.Exchange.Stubs.{IsSound}
use Rattle.virtual_time.specs.Exchange.Leases.{alone}
use Rattle.virtual_time.proofs.Tied.{alone_walks}
use Rattle.virtual_time.proofs.Exchange.Chunks.{start_sound, start_lease_is, start_matches, chunk_sound}
use Rattle.virtual_time.proofs.Exchange.Committed.{commit_sound}
use Rattle.virtual_time.proofs.Exchange.Meetings.{meet_sound, lease_new}
use Rattle.virtual_time.proofs.Refs.{ref_is}
use Rattle.virtual_time.proofs.Exchange.Runs.{does_lease}
use Rattle.virtual_time.proofs.exchanges.exchange_is_sound.Goals as goal

pub returns-clause-start : goal.returns-clause-start
returns-clause-start g c machine count law = (start_sound machine law count, λ i. (start_lease_is machine law i, start_matches machine law i))

pub returns-clause-commit : goal.returns-clause-commit
returns-clause-commit g c machine count e e' law is co =
    let up = co.most e.bound (record { end = is.end; floor = is.floor; plus = is.plus; minus = is.minus }) in
    subst (IsSound machine count) (sym co.rest) (commit_sound machine law e is e'.bound up co.clear)

pub returns-clause-meet : goal.returns-clause-meet
returns-clause-meet g c machine count i e e' l l' law is lease match met = (meet_sound machine law i e is l lease match e' l' met, lease_new machine law i e is l lease match e' l' met)

pub returns-clause-chunk : goal.returns-clause-chunk
returns-clause-chunk g c machine count e e' b ts law counted is ch = chunk_sound machine law count counted e b e' ts is ch

pub returns-clause-alone : goal.returns-clause-alone
returns-clause-alone g c machine i e l ss v law lease match does = does_lease machine law i (e.stub i) l lease match ss v (alone_walks machine i (alone machine i l) ss v does)

pub returns-clause-reference : goal.returns-clause-reference
returns-clause-reference g c machine b law l = ref_is machine law b l

pub returns-clause-net : goal.returns-clause-net
returns-clause-net g c machine count i k action exchange lease law is match l = net_taken machine law i exchange lease is match k action l
