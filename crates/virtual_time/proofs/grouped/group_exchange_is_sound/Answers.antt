use Rattle.virtual_time.specs.Groups.Leases.{alone}
use Rattle.virtual_time.proofs.Groups.Alone.{alone_walks, does_lease}
use Rattle.virtual_time.proofs.Groups.Chunks.{chunk_sound}
use Rattle.virtual_time.proofs.Groups.Committed.{commit_sound}
use Rattle.virtual_time.proofs.Groups.Extras.{net_taken}
use Rattle.virtual_time.proofs.Groups.Meetings.{lease_new, meet_sound}
use Rattle.virtual_time.proofs.Groups.Starts.{start_lease_is, start_matches, start_sound}
use Rattle.virtual_time.proofs.grouped.group_exchange_is_sound.Goals as goal

pub returns-clause-start : goal.returns-clause-start
returns-clause-start g c machine group count law counted =
    (start_sound machine law group count counted, λ n. (start_lease_is machine law group count counted n, start_matches machine law group count counted n))

pub returns-clause-commit : goal.returns-clause-commit
returns-clause-commit g c machine group count e e' law is co = commit_sound machine law group e is e' co

pub returns-clause-meet : goal.returns-clause-meet
returns-clause-meet g c machine group count n e e' l l' law is lease match met =
    (meet_sound machine law group n e is l lease match e' l' met, lease_new machine law group n e is l lease match e' l' met)

pub returns-clause-chunk : goal.returns-clause-chunk
returns-clause-chunk g c machine group count e e' b ts law counted is ch = chunk_sound machine law group count counted e b e' ts is ch

pub returns-clause-alone : goal.returns-clause-alone
returns-clause-alone g c machine group n e l ss v law lease match does =
    does_lease machine law group n (e.stub n) l lease match ss v (alone_walks machine group n (alone machine group n l) ss v does)

pub returns-clause-net : goal.returns-clause-net
returns-clause-net g c machine group count n i k action e l law is match own low = net_taken machine law group count n i k action e l is match own low
