use Rattle.std.specs.Prelude.{[], ◌∷◌}
use Rattle.virtual_time.specs.Inverses.{meets_of}
use Rattle.virtual_time.specs.Worlds.{Commit}
use Rattle.virtual_time.specs.Groups.Leases.{alone}
use Rattle.virtual_time.proofs.Tied.{reaches}
use Rattle.virtual_time.proofs.Groups.Alone.{alone_walks}
use Rattle.virtual_time.proofs.Groups.Runs.{does_whole}
use Rattle.virtual_time.proofs.Groups.Starts.{start_whole}
use Rattle.virtual_time.proofs.Groups.Wholes.{commit_leads, meet_whole}
use Rattle.virtual_time.proofs.grouped.group_exchange_is_core.Goals as goal

pub returns-clause-commit : goal.returns-clause-commit
returns-clause-commit g c machine group count e e' ls w law is leases match whole isw ic =
    let r = commit_leads machine law group e is ls leases match w whole e' isw ic in (r.0, reaches machine w (Commit e'.bound ∷ []) r.0 r.1, r.2)

pub returns-clause-meet : goal.returns-clause-meet
returns-clause-meet g c machine group n e e' ls l' w law lease whole met =
    let r = meet_whole machine law group n e ls lease w whole e' l' met in (r.0, reaches machine w (meets_of met.gone) r.0 r.1, r.2)

pub returns-clause-alone : goal.returns-clause-alone
returns-clause-alone g c machine group count n e ls ss u w law is lease match whole isw does =
    let r = does_whole machine law group n e is ls lease match w whole isw ss u (alone_walks machine group n (alone machine group n (ls n)) ss u does) in
    (r.0, reaches machine w ss r.0 r.1, r.2)

pub returns-clause-start : goal.returns-clause-start
returns-clause-start g c machine group count law counted = start_whole machine law group count counted
