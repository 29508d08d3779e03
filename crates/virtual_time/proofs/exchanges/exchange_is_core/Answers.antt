use Rattle.std.proofs.Common.{[], ◌∷◌}
use Rattle.virtual_time.specs.Inverses.{meets_of}
use Rattle.virtual_time.specs.Worlds.{Commit}
use Rattle.virtual_time.proofs.Exchange.Wholes.{commit_leads, meet_whole, start_whole}
use Rattle.virtual_time.proofs.Exchange.Runs.{does_whole}
use Rattle.virtual_time.specs.Exchange.Leases.{alone}
use Rattle.virtual_time.proofs.Tied.{reaches, leads, alone_walks}
use Rattle.virtual_time.proofs.Commits.{run_kept}
use Rattle.virtual_time.proofs.exchanges.exchange_is_core.Goals as goal

pub returns-clause-commit : goal.returns-clause-commit
returns-clause-commit g c machine count e e' ls w law is leases match whole isw ic = let r = commit_leads machine law e e' ls w is leases match whole isw ic in (r.0, reaches machine w (Commit e'.bound ∷ []) r.0 r.1, r.2)

pub returns-clause-meet : goal.returns-clause-meet
returns-clause-meet g c machine i e e' ls l' w law leases whole met = let r = meet_whole machine law i e ls leases w whole e' l' met in (r.0, reaches machine w (meets_of met.gone) r.0 r.1, r.2)

pub returns-clause-alone : goal.returns-clause-alone
returns-clause-alone g c machine count i e ls ss u w law is lease match whole isw does =
    let r = does_whole machine law i e is ls lease match w whole isw ss u (alone_walks machine i (alone machine i (ls i)) ss u does) in
    (r.0, reaches machine w ss r.0 r.1, r.2)

pub returns-clause-start : goal.returns-clause-start
returns-clause-start g c machine law = start_whole machine law

pub returns-clause-world : goal.returns-clause-world
returns-clause-world g c machine steps w v law is h = run_kept machine law steps w v is (leads machine w steps v h)
