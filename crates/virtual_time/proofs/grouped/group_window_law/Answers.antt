use Rattle.std.proofs.Common.{subst, sym}
use Rattle.virtual_time.specs.Groups.Windows.{IsExchangeWithin}
use Rattle.virtual_time.proofs.Groups.WindowKept.{calls_within, start_windowed}
use Rattle.virtual_time.proofs.Groups.Windowed.{inboxes_few, meet_lease, meet_within, settled_inputs, start_within}
use Rattle.virtual_time.proofs.grouped.group_window_law.Goals as goal

pub returns-clause-start : goal.returns-clause-start
returns-clause-start g c machine group v count law = start_within machine law group v count

pub returns-clause-commit : goal.returns-clause-commit
returns-clause-commit g c machine group v count e e' window commit =
    subst (λ d. IsExchangeWithin machine group v count d) (sym commit.rest) (record { stubs = window.stubs; apart = window.apart })

pub returns-clause-chunk : goal.returns-clause-chunk
returns-clause-chunk g c machine group v count b e e' ts window chunk =
    subst (λ d. IsExchangeWithin machine group v count d) (sym chunk.rest) (record { stubs = window.stubs; apart = window.apart })

pub returns-clause-meet : goal.returns-clause-meet
returns-clause-meet g c machine group v count n e e' l l' law inside is lease match met window mine =
    (meet_within machine law group v count n inside e is l lease match e' l' met window mine, meet_lease machine law group v count n inside e is l lease match e' l' met window mine)

pub returns-clause-settled : goal.returns-clause-settled
returns-clause-settled g c machine group v count n i e l law inside window lease match turns own np nm =
    record { turns = turns i own; inputs = settled_inputs machine law group v count n inside (e.stub n) l lease match (window.stubs n) turns i own np nm }

pub returns-clause-inboxes : goal.returns-clause-inboxes
returns-clause-inboxes g c machine group v count e law is window = inboxes_few machine law group v count e is window count

pub returns-clause-first : goal.returns-clause-first
returns-clause-first g c machine group v count law counted = start_windowed machine law group v count counted

pub returns-clause-calls : goal.returns-clause-calls
returns-clause-calls g c machine group v count calls u w law counted is h = calls_within machine law group v count counted calls u w is h
