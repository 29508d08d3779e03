use Rattle.std.proofs.Common.{arith, sym, subst}
use Rattle.virtual_time.specs.Exchange.Windows.{IsExchangeWithin}
use Rattle.virtual_time.proofs.Exchange.WindowKept.{calls_within, start_windowed}
use Rattle.virtual_time.proofs.Exchange.Windowed.{start_within, start_lease_within, meet_within, meet_lease, process_within, message_turns, antimessage_turns, settled_inputs, inboxes_few}
use Rattle.virtual_time.proofs.exchanges.window_law.Goals as goal

pub returns-clause-start : goal.returns-clause-start
returns-clause-start g c machine v count law = (start_within machine law v count, λ i. start_lease_within machine law v count i)

pub returns-clause-commit : goal.returns-clause-commit
returns-clause-commit g c machine v count e e' within commit =
    subst (λ d. IsExchangeWithin machine v count d) (sym commit.rest) (record { stubs = within.stubs; apart = within.apart })

pub returns-clause-chunk : goal.returns-clause-chunk
returns-clause-chunk g c machine v count b e e' ts within chunk =
    subst (λ d. IsExchangeWithin machine v count d) (sym chunk.rest) (record { stubs = within.stubs; apart = within.apart })

pub returns-clause-meet : goal.returns-clause-meet
returns-clause-meet g c machine v count i e e' l l' law is lease match met low within mine =
    (meet_within machine law v count i e is l lease match e' l' met low within mine, meet_lease machine law v count i e is l lease match e' l' met low within mine)

pub returns-clause-process : goal.returns-clause-process
returns-clause-process g c machine v count i entry r law h room within = process_within machine law v count i entry r h room within

pub returns-clause-message : goal.returns-clause-message
returns-clause-message g c machine x r law = message_turns machine law x r

pub returns-clause-antimessage : goal.returns-clause-antimessage
returns-clause-antimessage g c machine x r law = antimessage_turns machine law x r

pub returns-clause-settled : goal.returns-clause-settled
returns-clause-settled g c machine v count i e l law within lease match np nm turns =
    record { turns = turns; inputs = settled_inputs machine law v count i (e.stub i) l lease match (within.stubs i) np nm }

pub returns-clause-inboxes : goal.returns-clause-inboxes
returns-clause-inboxes g c machine v count e law is within = inboxes_few machine law v count e is within count (omega arith)

pub returns-clause-first : goal.returns-clause-first
returns-clause-first g c machine v count law = start_windowed machine law v count

pub returns-clause-calls : goal.returns-clause-calls
returns-clause-calls g c machine v count calls u w law counted is h = calls_within machine law v count counted calls u w is h
