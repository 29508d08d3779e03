use Rattle.std.proofs.Common.{◌∙◌, map, sym}
use Rattle.std.specs.List.{list_any}
use Rattle.io_automata.specs.Automata.{transition_of}
use Rattle.senders.specs.Meeting.{may_give}
use Rattle.senders.proofs.Sending.{reach_is}
use Rattle.senders.proofs.senders.gives_any.Goals as goal

pub returns : goal.returns
returns c =
    let formals = c.formals-formals.ensures in
    let entries = c.entries-entries.ensures in
    let others = c.args.others.now in
    let inputs = c.args.inputs.now in
    c.may_reach.ensures
    ∙ reach_is c.formals-formals.result.now others inputs c.entries-entries.result.now
    ∙ (λ k. list_any (may_give (sym formals k) others (map transition_of inputs)) (sym entries k))
