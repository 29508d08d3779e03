use Rattle.std.proofs.Common.{true, false, subst}
use Rattle.std.proofs.lemmas.Grind.{merely}
use Rattle.io_automata.specs.Automata.{composed}
use Rattle.patterns.specs.Patterns.{IsIndexed}
use Rattle.plans.specs.Known.{AreKnown}
use Rattle.plans.proofs.plan.Plan.new.Goals as goal

pub invariant_of-result : goal.invariant_of-result
invariant_of-result c =
    let automata = c.args.automata.items in
    let components = c.args.components.items in
    let index = c.in_ok-index.index.value in
    let entries = c.in_ok-entries.entries.value in
    let indexed = subst (λ list. IsIndexed false index (composed automata list)) c.as_slice-2.ensures.value (subst (λ list. IsIndexed false index (composed list c.as_slice-2.result.now)) c.as_slice.ensures.value c.in_ok-index.ensures) in
    let entered = subst (λ list. IsIndexed true entries (composed automata list)) c.as_slice-4.ensures.value (subst (λ list. IsIndexed true entries (composed list c.as_slice-4.result.now)) c.as_slice-3.ensures.value c.in_ok-entries.ensures) in
    let known = subst (λ list. AreKnown list c.in_ok-known.known.items) c.as_slice-5.ensures.value c.in_ok-known.ensures in
    record { few = c.requires.few; compatible = c.requires.compatible; formed = c.requires.formed; known_all = known; indexed = merely indexed; entered = merely entered }
