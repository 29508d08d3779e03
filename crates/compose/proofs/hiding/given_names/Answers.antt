use Rattle.std.proofs.Common.{map, take, ap, sym, subst, ◌∙◌, length}
use Rattle.ioa_check.specs.AutomatonViews.{used_names}
use Rattle.ioa_check.specs.Resolutions.{automaton_meaning, component_meaning}
use Rattle.compose.specs.Tables.{mark_at}
use Rattle.compose.proofs.Grown.{map_end, taken}
use Rattle.compose.proofs.Marks.{none_marked}
use Rattle.compose.specs.Outputs.{AreGiven}
use Rattle.compose.proofs.Outputs.{none_given}
use Rattle.compose.proofs.hiding.given_names.Goals as goal

pub loop-component-init : goal.loop-component-init
loop-component-init c =
    none_given (map automaton_meaning c.args.automata.now) (used_names c.new-given.result) c.in_ok-visited.visited.items c.new-given.ensures
    (λ n. ap (λ ms. mark_at ms n) c.in_ok-visited.ensures ∙ none_marked (length c.args.automata.now) n)

pub loop-component-preserved : goal.loop-component-preserved
loop-component-preserved c =
    let l = c.loop-component in
    let x = c.component-item.result in
    let more = ap (map component_meaning) (taken c.args.components.now l.component-index x c.component-item.is c.loop-component-test.true) ∙ map_end component_meaning (take l.component-index c.args.components.now) x in
    subst (λ seen. AreGiven (map automaton_meaning c.args.automata.now) seen (used_names c.visit.new.given) c.visit.new.visited.items) (sym more)
    (c.in_ok-visit.ensures (map component_meaning (take l.component-index c.args.components.now)) l.invariant)
