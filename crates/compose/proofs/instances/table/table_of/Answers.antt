use Rattle.std.proofs.Common.{map, take, ap, sym, subst, ◌∙◌}
use Rattle.ioa_check.specs.Resolutions.{automaton_meaning, component_meaning}
use Rattle.compose.specs.Tables.{IsTable, table}
use Rattle.compose.proofs.Grown.{map_end, taken}
use Rattle.compose.proofs.instances.table.table_of.Goals as goal

pub loop-component-preserved : goal.loop-component-preserved
loop-component-preserved c =
    let l = c.loop-component in
    let x = c.component-item.result in
    let more = ap (map component_meaning) (taken c.args.components.now l.component-index x c.component-item.is c.loop-component-test.true) ∙ map_end component_meaning (take l.component-index c.args.components.now) x in
    subst (λ seen. IsTable (map automaton_meaning c.args.automata.now) seen (table c.visit.new.names) c.visit.new.used.items) (sym more)
    (c.in_ok-visit.ensures (map component_meaning (take l.component-index c.args.components.now)) l.invariant)
