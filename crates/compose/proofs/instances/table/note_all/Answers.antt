use Rattle.std.proofs.Common.{arith, Some, map, ◌∷◌, [], subst}
use Rattle.ioa_typing.specs.KindViews.{option_tree}
use Rattle.ioa_check.specs.Resolutions.{transition_meaning}
use Rattle.compose.specs.Names.{signature_of}
use Rattle.compose.specs.Tables.{Adds, table}
use Rattle.compose.proofs.FirstTypes.{adds_more, adds_none}
use Rattle.compose.proofs.instances.table.note_all.Goals as goal

pub loop-transition-init : goal.loop-transition-init
loop-transition-init c = record { adds = adds_none (table c.args.names.now); few = omega arith }

pub loop-transition-preserved : goal.loop-transition-preserved
loop-transition-preserved c =
    let l = c.loop-transition in
    let more = c.in_ok-note.ensures.few in
    let before = l.invariant.few in
    let adds = subst (λ fs. Adds (table c.note.new.names) (table l.names) (signature_of (map (λ k. option_tree (Some k)) fs) (transition_meaning c.transition-item.result) ∷ [])) c.as_slice.ensures.value c.in_ok-note.ensures.adds in
    record {
      adds = adds_more (signature_of (map (λ k. option_tree (Some k)) c.args.automaton.now.formals.items)) transition_meaning c.deref-transition-items.result.now l.transition-index c.transition-item.result (table c.note.new.names) (table l.names) (table c.args.names.now) c.transition-item.is c.loop-transition-test.true l.invariant.adds adds;
      few = omega (arith, more, before);
    }
