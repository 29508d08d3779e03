use Rattle.std.proofs.Common.{◌≡◌, ◌+◌, ◌++◌, ◌∷◌, List, Some, ap, drop, map, string_bytes, subst}
use Rattle.ioa_check.specs.Resolutions.{automaton_meaning, transition_meaning}
use Rattle.ioa_check.specs.declared.resolved.Transition.{Transition}
use Rattle.ioa_entries.specs.EntryViews.{slot_tree}
use Rattle.ioa_typing.specs.KindViews.{option_tree}
use Rattle.ioa_typing.specs.declared.kind.Kind.{Kind}
use Rattle.compose.specs.Types.{slot_kind}
use Rattle.compose.specs.TypedStandings.{Stood, stood, stood_in}
use Rattle.compose.proofs.Steps.{drop_at, push_step}
use Rattle.compose.proofs.action_types.standing.add_standings.Goals as goal

pub loop-entry-preserved : goal.loop-entry-preserved
loop-entry-preserved c =
    let a = automaton_meaning c.args.automaton.now in
    let e = c.entry-item.result in
    let own = λ (fs : List Kind). let s : Stood = record {
      component = c.args.component;
      name = string_bytes e.name;
      kinds = map (slot_kind (map (λ k. option_tree (Some k)) fs)) (map (λ p. slot_tree (Some p)) e.parameters.items);
    } in s in
    push_step stood c.loop-entry.standings.items c.push.new.self.items _ (stood_in c.args.component a (transition_meaning e)) _ _ c.in_ok-push.ensures.items (ap own c.as_slice-formals.ensures.value)
    (subst (λ (ts : List Transition). map stood c.loop-entry.standings.items ++ map (stood_in c.args.component a) (map transition_meaning ts) ≡ map stood c.args.standings.now.items ++ map (stood_in c.args.component a) (map transition_meaning c.args.automaton.now.transitions.items))
    (subst (λ (ts : List Transition). drop c.loop-entry.entry-index ts ≡ e ∷ drop (c.loop-entry.entry-index + 1) ts) c.deref-entry-items.ensures.value (drop_at c.deref-entry-items.result.now c.loop-entry.entry-index e c.entry-item.is c.loop-entry-test.true))
    c.loop-entry.invariant)
