use Rattle.std.proofs.Common.{◌≡◌, ◌<◌, ◌^◌, [], map, length, sym, ap, refl, subst, ◌∙◌}
use Rattle.io_automata.specs.Automata.{with_formals}
use Rattle.plans.specs.Plans.{text_of}
use Rattle.ioa_check.specs.Resolutions.{meaning}
use Rattle.compose.specs.Names.{IsRising}
use Rattle.compose.specs.Tables.{converted, table}
use Rattle.compose.proofs.PlacedComponents.{composition_is}
use Rattle.compose.proofs.Whole.{are_names, few_names, first_types_are}
use Rattle.compose.proofs.instances.parts.parts_of.Goals as goal

pub automata-requires : goal.automata-requires
automata-requires c =
    let t = c.in_ok-table.table in
    let xs = c.in_ok-actions.actions.items in
    let few : length xs < 2 ^ 16 = few_names (meaning c.args.resolved) (table t.names) t.used.items xs (2 ^ 16) c.in_ok-table.ensures c.in_ok-actions.ensures.signatures c.requires.few_entries in
    record {
      few = subst (λ l. length l < 2 ^ 16) (sym c.as_slice-names.ensures.value) few;
      rising = subst (λ l. IsRising (map text_of l)) (sym c.as_slice-names.ensures.value) c.in_ok-actions.ensures.rising;
      few_tasks = c.requires.few;
    }

pub returns : goal.returns
returns c =
    let t = c.in_ok-table.table in
    let xs = c.in_ok-actions.actions.items in
    let m = meaning c.args.resolved in
    let made : map (with_formals []) c.in_ok-automata.automata.items ≡ converted (map text_of xs) t.used.items 0 m.automata =
    c.in_ok-automata.ensures ∙ ap (λ l. converted (map text_of l) c.as_slice-used.result.now 0 m.automata) c.as_slice-names.ensures.value ∙ ap (λ l. converted (map text_of xs) l 0 m.automata) c.as_slice-used.ensures.value in
    record {
      names = are_names m (table t.names) t.used.items xs c.in_ok-table.ensures c.in_ok-actions.ensures.signatures c.in_ok-actions.ensures.rising;
      composition = composition_is (map text_of xs) m.automata m.components t.used.items c.in_ok-automata.automata.items c.in_ok-components.components.items (length m.automata) made c.in_ok-components.ensures refl c.in_ok-table.ensures.marked;
      types = first_types_are m (table t.names) t.used.items xs c.in_ok-table.ensures c.in_ok-actions.ensures.signatures c.in_ok-actions.ensures.rising;
      marks = c.in_ok-actions.ensures.marks;
      members = refl;
    }
