use Rattle.std.proofs.Common.{◌∙◌, ◌∷◌, ◌++◌, [], ap, sym, true, refl, arith, length}
use Rattle.ioa_tokens.specs.declared.Word.TheVariants as w
use Rattle.ioa_tokens.specs.Tokens.{toks_of}
use Rattle.ioa_trees.specs.Nodes.{source, component_part}
use Rattle.ioa_trees.specs.Grammar.{many, outside}
use Rattle.ioa_phrases.specs.Machine.{Bottom, In, At, at, go}
use Rattle.ioa_trees.specs.Spelling.{key}
use Rattle.ioa_phrases.specs.Items.{listed}
use Rattle.ioa_phrases.specs.Blocks.{component_item, component_part_item, hidden_parts}
use Rattle.ioa_phrases.proofs.Moves.{no_component_part}
use Rattle.ioa_phrases.proofs.Joins.{components_made, components_push}
use Rattle.ioa_phrases.proofs.source.read_components.Goals as goal

pub returns-clause-goes : goal.returns-clause-goes
returns-clause-goes c = λ done.
    let all = c.loop-after.all.items in
    let left = toks_of c.loop-after.rest.now in
    let so = done ++ (key w.Components ∷ listed component_item component_part_item all) in
    c.loop-after.invariant.reads done
    ∙ (no_component_part source so outside hidden_parts Bottom left c.in_default.ensures.cases
    ∙ ap (λ z. go true (at source (done ++ (key w.Components ∷ z)) hidden_parts Bottom) left) (sym (components_made all)))

pub loop-after-preserved : goal.loop-after-preserved
loop-after-preserved c =
    let all = c.loop-after.all.items in
    let left = toks_of c.in_ok-next.after.now in
    record {
      reads = λ done.
          let so = done ++ (key w.Components ∷ listed component_item component_part_item all) in
          c.loop-after.invariant.reads done
          ∙ (ap (λ z. go true (At source so (many component_part outside ∷ hidden_parts) Bottom) z) c.in-Some.ensures.cases
          ∙ (c.in_ok-next.ensures.gives (In component_part (key w.Semicolon ∷ []) [] outside (In source so (many component_part outside ∷ hidden_parts) outside Bottom)) refl refl
          ∙ ap (λ z. go true (At source z (many component_part outside ∷ hidden_parts) Bottom) left)
          (components_push done all c.in_ok-next.next c.loop-after.invariant.some ∙ ap (λ z. done ++ (key w.Components ∷ listed component_item component_part_item z)) (sym c.in_ok-push-2.ensures.items))));
      some = omega (arith, c.loop-after.invariant.some, ap (λ z. length z) c.in_ok-push-2.ensures.items);
      shorter = omega (arith, c.loop-after.invariant.shorter, c.in-Some.ensures.shorter, c.in_ok-next.ensures.shorter);
    }
