use Rattle.std.proofs.Common.{◌∙◌, ◌++◌, ap, sym, map, true, refl, arith}
use Rattle.ioa_tokens.specs.Tokens.{toks_of}
use Rattle.ioa_trees.specs.Nodes.{source}
use Rattle.ioa_trees.specs.Grammar.{outside, whole}
use Rattle.ioa_phrases.specs.Machine.{Bottom, In, At, go}
use Rattle.ioa_phrases.specs.Blocks.{definition_item}
use Rattle.ioa_phrases.proofs.Rows.{some_push}
use Rattle.ioa_phrases.proofs.source.read_some_types.Goals as goal

pub loop-after-preserved : goal.loop-after-preserved
loop-after-preserved c =
    let all = c.loop-after.all.items in
    let left = toks_of c.in_ok-next.after.now in
    record {
      reads = λ done.
          let so = done ++ map definition_item all in
          c.loop-after.invariant.reads done
          ∙ (ap (λ z. go true (At source so whole Bottom) z) c.in-Some.ensures.cases
          ∙ (c.in_ok-next.ensures.gives (In source so whole outside Bottom) refl refl
          ∙ ap (λ z. go true (At source z whole Bottom) left)
          (some_push definition_item done all c.in_ok-next.next ∙ ap (λ z. done ++ map definition_item z) (sym c.in_ok-push-2.ensures.items))));
      shorter = omega (arith, c.loop-after.invariant.shorter, c.in-Some.ensures.shorter, c.in_ok-next.ensures.shorter);
    }
