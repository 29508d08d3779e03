use Rattle.std.proofs.Common.{◌∙◌, ◌∷◌, ◌++◌, ap, sym, map, true, arith}
use Rattle.ioa_tokens.specs.Tokens.{toks_of}
use Rattle.ioa_trees.specs.Nodes.{transition}
use Rattle.ioa_trees.specs.Grammar.{many, outside}
use Rattle.ioa_phrases.specs.Machine.{In, At, go}
use Rattle.ioa_phrases.specs.Lists.{transition_item}
use Rattle.ioa_phrases.proofs.Moves.{low_depth, no_many}
use Rattle.ioa_phrases.proofs.Rows.{many_enters, some_push}
use Rattle.ioa_phrases.proofs.lists.read_transitions.Goals as goal

pub loop-alloc-preserved : goal.loop-alloc-preserved
loop-alloc-preserved c =
    let all = c.loop-alloc.all.items in
    record {
      reads = λ z done ps k d.
          let so = done ++ map transition_item all in
          c.loop-alloc.invariant.reads z done ps k d
          ∙ (many_enters z transition so ps k (toks_of c.loop-alloc.rest.now) (sym c.loop-alloc-test.ensures.transitions) d
          ∙ (c.in_ok-next.ensures.gives (In z so (many transition outside ∷ ps) outside k) d (low_depth 0 k d (omega arith))
          ∙ ap (λ q. go true (At z q (many transition outside ∷ ps) k) (toks_of c.in_ok-next.after.now))
          (some_push transition_item done all c.in_ok-next.next ∙ ap (λ q. done ++ map transition_item q) (sym c.in_ok-push-2.ensures.items))));
      shorter = omega (arith, c.loop-alloc.invariant.shorter, c.in_ok-next.ensures.shorter);
    }

pub returns-clause-gives : goal.returns-clause-gives
returns-clause-gives c = λ z done ps k d.
    c.loop-alloc.invariant.reads z done ps k d
    ∙ no_many z transition (done ++ map transition_item c.loop-alloc.all.items) outside ps k (toks_of c.loop-alloc.rest.now) (sym c.loop-alloc-test.ensures.transitions)
